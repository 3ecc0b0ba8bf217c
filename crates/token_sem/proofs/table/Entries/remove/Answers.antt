use Rattle.std.proofs.Common.{◌≡◌, ◌<◌, ◌∙◌, ℕ, false, List, length, get_or, slice_get, refl, sym, ap, subst}
use Rattle.std.proofs.lemmas.List.{get_or_default}
use Rattle.token_sem.specs.declared.entry.SemEntry.{SemEntry}
use Rattle.token_sem.specs.Semaphore.{numbered, without}
use Rattle.token_sem.specs.Entries.{Table, IsTable, is_ranked}
use Rattle.token_sem.proofs.Positions.{no_entry, found-at, removed-at, without-missing}
use Rattle.token_sem.proofs.Tabled.{removed, removed-unranked}
use Rattle.token_sem.proofs.table.Entries.remove.Goals as goal

pub returns-in_default : goal.returns-in_default
returns-in_default c = ap (λ (l : List SemEntry). record c.args.self.now { list = l }) (sym (without-missing c.args.number c.args.self.now.list (c.in_default.ensures.absent refl)))

pub invariant_of-self : goal.invariant_of-self
invariant_of-self c =
    let i = c.self.inside in
    let lt : c.in-Some.place < length i.list.items = subst (λ (t : Table). c.in-Some.place < length t.list) (sym c.self.view_is) c.in-Some.ensures.within in
    let there : slice_get i.list.items c.in-Some.place ≡ numbered c.args.number i.list.items =
    subst (λ (t : Table). slice_get t.list c.in-Some.place ≡ numbered c.args.number t.list) (sym c.self.view_is) c.in-Some.ensures.there in
    let left : c.remove-gone.new.self.items ≡ without c.args.number i.list.items =
    c.remove-gone.ensures.by_index.2 ∙ removed-at c.args.number c.self.invariant.rises.0 i.list.items c.in-Some.place c.self.invariant.rises.1 lt there in
    rw left (removed i.named c.args.number i.list.items i.ranks c.remove-row.new.self c.self.invariant c.remove-row.ensures.state)

pub returns-then-is_ranked : goal.returns-then-is_ranked
returns-then-is_ranked c =
    let i = c.self.inside in
    let lt : c.in-Some.place < length i.list.items = subst (λ (t : Table). c.in-Some.place < length t.list) (sym c.self.view_is) c.in-Some.ensures.within in
    let there : slice_get i.list.items c.in-Some.place ≡ numbered c.args.number i.list.items =
    subst (λ (t : Table). slice_get t.list c.in-Some.place ≡ numbered c.args.number t.list) (sym c.self.view_is) c.in-Some.ensures.there in
    let left : c.remove-gone.new.self.items ≡ without c.args.number i.list.items =
    c.remove-gone.ensures.by_index.2 ∙ removed-at c.args.number c.self.invariant.rises.0 i.list.items c.in-Some.place c.self.invariant.rises.1 lt there in
    rw (← c.self.view_is) (ap (λ (l : List SemEntry). record { list = l; named = i.named }) left)

pub returns-else-is_ranked : goal.returns-else-is_ranked
returns-else-is_ranked c =
    let i = c.self.inside in
    let lt : c.in-Some.place < length i.list.items = subst (λ (t : Table). c.in-Some.place < length t.list) (sym c.self.view_is) c.in-Some.ensures.within in
    let there : slice_get i.list.items c.in-Some.place ≡ numbered c.args.number i.list.items =
    subst (λ (t : Table). slice_get t.list c.in-Some.place ≡ numbered c.args.number t.list) (sym c.self.view_is) c.in-Some.ensures.there in
    let left : c.remove-gone.new.self.items ≡ without c.args.number i.list.items =
    c.remove-gone.ensures.by_index.2 ∙ removed-at c.args.number c.self.invariant.rises.0 i.list.items c.in-Some.place c.self.invariant.rises.1 lt there in
    rw (← c.self.view_is) (ap (λ (l : List SemEntry). record { list = l; named = i.named }) left)

pub invariant_of-self-else-is_ranked : goal.invariant_of-self-else-is_ranked
invariant_of-self-else-is_ranked c =
    let i = c.self.inside in
    let es = i.list.items in
    let lt : c.in-Some.place < length es = subst (λ (t : Table). c.in-Some.place < length t.list) (sym c.self.view_is) c.in-Some.ensures.within in
    let there : slice_get es c.in-Some.place ≡ numbered c.args.number es = subst (λ (t : Table). slice_get t.list c.in-Some.place ≡ numbered c.args.number t.list) (sym c.self.view_is) c.in-Some.ensures.there in
    let left : c.remove-gone.new.self.items ≡ without c.args.number es =
    c.remove-gone.ensures.by_index.2 ∙ removed-at c.args.number c.self.invariant.rises.0 es c.in-Some.place c.self.invariant.rises.1 lt there in
    let found = found-at c.args.number c.self.invariant.rises.0 es c.in-Some.place c.self.invariant.rises.1 lt there in
    let e = get_or es c.in-Some.place no_entry in
    let same : c.remove-gone.result ≡ e = c.remove-gone.ensures.value ∙ get_or_default es c.in-Some.place _ _ lt in
    let unranked : is_ranked e ≡ false = ap is_ranked (sym same) ∙ sym c.is_ranked.ensures ∙ c.if-is_ranked.false in
    rw left (subst (λ (n : ℕ). IsTable i.named (without n es) i.ranks) found.2 (removed-unranked i.named e es i.ranks c.self.invariant found.1 unranked))

use Rattle.std.proofs.Common.{◌≡◌, ℕ, false, List, Option, None, Some, map, sym, ap, ◌∙◌, subst}
use Rattle.std.specs.List.{list_any}
use Rattle.token_sem.specs.declared.entry.SemEntry.{SemEntry}
use Rattle.token_sem.specs.Semaphore.{is_queued, numbered}
use Rattle.token_sem.specs.Entries.{next_of, owner_from, lists_of, put_entry}
use Rattle.token_sem.proofs.Tabled.{next-among, owner-placed, owner-ranks, freed-state, freed-none, next-nobody, placed-among}
use Rattle.token_sem.proofs.table.Entries.free.Goals as goal

pub returns-then-not-waits : goal.returns-then-not-waits
returns-then-not-waits c =
    let t = c.args.self.now in
    let nobody : list_any is_queued t.list ≡ false = sym c.waits.ensures ∙ c.if-not-waits.true in
    let none : next_of t.named c.args.token t.list ≡ None = next-nobody t.named c.args.token t.list nobody in
    let same = freed-none t.named c.args.token c.args.now t.list none in
    record { grant = same.1; state = ap (λ (l : List SemEntry). record t { list = l }) same.0 }

pub put-requires-clause-placed : goal.put-requires-clause-placed
put-requires-clause-placed c =
    let t = c.args.self.now in
    let next : next_of t.named c.args.token t.list ≡ Some c.in-Some.first = sym c.in-Some.ensures.next in
    let a = (next-among t.named c.args.token t.list c.in-Some.first next).0 in
    rw (c.owner_from.ensures, c.name_of-name.ensures)
    (owner-placed t.named c.args.token c.args.now c.in-Some.first c.requires.token (placed-among (lists_of t.named) t.list c.in-Some.first c.in-Some.ensures.always.placed a))

pub put-requires-clause-ranked : goal.put-requires-clause-ranked
put-requires-clause-ranked c e there ranked =
    let t = c.args.self.now in
    let next : next_of t.named c.args.token t.list ≡ Some c.in-Some.first = sym c.in-Some.ensures.next in
    let own = owner-ranks t c.args.token c.args.now c.in-Some.first c.in-Some.ensures.always next in
    own.1 e (subst (λ n. numbered n t.list ≡ Some e) (ap (λ (x : SemEntry). x.number) (c.owner_from.ensures ∙ ap (λ (o : Option ℕ). owner_from o c.args.now c.in-Some.first) c.name_of-name.ensures) ∙ own.0) there)

pub returns-clause-state : goal.returns-clause-state
returns-clause-state c =
    let t = c.args.self.now in
    let next : next_of t.named c.args.token t.list ≡ Some c.in-Some.first = sym c.in-Some.ensures.next in
    let owner = c.owner_from.ensures ∙ ap (λ (o : Option ℕ). owner_from o c.args.now c.in-Some.first) c.name_of-name.ensures in
    c.put.ensures ∙ ap (λ (l : List SemEntry). record t { list = l })
    (ap (λ (e : SemEntry). map (put_entry e) t.list) owner ∙ freed-state t.named c.args.token c.args.now t.list c.in-Some.first c.in-Some.ensures.always next)

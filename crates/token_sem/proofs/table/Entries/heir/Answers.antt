use Rattle.std.proofs.Common.{◌==◌, ℕ, ◌∙◌, Option, Some, sym, ap}
use Rattle.token_sem.specs.declared.entry.Grant.{Grant}
use Rattle.token_sem.specs.Semaphore.{without}
use Rattle.token_sem.specs.Entries.{grant_of}
use Rattle.token_sem.proofs.Keeping.{among-find}
use Rattle.token_sem.proofs.Tabled.{token-lists, left-some, next-without, freed-none, freed-told, told-nobody}
use Rattle.token_sem.proofs.table.Entries.heir.Goals as goal

pub returns-then-not-waits : goal.returns-then-not-waits
returns-then-not-waits c = told-nobody c.args.self.now.named c.args.entry.now c.args.self.now.list (sym c.waits.ensures ∙ c.if-not-waits.true)

pub next_of-requires : goal.next_of-requires
next_of-requires c = token-lists c.args.self.now.named c.args.entry.now.token c.in-Some.token c.requires.placed (sym c.in-Some.ensures)

pub returns-in_default-next_of : goal.returns-in_default-next_of
returns-in_default-next_of c =
    let t = c.args.self.now in
    let e = c.args.entry.now in
    let a = (among-find (λ x. x.number == e.number) t.list e c.requires.there).0 in
    let always = c.in_default-next_of.ensures.always in
    let same = next-without t.named c.in-Some.token t.list always.rises.0 e always.rises.1 a c.requires.holds in
    (freed-none t.named c.in-Some.token record { 0 = 0 } (without e.number t.list) (same ∙ sym c.in_default-next_of.ensures.next)).1
    ∙ (left-some t.named e record { 0 = 0 } t.list c.in-Some.token (sym c.in-Some.ensures)).1

pub returns : goal.returns
returns c =
    let t = c.args.self.now in
    let e = c.args.entry.now in
    let a = (among-find (λ x. x.number == e.number) t.list e c.requires.there).0 in
    let always = c.in-Some-next_of.ensures.always in
    let same = next-without t.named c.in-Some.token t.list always.rises.0 e always.rises.1 a c.requires.holds in
    ap (λ (g : Grant). Some g) (c.granted.ensures ∙ ap (λ (o : Option ℕ). grant_of o c.in-Some-next_of.first) c.name_of.ensures)
    ∙ freed-told t.named c.in-Some.token (without e.number t.list) c.in-Some-next_of.first (same ∙ sym c.in-Some-next_of.ensures.next)
    ∙ (left-some t.named e record { 0 = 0 } t.list c.in-Some.token (sym c.in-Some.ensures)).1

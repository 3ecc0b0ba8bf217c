use Rattle.std.proofs.Common.{rules, ◌≡◌, ℕ, List, [], ◌∷◌, subst, sym}
use Rattle.pool_sem.specs.Pools.{NamesRise}
use Rattle.call_tests.proofs.Asked.{three, three_rise}
use Rattle.call_tests.proofs.waiting.three_tokens.Goals as goal

pub new-requires-clause-sorted : goal.new-requires-clause-sorted
new-requires-clause-sorted c =
    let a : c.in_ok-a.a ≡ 65 ∷ [] = c.in_ok-a.ensures in
    let b : c.in_ok-b.b ≡ 66 ∷ [] = c.in_ok-b.ensures in
    let third : c.in_ok-c.c ≡ 67 ∷ [] = c.in_ok-c.ensures in
    let are : c.in_ok-ok.field-0.items ≡ three = search rules in
    subst (λ (names : List (List ℕ)). NamesRise names) (sym are) three_rise

-- What came back, place by place.
use Rattle.std.proofs.Common.{◌≡◌, ℕ, zero, suc, List, [], ◌∷◌, length, Option, Some, None, IfSome, slice_get, refl, subst, arith}
use Rattle.std.specs.List.{All}
use Rattle.cell_pool.specs.Served.{AreFit, EachAt, EachIs, EachMadeOf, IsServed}

module _ {J : Type 0} where
  spread : (M : J → J → Type 0) (o q : Option J) → IfSome q (λ job. ∥ IfSome o (λ from. M from job) ∥₁) → IfSome o (λ from. IfSome q (λ job. ∥ M from job ∥₁))
  spread M None q h = tt
  spread M (Some a) q h = h

  pub each_of : (P : J → Type 0) (xs : List J) → All P xs → EachAt (λ p job. P job) xs
  each_of P [] h p = tt
  each_of P (x ∷ xs) h zero = h 0 x (omega arith)
  each_of P (x ∷ xs) h (suc p) = each_of P xs (λ k d lt. h (suc k) d (omega arith)) p

  pub each_none : (Q : ℕ → J → Type 0) (xs : List J) → length xs ≡ 0 → EachAt Q xs
  each_none Q [] none p = tt
  each_none Q (x ∷ xs) none p = absurd (omega arith)

  twice : (M : J → J → Type 0) (o : Option J) → ((j : J) → M j j) → IfSome o (λ from. IfSome o (λ job. M from job))
  twice M None same = tt
  twice M (Some a) same = same a

  -- what did not move is served
  pub unmoved : (P : J → Type 0) (M : J → J → Type 0) (xs : List J) → AreFit P xs → ((j : J) → M j j) → IsServed P M xs xs
  unmoved P M xs fit same = (refl, each_of (λ j. ∥ P j ∥₁) xs fit, λ p. twice (λ a b. ∥ M a b ∥₁) (slice_get xs p) (λ j. ∣ same j ∣₁))

  pub served : (P : J → Type 0) (M : J → J → Type 0) (given back : List J) → length back ≡ length given → EachIs P back → EachMadeOf M given back → IsServed P M given back
  served P M given back len fit made = (len, fit, λ p. spread M (slice_get given p) (slice_get back p) (made p))

  pub made_by : (M : J → J → Type 0) (given jobs back : List J) → given ≡ jobs → EachMadeOf M given back → EachMadeOf M jobs back
  made_by M given jobs back is made = subst (λ (l : List J). EachMadeOf M l back) is made

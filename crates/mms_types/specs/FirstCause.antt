-- The first of several causes that holds, for any kind of refusal: what is refused is refused for it.
use Rattle.std.specs.Prelude.{◌≡◌, ◌⊎◌, Option, Some, None}
use Rattle.std.proofs.Common.{inl, inr}

module _ {R : Type 0} where
  -- where the cause holds, this is told
  abbrev pub told : R → Type 0 → R → Type 0
  told refusal Cause r = (r ≡ refusal) × Cause

  -- of some refusal the cause holds
  abbrev pub Holds : (R → Type 0) → Type 0
  Holds Cause = (r : R) × Cause r

  -- this cause, or where it doesn't hold of any refusal the next
  infixr 5 ◌else◌
  abbrev pub ◌else◌ : (R → Type 0) → (R → Type 0) → R → Type 0
  (Cause else Next) r = Cause r ⊎ ((Holds Cause → ⊥) × Next r)

  -- the cause holds of this refusal alone, or of none
  abbrev pub Tells : (R → Type 0) → Option R → Type 0
  Tells Cause (Some refusal) = Cause refusal × ((r : R) → Cause r → r ≡ refusal)
  Tells Cause None = (r : R) → Cause r → ⊥

  -- what the first cause tells is told
  pub now : (C D : R → Type 0) (t : R) → Tells C (Some t) → Tells (C else D) (Some t)
  now C D t h = (inl h.0, unique)
    where
      unique : (r : R) → (C else D) r → r ≡ t
      unique r (inl c) = h.1 r c
      unique r (inr d) = absurd (d.0 (t, h.0))

  -- where it tells nothing, the next decides
  pub later : (C D : R → Type 0) (o : Option R) → Tells C None → Tells D o → Tells (C else D) o
  later C D (Some t) none h = (inr (λ k. none k.0 k.1, h.0), unique)
    where
      unique : (r : R) → (C else D) r → r ≡ t
      unique r (inl c) = absurd (none r c)
      unique r (inr d) = h.1 r d.1
  later C D None none h = never
    where
      never : (r : R) → (C else D) r → ⊥
      never r (inl c) = none r c
      never r (inr d) = h r d.1

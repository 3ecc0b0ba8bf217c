-- What goes on as long as there is a next comes to one end, where each next lowers a bound.
use Rattle.std.proofs.Common.{◌≡◌, ℕ, zero, suc, ◌<◌, ◌≤◌, Option, None, Some, refl, sym, ◌∙◌, ap, arith}
use Rattle.sem_ticks.specs.Settling.{settle}

abbrev pub settle_by : {S : Type 0} → (S → Option S) → ℕ → S → Option S → S
settle_by next n s None = s
settle_by next n s (Some t) = settle next n t

module _ {S : Type 0} (next : S → Option S) where
  pub settle-none : (n : ℕ) (s : S) → next s ≡ None → settle next n s ≡ s
  settle-none zero s e = refl
  settle-none (suc n) s e = ap (settle_by next n s) e

  pub settle-some : (n : ℕ) (s t : S) → next s ≡ Some t → settle next (suc n) s ≡ settle next n t
  settle-some n s t e = ap (settle_by next n s) e

  -- what each next keeps, the end has
  pub settle-keeps : (P : S → Type 0) → ((s t : S) → next s ≡ Some t → P s → P t) → (n : ℕ) (s : S) → P s → P (settle next n s)
  settle-keeps P step zero s h = h
  settle-keeps P step (suc n) s h = by_next (next s) refl (λ t. settle-keeps P step n t)
    where
      by_next : (o : Option S) → next s ≡ o → ((t : S) → P t → P (settle next n t)) → P (settle_by next n s o)
      by_next None e ih = h
      by_next (Some t) e ih = ih t (step s t e h)

module _ {S : Type 0} (next : S → Option S) (bound : S → ℕ) (falls : (s t : S) → next s ≡ Some t → bound t < bound s) where
  -- with turns enough there is no next at the end
  pub settle-ends : (n : ℕ) (s : S) → bound s ≤ n → next (settle next n s) ≡ None
  settle-ends zero s le = none (next s) refl
    where
      none : (o : Option S) → next s ≡ o → o ≡ None
      none None e = refl
      none (Some t) e = absurd (let lt = falls s t e in omega (arith, lt))
  settle-ends (suc n) s le = by_next (next s) refl (λ t. settle-ends n t)
    where
      by_next : (o : Option S) → next s ≡ o → ((t : S) → bound t ≤ n → next (settle next n t) ≡ None) → next (settle_by next n s o) ≡ None
      by_next None e ih = e
      by_next (Some t) e ih = ih t (let lt = falls s t e in omega (arith, lt))

  -- more turns than enough change nothing
  pub settle-enough : (n m : ℕ) (s : S) → bound s ≤ n → bound s ≤ m → settle next n s ≡ settle next m s
  settle-enough zero m s le lm = sym (settle-none next m s (settle-ends zero s le))
  settle-enough (suc n) zero s le lm = settle-none next (suc n) s (settle-ends zero s lm)
  settle-enough (suc n) (suc m) s le lm = by_next (next s) refl (λ t. settle-enough n m t)
    where
      by_next : (o : Option S) → next s ≡ o → ((t : S) → bound t ≤ n → bound t ≤ m → settle next n t ≡ settle next m t) → settle_by next n s o ≡ settle_by next m s o
      by_next None e ih = refl
      by_next (Some t) e ih = let lt = falls s t e in ih t (omega (arith, lt)) (omega (arith, lt))

  -- one next, and then on
  pub settle-step : (s t : S) → next s ≡ Some t → settle next (bound s) s ≡ settle next (bound t) t
  settle-step s t e =
      let lt = falls s t e in
      settle-enough (bound s) (suc (bound s)) s (omega arith) (omega arith) ∙ settle-some next (bound s) s t e ∙ settle-enough (bound s) (bound t) t (omega (arith, lt)) (omega arith)

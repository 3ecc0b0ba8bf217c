-- What goes on as long as there is a next comes to one end, where each next keeps something and lowers a bound.
use Rattle.std.proofs.Common.{◌≡◌, ℕ, zero, suc, ◌<◌, ◌≤◌, Option, None, Some, refl, sym, ◌∙◌, ap, arith}
use Rattle.event_ticks.specs.Settling.{settle}

abbrev pub settle_by : {S : Type 0} → (S → Option S) → ℕ → S → Option S → S
settle_by next n s None = s
settle_by next n s (Some t) = settle next n t

module _ {S : Type 0} (next : S → Option S) where
  pub settle-none : (n : ℕ) (s : S) → next s ≡ None → settle next n s ≡ s
  settle-none zero s e = refl
  settle-none (suc n) s e = ap (settle_by next n s) e

  pub settle-some : (n : ℕ) (s t : S) → next s ≡ Some t → settle next (suc n) s ≡ settle next n t
  settle-some n s t e = ap (settle_by next n s) e

-- P is kept, and where it holds each next lowers the bound
module _ {S : Type 0} (next : S → Option S) (bound : S → ℕ) (P : S → Type 0) (keeps : (s t : S) → P s → next s ≡ Some t → P t) (falls : (s t : S) → P s → next s ≡ Some t → bound t < bound s) where
  -- with turns enough there is no next at the end
  pub settle-ends : (n : ℕ) (s : S) → P s → bound s ≤ n → next (settle next n s) ≡ None
  settle-ends zero s h le = none (next s) refl
    where
      none : (o : Option S) → next s ≡ o → o ≡ None
      none None e = refl
      none (Some t) e = absurd (let lt = falls s t h e in omega (arith, lt, le))
  settle-ends (suc n) s h le = by_next (next s) refl (λ t. settle-ends n t)
    where
      by_next : (o : Option S) → next s ≡ o → ((t : S) → P t → bound t ≤ n → next (settle next n t) ≡ None) → next (settle_by next n s o) ≡ None
      by_next None e ih = e
      by_next (Some t) e ih = ih t (keeps s t h e) (let lt = falls s t h e in omega (arith, lt, le))

  -- more turns than enough change nothing
  pub settle-enough : (n m : ℕ) (s : S) → P s → bound s ≤ n → bound s ≤ m → settle next n s ≡ settle next m s
  settle-enough zero m s h le lm = sym (settle-none next m s (settle-ends zero s h le))
  settle-enough (suc n) zero s h le lm = settle-none next (suc n) s (settle-ends zero s h lm)
  settle-enough (suc n) (suc m) s h le lm = by_next (next s) refl (λ t. settle-enough n m t)
    where
      by_next : (o : Option S) → next s ≡ o → ((t : S) → P t → bound t ≤ n → bound t ≤ m → settle next n t ≡ settle next m t) → settle_by next n s o ≡ settle_by next m s o
      by_next None e ih = refl
      by_next (Some t) e ih = let lt = falls s t h e in ih t (keeps s t h e) (omega (arith, lt, le)) (omega (arith, lt, lm))

  -- one next, and then on
  pub settle-step : (s t : S) → P s → next s ≡ Some t → settle next (bound s) s ≡ settle next (bound t) t
  settle-step s t h e =
      let lt = falls s t h e in
      let kept = keeps s t h e in
      settle-enough (bound s) (suc (bound s)) s h (omega arith) (omega arith) ∙ settle-some next (bound s) s t e ∙ settle-enough (bound s) (bound t) t kept (omega (arith, lt)) (omega arith)

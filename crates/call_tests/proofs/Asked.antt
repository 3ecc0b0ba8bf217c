-- A request for a token of a pool makes one entry at most, and changes no token. Three names rise.
use Rattle.std.proofs.Common.{◌≡◌, ◌≢◌, ℕ, zero, suc, ◌+◌, ◌≤◌, List, [], ◌∷◌, refl, subst, sym, arith}
use Rattle.std.specs.Prelude.{Result, Ok, Err}
use Rattle.mms_types.specs.declared.moment.Moment.{Moment}
use Rattle.token_sem.specs.declared.entry.Ask.{Ask}
use Rattle.token_sem.specs.declared.entry.Taken.{Taken}
use Rattle.token_sem.specs.declared.entry.TakeRefused.{TakeRefused}
use Rattle.token_sem.specs.declared.entry.TakeRefused.TheVariants.{Twice, Memory}
use Rattle.pool_sem.specs.declared.outcome.PoolOutcome.{PoolOutcome}
use Rattle.pool_sem.specs.declared.outcome.PoolOutcome.TheVariants.{Refused, Preempts, Gets, TimesOut, WaitsUntil, WaitsForEver}
use Rattle.pool_sem.specs.Pools.{NamesRise, Pool, after_take, effect_of, outcome}

-- the second is the first with one more entry, or with none
abbrev pub IsNext : Pool → Pool → Type 0
IsNext p q = (q.tokens ≡ p.tokens) × (q.made ≤ p.made + 1)

by_outcome : (o : PoolOutcome) (p : Pool) (ask : Ask) (now : Moment) → IsNext p (effect_of o p ask now)
by_outcome Refused p ask now = (refl, omega arith)
by_outcome (Preempts hung token) p ask now = (refl, omega arith)
by_outcome (Gets token) p ask now = (refl, omega arith)
by_outcome TimesOut p ask now = (refl, omega arith)
by_outcome (WaitsUntil deadline) p ask now = (refl, omega arith)
by_outcome WaitsForEver p ask now = (refl, omega arith)

pub asked_next : (r : Result Taken TakeRefused) (p q : Pool) (ask : Ask) (now : Moment)
    → ((r ≢ Err Memory) → q ≡ after_take p ask now) → (r ≡ Err Memory → q ≡ p) → IsNext p q
asked_next (Ok t) p q ask now done kept = subst (λ x. IsNext p x) (sym (done (λ e. cc e))) (by_outcome (outcome p ask now) p ask now)
asked_next (Err Twice) p q ask now done kept = subst (λ x. IsNext p x) (sym (done (λ e. cc e))) (by_outcome (outcome p ask now) p ask now)
asked_next (Err Memory) p q ask now done kept = subst (λ x. IsNext p x) (sym (kept refl)) (refl, omega arith)

-- the octets of A, B and C
abbrev pub three : List (List ℕ)
three = (65 ∷ []) ∷ (66 ∷ []) ∷ (67 ∷ []) ∷ []

pub three_rise : NamesRise three
three_rise zero d lt = refl
three_rise (suc zero) d lt = refl
three_rise (suc (suc k)) d lt = absurd (omega arith)

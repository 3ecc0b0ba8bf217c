-- A request that makes no entry leaves a semaphore as it was.
use Rattle.std.proofs.Common.{◌≡◌, refl, false}
use Rattle.mms_types.specs.declared.moment.Moment.{Moment}
use Rattle.pool_sem.specs.Pools as pool
use Rattle.pool_sem.specs.declared.outcome.PoolOutcome.{PoolOutcome}
use Rattle.pool_sem.specs.declared.outcome.PoolOutcome.TheVariants as comes_to
use Rattle.token_sem.specs.Semaphore.{Sem, after_take, effect_of, makes_entry, outcome}
use Rattle.token_sem.specs.declared.entry.Ask.{Ask}
use Rattle.token_sem.specs.declared.entry.TakeOutcome.{TakeOutcome}
use Rattle.token_sem.specs.declared.entry.TakeOutcome.TheVariants.{Refused, Preempts, Gets, TimesOut, WaitsUntil, WaitsForEver}

no_effect : (o : TakeOutcome) (s : Sem) (ask : Ask) (now : Moment) → makes_entry o ≡ false → s ≡ effect_of o s ask now
no_effect Refused s ask now e = refl
no_effect TimesOut s ask now e = refl
no_effect (Preempts number) s ask now e = absurd cc
no_effect Gets s ask now e = absurd cc
no_effect (WaitsUntil deadline) s ask now e = absurd cc
no_effect WaitsForEver s ask now e = absurd cc

pub none_taken : (s : Sem) (ask : Ask) (now : Moment) → makes_entry (outcome s ask now) ≡ false → s ≡ after_take s ask now
none_taken s ask now e = no_effect (outcome s ask now) s ask now e

no_effect_of : (o : PoolOutcome) (p : pool.Pool) (ask : Ask) (now : Moment) → pool.makes_entry o ≡ false → p ≡ pool.effect_of o p ask now
no_effect_of comes_to.Refused p ask now e = refl
no_effect_of comes_to.TimesOut p ask now e = refl
no_effect_of (comes_to.Preempts number token) p ask now e = absurd cc
no_effect_of (comes_to.Gets token) p ask now e = absurd cc
no_effect_of (comes_to.WaitsUntil deadline) p ask now e = absurd cc
no_effect_of comes_to.WaitsForEver p ask now e = absurd cc

pub none_taken_of : (p : pool.Pool) (ask : Ask) (now : Moment) → pool.makes_entry (pool.outcome p ask now) ≡ false → p ≡ pool.after_take p ask now
none_taken_of p ask now e = no_effect_of (pool.outcome p ask now) p ask now e

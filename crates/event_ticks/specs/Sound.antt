-- What holds of the event conditions of a device at any time.
use Rattle.std.specs.Prelude.{◌≤◌, IfSome, ⊤}
use Rattle.std.specs.List.{All, IsDistinct}
use Rattle.std.specs.Map.{keys_of}
use Rattle.mms_types.specs.Order.{key_eq}
use Rattle.event_cond.specs.Conditions.{Rows}
use Rattle.event_cond.specs.Multiples.{IsMultiple}
use Rattle.event_cond.specs.declared.condition.ConditionClass.{ConditionClass}
use Rattle.event_cond.specs.declared.condition.ConditionClass.TheVariants.{NetworkTriggered, Monitored}
use Rattle.event_cond.specs.declared.condition.Watch.{Watch}

-- the interval is 10 milliseconds or more, and the next evaluation is at a multiple of it since the definition
pub record IsTimed (w : Watch) : Type 0 where
  pub interval : 10 ≤ w.interval
  pub next : IfSome w.evaluation (λ e. IsMultiple w.defined w.interval e.next)

abbrev pub IsTimedClass : ConditionClass → Type 0
IsTimedClass NetworkTriggered = ⊤
IsTimedClass (Monitored w) = IsTimed w

-- each has a name of its own, and is evaluated at multiples of its interval
pub record AreSound (rows : Rows) : Type 0 where
  pub names : IsDistinct key_eq (keys_of rows)
  pub each : All (λ row. IsTimedClass row.1.class) rows

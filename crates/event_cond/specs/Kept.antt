-- What holds of every event condition at any time.
use Rattle.std.specs.Prelude.{◌≤◌, IfSome, ⊤}
use Rattle.mms_types.specs.Moments.{IsDated}
use Rattle.event_cond.specs.Multiples.{IsMultiple}
use Rattle.event_cond.specs.declared.condition.Condition.{Condition}
use Rattle.event_cond.specs.declared.condition.ConditionClass.{ConditionClass}
use Rattle.event_cond.specs.declared.condition.ConditionClass.TheVariants.{NetworkTriggered, Monitored}
use Rattle.event_cond.specs.declared.condition.Watch.{Watch}

-- the interval is 10 milliseconds or more, and the next evaluation is at a multiple of it since the definition
pub record IsWatch (w : Watch) : Type 0 where
  pub interval : 10 ≤ w.interval
  pub defined : IsDated w.defined
  pub next : IfSome w.evaluation (λ e. IsMultiple w.defined w.interval e.next)

abbrev pub IsClass : ConditionClass → Type 0
IsClass NetworkTriggered = ⊤
IsClass (Monitored w) = IsWatch w

pub record IsCondition (c : Condition) : Type 0 where
  pub class : IsClass c.class
  pub to_active : IfSome c.to_active IsDated
  pub to_idle : IfSome c.to_idle IsDated

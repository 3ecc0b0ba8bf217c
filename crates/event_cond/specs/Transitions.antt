-- The transitions of an event condition by their numbers (ISO 9506-2, Transitions).
use Rattle.std.specs.Prelude.{ℕ, Option, None, Some}
use Rattle.mms_types.specs.declared.condition.ConditionState.{ConditionState}
use Rattle.mms_types.specs.declared.condition.ConditionState.TheVariants.{Disabled, Idle, Active}

abbrev pub idle_to_disabled : ℕ
idle_to_disabled = 0

abbrev pub active_to_disabled : ℕ
active_to_disabled = 1

abbrev pub disabled_to_idle : ℕ
disabled_to_idle = 2

abbrev pub active_to_idle : ℕ
active_to_idle = 3

abbrev pub disabled_to_active : ℕ
disabled_to_active = 4

abbrev pub idle_to_active : ℕ
idle_to_active = 5

-- the condition is deleted, wherever it stands
abbrev pub any_to_deleted : ℕ
any_to_deleted = 6

-- from a state to another one; none where the state stays
abbrev pub transition : ConditionState → ConditionState → Option ℕ
transition Idle Disabled = Some idle_to_disabled
transition Active Disabled = Some active_to_disabled
transition Disabled Idle = Some disabled_to_idle
transition Active Idle = Some active_to_idle
transition Disabled Active = Some disabled_to_active
transition Idle Active = Some idle_to_active
transition Disabled Disabled = None
transition Idle Idle = None
transition Active Active = None

-- Where an event condition stands (ISO 9506-2, EC-State).
use Rattle.std.specs.Prelude.{ℕ}
use Rattle.mms_types.specs.declared.condition.ConditionState.{ConditionState}
use Rattle.mms_types.specs.declared.condition.ConditionState.TheVariants.{Disabled, Idle, Active}

-- the number of a state
abbrev pub condition_state_number : ConditionState → ℕ
condition_state_number Disabled = 0
condition_state_number Idle = 1
condition_state_number Active = 2

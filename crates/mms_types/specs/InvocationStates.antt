-- Where a program invocation stands (ISO 9506-2, ProgramInvocationState).
use Rattle.std.specs.Prelude.{ℕ, Some}
use Rattle.mms_types.specs.declared.invocation.InvocationState.{InvocationState}
use Rattle.mms_types.specs.declared.invocation.InvocationState.TheVariants.{Unrunnable, Idle, Running, Stopped}
use Rattle.mms_types.specs.declared.service_error.ServiceError.{ServiceError}
use Rattle.mms_types.specs.Errors.{object_state_conflict}

-- the number of a state
abbrev pub invocation_state_number : InvocationState → ℕ
invocation_state_number Unrunnable = 1
invocation_state_number Idle = 2
invocation_state_number Running = 3
invocation_state_number Stopped = 4

-- object-state-conflict, with the state that refuses under the number of what it refuses: Start 1, Stop 2, Resume 3, Reset 4
-- (ISO 9506-2, ServiceError, serviceSpecificInformation)
abbrev pub state_refuses : ℕ → InvocationState → ServiceError
state_refuses kind state = record object_state_conflict { info = Some (record { kind = kind; state = invocation_state_number state }) }

-- The errors that the server answers (ISO 9506-2, ServiceError): one table of class and code.
use Rattle.std.specs.Prelude.{ℕ, Bool, List, [], ◌∷◌, Option, None, Some, if◌then◌else◌}
use Rattle.mms_types.specs.declared.service_error.ServiceError.{ServiceError}

-- the error of the first condition that holds, or none
abbrev pub first_of : List (Bool × ServiceError) → Option ServiceError
first_of [] = None
first_of (condition ∷ conditions) = if condition.0 then Some condition.1 else first_of conditions

-- an error of that class and that code in it, without more of the refusal
abbrev pub error : ℕ → ℕ → ServiceError
error class code = record { class = class; code = code; info = None }

-- class vmd-state
abbrev pub domain_transfer_problem : ServiceError
domain_transfer_problem = error 0 3

-- class definition
abbrev pub object_undefined : ServiceError
object_undefined = error 2 1

abbrev pub invalid_address : ServiceError
invalid_address = error 2 2

abbrev pub type_inconsistent : ServiceError
type_inconsistent = error 2 4

abbrev pub object_exists : ServiceError
object_exists = error 2 5

-- class resource
abbrev pub capability_unavailable : ServiceError
capability_unavailable = error 3 4

-- class service
abbrev pub other : ServiceError
other = error 4 0

abbrev pub object_state_conflict : ServiceError
object_state_conflict = error 4 2

abbrev pub object_constraint_conflict : ServiceError
object_constraint_conflict = error 4 5

-- class service-preempt
abbrev pub timeout : ServiceError
timeout = error 5 1

abbrev pub cancel : ServiceError
cancel = error 5 3

-- class access
abbrev pub object_non_existent : ServiceError
object_non_existent = error 7 2

abbrev pub object_access_denied : ServiceError
object_access_denied = error 7 3

-- class initiate
abbrev pub version_incompatible : ServiceError
version_incompatible = error 8 1

abbrev pub max_segment_insufficient : ServiceError
max_segment_insufficient = error 8 2

abbrev pub calling_insufficient : ServiceError
calling_insufficient = error 8 3

abbrev pub called_insufficient : ServiceError
called_insufficient = error 8 4

abbrev pub nesting_insufficient : ServiceError
nesting_insufficient = error 8 7

-- class conclude
abbrev pub further_communication_required : ServiceError
further_communication_required = error 9 1

-- class cancel
abbrev pub invoke_id_unknown : ServiceError
invoke_id_unknown = error 10 1

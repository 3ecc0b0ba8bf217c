-- What a service says: why it is refused, or its answer. It looks for conditions against it before it asks for memory.
use Rattle.std.specs.Prelude.{◌≡◌, Option, None, Some, Result, Ok, Err}
use Rattle.mms_types.specs.declared.refuse.Refuse.{Refuse}
use Rattle.mms_types.specs.declared.refuse.Refuse.TheVariants.{Service, Memory}
use Rattle.mms_types.specs.declared.service_error.ServiceError.{ServiceError}

-- It is refused exactly where a condition holds against it, with that error; where none does, it gives its answer, or memory is wanting.
abbrev pub Serves : {X : Type 0} → Result X Refuse → Option ServiceError → Option X → Type 0
Serves (Ok x) cause answer = (cause ≡ None) × (answer ≡ Some x)
Serves (Err (Service error)) cause answer = cause ≡ Some error
Serves (Err Memory) cause answer = cause ≡ None

-- The same of a service that takes no memory: it is refused exactly where a condition holds against it, and else gives its answer.
abbrev pub ServesAlways : {X : Type 0} → Result X ServiceError → Option ServiceError → Option X → Type 0
ServesAlways (Ok x) cause answer = (cause ≡ None) × (answer ≡ Some x)
ServesAlways (Err error) cause answer = cause ≡ Some error

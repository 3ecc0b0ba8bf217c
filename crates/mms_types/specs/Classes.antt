-- Classes of objects that have names (ISO 9506-2, ObjectClass).
use Rattle.std.specs.Prelude.{ℕ}
use Rattle.mms_types.specs.declared.name_list.ObjectClass.{ObjectClass}
use Rattle.mms_types.specs.declared.name_list.ObjectClass.TheVariants.{NamedVariable, ScatteredAccess, NamedVariableList, NamedType, Semaphore, EventCondition, EventAction, EventEnrollment, Journal, Domain, ProgramInvocation, OperatorStation}

-- the number of a class
abbrev pub class_number : ObjectClass → ℕ
class_number NamedVariable = 0
class_number ScatteredAccess = 1
class_number NamedVariableList = 2
class_number NamedType = 3
class_number Semaphore = 4
class_number EventCondition = 5
class_number EventAction = 6
class_number EventEnrollment = 7
class_number Journal = 8
class_number Domain = 9
class_number ProgramInvocation = 10
class_number OperatorStation = 11

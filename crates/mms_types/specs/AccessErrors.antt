-- Why a variable is not read or not written (ISO 9506-2, DataAccessError).
use Rattle.std.specs.Prelude.{ℕ}
use Rattle.mms_types.specs.declared.access_result.DataAccessError.{DataAccessError}
use Rattle.mms_types.specs.declared.access_result.DataAccessError.TheVariants.{ObjectInvalidated, HardwareFault, TemporarilyUnavailable, ObjectAccessDenied, ObjectUndefined, InvalidAddress, TypeUnsupported, TypeInconsistent, ObjectAttributeInconsistent, ObjectAccessUnsupported, ObjectNonExistent, ObjectValueInvalid}

-- the number of an error
abbrev pub access_error_number : DataAccessError → ℕ
access_error_number ObjectInvalidated = 0
access_error_number HardwareFault = 1
access_error_number TemporarilyUnavailable = 2
access_error_number ObjectAccessDenied = 3
access_error_number ObjectUndefined = 4
access_error_number InvalidAddress = 5
access_error_number TypeUnsupported = 6
access_error_number TypeInconsistent = 7
access_error_number ObjectAttributeInconsistent = 8
access_error_number ObjectAccessUnsupported = 9
access_error_number ObjectNonExistent = 10
access_error_number ObjectValueInvalid = 11

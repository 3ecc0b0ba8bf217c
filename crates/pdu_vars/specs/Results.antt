-- What becomes of a variable that is read or written (ISO 9506-2, DataAccessError, AccessResult and Write-Response).
use Rattle.std.specs.Prelude.{◌≡◌, ℕ, true, List, [], ◌∷◌, ◌==◌, if◌then◌else◌, get_or, refl}
use Rattle.std.proofs.Common.{ap}
use Rattle.ber_forms.specs.Value.{Value, chosen, nothing}
use Rattle.ber_forms.specs.Form as asn
use Rattle.ber_forms.specs.Form.{any_number}
use Rattle.ber_forms.specs.Fits.{sound_alternatives}
use Rattle.ber_forms.proofs.Wider.{or_wider}
use Rattle.mms_types.specs.declared.identifier.Edition.{Edition}
use Rattle.mms_types.specs.Spelling.{widest}
use Rattle.mms_types.specs.AccessErrors.{access_error_number}
use Rattle.mms_types.specs.Datum.{Datum, array, structure, boolean, bits, integer, unsigned, floating, octets, visible, time}
use Rattle.mms_types.specs.declared.access_result.DataAccessError.{DataAccessError}
use Rattle.mms_types.specs.declared.access_result.DataAccessError.TheVariants.{ObjectInvalidated, HardwareFault, TemporarilyUnavailable, ObjectAccessDenied, ObjectUndefined, InvalidAddress, TypeUnsupported, TypeInconsistent, ObjectAttributeInconsistent, ObjectAccessUnsupported, ObjectNonExistent, ObjectValueInvalid}
use Rattle.mms_types.specs.declared.access_result.AccessResult.{AccessResult}
use Rattle.mms_types.specs.declared.access_result.AccessResult.TheVariants as read
use Rattle.mms_types.specs.declared.access_result.WriteResult.{WriteResult}
use Rattle.mms_types.specs.declared.access_result.WriteResult.TheVariants.{Failure, Success}
use Rattle.pdu_names.specs.Alike.{or_alike, alike_itself}
use Rattle.pdu_names.specs.Kinds.{Kind, Choice, Arms, null, enumerated, one_of, list_of, or, no_other, alternatives, made_of}
use Rattle.pdu_data.specs.Data.{data_choice, data_sound, data_alternatives, data_again}

-- from object-invalidated 0 to object-value-invalid 11
abbrev error_numbered : ℕ → DataAccessError
error_numbered n =
    get_or (ObjectInvalidated ∷ HardwareFault ∷ TemporarilyUnavailable ∷ ObjectAccessDenied ∷ ObjectUndefined ∷ InvalidAddress ∷ TypeUnsupported
    ∷ TypeInconsistent ∷ ObjectAttributeInconsistent ∷ ObjectAccessUnsupported ∷ ObjectNonExistent ∷ []) n ObjectValueInvalid

pub error_again : (e : DataAccessError) → error_numbered (access_error_number e) ≡ e
error_again ObjectInvalidated = refl
error_again HardwareFault = refl
error_again TemporarilyUnavailable = refl
error_again ObjectAccessDenied = refl
error_again ObjectUndefined = refl
error_again InvalidAddress = refl
error_again TypeUnsupported = refl
error_again TypeInconsistent = refl
error_again ObjectAttributeInconsistent = refl
error_again ObjectAccessUnsupported = refl
error_again ObjectNonExistent = refl
error_again ObjectValueInvalid = refl

abbrev pub data_access_error : Kind DataAccessError
data_access_error = enumerated 11 access_error_number error_numbered error_again

-- ---- AccessResult: failure 0, or data, with the alternatives that it has of its own

abbrev read_value : AccessResult → Value
read_value (read.Failure e) = chosen 0 (data_access_error.value e)
read_value (read.Success x) = data_choice.value x

abbrev read_said : Value → AccessResult
read_said (chosen n v) = if n == 0 then read.Failure (data_access_error.said v) else read.Success (data_choice.said (chosen n v))
read_said v = read.Success (data_choice.said v)

data_read_again : (x : Datum) → read_said (data_choice.value x) ≡ read.Success x
unfolding data_choice
data_read_again (array r) = ap read.Success (data_again (array r))
data_read_again (structure r) = ap read.Success (data_again (structure r))
data_read_again (boolean b) = refl
data_read_again (bits u o) = refl
data_read_again (integer n) = refl
data_read_again (unsigned n) = refl
data_read_again (floating o) = refl
data_read_again (octets o) = refl
data_read_again (visible o) = refl
data_read_again (time o) = refl

pub read_again : (r : AccessResult) → read_said (read_value r) ≡ r
read_again (read.Failure e) = ap read.Failure (error_again e)
read_again (read.Success x) = data_read_again x

unfoldable pub access_results : Choice AccessResult
access_results = record {
  alternatives = λ e. asn.or 0 (data_access_error.form e) (data_choice.alternatives e);
  value = read_value;
  said = read_said;
  again = read_again;
  alike = λ e. or_alike 0 (data_access_error.form e) (data_access_error.form widest) (data_choice.alternatives e) (data_choice.alternatives widest)
      (alike_itself (data_access_error.form widest)) (data_choice.alike e);
  wider = λ e. or_wider 0 (data_access_error.form e) (data_access_error.form widest) (data_choice.alternatives e) (data_choice.alternatives widest)
      (data_access_error.wider e) (data_choice.wider e);
}

pub access_results_sound : (e : Edition) → sound_alternatives (access_results.alternatives e) ≡ true
unfolding access_results data_choice data_alternatives
access_results_sound e = rw (data_sound e) refl

-- ---- Write-Response: failure 0 or success 1 for each variable

abbrev write_arms : Arms WriteResult
write_arms = or 0 data_access_error Failure (or 1 null (λ _. Success) (no_other Success))

abbrev write_value : WriteResult → Value
write_value (Failure e) = chosen 0 (data_access_error.value e)
write_value Success = chosen 1 nothing

pub write_again : (r : WriteResult) → made_of write_arms (write_value r) ≡ r
write_again (Failure e) = ap Failure (error_again e)
write_again Success = refl

abbrev pub write_results : Choice WriteResult
write_results = alternatives write_arms write_value write_again

abbrev pub write_answer : Kind (List WriteResult)
write_answer = list_of any_number (one_of write_results)

-- ServiceError, and the PDUs that hold one beside an invokeID (ISO 9506-2, environment and general management).
use Rattle.std.specs.Prelude.{◌≡◌, refl, ℕ, zero, suc, pos, ◌<◌, ◌≤◌, ◌+◌, true}
use Rattle.ber_forms.specs.Value.{Value, number, chosen}
use Rattle.ber_forms.specs.Form as asn
use Rattle.ber_forms.specs.Form.{Form, Alternatives}
use Rattle.ber_forms.specs.Fits.{sound_alternatives}
use Rattle.mms_types.specs.declared.service_error.StateInfo.{StateInfo}
use Rattle.mms_types.specs.declared.service_error.ServiceError.{ServiceError}
use Rattle.mms_types.specs.declared.service_error.ConfirmedError.{ConfirmedError}
use Rattle.mms_types.specs.declared.service_error.CancelError.{CancelError}
use Rattle.pdu_names.specs.Said.{natural_of}
use Rattle.pdu_names.specs.Kinds.{Kind, Choice, int32, unsigned32, visible_string, context, choice, sequence, required, optional, skipped, no_more}

-- the number is one of so many from the first on
abbrev pub IsOneOf : ℕ → ℕ → ℕ → Type 0
IsOneOf first count n = (first ≤ n) × (n < first + count)

-- so many alternatives of one form, with the numbers from the first on
unfoldable pub numbered : ℕ → ℕ → Form → Alternatives
numbered first zero f = asn.no_other
numbered first (suc n) f = asn.or first f (numbered (suc first) n f)

-- the number of an alternative, and a code in it
abbrev pub code_value : ℕ → ℕ → Value
code_value n code = chosen n (number (pos code))

abbrev number_said : Value → ℕ
number_said (chosen n v) = n
number_said v = 0

abbrev code_said : Value → ℕ
code_said (chosen n v) = natural_of v
code_said v = 0

-- errorClass: vmd-state 0, application-reference 1, definition 2, resource 3, service 4, service-preempt 5, time-resolution 6, access 7, initiate 8,
-- conclude 9, cancel 10, file 11, others 12
abbrev pub error_classes : Choice (ℕ × ℕ)
error_classes = record {
  alternatives = λ _. numbered 0 13 asn.unsigned8;
  value = λ x. code_value x.0 x.1;
  said = λ v. (number_said v, code_said v);
  again = λ x. refl;
  alike = λ _ v. refl;
  wider = λ _ lengths p v h. h;
}

-- serviceSpecificInformation that tells the state of a program invocation: Start 1, Stop 2, Resume 3, Reset 4
abbrev pub state_kinds : Choice StateInfo
state_kinds = record {
  alternatives = λ _. numbered 1 4 asn.unsigned8;
  value = λ s. code_value s.kind s.state;
  said = λ v. record { kind = number_said v; state = code_said v };
  again = λ s. refl;
  alike = λ _ v. refl;
  wider = λ _ lengths p v h. h;
}

pub classes_sound : sound_alternatives (numbered 0 13 asn.unsigned8) ≡ true
unfolding numbered
classes_sound = refl

pub states_sound : sound_alternatives (numbered 1 4 asn.unsigned8) ≡ true
unfolding numbered
states_sound = refl

-- errorClass; additionalCode and additionalDescription, which aren't kept; and serviceSpecificInformation
abbrev pub service_error : Kind ServiceError
service_error = sequence (
    required (context 0 (choice error_classes)) (λ e. (e.class, e.code)) (
    skipped (context 1 int32) (
    skipped (context 2 visible_string) (
    optional (context 3 (choice state_kinds)) (λ e. e.info) no_more))))
    (λ class info. record { class = class.0; code = class.1; info = info }) (λ e. refl)

-- confirmed-Error: the invokeID, the place of the modifier that is refused, and the error
abbrev pub confirmed_error : Kind ConfirmedError
confirmed_error = sequence (
    required (context 0 unsigned32) (λ e. e.invoke) (
    optional (context 1 unsigned32) (λ e. e.modifier) (
    required (context 2 service_error) (λ e. e.error) no_more)))
    (λ invoke modifier error. record { invoke = invoke; modifier = modifier; error = error }) (λ e. refl)

-- cancel-Error: originalInvokeID, and why it is not cancelled
abbrev pub cancel_error : Kind CancelError
cancel_error = sequence (
    required (context 0 unsigned32) (λ e. e.invoke) (
    required (context 1 service_error) (λ e. e.error) no_more))
    (λ invoke error. record { invoke = invoke; error = error }) (λ e. refl)

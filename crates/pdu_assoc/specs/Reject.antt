-- reject (ISO 9506-2, environment and general management).
use Rattle.std.specs.Prelude.{◌≡◌, refl, ℕ, pos, Bool, false, ◌==◌, ◌||◌, if◌then◌else◌}
use Rattle.ber_forms.specs.Value.{Value, number, chosen}
use Rattle.mms_types.specs.declared.pdu.RejectReason.{RejectReason}
use Rattle.mms_types.specs.declared.pdu.RejectReason.TheVariants.{UnrecognizedService, UnrecognizedModifier, InvalidInvokeId, InvalidArgument, MaxServOutstandingExceeded, MaxRecursionExceeded, UnknownPduType, InvalidPdu}
use Rattle.mms_types.specs.declared.pdu.Reject.{Reject}
use Rattle.pdu_names.specs.Kinds.{Kind, Choice, Arms, unsigned8, unsigned32, such_that, context, one_of, sequence, required, optional, no_more, or, no_other, alternatives, made_of}

-- confirmed-requestPDU 1: unrecognized-service 1, unrecognized-modifier 2, invalid-invokeID 3, invalid-argument 4, max-serv-outstanding-exceeded 6,
-- max-recursion-exceeded 8; pdu-error 5: unknown-pdu-type 0, invalid-pdu 1
abbrev pub reason_value : RejectReason → Value
reason_value UnrecognizedService = chosen 1 (number (pos 1))
reason_value UnrecognizedModifier = chosen 1 (number (pos 2))
reason_value InvalidInvokeId = chosen 1 (number (pos 3))
reason_value InvalidArgument = chosen 1 (number (pos 4))
reason_value MaxServOutstandingExceeded = chosen 1 (number (pos 6))
reason_value MaxRecursionExceeded = chosen 1 (number (pos 8))
reason_value UnknownPduType = chosen 5 (number (pos 0))
reason_value InvalidPdu = chosen 5 (number (pos 1))

abbrev is_request_reason : Value → Bool
is_request_reason (number (pos n)) = (n == 1) || (n == 2) || (n == 3) || (n == 4) || (n == 6) || (n == 8)
is_request_reason v = false

abbrev is_pdu_reason : Value → Bool
is_pdu_reason (number (pos n)) = (n == 0) || (n == 1)
is_pdu_reason v = false

abbrev request_reason : ℕ → RejectReason
request_reason n =
    if n == 1 then UnrecognizedService else if n == 2 then UnrecognizedModifier else if n == 3 then InvalidInvokeId
    else if n == 4 then InvalidArgument else if n == 6 then MaxServOutstandingExceeded else MaxRecursionExceeded

abbrev reason_arms : Arms RejectReason
reason_arms =
    or 1 (such_that is_request_reason unsigned8) request_reason (
    or 5 (such_that is_pdu_reason unsigned8) (λ n. if n == 0 then UnknownPduType else InvalidPdu) (
    no_other InvalidPdu))

pub reason_again : (r : RejectReason) → made_of reason_arms (reason_value r) ≡ r
reason_again UnrecognizedService = refl
reason_again UnrecognizedModifier = refl
reason_again InvalidInvokeId = refl
reason_again InvalidArgument = refl
reason_again MaxServOutstandingExceeded = refl
reason_again MaxRecursionExceeded = refl
reason_again UnknownPduType = refl
reason_again InvalidPdu = refl

abbrev pub reasons : Choice RejectReason
reasons = alternatives reason_arms reason_value reason_again

-- originalInvokeID, and the reason
abbrev pub reject : Kind Reject
reject = sequence (
    optional (context 0 unsigned32) (λ r. r.invoke) (
    required (one_of reasons) (λ r. r.reason) no_more))
    (λ invoke reason. record { invoke = invoke; reason = reason }) (λ r. refl)

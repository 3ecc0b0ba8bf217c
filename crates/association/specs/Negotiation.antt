-- The negotiation of an association (ISO 9506-1, environment and general management, Initiate).
use Rattle.std.specs.Prelude.{ℕ, ℤ, pos, Bool, List, [], ◌∷◌, ◌++◌, Option, Some, None, Result, Ok, Err, unwrap_or, int_lt, unsigned_abs, bit_and, slice_index, if◌then◌else◌}
use Rattle.std.specs.Int.{int_min}
use Rattle.mms_types.specs.declared.initiate.Initiate.{Initiate}
use Rattle.mms_types.specs.declared.initiate.InitiateAnswer.{InitiateAnswer}
use Rattle.mms_types.specs.declared.service_error.ServiceError.{ServiceError}
use Rattle.mms_types.specs.Errors.{version_incompatible, max_segment_insufficient, calling_insufficient, called_insufficient, nesting_insufficient}
use Rattle.mms_types.specs.OptionBits.{option_octets, event_notification, conclude, cancel}
use Rattle.mms_pdu.specs.Services.{service_numbers}
use Rattle.association.specs.declared.negotiation.Negotiated.{Negotiated}

-- the proposed size of a PDU; where it is absent, 65,000 octets (this profile's choice)
abbrev pub size_of : Initiate → ℤ
size_of p = unwrap_or p.size (pos 65000)

-- the proposed nesting of data; where it is absent, 10 (this profile's choice)
abbrev pub nesting_of : Initiate → ℤ
nesting_of p = unwrap_or p.nesting (pos 10)

-- why a proposal is refused, each cause with its error, in the order in which they are told (this profile's choice of bounds and order):
-- version-incompatible, max-segment-insufficient, max-services-outstanding-calling-insufficient, -called-insufficient, nesting-level-insufficient
abbrev pub causes : Initiate → List (Bool × ServiceError)
causes p =
    (int_lt p.detail.version (pos 1), version_incompatible)
    ∷ (int_lt (size_of p) (pos 512), max_segment_insufficient)
    ∷ (int_lt p.calling (pos 1), calling_insufficient)
    ∷ (int_lt p.called (pos 1), called_insufficient)
    ∷ (int_lt (nesting_of p) (pos 1), nesting_insufficient)
    ∷ []

-- the error of the first cause that holds
abbrev pub first_error : List (Bool × ServiceError) → Option ServiceError
first_error [] = None
first_error (cause ∷ rest) = if cause.0 then Some cause.1 else first_error rest

-- why a proposal is refused, if it is
abbrev pub refusal_of : Initiate → Option ServiceError
refusal_of p = first_error (causes p)

-- the parameters that both sides support, 11 bits; the server's are str1, str2, vnam, vadr and vlis (this profile's choice)
abbrev pub parameters_of_both : List ℕ → List ℕ
parameters_of_both octets = bit_and (slice_index octets 0) 0xE9 ∷ bit_and (slice_index octets 1) 0x00 ∷ []

-- the services that the server offers, 85 bits: the confirmed services of the one list, whoever asks them, eventNotification, conclude and
-- cancel
abbrev pub offered : List ℕ
offered = option_octets 11 (service_numbers ++ event_notification ∷ conclude ∷ cancel ∷ [])

-- the answer to a proposal: of each value the lesser of the proposal's and the server's (65,000 octets, 10, 10, 10, version 1), the parameters of both
abbrev pub answer_to : Initiate → InitiateAnswer
answer_to p = record {
  size = int_min (size_of p) (pos 65000);
  calling = int_min p.calling (pos 10);
  called = int_min p.called (pos 10);
  nesting = int_min (nesting_of p) (pos 10);
  detail = record {
    version = int_min p.detail.version (pos 1);
    parameters = record { octets = parameters_of_both p.detail.parameters.octets };
    services = record { octets = offered };
  };
}

-- what is told of a proposal: the error where it is refused, and otherwise the answer
abbrev pub told : Option ServiceError → InitiateAnswer → Result InitiateAnswer ServiceError
told (Some error) answer = Err error
told None answer = Ok answer

abbrev pub negotiation : Initiate → Result InitiateAnswer ServiceError
negotiation p = told (refusal_of p) (answer_to p)

-- the values of an answer that are used later
abbrev pub values_of : InitiateAnswer → Negotiated
values_of answer = record {
  size = unsigned_abs answer.size;
  calling = unsigned_abs answer.calling;
  called = unsigned_abs answer.called;
  nesting = unsigned_abs answer.nesting;
}

-- initiate-Request and initiate-Response (ISO 9506-2, environment and general management).
use Rattle.std.specs.Prelude.{refl}
use Rattle.mms_types.specs.declared.initiate.InitiateDetail.{InitiateDetail}
use Rattle.mms_types.specs.declared.initiate.Initiate.{Initiate}
use Rattle.mms_types.specs.declared.initiate.InitiateAnswer.{InitiateAnswer}
use Rattle.pdu_names.specs.Kinds.{Kind, int8, int16, int32, named_bits, context, sequence, required, optional, no_more}

-- the version, the parameters and the services that a side supports: 11 and 85 named bits
abbrev pub detail : Kind InitiateDetail
detail = sequence (
    required (context 0 int16) (λ d. d.version) (
    required (context 1 (named_bits 11)) (λ d. d.parameters.octets) (
    required (context 2 (named_bits 85)) (λ d. d.services.octets) no_more)))
    (λ version parameters services.
    record { version = version; parameters = record { octets = parameters }; services = record { octets = services } })
    (λ d. refl)

-- the size of a PDU, the outstanding services of the calling and the called side, the nesting of data, and the detail
abbrev pub initiate : Kind Initiate
initiate = sequence (
    optional (context 0 int32) (λ i. i.size) (
    required (context 1 int16) (λ i. i.calling) (
    required (context 2 int16) (λ i. i.called) (
    optional (context 3 int8) (λ i. i.nesting) (
    required (context 4 detail) (λ i. i.detail) no_more)))))
    (λ size calling called nesting detail. record { size = size; calling = calling; called = called; nesting = nesting; detail = detail })
    (λ i. refl)

-- the same with the negotiated values, all written
abbrev pub initiate_answer : Kind InitiateAnswer
initiate_answer = sequence (
    required (context 0 int32) (λ i. i.size) (
    required (context 1 int16) (λ i. i.calling) (
    required (context 2 int16) (λ i. i.called) (
    required (context 3 int8) (λ i. i.nesting) (
    required (context 4 detail) (λ i. i.detail) no_more)))))
    (λ size calling called nesting detail. record { size = size; calling = calling; called = called; nesting = nesting; detail = detail })
    (λ i. refl)

-- A domain is sent back to a client (ISO 9506-2, domain management).
use Rattle.std.specs.Prelude.{refl}
use Rattle.mms_types.specs.declared.domain.InitiateUploadSequenceAnswer.{InitiateUploadSequenceAnswer}
use Rattle.mms_types.specs.declared.domain.Segment.{Segment}
use Rattle.pdu_names.specs.Kinds.{Kind, boolean, int32, octet_string, context, sequence, required, no_more}
use Rattle.pdu_programs.specs.Texts.{texts}

-- InitiateUploadSequence-Response: ulsmID and listOfCapabilities
abbrev pub upload_begun : Kind InitiateUploadSequenceAnswer
upload_begun = sequence (
    required (context 0 int32) (λ x. x.number) (
    required (context 1 texts) (λ x. x.capabilities) no_more))
    (λ number capabilities. record { number = number; capabilities = capabilities }) (λ x. refl)

-- UploadSegment-Response: loadData, and moreFollows, which has no default (this profile's choice)
abbrev pub sent_segment : Kind Segment
sent_segment = sequence (
    required (context 0 octet_string) (λ x. x.octets) (
    required (context 1 boolean) (λ x. x.more) no_more))
    (λ octets more. record { octets = octets; more = more }) (λ x. refl)

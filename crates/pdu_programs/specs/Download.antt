-- A domain is loaded (ISO 9506-2, domain management): it is begun by a client, and the server asks for segments and for the end.
use Rattle.std.specs.Prelude.{true, refl}
use Rattle.mms_types.specs.declared.domain.InitiateDownloadSequence.{InitiateDownloadSequence}
use Rattle.mms_types.specs.declared.domain.Segment.{Segment}
use Rattle.mms_types.specs.declared.domain.TerminateDownloadSequence.{TerminateDownloadSequence}
use Rattle.pdu_names.specs.Names.{identifier}
use Rattle.pdu_names.specs.Kinds.{Kind, boolean, octet_string, context, sequence, required, optional, implied, no_more}
use Rattle.pdu_assoc.specs.ServiceErrors.{service_error}
use Rattle.pdu_programs.specs.Texts.{capabilities}

-- InitiateDownloadSequence-Request: domainName, listOfCapabilities and sharable
abbrev pub initiate_download : Kind InitiateDownloadSequence
initiate_download = sequence (
    required (context 0 identifier) (λ x. x.domain) (
    required (context 1 capabilities) (λ x. x.capabilities) (
    required (context 2 boolean) (λ x. x.sharable) no_more)))
    (λ domain capabilities sharable. record { domain = domain; capabilities = capabilities; sharable = sharable }) (λ x. refl)

-- DownloadSegment-Response: loadData, and moreFollows, TRUE where it is absent, which is always written (this profile's choice)
abbrev pub loaded_segment : Kind Segment
loaded_segment = sequence (
    required (context 0 octet_string) (λ x. x.octets) (
    implied (context 1 boolean) true (λ x. x.more) no_more))
    (λ octets more. record { octets = octets; more = more }) (λ x. refl)

-- TerminateDownloadSequence-Request: domainName, and discard
abbrev pub terminate_download : Kind TerminateDownloadSequence
terminate_download = sequence (
    required (context 0 identifier) (λ x. x.domain) (
    optional (context 1 service_error) (λ x. x.discard) no_more))
    (λ domain discard. record { domain = domain; discard = discard }) (λ x. refl)

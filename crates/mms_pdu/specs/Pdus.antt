-- MMSpdu (ISO 9506-2): each PDU with its form, and what it says.
use Rattle.std.specs.Prelude.{ℕ, Bool, not, ◌==◌, ◌||◌, List, [], Option, refl}
use Rattle.ber_forms.specs.Value.{Value, nothing, chosen}
use Rattle.ber_forms.specs.Form as asn
use Rattle.ber_forms.specs.Form.{Alternatives}
use Rattle.ber_forms.specs.Spelling.{alternative_octets}
use Rattle.mms_types.specs.declared.pdu.Request.{Request}
use Rattle.mms_types.specs.declared.pdu.Answer.{Answer}
use Rattle.mms_types.specs.declared.pdu.ServerRequest.{ServerRequest}
use Rattle.mms_types.specs.declared.pdu.ClientAnswer.{ClientAnswer}
use Rattle.mms_types.specs.declared.condition.EventNotification.{EventNotification}
use Rattle.mms_types.specs.declared.semaphore.Modifier.{Modifier}
use Rattle.mms_types.specs.declared.pdu.Pdu.{Pdu}
use Rattle.mms_types.specs.declared.pdu.Pdu.TheVariants as pdu
use Rattle.mms_types.specs.Spelling.{widest}
use Rattle.pdu_names.specs.Kinds.{Kind, Arms, null, unsigned32, context, universal, one_of, sequence, required, optional, no_more, or, no_other}
use Rattle.pdu_assoc.specs.Heard.{heard_error}
use Rattle.pdu_assoc.specs.Initiate.{initiate, initiate_answer}
use Rattle.pdu_assoc.specs.Reject.{reject}
use Rattle.pdu_assoc.specs.ServiceErrors.{service_error, confirmed_error, cancel_error}
use Rattle.pdu_sems.specs.Control.{modifiers}
use Rattle.pdu_programs.specs.Services.{server_requests, client_answers}
use Rattle.pdu_events.specs.Enrollments.{event_notification}
use Rattle.mms_pdu.specs.Services.{requests, answers}

-- confirmed-Request of a client, without modifiers: an invokeID, and then a service
abbrev pub asked : Kind (ℕ × Request)
asked = sequence (
    required (universal 2 unsigned32) (λ x. x.0) (
    required (one_of requests) (λ x. x.1) no_more))
    (λ invoke request. (invoke, request)) (λ x. refl)

-- and with a modifier: an invokeID, a list of modifiers, and then a service
abbrev pub modified : Kind (ℕ × Modifier × Request)
modified = sequence (
    required (universal 2 unsigned32) (λ x. x.0) (
    required (universal 16 modifiers) (λ x. x.1) (
    required (one_of requests) (λ x. x.2) no_more)))
    (λ invoke modifier request. (invoke, modifier, request)) (λ x. refl)

-- a service that a modifier may let wait: neither takeControl nor relinquishControl, which wait or free themselves, nor
-- initiateDownloadSequence (this profile's choice)
abbrev pub may_wait : ℕ → Bool
may_wait n = not ((n == 19) || (n == 20) || (n == 26))

-- confirmed-Request of the server
abbrev pub server_asked : Kind (ℕ × ServerRequest)
server_asked = sequence (
    required (universal 2 unsigned32) (λ x. x.0) (
    required (one_of server_requests) (λ x. x.1) no_more))
    (λ invoke request. (invoke, request)) (λ x. refl)

-- confirmed-Response of the server
abbrev pub responded : Kind (ℕ × Answer)
responded = sequence (
    required (universal 2 unsigned32) (λ x. x.0) (
    required (one_of answers) (λ x. x.1) no_more))
    (λ invoke answer. (invoke, answer)) (λ x. refl)

-- confirmed-Response of a client
abbrev pub client_answered : Kind (ℕ × ClientAnswer)
client_answered = sequence (
    required (universal 2 unsigned32) (λ x. x.0) (
    required (one_of client_answers) (λ x. x.1) no_more))
    (λ invoke answer. (invoke, answer)) (λ x. refl)

-- the unconfirmed PDU of the server: an eventNotification, which is the service 2
abbrev pub notified : Kind EventNotification
notified = sequence (required (context 2 event_notification) (λ x. x) no_more) (λ x. x) (λ x. refl)

-- what is kept of a reject that a client sent: the invokeID, where it says one
abbrev pub heard_reject : Kind (Option ℕ)
heard_reject = sequence (optional (context 0 unsigned32) (λ o. o) no_more) (λ o. o) (λ o. refl)

-- the PDUs that a client may send and that are kept, but for confirmed-Request and reject
abbrev pub kept_arms : Arms Pdu
kept_arms =
    or 1 client_answered (λ x. pdu.HeardResponse x.0 x.1) (
    or 2 heard_error pdu.HeardError (
    or 5 unsigned32 pdu.CancelRequest (
    or 8 initiate pdu.InitiateRequest (
    or 11 null (λ _. pdu.ConcludeRequest) (
    no_other pdu.HeardOther)))))

-- and with a confirmed-Request without modifiers
abbrev pub whole_arms : Arms Pdu
whole_arms = or 0 asked (λ x. pdu.ConfirmedRequest x.0 x.1) kept_arms

-- the PDUs as they are sent, but for a confirmed-Request of the server, with the names of any edition
abbrev pub pdus : Alternatives
pdus =
    asn.or 0 (asked.form widest) (
    asn.or 1 (responded.form widest) (
    asn.or 2 (confirmed_error.form widest) (
    asn.or 3 (notified.form widest) (
    asn.or 4 (reject.form widest) (
    asn.or 5 (unsigned32.form widest) (
    asn.or 6 (unsigned32.form widest) (
    asn.or 7 (cancel_error.form widest) (
    asn.or 8 (initiate.form widest) (
    asn.or 9 (initiate_answer.form widest) (
    asn.or 10 (service_error.form widest) (
    asn.or 11 (null.form widest) (
    asn.or 12 (null.form widest) (
    asn.or 13 (service_error.form widest) asn.no_other)))))))))))))

-- and that
abbrev pub server_pdu : Alternatives
server_pdu = asn.or 0 (server_asked.form widest) asn.no_other

-- what a PDU says: of those that were only heard, what is kept of them
abbrev pub pdu_value : Pdu → Value
pdu_value (pdu.ConfirmedRequest invoke request) = chosen 0 (asked.value (invoke, request))
pdu_value (pdu.ModifiedRequest invoke modifier request) = modified.value (invoke, modifier, request)
pdu_value (pdu.ServerRequest invoke request) = chosen 0 (server_asked.value (invoke, request))
pdu_value (pdu.ConfirmedResponse invoke answer) = chosen 1 (responded.value (invoke, answer))
pdu_value (pdu.HeardResponse invoke answer) = chosen 1 (client_answered.value (invoke, answer))
pdu_value (pdu.ConfirmedError error) = chosen 2 (confirmed_error.value error)
pdu_value (pdu.HeardError invoke) = chosen 2 (heard_error.value invoke)
pdu_value (pdu.EventNotification x) = chosen 3 (notified.value x)
pdu_value (pdu.Reject x) = chosen 4 (reject.value x)
pdu_value (pdu.HeardReject invoke) = chosen 4 (heard_reject.value invoke)
pdu_value (pdu.CancelRequest invoke) = chosen 5 (unsigned32.value invoke)
pdu_value (pdu.CancelResponse invoke) = chosen 6 (unsigned32.value invoke)
pdu_value (pdu.CancelError error) = chosen 7 (cancel_error.value error)
pdu_value pdu.HeardOther = nothing
pdu_value (pdu.InitiateRequest proposal) = chosen 8 (initiate.value proposal)
pdu_value (pdu.InitiateResponse negotiated) = chosen 9 (initiate_answer.value negotiated)
pdu_value (pdu.InitiateError error) = chosen 10 (service_error.value error)
pdu_value pdu.ConcludeRequest = chosen 11 (null.value tt)
pdu_value pdu.ConcludeResponse = chosen 12 (null.value tt)
pdu_value (pdu.ConcludeError error) = chosen 13 (service_error.value error)

-- The one spelling of a PDU: one element. What was only heard is never sent, and has none.
abbrev pub pdu_octets : Pdu → List ℕ
pdu_octets (pdu.ServerRequest invoke request) = alternative_octets server_pdu (pdu_value (pdu.ServerRequest invoke request))
pdu_octets (pdu.ModifiedRequest invoke modifier request) = []
pdu_octets (pdu.HeardResponse invoke answer) = []
pdu_octets (pdu.HeardError invoke) = []
pdu_octets (pdu.HeardReject invoke) = []
pdu_octets pdu.HeardOther = []
pdu_octets p = alternative_octets pdus (pdu_value p)

-- How a domain is loaded: InitiateDownloadSequence, and what follows the client's answers to DownloadSegment and TerminateDownloadSequence
-- (ISO 9506-1 and ISO 9506-2, domain management).
use Rattle.std.specs.Prelude.{ℕ, ◌+◌, nat_le, nat_lt, Bool, true, false, not, if◌then◌else◌, List, [], ◌∷◌, ◌++◌, Option, None, Some, is_some, length, map}
use Rattle.std.specs.Map.{set_value}
use Rattle.std.specs.Option.{option_map, option_map_or}
use Rattle.mms_types.specs.Errors.{first_of, capability_unavailable, object_exists}
use Rattle.mms_types.specs.declared.asked.Also.{Also}
use Rattle.mms_types.specs.declared.asked.Also.TheVariants.{Ask}
use Rattle.mms_types.specs.declared.asked.Asked.{Asked}
use Rattle.mms_types.specs.declared.asked.Asked.TheVariants as asked
use Rattle.mms_types.specs.declared.asked.Reply.{Reply}
use Rattle.mms_types.specs.declared.asked.Reply.TheVariants as reply
use Rattle.mms_types.specs.declared.domain.InitiateDownloadSequence.{InitiateDownloadSequence}
use Rattle.mms_types.specs.declared.service_error.ServiceError.{ServiceError}
use Rattle.domain_load.specs.declared.domain.Domain.{Domain}
use Rattle.domain_load.specs.Domains.{Rows, is_there, name_eq, named, octets, without}
use Rattle.domain_load.specs.Segmented.{most_octets}
use Rattle.domain_load.specs.Standing.{is_loaded_by}

-- the most domains (this profile's limit)
abbrev pub most_domains : ℕ
most_domains = 256

-- why no load begins, with whether the client has room for one more request of the server
abbrev pub initiate_cause : Bool → InitiateDownloadSequence → Rows → Option ServiceError
initiate_cause calling_left request rows = first_of (
    (is_some (named request.domain rows), object_exists)
    ∷ (nat_le most_domains (length rows), capability_unavailable)
    ∷ (not calling_left, capability_unavailable)
    ∷ [])

-- a domain whose load begins
abbrev pub begun : ℕ → InitiateDownloadSequence → Domain
begun client request = record {
  capabilities = request.capabilities;
  sharable = request.sharable;
  loader = Some client;
  segments = [];
  invocations = [];
}

abbrev pub initiate_after : ℕ → InitiateDownloadSequence → Rows → Rows
initiate_after client request rows = rows ++ (request.domain, begun client request) ∷ []

-- ---- the client's answers

abbrev pub domain_of : Reply → List ℕ
domain_of (reply.Segment name octets more) = name
domain_of (reply.Ended name) = name
domain_of (reply.Failed name kind) = name

-- what was asked belongs to a load that goes on: a discard comes after its end
abbrev pub is_of_load : Reply → Bool
is_of_load (reply.Segment name octets more) = true
is_of_load (reply.Ended name) = true
is_of_load (reply.Failed name asked.Segment) = true
is_of_load (reply.Failed name asked.Terminate) = true
is_of_load (reply.Failed name asked.Discard) = false

-- that client loads the domain that is answered of
abbrev pub answers_load : ℕ → Reply → Rows → Bool
answers_load client answer rows = is_there (is_loaded_by client) (domain_of answer) rows

-- with so many octets more there would be too many
abbrev pub would_pass : ℕ → Domain → Bool
would_pass more domain = nat_lt most_octets (octets domain + more)

-- a segment comes behind those that are there
abbrev pub with_segment : List ℕ → Domain → Domain
with_segment octets domain = record domain { segments = domain.segments ++ octets ∷ [] }

-- the load has ended, and no client loads it any more: it is READY
abbrev pub loaded : Domain → Domain
loaded domain = record domain { loader = None }

-- the domain of that name is changed so, where it is there, and all others are as before
abbrev pub changed : List ℕ → (Domain → Domain) → Rows → Rows
changed name f rows = option_map_or (λ domain. set_value (name_eq name) rows (f domain)) (named name rows) rows

-- the domains after the answer: a segment is appended, or the load has ended; or the domain is removed
abbrev pub reply_after : Reply → Rows → Rows
reply_after (reply.Segment name octets more) rows =
    if is_there (would_pass (length octets)) name rows then without name rows else changed name (with_segment octets) rows
reply_after (reply.Ended name) rows = changed name loaded rows
reply_after (reply.Failed name kind) rows = without name rows

-- what the client is asked next, if anything is
abbrev pub asked_next : Reply → Rows → Option Asked
asked_next (reply.Segment name octets more) rows =
    Some (if is_there (would_pass (length octets)) name rows then asked.Discard else if more then asked.Segment else asked.Terminate)
asked_next (reply.Ended name) rows = None
asked_next (reply.Failed name asked.Segment) rows = Some asked.Discard
asked_next (reply.Failed name asked.Terminate) rows = None
asked_next (reply.Failed name asked.Discard) rows = None

abbrev pub also_asked : ℕ → Reply → Rows → Option Also
also_asked client answer rows = option_map (λ kind. Ask client kind (domain_of answer)) (asked_next answer rows)

-- ---- what laws say of an answer

-- the load goes on with what is asked
abbrev pub goes_on : Option Asked → Bool
goes_on None = false
goes_on (Some asked.Segment) = true
goes_on (Some asked.Terminate) = true
goes_on (Some asked.Discard) = false

-- the load has ended as the server asked it: the positive answer to a Terminate without discard
abbrev pub is_end : Reply → Bool
is_end (reply.Segment name octets more) = false
is_end (reply.Ended name) = true
is_end (reply.Failed name kind) = false

-- the domains after answers that come one after the other
abbrev pub replies_after : List Reply → Rows → Rows
replies_after [] rows = rows
replies_after (answer ∷ answers) rows = replies_after answers (reply_after answer rows)

-- the answers that bring these segments, each with whether the client says that more come
abbrev pub brings : List ℕ → List (List ℕ × Bool) → List Reply
brings name parts = map (λ part. reply.Segment name part.0 part.1) parts

abbrev pub brought : List (List ℕ × Bool) → List (List ℕ)
brought parts = map (λ part. part.0) parts

-- the domains after a load that began, brought these segments and ended
abbrev pub after_load : ℕ → InitiateDownloadSequence → List (List ℕ × Bool) → Rows → Rows
after_load client request parts rows =
    reply_after (reply.Ended request.domain) (replies_after (brings request.domain parts) (initiate_after client request rows))

-- What a client is told by an event, and what becomes of its row (ISO 9506-1, environment and general management).
use Rattle.std.specs.Prelude.{ℕ, Bool, true, false, Option, None, Some, List, [], ◌∷◌, filter_map, map}
use Rattle.mms_types.specs.Errors.{domain_transfer_problem}
use Rattle.mms_types.specs.declared.asked.Asked.{Asked}
use Rattle.mms_types.specs.declared.asked.Asked.TheVariants as asked
use Rattle.mms_types.specs.declared.event.What.{What}
use Rattle.mms_types.specs.declared.event.What.TheVariants.{Octets}
use Rattle.mms_types.specs.declared.pdu.Pdu.TheVariants as pdu
use Rattle.mms_types.specs.declared.pdu.ServerRequest.{ServerRequest}
use Rattle.mms_types.specs.declared.pdu.ServerRequest.TheVariants.{DownloadSegment, TerminateDownloadSequence}
use Rattle.mms_pdu.specs.Pdus.{pdu_octets}
use Rattle.association.specs.declared.negotiation.Negotiated.{Negotiated}
use Rattle.association.specs.declared.waiting.Waiting.{Waiting}
use Rattle.association.specs.Admission.{row_with_admitted}
use Rattle.association.specs.Client.{ClientRow, Client as RoomyRow, opened_row, closed_row, drained_row, row_settled, row_with_asked, row_with_output, row_without_waiting}

pub data Effect : Type 0 where
  -- one more output is to be sent
  Sends : What → Effect
  -- the association is open, of those values
  Opens : Negotiated → Effect
  -- the association is gone
  Closes : Effect
  -- a request waits that is admitted, as each one is that is taken
  Waits : Waiting → Effect
  -- the request of that invokeID waits no more
  Answers : ℕ → Effect
  -- that is asked of it about the domain of that name, under the next number of the server's requests
  Asks : Asked → List ℕ → Effect
  -- the server's request of that number isn't unanswered any more
  Settles : ℕ → Effect
  -- what was to be sent is taken away
  Drains : Effect

-- the request by which the server asks that (ISO 9506-2, DownloadSegment and TerminateDownloadSequence): a discard says why
abbrev pub server_request : Asked → List ℕ → ServerRequest
server_request asked.Segment domain = DownloadSegment domain
server_request asked.Terminate domain = TerminateDownloadSequence (record { domain = domain; discard = None })
server_request asked.Discard domain = TerminateDownloadSequence (record { domain = domain; discard = Some domain_transfer_problem })

-- its octets under a number
abbrev pub asking_octets : ℕ → Asked → List ℕ → List ℕ
asking_octets number kind domain = pdu_octets (pdu.ServerRequest number (server_request kind domain))

-- the request is unanswered, and is to be sent
abbrev pub asked_row : ClientRow → Asked → List ℕ → ClientRow
asked_row row kind domain = row_with_output (row_with_asked row kind domain) (Octets (asking_octets row.next_invoke kind domain))

-- a row after an effect
abbrev pub felt : Effect → ClientRow → ClientRow
felt (Sends output) row = row_with_output row output
felt (Opens values) row = opened_row row values
felt Closes row = closed_row row
felt (Waits request) row = row_with_admitted row request
felt (Answers invoke) row = row_without_waiting row invoke
felt (Asks kind domain) row = asked_row row kind domain
felt (Settles number) row = row_settled row number
felt Drains row = drained_row row

-- a row after some effects, in order
abbrev pub felt_all : List Effect → ClientRow → ClientRow
felt_all [] row = row
felt_all (effect ∷ effects) row = felt_all effects (felt effect row)

-- each of these is told to one client
abbrev pub tell : ℕ → List Effect → List (ℕ × Effect)
tell client effects = map (λ effect. (client, effect)) effects

-- a client's row; between events there is no room in it that is promised
abbrev pub settled : ClientRow → RoomyRow
settled row = record { row = row; output_room = 0; waiting_room = 0; asked_room = 0 }

-- the request that waits by an effect
abbrev pub wait_of : Effect → Option Waiting
wait_of (Waits request) = Some request
wait_of (Sends output) = None
wait_of (Opens values) = None
wait_of Closes = None
wait_of (Answers invoke) = None
wait_of (Asks kind domain) = None
wait_of (Settles number) = None
wait_of Drains = None

-- something is asked by an effect
abbrev pub is_ask : Effect → Bool
is_ask (Asks kind domain) = true
is_ask (Sends output) = false
is_ask (Opens values) = false
is_ask Closes = false
is_ask (Waits request) = false
is_ask (Answers invoke) = false
is_ask (Settles number) = false
is_ask Drains = false

abbrev pub waits_told : List (ℕ × Effect) → List Waiting
waits_told told = filter_map (λ t. wait_of t.1) told

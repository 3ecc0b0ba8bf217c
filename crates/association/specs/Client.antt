-- What contracts see of a client's part (ISO 9506-1, environment and general management).
use Rattle.std.specs.Prelude.{ℕ, ◌+◌, List, [], ◌∷◌, ◌++◌, Option, Some, None}
use Rattle.mms_types.specs.declared.event.What.{What}
use Rattle.mms_types.specs.declared.asked.Asked.{Asked}
use Rattle.association.specs.declared.constants.Constants.{Constants}
use Rattle.association.specs.declared.negotiation.Association.{Association}
use Rattle.association.specs.declared.negotiation.Association.TheVariants.{Idle, Open}
use Rattle.association.specs.declared.negotiation.Negotiated.{Negotiated}
use Rattle.association.specs.declared.unanswered.Unanswered.{Unanswered}
use Rattle.association.specs.declared.waiting.Waiting.{Waiting}
use Rattle.association.specs.Asked.{number_of, unsettled}
use Rattle.association.specs.Waiting.{without}

-- the row of a client: its number, its association, the requests that wait, the server's requests that it hasn't answered and
-- the number of the next one, what is to be sent to it, and what never changes
pub record ClientRow : Type 0 where
  pub client : ℕ
  pub association : Association
  pub waiting : List Waiting
  pub asked : List Unanswered
  pub next_invoke : ℕ
  pub outbox : List What
  pub constants : Constants

-- a row, and beside it the numbers of outputs, of waiting requests and of the server's requests for which there is room
pub record Client : Type 0 where
  pub row : ClientRow
  pub output_room : ℕ
  pub waiting_room : ℕ
  pub asked_room : ℕ

-- a client of that row that has room for so many outputs, requests that wait and requests of the server
abbrev pub row_with_room : ClientRow → ℕ → ℕ → ℕ → Client
row_with_room row outputs waiting asked = record { row = row; output_room = outputs; waiting_room = waiting; asked_room = asked }

-- the negotiated values, where the association is open
abbrev pub negotiated_of : Association → Option Negotiated
negotiated_of Idle = None
negotiated_of (Open values) = Some values

-- a client with which there is no association, for which nothing waits, and of which nothing is asked
abbrev pub new_row : ℕ → Constants → ClientRow
new_row client constants = record {
  client = client;
  association = Idle;
  waiting = [];
  asked = [];
  next_invoke = 1;
  outbox = [];
  constants = constants;
}

-- the association is open, of those values
abbrev pub opened_row : ClientRow → Negotiated → ClientRow
opened_row row values = record row { association = Open values }

-- the association is gone: its values, what waits and what is asked are forgotten, and what is to be sent stays
abbrev pub closed_row : ClientRow → ClientRow
closed_row row = record row { association = Idle; waiting = []; asked = []; next_invoke = 1 }

-- one more output is to be sent
abbrev pub row_with_output : ClientRow → What → ClientRow
row_with_output row output = record row { outbox = row.outbox ++ output ∷ [] }

-- all that was to be sent is taken away
abbrev pub drained_row : ClientRow → ClientRow
drained_row row = record row { outbox = [] }

-- one more request waits
abbrev pub row_with_waiting : ClientRow → Waiting → ClientRow
row_with_waiting row request = record row { waiting = row.waiting ++ request ∷ [] }

-- the request of that invokeID doesn't wait any more
abbrev pub row_without_waiting : ClientRow → ℕ → ClientRow
row_without_waiting row invoke = record row { waiting = without invoke row.waiting }

-- the number of the server's next request, where there is one
abbrev pub next_ask : ClientRow → Option ℕ
next_ask row = number_of row.next_invoke

-- the server asked that of a domain, by the next number
abbrev pub row_with_asked : ClientRow → Asked → List ℕ → ClientRow
row_with_asked row kind domain = record row {
  asked = row.asked ++ record { invoke = row.next_invoke; kind = kind; domain = domain } ∷ [];
  next_invoke = row.next_invoke + 1;
}

-- the request of that number isn't unanswered any more
abbrev pub row_settled : ClientRow → ℕ → ClientRow
row_settled row number = record row { asked = unsettled number row.asked }

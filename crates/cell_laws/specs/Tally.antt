-- How many requests of a client were taken since its association opened, and how many were answered (ISO 9506-1: each
-- confirmed request has one answer).
use Rattle.std.specs.Prelude.{◌≡◌, ◌⊎◌, ℕ, ◌+◌, Bool, true, false, ◌==◌, ◌&&◌, List, [], ◌∷◌, ◌++◌, count_by, fold, All, if◌then◌else◌}
use Rattle.std.specs.List.{list_any}
use Rattle.mms_types.specs.declared.event.CellEvent.{CellEvent}
use Rattle.mms_types.specs.declared.event.CellEvent.TheVariants.{Heard, Lost, Tick, Ends, Drain}
use Rattle.mms_types.specs.declared.event.What.{What}
use Rattle.mms_types.specs.declared.event.What.TheVariants.{Octets, Abort}
use Rattle.mms_types.specs.declared.pdu.Pdu.{Pdu}
use Rattle.mms_pdu.specs.Answering.{IsAnswer, HasUnsigned32}
use Rattle.mms_pdu.specs.Pdus.{pdu_octets}
use Rattle.cell_config.specs.declared.config.Config.{Config}
use Rattle.association.specs.Waiting.{is_waiting}
use Rattle.association.specs.Client.{ClientRow}
use Rattle.parted_state.specs.Served.{done_of, reached, row_at}
use Rattle.cell_client.specs.Association.{Verdict, Tells, Takes, Replies, Exhausts, Concludes, Cancels, Aborts, verdict}
use Rattle.cell_client.specs.Effects.{Effect, Sends, Opens, Closes, Waits, Answers, Asks, Settles, Drains, asking_octets}
use Rattle.cell_services.specs.Serving.{services}
use Rattle.step_parts.specs.Partition.{cell}
use Rattle.step_parts.specs.State.{State, start}
use Rattle.step_parts.specs.Step.{outbox_of, step}

-- the outputs are these PDUs, each spelled; an abort is none
abbrev pub AreSpelled : List What → List Pdu → Type 0
AreSpelled [] ps = ps ≡ []
AreSpelled (Octets octets ∷ outputs) [] = ⊥
AreSpelled (Octets octets ∷ outputs) (p ∷ ps) = (octets ≡ pdu_octets p) × AreSpelled outputs ps
AreSpelled (Abort ∷ outputs) ps = AreSpelled outputs ps

-- so many of the outputs answer a request of that invokeID, by their octets
abbrev pub HaveAnswers : ℕ → List What → ℕ → Type 0
HaveAnswers invoke [] n = n ≡ 0
HaveAnswers invoke (Octets octets ∷ outputs) n =
    (IsAnswer invoke octets × (others : ℕ) × (n ≡ others + 1) × HaveAnswers invoke outputs others) ⊎ ((IsAnswer invoke octets → ⊥) × HaveAnswers invoke outputs n)
HaveAnswers invoke (Abort ∷ outputs) n = HaveAnswers invoke outputs n

-- what an effect sends to a client of that row: what is asked of it has the row's next number
abbrev pub sent_by : ClientRow → Effect → List What
sent_by row (Sends output) = output ∷ []
sent_by row (Opens values) = []
sent_by row Closes = []
sent_by row (Waits request) = []
sent_by row (Answers invoke) = []
sent_by row (Asks kind domain) = Octets (asking_octets row.next_invoke kind domain) ∷ []
sent_by row (Settles number) = []
sent_by row Drains = []

-- what is sent to a client by what is told to the clients of these rows
abbrev pub sent_to : ℕ → List ClientRow → List (ℕ × Effect) → List What
sent_to client rows [] = []
sent_to client rows (t ∷ told) = (if client == t.0 then sent_by (row_at cell client rows) t.1 else []) ++ sent_to client (reached cell t.0 t.1 rows) told

abbrev pub is_opening : Effect → Bool
is_opening (Sends output) = false
is_opening (Opens values) = true
is_opening Closes = false
is_opening (Waits request) = false
is_opening (Answers invoke) = false
is_opening (Asks kind domain) = false
is_opening (Settles number) = false
is_opening Drains = false

-- the association of a client opens
abbrev pub opens : ℕ → List (ℕ × Effect) → Bool
opens client told = list_any (λ t. client == t.0 && is_opening t.1) told

-- the invokeIDs of requests that are taken: against these stands no reject
abbrev pub taken_by : Verdict → List ℕ
taken_by (Takes invoke asked) = invoke ∷ []
taken_by (Tells effects) = []
taken_by (Replies number came) = []
taken_by (Exhausts invoke) = invoke ∷ []
taken_by Concludes = []
taken_by (Cancels invoke) = []
taken_by Aborts = []

abbrev pub taken_from : ℕ → State → CellEvent → List ℕ
taken_from client s (Heard other octets) = if client == other then taken_by (verdict (row_at cell other s.clients) octets) else []
taken_from client s (Lost other) = []
taken_from client s (Tick ms) = []
taken_from client s (Ends name) = []
taken_from client s (Drain other) = []

-- a state; of a client the invokeIDs of the requests that were taken since its association opened, and what was sent to
-- it since then
pub record Account : Type 0 where
  pub state : State
  pub taken : List ℕ
  pub sent : List What

abbrev pub told_in : State → CellEvent → List (ℕ × Effect)
told_in s event = (done_of cell services s event).told

abbrev pub account_after : ℕ → Account → CellEvent → Account
account_after client a event = record {
  state = step a.state event;
  taken = (if opens client (told_in a.state event) then [] else a.taken) ++ taken_from client a.state event;
  sent = (if opens client (told_in a.state event) then [] else a.sent) ++ sent_to client a.state.clients (told_in a.state event);
}

abbrev pub account : Config → List CellEvent → ℕ → Account
account config history client = fold (account_after client) (record { state = start config; taken = []; sent = [] }) history

-- The requests of a client that were taken have one answer each:
pub record HaveOneAnswerEach (client : ℕ) (s : State) (taken : List ℕ) (sent : List What) : Type 0 where
  -- what was sent are PDUs, and the invokeID of an answer is an Unsigned32;
  pub pdus : List Pdu
  pub spelled : AreSpelled sent pdus
  pub unsigned : All HasUnsigned32 pdus
  -- and of each invokeID as many requests were taken as outputs are a confirmed response or a confirmed error of it, by
  -- their octets, and one more where a request of it waits
  pub answers : ℕ → ℕ
  pub told : (invoke : ℕ) → HaveAnswers invoke sent (answers invoke)
  pub balance : (invoke : ℕ) → count_by (λ other. invoke == other) taken
      ≡ answers invoke + (if is_waiting invoke (row_at cell client s.clients).waiting then 1 else 0)

-- ---- what a client takes

-- a client takes away what is to be sent to it
abbrev pub drains : ℕ → CellEvent → Bool
drains client (Heard other octets) = false
drains client (Lost other) = false
drains client (Tick ms) = false
drains client (Ends name) = false
drains client (Drain other) = client == other

-- what it takes so in the course of events, in order
abbrev pub drained : ℕ → State → List CellEvent → List What
drained client s [] = []
drained client s (event ∷ rest) = (if drains client event then outbox_of s client else []) ++ drained client (step s event) rest

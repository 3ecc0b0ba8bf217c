-- Requests are answered, at once or when they wait no more (ISO 9506-1, environment and general management, and
-- TakeControl).
use Rattle.std.specs.Prelude.{◌≡◌, ◌⊎◌, ℕ, ◌≤◌, true, List, [], ◌∷◌, Some, length, Contains}
use Rattle.mms_types.specs.declared.event.What.{What}
use Rattle.mms_types.specs.declared.event.What.TheVariants.{Octets}
use Rattle.mms_types.specs.declared.pdu.Answer.{Answer}
use Rattle.mms_types.specs.declared.pdu.Answer.TheVariants as answer
use Rattle.mms_types.specs.declared.pdu.Pdu.TheVariants as pdu
use Rattle.mms_types.specs.declared.pdu.Request.TheVariants as request
use Rattle.mms_types.specs.declared.semaphore.RelinquishControl.{RelinquishControl}
use Rattle.mms_types.specs.declared.service_error.ServiceError.{ServiceError}
use Rattle.mms_pdu.specs.Pdus.{pdu_octets}
use Rattle.association.specs.declared.waiting.Waiting.{Waiting}
use Rattle.sem_ticks.specs.Granted.{lost_granted, relinquish_granted}
use Rattle.sem_ticks.specs.declared.granted.Granted.{Granted}
use Rattle.cell_client.specs.Association.{Verdict, Takes, Concludes, Aborts, Exhausts, confirmed_error, verdict}
use Rattle.cell_client.specs.Effects.{Effect, Sends, Waits, Answers}
pub use Rattle.cell_client.specs.Effects.{wait_of, waits_told}
use Rattle.cell_services.specs.Serving.{is_served, resolved}
use Rattle.step_parts.specs.Partition.{cell, row_of}
use Rattle.step_parts.specs.State.{State}
use Rattle.step_parts.specs.Step.{outbox_of}

-- ---- a token that is granted

-- the answer to the request that waited: it has a token
abbrev pub grant_answer : Granted → What
grant_answer g = Octets (pdu_octets (pdu.ConfirmedResponse g.invoke (answer.TakeControl g.answer)))

-- it is to be sent to the client that is granted the token
abbrev pub IsAnswered : State → Granted → Type 0
IsAnswered s g = 1 ≤ g.client → g.client ≤ length s.clients → Contains (outbox_of s g.client) (grant_answer g)

-- By octets a client gives back a token that is granted at once: its request for that is taken and isn't refused, and
-- the semaphores grant the token to who waits for it.
pub record GivesBackTo (s : State) (client : ℕ) (octets : List ℕ) (g : Granted) : Type 0 where
  pub invoke : ℕ
  pub asked : RelinquishControl
  pub taken : verdict (row_of s client) octets ≡ Takes invoke (request.RelinquishControl asked)
  pub served : is_served (cell.tables_of s) (row_of s client) invoke (request.RelinquishControl asked) ≡ true
  pub granted : relinquish_granted (row_of s client).client asked s.semaphores ≡ Some (Some g)

-- what is granted to others where the association of a client ends, whose tokens are free then
abbrev pub granted_by_loss : State → ℕ → List Granted
granted_by_loss s client = lost_granted (row_of s client).client (record { 0 = s.now }) s.semaphores

-- ---- the end of an association

-- a verdict by which the association of the client ends that is heard
abbrev pub EndsIt : Verdict → Type 0
EndsIt Concludes = Unit {0}
EndsIt Aborts = Unit {0}
EndsIt (Exhausts invoke) = Unit {0}
EndsIt other = ⊥

-- by these octets the association of their client ends
abbrev pub EndsBy : State → ℕ → List ℕ → Type 0
EndsBy s client octets = EndsIt (resolved (cell.tables_of s) (row_of s client) (verdict (row_of s client) octets))

-- ---- any request

-- A request of that invokeID is answered by one output, and no request waits; or it waits, and nothing else is told.
abbrev pub AnswersOrWaits : ℕ → ℕ → List Effect → List (ℕ × Effect) → Type 0
AnswersOrWaits client invoke own also =
    ((output : What) × (own ≡ Sends output ∷ []) × (waits_told also ≡ []))
    ⊎ ((request : Waiting) × (request.invoke ≡ invoke) × (own ≡ []) × (also ≡ (client, Waits request) ∷ []))

-- an output is a positive answer to a request of that invokeID, or tells why it is refused
abbrev pub IsAnswerTo : ℕ → What → Type 0
IsAnswerTo invoke output =
    ((told : Answer) × (output ≡ Octets (pdu_octets (pdu.ConfirmedResponse invoke told))))
    ⊎ ((error : ServiceError) × (output ≡ Octets (pdu_octets (confirmed_error invoke error))))

-- where a client is told that a request of it waits no more, it is told an answer to it
abbrev pub AreAnswered : List (ℕ × Effect) → Type 0
AreAnswered told = (client invoke : ℕ) → Contains told (client, Answers invoke) → (output : What) × IsAnswerTo invoke output × Contains told (client, Sends output)

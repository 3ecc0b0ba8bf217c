-- Worked examples of what is sent and what is counted where the server asks something, typed by hand from the
-- definitions.
use Rattle.std.specs.Prelude.{◌≡◌, ℕ, false, List, [], ◌∷◌}
use Rattle.std.proofs.Common.{inr, refl}
use Rattle.mms_types.specs.declared.asked.Asked.TheVariants as asks
use Rattle.mms_types.specs.declared.event.What.TheVariants.{Octets}
use Rattle.mms_types.specs.declared.pdu.Pdu.TheVariants as pdu
use Rattle.mms_pdu.specs.Answering.{IsAnswer}
use Rattle.mms_pdu.proofs.AnswerTold.{octets_answer}
use Rattle.association.specs.Client.{ClientRow, new_row}
use Rattle.cell_client.specs.Association.{Exhausts, Replies, Fails}
use Rattle.cell_client.specs.Effects.{Effect, Settles, Asks, Closes, asking_octets, server_request}
use Rattle.step_parts.specs.Partition.{no_device}
use Rattle.cell_laws.specs.Tally.{HaveAnswers, opens, sent_to, taken_by}

-- the domain D
abbrev domain : List ℕ
domain = 68 ∷ []

-- the server asked client 1 four things before, and client 2 nothing
abbrev rows : List ClientRow
rows = record (new_row 1 no_device) { next_invoke = 5 } ∷ new_row 2 no_device ∷ []

-- each of them is asked under the next number of its own
abbrev told : List (ℕ × Effect)
told = (1, Settles 4) ∷ (1, Asks asks.Segment domain) ∷ (2, Asks asks.Segment domain) ∷ (1, Asks asks.Terminate domain) ∷ []

to_first : sent_to 1 rows told ≡ Octets (asking_octets 5 asks.Segment domain) ∷ Octets (asking_octets 6 asks.Terminate domain) ∷ []
to_first = refl

to_second : sent_to 2 rows told ≡ Octets (asking_octets 1 asks.Segment domain) ∷ []
to_second = refl

to_nobody : sent_to 3 rows told ≡ []
to_nobody = refl

-- what is asked opens no association
unopened : opens 1 told ≡ false
unopened = refl

-- numbers begin anew where the association is gone
anew : sent_to 1 rows ((1, Closes) ∷ (1, Asks asks.Segment domain) ∷ []) ≡ Octets (asking_octets 1 asks.Segment domain) ∷ []
anew = refl

-- a request of the server answers no request of a client, not that of its own number
no_answer : (invoke : ℕ) → IsAnswer invoke (asking_octets 5 asks.Segment domain) → ⊥
no_answer invoke is = cc (octets_answer invoke (pdu.ServerRequest 5 (server_request asks.Segment domain)) tt is)

none_counted : HaveAnswers 5 (Octets (asking_octets 5 asks.Segment domain) ∷ []) 0
none_counted = inr (no_answer 5, refl)

-- a load that is asked for is taken, also where its client is aborted; what a client answers is no request
taken : taken_by (Exhausts 7) ≡ 7 ∷ []
taken = refl

replied : taken_by (Replies 5 Fails) ≡ []
replied = refl

-- What holds of the device along the trial, and what each event of the trial keeps.
use Rattle.std.proofs.Common.{◌≡◌, ℕ, Bool, true, false, nat_lt, List, [], ◌∷◌, Option, None, Some, Result, Ok, Err, if◌then◌else◌, refl, sym, ◌∙◌, ap, subst}
use Rattle.mms_types.specs.Order.{key_of}
use Rattle.mms_types.specs.declared.identifier.Edition.{Edition}
use Rattle.mms_types.specs.declared.identifier.Edition.TheVariants.{One}
use Rattle.mms_types.specs.declared.moment.Moment.{Moment}
use Rattle.mms_types.specs.declared.pdu.Pdu.TheVariants as pdu
use Rattle.mms_types.specs.declared.pdu.Request.{Request}
use Rattle.mms_types.specs.declared.pdu.Request.TheVariants as request
use Rattle.mms_types.specs.declared.semaphore.RelinquishControl.{RelinquishControl}
use Rattle.mms_types.specs.declared.semaphore.TakeControl.{TakeControl}
use Rattle.mms_pdu.specs.Hearing.{depth_of}
use Rattle.mms_pdu.specs.Heard.{pdu_heard}
use Rattle.association.specs.declared.client_part.NotAdmitted.{NotAdmitted}
use Rattle.association.specs.declared.client_part.NotAdmitted.TheVariants as not_admitted
use Rattle.association.specs.declared.negotiation.Association.{Association}
use Rattle.association.specs.declared.negotiation.Association.TheVariants.{Idle, Open}
use Rattle.association.specs.declared.negotiation.Negotiated.{Negotiated}
use Rattle.association.specs.Admission.{admission}
use Rattle.association.specs.Client.{ClientRow}
use Rattle.association.specs.Negotiation.{values_of, answer_to}
use Rattle.mms_time.specs.Services.{take_told}
use Rattle.mms_time.specs.declared.taking.TakeDone.{TakeDone}
use Rattle.mms_time.specs.declared.taking.TakeDone.TheVariants.{Answered, Waits}
use Rattle.parted_state.specs.Served.{row_at}
use Rattle.sem_ticks.specs.Granted.{relinquish_granted}
use Rattle.sem_ticks.specs.declared.granted.Granted.{Granted}
use Rattle.cell_client.specs.Association.{Verdict, Takes, Tells, admitted, open_verdict, requested, sends, verdict, verdict_by}
use Rattle.cell_client.specs.Effects.{Effect, Opens}
use Rattle.cell_services.specs.Services.{effect, relinquish_outcome, take_outcome}
use Rattle.cell_services.specs.Serving.{is_served, resolved, tables_heard}
use Rattle.cell_services.specs.Tables.{Tables, moment_of}
use Rattle.cell_stress.specs.Requests.{proposal}
use Rattle.step_parts.specs.Partition.{cell}
use Rattle.step_parts.specs.State.{State, IsSound}
use Rattle.cell_laws.proofs.Linking.{Linked}
use Rattle.stress_laws.proofs.Hearing.{IsOfTrial}
use Rattle.stress_laws.proofs.Soon.{AsksSoon, RowsSoon, soon_defined, soon_relinquished, soon_taken}

-- what holds of each state of the trial
pub record IsTrial (count : ℕ) (s : State) : Type 0 where
  pub sound : IsSound count s
  pub linked : Linked s
  -- who waits waits for five milliseconds at most, and nobody is aborted
  pub soon : RowsSoon (record { 0 = s.now }) s.semaphores
  -- there are no event conditions
  pub quiet : s.events.conditions ≡ []
  -- what is heard is of edition 1
  pub edition : (c : ℕ) → (row_at cell c s.clients).constants.edition ≡ One

-- a request for a token waits for five milliseconds at most
abbrev pub AsksWell : Request → Type 0
AsksWell (request.TakeControl x) = AsksSoon x
AsksWell asked = Unit {0}

-- the octets are heard as a request of the trial
pub record IsRequest (octets : List ℕ) : Type 0 where
  pub invoke : ℕ
  pub asked : Request
  pub heard : pdu_heard One octets ≡ Ok (pdu.ConfirmedRequest invoke asked)
  pub of : IsOfTrial asked
  pub well : AsksWell asked

-- or as the trial's proposal
abbrev pub IsProposal : List ℕ → Type 0
IsProposal octets = pdu_heard One octets ≡ Ok (pdu.InitiateRequest proposal)

-- ---- the tables after a request

-- there are no conditions, and who waits waits until then at most
abbrev AreWell : Moment → Tables → Type 0
AreWell now t = RowsSoon now t.semaphores × (t.events.conditions ≡ [])

module _ (t : Tables) (row : ClientRow) (well : AreWell (moment_of t) t) where
  taking : (client invoke : ℕ) (x : TakeControl) (o : Option TakeDone) → AsksSoon x → AreWell (moment_of t) (take_outcome t client invoke x o).tables
  taking client invoke x None soon = well
  taking client invoke x (Some (Answered told)) soon = (soon_taken (moment_of t) client invoke x t.semaphores soon well.0, well.1)
  taking client invoke x (Some (Waits entry)) soon = (soon_taken (moment_of t) client invoke x t.semaphores soon well.0, well.1)

  giving : (client : ℕ) (x : RelinquishControl) (o : Option (Option Granted)) → AreWell (moment_of t) (relinquish_outcome t client x o).tables
  giving client x None = well
  giving client x (Some grant) = (soon_relinquished (moment_of t) (moment_of t) (key_of client x.name) client x.token t.semaphores well.0, well.1)

  doing : (invoke : ℕ) (asked : Request) → IsOfTrial asked → AsksWell asked → AreWell (moment_of t) (effect t row invoke asked).tables
  doing invoke (request.TakeControl x) of soon = taking row.client invoke x (take_told row.client x t.semaphores) soon
  doing invoke (request.RelinquishControl x) of soon = giving row.client x (relinquish_granted row.client x t.semaphores)
  doing invoke (request.DefineSemaphore x) of soon = (soon_defined (moment_of t) (moment_of t) row.client x t.semaphores well.0, well.1)
  doing invoke (request.Read x) of soon = well
  doing invoke (request.Write x) of soon = well
  doing invoke asked of soon = absurd of

  taken_well : (invoke : ℕ) (asked : Request) → IsOfTrial asked → AsksWell asked → AreWell (moment_of t) (tables_heard t row (Takes invoke asked))
  taken_well invoke asked of soon = by_test (is_served t row invoke asked)
    where
      by_test : (b : Bool) → AreWell (moment_of t) (if b then (effect t row invoke asked).tables else t)
      by_test true = doing invoke asked of soon
      by_test false = well

  -- nothing is asked of the client by these
  resolved_same : (invoke : ℕ) (asked : Request) → IsOfTrial asked → resolved t row (Takes invoke asked) ≡ Takes invoke asked
  resolved_same invoke (request.Read x) of = refl
  resolved_same invoke (request.Write x) of = refl
  resolved_same invoke (request.DefineSemaphore x) of = refl
  resolved_same invoke (request.TakeControl x) of = refl
  resolved_same invoke (request.RelinquishControl x) of = refl
  resolved_same invoke asked of = absurd of

  pub requested_well : (too_deep : Bool) (invoke : ℕ) (asked : Request) → IsOfTrial asked → AsksWell asked → AreWell (moment_of t) (tables_heard t row (resolved t row (requested too_deep row invoke asked)))
  requested_well true invoke asked of soon = well
  requested_well false invoke asked of soon = by_admission (admission invoke row)
    where
      by_admission : (r : Result Unit NotAdmitted) → AreWell (moment_of t) (tables_heard t row (resolved t row (admitted r invoke asked)))
      by_admission (Err not_admitted.Waiting) = well
      by_admission (Err not_admitted.Outstanding) = well
      by_admission (Ok may) = subst (λ (v : Verdict). AreWell (moment_of t) (tables_heard t row v)) (sym (resolved_same invoke asked of)) (taken_well invoke asked of soon)

-- ---- what octets come to

pub request_verdict : (row : ClientRow) (octets : List ℕ) (values : Negotiated) (is : IsRequest octets) → row.association ≡ Open values → row.constants.edition ≡ One
    → verdict row octets ≡ requested (nat_lt values.nesting (depth_of (pdu.ConfirmedRequest is.invoke is.asked))) row is.invoke is.asked
request_verdict row octets values is opened edition =
    ap (λ (a : Association). verdict_by a row (pdu_heard row.constants.edition octets)) opened
    ∙ ap (λ (e : Edition). open_verdict values row (pdu_heard e octets)) edition
    ∙ ap (open_verdict values row) is.heard

-- the negotiated values
abbrev pub values : Negotiated
values = values_of (answer_to proposal)

abbrev pub opening_told : List Effect
opening_told = Opens values ∷ sends (pdu.InitiateResponse (answer_to proposal)) ∷ []

pub proposal_verdict : (row : ClientRow) (octets : List ℕ) → IsProposal octets → row.association ≡ Idle → row.constants.edition ≡ One → verdict row octets ≡ Tells opening_told
proposal_verdict row octets heard idle edition =
    ap (λ (a : Association). verdict_by a row (pdu_heard row.constants.edition octets)) idle
    ∙ ap (λ (e : Edition). verdict_by Idle row (pdu_heard e octets)) edition
    ∙ ap (verdict_by Idle row) heard

-- Each event is fair to a client: what it is told answers what was taken and what waited, but for what waits then.
use Rattle.std.proofs.Common.{◌≡◌, ℕ, ◌⊎◌, inl, inr, Bool, true, false, cond, ◌==◌, ◌&&◌, nat_lt, List, [], ◌∷◌, None, Some, Result, Ok, Err, refl, sym, ◌∙◌, ap}
use Rattle.mms_types.specs.declared.event.What.TheVariants.{Abort}
use Rattle.mms_types.specs.declared.initiate.InitiateAnswer.{InitiateAnswer}
use Rattle.mms_types.specs.declared.memory.Memory.{Memory}
use Rattle.mms_types.specs.declared.pdu.Pdu.{Pdu}
use Rattle.mms_types.specs.declared.pdu.Pdu.TheVariants as pdu
use Rattle.mms_types.specs.declared.pdu.Reject.{Reject}
use Rattle.mms_types.specs.declared.pdu.RejectReason.{RejectReason}
use Rattle.mms_types.specs.declared.pdu.RejectReason.TheVariants.{InvalidPdu, InvalidInvokeId, MaxServOutstandingExceeded, MaxRecursionExceeded}
use Rattle.mms_types.specs.declared.pdu.Answer.TheVariants as answer
use Rattle.mms_types.specs.declared.pdu.Request.{Request}
use Rattle.mms_types.specs.declared.service_error.ServiceError.{ServiceError}
use Rattle.mms_pdu.specs.declared.refusal.Refusal.{Refusal}
use Rattle.mms_pdu.specs.Heard.{pdu_heard}
use Rattle.mms_pdu.specs.Hearing.{depth_of}
use Rattle.mms_pdu.specs.Rejects.{reject_of}
use Rattle.association.specs.declared.client_part.NotAdmitted.{NotAdmitted}
use Rattle.association.specs.declared.client_part.NotAdmitted.TheVariants as not_admitted
use Rattle.association.specs.declared.negotiation.Association.{Association}
use Rattle.association.specs.declared.negotiation.Association.TheVariants.{Idle, Open}
use Rattle.association.specs.declared.negotiation.Negotiated.{Negotiated}
use Rattle.association.specs.declared.waiting.Waiting.{Waiting}
use Rattle.association.specs.Admission.{admission}
use Rattle.association.specs.Asked.{asked_of}
use Rattle.association.specs.Client.{ClientRow}
use Rattle.association.specs.Negotiation.{negotiation, values_of}
use Rattle.association.specs.Waiting.{is_waiting}
use Rattle.token_sem.proofs.Least.{Stands}
use Rattle.sem_ticks.specs.declared.granted.Granted.{Granted}
use Rattle.parted_state.specs.Served.{reached, delivered}
use Rattle.cell_client.specs.Association.{Verdict, Tells, Takes, Replies, Exhausts, Concludes, Cancels, Aborts, sends, verdict, verdict_by, idle_verdict, open_verdict, admitted, requested, cancelled, keeps_open, negotiated, refused, rejects, rejects_invalid, further_error, unknown_error}
use Rattle.cell_client.specs.Effects.{Effect, Sends, Opens, Answers, Settles, tell}
use Rattle.cell_services.specs.Services.{grant_told, grants_told}
use Rattle.cell_services.specs.Serving.{resolved}
use Rattle.cell_services.specs.Tables.{Tables}
use Rattle.step_parts.specs.Partition.{cell}
use Rattle.cell_laws.proofs.Bound.{nat-same, nat-test, of-both, both-true}
use Rattle.cell_laws.proofs.Fair.{IsQuiet, Outcome, Unopening, join, none_taken, piece-abort, piece-answered, piece-quiet, piece-settles}
use Rattle.cell_laws.proofs.Hears.{reached-answered, reached-still, waits_in}
use Rattle.cell_laws.proofs.Once.{AnswerApart}
use Rattle.cell_laws.proofs.Queues.{stands-any}
use Rattle.cell_laws.proofs.Verdicts.{by-conclusion, by-error, by-rejected, by-response, by-tables}

-- ---- tokens are granted

pub unopening-grants : (grants : List Granted) → Unopening (grants_told grants)
unopening-grants [] = tt
unopening-grants (g ∷ grants) = (refl, (refl, unopening-grants grants))

pub fair-grants : (c : ℕ) (grants : List Granted) (rows : List ClientRow) → AnswerApart grants
    → ((g : Granted) → Stands grants g → (w : Waiting) × (waits_in rows g.client g.invoke ≡ Some w)) → Outcome c (grants_told grants) rows none_taken
fair-grants c [] rows apart there = inl (record { pdus = []; spelled = refl; balance = λ i. refl })
fair-grants c (g ∷ grants) rows apart there =
    join c (grant_told g) (grants_told grants) rows none_taken none_taken (unopening-grants grants)
    (inl (piece-answered c g.client g.invoke (pdu.ConfirmedResponse g.invoke (answer.TakeControl g.answer)) rows (there g (inl refl)).0 (there g (inl refl)).1 (λ i. refl)))
    (fair-grants c grants (delivered cell (grant_told g) rows) apart.1 (λ h s. still h s (there h (inr s))))
  where
    other : (h : Granted) → Stands grants h → (b : Bool) → (h.client == g.client && h.invoke == g.invoke) ≡ b → b ≡ false
    other h s false e = refl
    other h s true e =
        let tests = of-both (h.client == g.client) (h.invoke == g.invoke) e in
        let same : (g.client == h.client && g.invoke == h.invoke) ≡ true =
        both-true (g.client == h.client) (g.invoke == h.invoke) (nat-test g.client h.client (sym (nat-same h.client g.client tests.0))) (nat-test g.invoke h.invoke (sym (nat-same h.invoke g.invoke tests.1))) in
        absurd (cc (sym (stands-any (λ x. g.client == x.client && g.invoke == x.invoke) grants h s same) ∙ apart.0))

    still : (h : Granted) → Stands grants h → (w : Waiting) × (waits_in rows h.client h.invoke ≡ Some w) → (w : Waiting) × (waits_in (delivered cell (grant_told g) rows) h.client h.invoke ≡ Some w)
    still h s w = (
      w.0,
      reached-still (sends (pdu.ConfirmedResponse g.invoke (answer.TakeControl g.answer))) tt g.client (reached cell g.client (Answers g.invoke) rows) h.client h.invoke ∙ reached-answered g.invoke g.client rows h.client h.invoke
          ∙ ap (λ t. cond t None (waits_in rows h.client h.invoke)) (other h s (h.client == g.client && h.invoke == g.invoke) refl) ∙ w.1,
    )

-- ---- what a client is told at once

-- nothing opens, and no request is answered
abbrev pub Silent : List Effect → Type 0
Silent effects = (c k : ℕ) (rows : List ClientRow) → Outcome c (tell k effects) rows none_taken × Unopening (tell k effects)

-- an association opens
pub record Opening (row : ClientRow) (effects : List Effect) : Type 0 where
  pub values : Negotiated
  pub answer : Pdu
  pub are : effects ≡ Opens values ∷ sends answer ∷ []
  pub quiet : IsQuiet answer
  pub idle : row.association ≡ Idle

abbrev pub Told : ClientRow → Verdict → Type 0
Told row (Tells effects) = Silent effects ⊎ Opening row effects
Told row (Takes invoke asked) = Unit {0}
Told row (Replies number came) = Unit {0}
Told row (Exhausts invoke) = Unit {0}
Told row Concludes = Unit {0}
Told row (Cancels invoke) = is_waiting invoke row.waiting ≡ true
Told row Aborts = Unit {0}

silent-none : Silent []
silent-none c k rows = (inl (record { pdus = []; spelled = refl; balance = λ i. refl }), tt)

silent-one : (p : Pdu) → IsQuiet p → Silent (sends p ∷ [])
silent-one p quiet c k rows = (inl (piece-quiet c k p rows quiet), (refl, tt))

silent-abort : Silent (Sends Abort ∷ [])
silent-abort c k rows = (inl (piece-abort c k rows), (refl, tt))

silent-settles : (number : ℕ) → Silent (Settles number ∷ [])
silent-settles number c k rows = (inl (piece-settles c k number rows), (refl, tt))

silent-keeps : Silent keeps_open
silent-keeps = silent-one (pdu.ConcludeError further_error) (λ i. refl)

silent-reject : (invoke : ℕ) (reason : RejectReason) → Silent (rejects invoke reason ∷ [])
silent-reject invoke reason = silent-one (pdu.Reject (record { invoke = Some invoke; reason = reason })) (λ i. refl)

silent-invalid : Silent (rejects_invalid ∷ [])
silent-invalid = silent-one (pdu.Reject (record { invoke = None; reason = InvalidPdu })) (λ i. refl)

refused-told : (told : Result Reject Memory) → Silent (refused told)
refused-told (Ok reject) = silent-one (pdu.Reject reject) (λ i. refl)
refused-told (Err memory) = silent-none

negotiated-told : (row : ClientRow) (told : Result InitiateAnswer ServiceError) → row.association ≡ Idle → Silent (negotiated told) ⊎ Opening row (negotiated told)
negotiated-told row (Ok answer) idle = inr (record { values = values_of answer; answer = pdu.InitiateResponse answer; are = refl; quiet = λ i. refl; idle = idle })
negotiated-told row (Err refusal) idle = inl (silent-one (pdu.InitiateError refusal) (λ i. refl))

admitted-told : (row : ClientRow) (may : Result Unit NotAdmitted) (invoke : ℕ) (asked : Request) → Told row (admitted may invoke asked)
admitted-told row (Err not_admitted.Waiting) invoke asked = inl (silent-reject invoke InvalidInvokeId)
admitted-told row (Err not_admitted.Outstanding) invoke asked = inl (silent-reject invoke MaxServOutstandingExceeded)
admitted-told row (Ok may) invoke asked = tt

requested-told : (row : ClientRow) (too_deep : Bool) (invoke : ℕ) (asked : Request) → Told row (requested too_deep row invoke asked)
requested-told row true invoke asked = inl (silent-reject invoke MaxRecursionExceeded)
requested-told row false invoke asked = admitted-told row (admission invoke row) invoke asked

cancelled-told : (row : ClientRow) (waits : Bool) (invoke : ℕ) → is_waiting invoke row.waiting ≡ waits → Told row (cancelled waits invoke)
cancelled-told row true invoke is = is
cancelled-told row false invoke is = inl (silent-one (pdu.CancelError (record { invoke = invoke; error = unknown_error })) (λ i. refl))

idle-told : (row : ClientRow) (heard : Result Pdu Refusal) → row.association ≡ Idle → Told row (idle_verdict heard)
idle-told row (Ok (pdu.InitiateRequest proposal)) idle = negotiated-told row (negotiation proposal) idle
idle-told row heard idle = inl silent-abort

open-told : (values : Negotiated) (row : ClientRow) (heard : Result Pdu Refusal) → Told row (open_verdict values row heard)
open-told values row (Err refusal) = inl (refused-told (reject_of refusal))
open-told values row (Ok (pdu.InitiateRequest proposal)) = tt
open-told values row (Ok pdu.ConcludeRequest) = by-conclusion (Told row) tt (inl silent-keeps) row.waiting row.asked
open-told values row (Ok (pdu.CancelRequest invoke)) = cancelled-told row (is_waiting invoke row.waiting) invoke refl
open-told values row (Ok (pdu.ConfirmedRequest invoke asked)) = requested-told row (nat_lt values.nesting (depth_of (pdu.ConfirmedRequest invoke asked))) invoke asked
open-told values row (Ok (pdu.ModifiedRequest invoke modifier asked)) = inl (silent-reject invoke _)
open-told values row (Ok (pdu.HeardResponse number told)) =
    by-response (Told row) (λ n came. tt) (λ n. inl (silent-settles n)) (inl silent-invalid) (inl silent-none) number told (asked_of number row.asked)
open-told values row (Ok (pdu.HeardError number)) =
    by-error (Told row) (λ n came. tt) (λ n. inl (silent-settles n)) (inl silent-invalid) (inl silent-none) number (asked_of number row.asked)
open-told values row (Ok (pdu.HeardReject number)) =
    by-rejected (Told row) (λ n came. tt) (λ n. inl (silent-settles n)) (inl silent-invalid) (inl silent-none) number row.asked
open-told values row (Ok heard) = inl silent-none

by-told : (row : ClientRow) (a : Association) (heard : Result Pdu Refusal) → row.association ≡ a → Told row (verdict_by a row heard)
by-told row Idle heard is = idle-told row heard is
by-told row (Open values) heard is = open-told values row heard

pub verdict-told : (row : ClientRow) (octets : List ℕ) → Told row (verdict row octets)
verdict-told row octets = by-told row row.association (pdu_heard row.constants.edition octets) refl

pub resolved-told : (t : Tables) (row : ClientRow) (v : Verdict) → Told row v → Told row (resolved t row v)
resolved-told t row = by-tables (Told row) t row (λ invoke asked is. tt) (λ number came is. tt) (λ is. inl silent-keeps)

-- A request that waits no more is answered.
use Rattle.std.specs.Prelude.{◌≡◌, ◌⊎◌, ℕ, zero, suc, nat_lt, Bool, true, false, Option, None, Some, List, [], ◌∷◌, ◌++◌, option_to_list, Contains, Result, Ok, Err, if◌then◌else◌, refl}
use Rattle.std.proofs.Common.{ap, subst, arith, inl, inr}
use Rattle.std.proofs.lemmas.List.Elements.{Contains-append_left, Contains-append_right, Contains-append_cases}
use Rattle.mms_types.specs.declared.event.CellEvent.{CellEvent}
use Rattle.mms_types.specs.declared.event.CellEvent.TheVariants.{Heard, Lost, Tick, Ends, Drain}
use Rattle.mms_types.specs.declared.event.What.{What}
use Rattle.mms_types.specs.declared.event.What.TheVariants.{Octets}
use Rattle.mms_types.specs.declared.pdu.Answer.TheVariants as answer
use Rattle.mms_pdu.specs.Pdus.{pdu_octets}
use Rattle.mms_types.specs.declared.initiate.InitiateAnswer.{InitiateAnswer}
use Rattle.mms_types.specs.declared.memory.Memory.{Memory}
use Rattle.mms_types.specs.declared.pdu.Answer.{Answer}
use Rattle.mms_types.specs.declared.pdu.Pdu.{Pdu}
use Rattle.mms_types.specs.declared.pdu.Pdu.TheVariants as pdu
use Rattle.mms_types.specs.declared.pdu.Reject.{Reject}
use Rattle.mms_types.specs.declared.pdu.Request.{Request}
use Rattle.mms_types.specs.declared.pdu.Request.TheVariants as request
use Rattle.mms_types.specs.declared.service_error.ServiceError.{ServiceError}
use Rattle.mms_pdu.specs.declared.refusal.Refusal.{Refusal}
use Rattle.mms_pdu.specs.Heard.{pdu_heard}
use Rattle.mms_pdu.specs.Hearing.{depth_of}
use Rattle.mms_pdu.specs.Rejects.{reject_of}
use Rattle.mms_types.specs.declared.asked.Asked.{Asked}
use Rattle.mms_types.specs.declared.asked.Asked.TheVariants as asks
use Rattle.mms_types.specs.declared.pdu.ClientAnswer.{ClientAnswer}
use Rattle.mms_types.specs.declared.pdu.ClientAnswer.TheVariants.{DownloadSegment, TerminateDownloadSequence}
use Rattle.association.specs.Asked.{asked_of}
use Rattle.association.specs.declared.unanswered.Unanswered.{Unanswered}
use Rattle.domain_load.specs.Loading.{asked_next}
use Rattle.serve_domains.specs.Domains.{asks_next, replied_to, reply_of}
use Rattle.serve_domains.specs.Tables.{DomainTables}
use Rattle.association.specs.Admission.{admission}
use Rattle.association.specs.Client.{ClientRow}
use Rattle.association.specs.Negotiation.{negotiation}
use Rattle.association.specs.Waiting.{is_waiting}
use Rattle.association.specs.declared.client_part.NotAdmitted.{NotAdmitted}
use Rattle.association.specs.declared.client_part.NotAdmitted.TheVariants as not_admitted
use Rattle.association.specs.declared.negotiation.Association.{Association}
use Rattle.association.specs.declared.negotiation.Association.TheVariants.{Idle, Open}
use Rattle.association.specs.declared.negotiation.Negotiated.{Negotiated}
use Rattle.association.specs.declared.waiting.Waiting.{Waiting}
use Rattle.sem_ticks.specs.declared.granted.Granted.{Granted}
use Rattle.sem_ticks.specs.Granted.{lost_granted}
use Rattle.mms_time.specs.Services.{take_told}
use Rattle.sem_ticks.specs.Granted.{relinquish_granted}
use Rattle.mms_time.specs.declared.taking.TakeDone.{TakeDone}
use Rattle.mms_time.specs.declared.taking.TakeDone.TheVariants as taken
use Rattle.sem_ticks.specs.declared.ticks.Happening.{Happening}
use Rattle.sem_ticks.specs.declared.ticks.Happening.TheVariants as happens
use Rattle.mms_types.specs.declared.condition.Notice.{Notice}
use Rattle.mms_types.specs.declared.condition.Turned.{Turned}
use Rattle.serve_events.specs.Told.{notices_told, turns_told}
use Rattle.event_enrol.specs.Enrolments.{Rows as Enrolments, notices}
use Rattle.serve_events.specs.Events.{alter_condition, alter_turns, delete_turns, trigger_turns}
use Rattle.cell_services.specs.Requests.{told_in}
use Rattle.cell_ticks.specs.declared.happening.DatedHappening.{DatedHappening}
use Rattle.cell_ticks.specs.declared.happening.Happening.{Happening as DeviceHappening}
use Rattle.cell_ticks.specs.declared.happening.Happening.TheVariants as device
use Rattle.parted_state.specs.Served.{done_of, row_of}
use Rattle.cell_client.specs.Association.{Verdict, Tells, Takes, Concludes, Cancels, Aborts, admitted, cancel_error, cancelled, concluded, confirmed_error, idle_verdict, loss_told, negotiated, open_verdict, other_error, sends, refused, requested, timeout_error, verdict, verdict_by, Came, Replies, Exhausts, answered_by, failed_by, heard_response, heard_error, heard_reject, rejected}
use Rattle.cell_client.specs.Effects.{Effect, Sends, Opens, Closes, Waits, Answers, Drains, tell, Asks, Settles}
use Rattle.cell_services.specs.Services.{cause, effect, grant_told, grants_told, relinquish_outcome, take_outcome, reply_in, cause_of, effect_of}
use Rattle.cell_client.specs.Requests.{answer_told, fits, refuses, request_told, size_of}
use Rattle.cell_services.specs.Serving.{all_told, also_lost, also_told, dated_told, happened_told, happening_told, meanwhile, own_told, services, resolved}
use Rattle.cell_services.specs.Tables.{Tables, moment_of, own_events}
use Rattle.step_sound.specs.Answered.{AreAnswered, IsAnswerTo, grant_answer}
use Rattle.step_parts.specs.Partition.{cell}
use Rattle.step_parts.specs.State.{State}
use Rattle.step_sound.proofs.Walked.{by_also, by_tables}

-- ---- what tells nothing of requests that wait no more

abbrev Plain : Effect → Type 0
Plain (Sends output) = Unit {0}
Plain (Opens values) = Unit {0}
Plain Closes = Unit {0}
Plain (Waits request) = Unit {0}
Plain (Answers invoke) = ⊥
Plain (Asks kind domain) = Unit {0}
Plain (Settles number) = Unit {0}
Plain Drains = Unit {0}

abbrev ArePlain : List (ℕ × Effect) → Type 0
ArePlain [] = Unit {0}
ArePlain (t ∷ told) = Plain t.1 × ArePlain told

abbrev AllPlain : List Effect → Type 0
AllPlain [] = Unit {0}
AllPlain (effect ∷ effects) = Plain effect × AllPlain effects

none_there : (told : List (ℕ × Effect)) → ArePlain told → (client invoke : ℕ) → Contains told (client, Answers invoke) → ⊥
none_there [] plain client invoke is = absurd (omega (arith, is.1))
none_there (t ∷ told) plain client invoke (zero, low, e) = subst Plain (ap (λ (x : ℕ × Effect). x.1) e) plain.0
none_there (t ∷ told) plain client invoke (suc k, low, e) = none_there told plain.1 client invoke (k, omega (arith, low), e)

plain_answered : (told : List (ℕ × Effect)) → ArePlain told → AreAnswered told
plain_answered told plain client invoke is = absurd (none_there told plain client invoke is)

tell_plain : (client : ℕ) (effects : List Effect) → AllPlain effects → ArePlain (tell client effects)
tell_plain client [] plain = tt
tell_plain client (effect ∷ effects) plain = (plain.0, tell_plain client effects plain.1)

both_answered : (xs ys : List (ℕ × Effect)) → AreAnswered xs → AreAnswered ys → AreAnswered (xs ++ ys)
both_answered xs ys one other client invoke is = by_case (Contains-append_cases xs ys (client, Answers invoke) is)
  where
    by_case : Contains xs (client, Answers invoke) ⊎ Contains ys (client, Answers invoke) → (output : What) × IsAnswerTo invoke output × Contains (xs ++ ys) (client, Sends output)
    by_case (inl here) =
        let found = one client invoke here in (found.0, found.1, Contains-append_left xs ys (client, Sends found.0) found.2)
    by_case (inr there) =
        let found = other client invoke there in (found.0, found.1, Contains-append_right xs ys (client, Sends found.0) found.2)

-- a request waits no more, and its answer is told behind that
answered_behind : (client invoke : ℕ) (output : What) (rest : List (ℕ × Effect)) → IsAnswerTo invoke output → Contains rest (client, Sends output) → ArePlain rest
    → AreAnswered ((client, Answers invoke) ∷ rest)
answered_behind client invoke output rest answers there plain who what (zero, low, e) =
    let same : client ≡ who = ap (λ (x : ℕ × Effect). x.0) e in
    let told : Answers invoke ≡ Answers what = ap (λ (x : ℕ × Effect). x.1) e in
    let number : invoke ≡ what = cc told in (
      output,
      subst (λ (i : ℕ). IsAnswerTo i output) number answers,
      subst (λ (c : ℕ). Contains ((client, Answers invoke) ∷ rest) (c, Sends output)) same
          (Contains-append_right ((client, Answers invoke) ∷ []) rest (client, Sends output) there),
    )
answered_behind client invoke output rest answers there plain who what (suc k, low, e) = absurd (none_there rest plain who what (k, omega (arith, low), e))

-- ---- tokens that are granted, and time

abbrev refusal : ℕ → ServiceError → What
refusal invoke error = Octets (pdu_octets (confirmed_error invoke error))

grant_answered : (g : Granted) → AreAnswered (grant_told g)
grant_answered g = answered_behind g.client g.invoke (grant_answer g) ((g.client, Sends (grant_answer g)) ∷ []) (inl (answer.TakeControl g.answer, refl)) (0, omega arith, refl) (tt, tt)

grants_answered : (grants : List Granted) → AreAnswered (grants_told grants)
grants_answered [] = plain_answered [] tt
grants_answered (g ∷ grants) = both_answered (grant_told g) (grants_told grants) (grant_answered g) (grants_answered grants)

happening_answered : (x : Happening) → AreAnswered (happening_told x)
happening_answered (happens.WaitEnds client invoke) =
    answered_behind client invoke (refusal invoke timeout_error) ((client, Sends (refusal invoke timeout_error)) ∷ []) (inr (timeout_error, refl)) (0, omega arith, refl) (tt, tt)
happening_answered (happens.Grants grant) = grant_answered grant
happening_answered (happens.Aborts client) = plain_answered (happening_told (happens.Aborts client)) (tt, (tt, tt))

-- what is told of transitions of event conditions
notices_plain : (turned : Turned) (list : List Notice) (rest : List (ℕ × Effect)) → ArePlain rest → ArePlain (notices_told turned list ++ rest)
notices_plain turned [] rest plain = plain
notices_plain turned (n ∷ ns) rest plain = (tt, notices_plain turned ns rest plain)

notices_alone : (turned : Turned) (list : List Notice) → ArePlain (notices_told turned list)
notices_alone turned [] = tt
notices_alone turned (n ∷ ns) = (tt, notices_alone turned ns)

turns_plain : (rows : Enrolments) (turns : List Turned) → ArePlain (turns_told rows turns)
turns_plain rows [] = tt
turns_plain rows (turned ∷ turns) = notices_plain turned (notices turned rows) (turns_told rows turns) (turns_plain rows turns)

turns_answered : (rows : Enrolments) (turns : List Turned) → AreAnswered (turns_told rows turns)
turns_answered rows turns = plain_answered (turns_told rows turns) (turns_plain rows turns)

one_answered : (h : DeviceHappening) → AreAnswered (happened_told h)
one_answered (device.Semaphores happening) = happening_answered happening
one_answered (device.Turns told) = plain_answered (notices_told told.turned told.notices) (notices_alone told.turned told.notices)

happened_answered : (happened : List DatedHappening) → AreAnswered (all_told happened)
happened_answered [] = plain_answered [] tt
happened_answered (x ∷ rest) = both_answered (dated_told x) (all_told rest) (one_answered x.happening) (happened_answered rest)

-- ---- what a client is told by what it sends

abbrev TellsPlain : Verdict → Type 0
TellsPlain (Tells effects) = AllPlain effects
TellsPlain other = Unit {0}

refused_plain : (told : Result Reject Memory) → AllPlain (refused told)
refused_plain (Ok reject) = (tt, tt)
refused_plain (Err memory) = tt

negotiated_plain : (told : Result InitiateAnswer ServiceError) → AllPlain (negotiated told)
negotiated_plain (Ok told) = (tt, (tt, tt))
negotiated_plain (Err refusal) = (tt, tt)

admitted_plain : (may : Result Unit NotAdmitted) (invoke : ℕ) (asked : Request) → TellsPlain (admitted may invoke asked)
admitted_plain (Err not_admitted.Waiting) invoke asked = (tt, tt)
admitted_plain (Err not_admitted.Outstanding) invoke asked = (tt, tt)
admitted_plain (Ok allowed) invoke asked = tt

requested_plain : (too_deep : Bool) (row : ClientRow) (invoke : ℕ) (asked : Request) → TellsPlain (requested too_deep row invoke asked)
requested_plain true row invoke asked = (tt, tt)
requested_plain false row invoke asked = admitted_plain (admission invoke row) invoke asked

concluded_plain : (waiting : List Waiting) (rows : List Unanswered) → TellsPlain (concluded waiting rows)
concluded_plain [] [] = tt
concluded_plain [] (first ∷ rest) = (tt, tt)
concluded_plain (first ∷ rest) rows = (tt, tt)

answered_plain : (number : ℕ) (kind : Asked) (told : ClientAnswer) → TellsPlain (answered_by number kind told)
answered_plain number asks.Segment (DownloadSegment segment) = tt
answered_plain number asks.Segment TerminateDownloadSequence = (tt, tt)
answered_plain number asks.Terminate TerminateDownloadSequence = tt
answered_plain number asks.Terminate (DownloadSegment segment) = (tt, tt)
answered_plain number asks.Discard TerminateDownloadSequence = (tt, tt)
answered_plain number asks.Discard (DownloadSegment segment) = (tt, tt)

failed_plain : (number : ℕ) (kind : Asked) → TellsPlain (failed_by number kind)
failed_plain number asks.Segment = tt
failed_plain number asks.Terminate = tt
failed_plain number asks.Discard = (tt, tt)

response_plain : (number : ℕ) (told : ClientAnswer) (o : Option (Asked × List ℕ)) → TellsPlain (heard_response number told o)
response_plain number told None = (tt, tt)
response_plain number told (Some of) = answered_plain number of.0 told

error_plain : (number : ℕ) (o : Option (Asked × List ℕ)) → TellsPlain (heard_error number o)
error_plain number None = (tt, tt)
error_plain number (Some of) = failed_plain number of.0

reject_plain : (number : ℕ) (o : Option (Asked × List ℕ)) → TellsPlain (heard_reject number o)
reject_plain number None = tt
reject_plain number (Some of) = failed_plain number of.0

rejected_plain : (number : Option ℕ) (rows : List Unanswered) → TellsPlain (rejected number rows)
rejected_plain None rows = tt
rejected_plain (Some number) rows = reject_plain number (asked_of number rows)

cancelled_plain : (waits : Bool) (invoke : ℕ) → TellsPlain (cancelled waits invoke)
cancelled_plain true invoke = tt
cancelled_plain false invoke = (tt, tt)

idle_plain : (heard : Result Pdu Refusal) → TellsPlain (idle_verdict heard)
idle_plain (Ok (pdu.InitiateRequest proposal)) = negotiated_plain (negotiation proposal)
idle_plain heard = (tt, tt)

open_plain : (values : Negotiated) (row : ClientRow) (heard : Result Pdu Refusal) → TellsPlain (open_verdict values row heard)
open_plain values row (Err refusal) = refused_plain (reject_of refusal)
open_plain values row (Ok (pdu.InitiateRequest proposal)) = tt
open_plain values row (Ok pdu.ConcludeRequest) = concluded_plain row.waiting row.asked
open_plain values row (Ok (pdu.CancelRequest invoke)) = cancelled_plain (is_waiting invoke row.waiting) invoke
open_plain values row (Ok (pdu.ConfirmedRequest invoke asked)) = requested_plain (nat_lt values.nesting (depth_of (pdu.ConfirmedRequest invoke asked))) row invoke asked
open_plain values row (Ok (pdu.ModifiedRequest invoke modifier asked)) = (tt, tt)
open_plain values row (Ok (pdu.HeardResponse number told)) = response_plain number told (asked_of number row.asked)
open_plain values row (Ok (pdu.HeardError number)) = error_plain number (asked_of number row.asked)
open_plain values row (Ok (pdu.HeardReject number)) = rejected_plain number row.asked
open_plain values row (Ok heard) = tt

verdict_plain : (row : ClientRow) (a : Association) (heard : Result Pdu Refusal) → TellsPlain (verdict_by a row heard)
verdict_plain row Idle heard = idle_plain heard
verdict_plain row (Open values) heard = open_plain values row heard

resolved_plain : (t : Tables) (row : ClientRow) (v : Verdict) → TellsPlain v → TellsPlain (resolved t row v)
resolved_plain t row v plain = by_tables t row TellsPlain (λ invoke. tt) tt (tt, tt) v plain

request_plain : (size invoke : ℕ) (why : Option ServiceError) (told : Option Answer) → AllPlain (request_told size invoke why told)
request_plain size invoke (Some refusal) told = (tt, tt)
request_plain size invoke None None = tt
request_plain size invoke None (Some a) = by_test (fits size invoke (Some a))
  where
    by_test : (b : Bool) → AllPlain (if b then answer_told invoke (Some a) else refuses invoke other_error ∷ [])
    by_test true = (tt, tt)
    by_test false = (tt, tt)

own_answered : (t : Tables) (row : ClientRow) (client : ℕ) (v : Verdict) → TellsPlain v → AreAnswered (tell client (own_told t row v))
own_answered t row client (Tells effects) plain = plain_answered (tell client effects) (tell_plain client effects plain)
own_answered t row client (Takes invoke asked) plain =
    plain_answered (tell client (own_told t row (Takes invoke asked)))
    (tell_plain client (own_told t row (Takes invoke asked)) (request_plain (size_of row.association) invoke (cause t row asked) (effect t row invoke asked).answer))
own_answered t row client (Replies number came) plain =
    plain_answered (tell client (own_told t row (Replies number came)))
    (tell_plain client (own_told t row (Replies number came))
    (request_plain (size_of row.association) number (cause_of t row (reply_in number came)) (effect_of t row number (reply_in number came)).answer))
own_answered t row client (Exhausts invoke) plain = plain_answered (tell client (own_told t row (Exhausts invoke))) (tt, (tt, (tt, tt)))
own_answered t row client Concludes plain = plain_answered (tell client (own_told t row Concludes)) (tt, (tt, tt))
own_answered t row client (Cancels invoke) plain =
    answered_behind client invoke (refusal invoke cancel_error) ((client, sends (pdu.CancelResponse invoke)) ∷ (client, Sends (refusal invoke cancel_error)) ∷ [])
    (inr (cancel_error, refl)) (1, omega arith, refl) (tt, (tt, tt))
own_answered t row client Aborts plain = plain_answered (tell client (own_told t row Aborts)) (tt, (tt, tt))

effect_answered : (t : Tables) (row : ClientRow) (invoke : ℕ) (asked : Request) → AreAnswered (effect t row invoke asked).also
effect_answered t row invoke (request.TakeControl x) = by_done (take_told row.client x t.semaphores)
  where
    by_done : (o : Option TakeDone) → AreAnswered (take_outcome t row.client invoke x o).also
    by_done None = plain_answered [] tt
    by_done (Some (taken.Answered told)) = plain_answered [] tt
    by_done (Some (taken.Waits entry)) = plain_answered (take_outcome t row.client invoke x (Some (taken.Waits entry))).also (tt, tt)
effect_answered t row invoke (request.RelinquishControl x) = by_grant (relinquish_granted row.client x t.semaphores)
  where
    by_grant : (o : Option (Option Granted)) → AreAnswered (relinquish_outcome t row.client x o).also
    by_grant None = plain_answered [] tt
    by_grant (Some grant) = grants_answered (option_to_list grant)
effect_answered t row invoke (request.DeleteEventCondition x) = turns_answered t.events.enrolments (delete_turns row.client (moment_of t) x t.events)
effect_answered t row invoke (request.AlterEventConditionMonitoring x) =
    turns_answered t.events.enrolments (alter_turns row.client (moment_of t) (told_in own_events t row (alter_condition x)).truth x t.events)
effect_answered t row invoke (request.TriggerEvent x) = turns_answered t.events.enrolments (trigger_turns row.client (moment_of t) x.name t.events)
effect_answered t row invoke (request.InitiateDownloadSequence x) = plain_answered (effect t row invoke (request.InitiateDownloadSequence x)).also (tt, tt)
effect_answered t row invoke asked = plain_answered [] tt

reply_plain : (client number : ℕ) (came : Came) (o : Option (Asked × List ℕ)) (d : DomainTables) → ArePlain (replied_to client number came o d).also
reply_plain client number came None d = tt
reply_plain client number came (Some of) d = (tt, next (asked_next (reply_of came of) d.domains))
  where
    next : (o : Option Asked) → ArePlain (asks_next client o of.1)
    next None = tt
    next (Some kind) = (tt, tt)

also_answered : (t : Tables) (row : ClientRow) (v : Verdict) → AreAnswered (also_told t row v)
also_answered t row v =
    by_also t row AreAnswered (plain_answered [] tt) (grants_answered (lost_granted row.client (moment_of t) t.semaphores)) (effect_answered t row)
    (λ number came. plain_answered _ (reply_plain row.client number came (asked_of number row.asked) t.domains)) v

loss_answered : (client : ℕ) (a : Association) → AreAnswered (tell client (loss_told a))
loss_answered client Idle = plain_answered [] tt
loss_answered client (Open values) = plain_answered (tell client (loss_told (Open values))) (tt, tt)

lost_answered : (a : Association) (client : ℕ) (t : Tables) → AreAnswered (also_lost a client t)
lost_answered Idle client t = plain_answered [] tt
lost_answered (Open values) client t = grants_answered (lost_granted client (moment_of t) t.semaphores)

-- ---- each event

pub all_answered : (s : State) (event : CellEvent) → AreAnswered (done_of cell services s event).told
all_answered s (Heard client octets) =
    let row = row_of cell services s (Heard client octets) in
    let now = resolved (cell.tables_of s) row (verdict row octets) in
    both_answered (tell client (own_told (cell.tables_of s) row now)) (also_told (cell.tables_of s) row now)
    (own_answered (cell.tables_of s) row client now
    (resolved_plain (cell.tables_of s) row (verdict row octets) (verdict_plain row row.association (pdu_heard row.constants.edition octets))))
    (also_answered (cell.tables_of s) row now)
all_answered s (Lost client) =
    let row = row_of cell services s (Lost client) in
    both_answered (tell client (loss_told row.association)) (also_lost row.association row.client (cell.tables_of s)) (loss_answered client row.association)
    (lost_answered row.association row.client (cell.tables_of s))
all_answered s (Tick ms) = happened_answered (meanwhile ms (cell.tables_of s)).happened
all_answered s (Ends name) = plain_answered [] tt
all_answered s (Drain client) = plain_answered (tell client (Drains ∷ [])) (tt, tt)

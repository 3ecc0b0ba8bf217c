-- What is sent to a client is what its outbox gains, until the client takes it away.
use Rattle.std.proofs.Common.{◌≡◌, ℕ, zero, suc, ◌-◌, ◌<◌, ◌≤◌, Bool, true, false, cond, ◌==◌, nat_lt, List, [], ◌∷◌, ◌++◌, append-nil, append_assoc, fold, length, slice_get, Option, None, Some, option_map, option_to_list, Result, Ok, Err, if◌then◌else◌, refl, sym, ◌∙◌, ap, subst, arith}
use Rattle.mms_types.specs.declared.asked.Asked.{Asked}
use Rattle.mms_types.specs.declared.event.CellEvent.{CellEvent}
use Rattle.mms_types.specs.declared.event.CellEvent.TheVariants.{Heard, Lost, Tick, Ends, Drain}
use Rattle.mms_types.specs.declared.event.What.{What}
use Rattle.mms_types.specs.declared.initiate.InitiateAnswer.{InitiateAnswer}
use Rattle.mms_types.specs.declared.memory.Memory.{Memory}
use Rattle.mms_types.specs.declared.pdu.Answer.{Answer}
use Rattle.mms_types.specs.declared.pdu.Pdu.{Pdu}
use Rattle.mms_types.specs.declared.pdu.Pdu.TheVariants as pdu
use Rattle.mms_types.specs.declared.pdu.Reject.{Reject}
use Rattle.mms_types.specs.declared.pdu.Request.{Request}
use Rattle.mms_types.specs.declared.pdu.Request.TheVariants as request
use Rattle.mms_types.specs.declared.semaphore.RelinquishControl.{RelinquishControl}
use Rattle.mms_types.specs.declared.semaphore.TakeControl.{TakeControl}
use Rattle.mms_types.specs.declared.service_error.ServiceError.{ServiceError}
use Rattle.mms_pdu.specs.declared.refusal.Refusal.{Refusal}
use Rattle.mms_pdu.specs.Heard.{pdu_heard}
use Rattle.mms_pdu.specs.Hearing.{depth_of}
use Rattle.mms_pdu.specs.Rejects.{reject_of}
use Rattle.association.specs.declared.client_part.NotAdmitted.{NotAdmitted}
use Rattle.association.specs.declared.client_part.NotAdmitted.TheVariants as not_admitted
use Rattle.association.specs.declared.negotiation.Association.{Association}
use Rattle.association.specs.declared.negotiation.Association.TheVariants.{Idle, Open}
use Rattle.association.specs.declared.negotiation.Negotiated.{Negotiated}
use Rattle.association.specs.Admission.{admission, waiting_if}
use Rattle.association.specs.Asked.{asked_of}
use Rattle.association.specs.Client.{ClientRow}
use Rattle.association.specs.Negotiation.{negotiation}
use Rattle.association.specs.Waiting.{is_waiting}
use Rattle.cell_config.specs.declared.config.Config.{Config}
use Rattle.mms_time.specs.Services.{take_told}
use Rattle.mms_time.specs.declared.taking.TakeDone.{TakeDone}
use Rattle.mms_time.specs.declared.taking.TakeDone.TheVariants as taken
use Rattle.parted_state.specs.ListsLaws.{get_changed, get_change, length-change}
use Rattle.parted_state.specs.Served.{delivered, reached, row_at}
use Rattle.sem_ticks.specs.Granted.{lost_granted, relinquish_granted}
use Rattle.sem_ticks.specs.declared.granted.Granted.{Granted}
use Rattle.cell_ticks.specs.declared.happening.DatedHappening.{DatedHappening}
use Rattle.cell_ticks.specs.declared.happening.Happening.{Happening as DeviceHappening}
use Rattle.cell_ticks.specs.declared.happening.Happening.TheVariants as device
use Rattle.serve_events.specs.Told.{notices_told}
use Rattle.sem_ticks.specs.declared.ticks.Happening.TheVariants as happens
use Rattle.cell_client.specs.Association.{Came, Verdict, Tells, Takes, Replies, Exhausts, Concludes, Cancels, Aborts, verdict, verdict_by, idle_verdict, open_verdict, admitted, requested, cancelled, negotiated, refused, loss_told, other_error}
use Rattle.cell_client.specs.Effects.{Effect, Sends, Opens, Closes, Waits, Answers, Asks, Settles, Drains, felt, tell}
use Rattle.cell_services.specs.Services.{cause, cause_of, effect, effect_of, grants_told, relinquish_outcome, reply_in, take_outcome}
use Rattle.cell_client.specs.Requests.{answer_told, fits, refuses, request_told, size_of}
use Rattle.cell_services.specs.Serving.{all_told, also_lost, also_told, dated_told, happened_told, is_served, is_served_in, meanwhile, own_told, resolved}
use Rattle.cell_services.specs.Tables.{Tables, moment_of}
use Rattle.domain_load.specs.Loading.{asked_next}
use Rattle.serve_domains.specs.Domains.{asks_next, replied_to, reply_of}
use Rattle.serve_domains.specs.Tables.{DomainTables}
use Rattle.step_parts.specs.Partition.{cell}
use Rattle.step_parts.specs.State.{State, start}
use Rattle.step_parts.specs.Step.{outbox_in, outbox_of, replay, step}
use Rattle.step_parts.proofs.PartsAfter.{step_sized}
use Rattle.cell_laws.specs.Tally.{Account, account, account_after, drained, drains, opens, sent_by, sent_to, told_in}
use Rattle.cell_laws.proofs.Bound.{nat-same, nat-test}
use Rattle.cell_laws.proofs.Verdicts.{by-conclusion, by-error, by-rejected, by-response, by-tables}
use Rattle.cell_laws.proofs.Notices.{AreNotices, alteration-notices, deletion-notices, told-notices, trigger-notices}

-- ---- nothing that is told takes an outbox away

abbrev IsKept : Effect → Type 0
IsKept (Sends output) = Unit {0}
IsKept (Opens values) = Unit {0}
IsKept Closes = Unit {0}
IsKept (Waits request) = Unit {0}
IsKept (Answers invoke) = Unit {0}
IsKept (Asks kind domain) = Unit {0}
IsKept (Settles number) = Unit {0}
IsKept Drains = ⊥

abbrev AreKept : List (ℕ × Effect) → Type 0
AreKept [] = Unit {0}
AreKept (t ∷ told) = IsKept t.1 × AreKept told

abbrev AllKept : List Effect → Type 0
AllKept [] = Unit {0}
AllKept (e ∷ effects) = IsKept e × AllKept effects

both : (xs ys : List (ℕ × Effect)) → AreKept xs → AreKept ys → AreKept (xs ++ ys)
both [] ys a b = b
both (x ∷ xs) ys a b = (a.0, both xs ys a.1 b)

kept-tell : (client : ℕ) (effects : List Effect) → AllKept effects → AreKept (tell client effects)
kept-tell client [] a = tt
kept-tell client (e ∷ effects) a = (a.0, kept-tell client effects a.1)

-- ---- one effect

one-sent : (effect : Effect) (row : ClientRow) → IsKept effect → (felt effect row).outbox ≡ row.outbox ++ sent_by row effect
one-sent (Sends output) row kept = refl
one-sent (Opens values) row kept = sym (append-nil row.outbox)
one-sent Closes row kept = sym (append-nil row.outbox)
one-sent (Waits request) row kept = by_admission (admission request.invoke row)
  where
    by_admission : (r : Result Unit NotAdmitted) → (waiting_if r request row).outbox ≡ row.outbox ++ []
    by_admission (Ok may) = sym (append-nil row.outbox)
    by_admission (Err refusal) = sym (append-nil row.outbox)
one-sent (Answers invoke) row kept = sym (append-nil row.outbox)
one-sent (Asks kind domain) row kept = refl
one-sent (Settles number) row kept = sym (append-nil row.outbox)
one-sent Drains row kept = absurd kept

row-sent : (effect : Effect) (rows : List ClientRow) (k : ℕ) → IsKept effect → k < length rows
    → outbox_in (option_map (felt effect) (slice_get rows k)) ≡ outbox_in (slice_get rows k) ++ sent_by (row_at cell (suc k) rows) effect
row-sent effect [] k kept within = absurd (omega (arith, within))
row-sent effect (row ∷ rows) zero kept within = one-sent effect row kept
row-sent effect (row ∷ rows) (suc k) kept within = row-sent effect rows k kept (omega (arith, within))

-- an effect on another row
other-stays : (effect : Effect) (c k : ℕ) (rows : List ClientRow) → (suc k == c) ≡ false → slice_get (reached cell c effect rows) k ≡ slice_get rows k
other-stays effect zero k rows other = refl
other-stays effect (suc c) k rows other = get_change (felt effect) rows c k (λ same. cc (sym (nat-test (suc k) (suc c) (ap suc same)) ∙ other))

reached-sent : (effect : Effect) (c k : ℕ) (rows : List ClientRow) → IsKept effect → k < length rows
    → outbox_in (slice_get (reached cell c effect rows) k) ≡ outbox_in (slice_get rows k) ++ (if suc k == c then sent_by (row_at cell (suc k) rows) effect else [])
reached-sent effect c k rows kept within = by_test (suc k == c) refl
  where
    here : (d : ℕ) → suc k ≡ d → outbox_in (slice_get (reached cell d effect rows) k) ≡ outbox_in (slice_get rows k) ++ sent_by (row_at cell (suc k) rows) effect
    here zero same = absurd (omega (arith, same))
    here (suc d) same =
        let at : k ≡ d = omega (arith, same) in
        ap (λ (j : ℕ). outbox_in (slice_get (reached cell (suc j) effect rows) k)) (sym at)
        ∙ ap outbox_in (get_changed (felt effect) rows k) ∙ row-sent effect rows k kept within

    by_test : (b : Bool) → (suc k == c) ≡ b → outbox_in (slice_get (reached cell c effect rows) k) ≡ outbox_in (slice_get rows k) ++ (if b then sent_by (row_at cell (suc k) rows) effect else [])
    by_test true e = here c (nat-same (suc k) c e)
    by_test false e = ap outbox_in (other-stays effect c k rows e) ∙ sym (append-nil (outbox_in (slice_get rows k)))

-- ---- all that is told

pub reached-many : (c : ℕ) (effect : Effect) (rows : List ClientRow) → length (reached cell c effect rows) ≡ length rows
reached-many zero effect rows = refl
reached-many (suc c) effect rows = length-change (felt effect) rows c

pub told-many : (told : List (ℕ × Effect)) (rows : List ClientRow) → length (delivered cell told rows) ≡ length rows
told-many [] rows = refl
told-many (t ∷ told) rows = told-many told (reached cell t.0 t.1 rows) ∙ reached-many t.0 t.1 rows

told-sent : (told : List (ℕ × Effect)) (rows : List ClientRow) (k : ℕ) → AreKept told → k < length rows
    → outbox_in (slice_get (delivered cell told rows) k) ≡ outbox_in (slice_get rows k) ++ sent_to (suc k) rows told
told-sent [] rows k kept within = sym (append-nil (outbox_in (slice_get rows k)))
told-sent (t ∷ told) rows k kept within =
    let many = reached-many t.0 t.1 rows in
    told-sent told (reached cell t.0 t.1 rows) k kept.1 (omega (arith, many, within))
    ∙ ap (λ (l : List What). l ++ sent_to (suc k) (reached cell t.0 t.1 rows) told) (reached-sent t.1 t.0 k rows kept.0 within)
    ∙ append_assoc (outbox_in (slice_get rows k)) (if suc k == t.0 then sent_by (row_at cell (suc k) rows) t.1 else []) (sent_to (suc k) (reached cell t.0 t.1 rows) told)

-- ---- what octets come to takes no outbox away

abbrev Meant : Verdict → Type 0
Meant (Tells effects) = AllKept effects
Meant (Takes invoke asked) = Unit {0}
Meant (Replies number came) = Unit {0}
Meant (Exhausts invoke) = Unit {0}
Meant Concludes = Unit {0}
Meant (Cancels invoke) = Unit {0}
Meant Aborts = Unit {0}

refused-kept : (told : Result Reject Memory) → AllKept (refused told)
refused-kept (Ok reject) = (tt, tt)
refused-kept (Err memory) = tt

negotiated-kept : (told : Result InitiateAnswer ServiceError) → AllKept (negotiated told)
negotiated-kept (Ok answer) = (tt, (tt, tt))
negotiated-kept (Err refusal) = (tt, tt)

admitted-kept : (may : Result Unit NotAdmitted) (invoke : ℕ) (asked : Request) → Meant (admitted may invoke asked)
admitted-kept (Err not_admitted.Waiting) invoke asked = (tt, tt)
admitted-kept (Err not_admitted.Outstanding) invoke asked = (tt, tt)
admitted-kept (Ok may) invoke asked = tt

requested-kept : (too_deep : Bool) (row : ClientRow) (invoke : ℕ) (asked : Request) → Meant (requested too_deep row invoke asked)
requested-kept true row invoke asked = (tt, tt)
requested-kept false row invoke asked = admitted-kept (admission invoke row) invoke asked

cancelled-kept : (waits : Bool) (invoke : ℕ) → Meant (cancelled waits invoke)
cancelled-kept true invoke = tt
cancelled-kept false invoke = (tt, tt)

idle-kept : (heard : Result Pdu Refusal) → Meant (idle_verdict heard)
idle-kept (Ok (pdu.InitiateRequest proposal)) = negotiated-kept (negotiation proposal)
idle-kept heard = (tt, tt)

open-kept : (values : Negotiated) (row : ClientRow) (heard : Result Pdu Refusal) → Meant (open_verdict values row heard)
open-kept values row (Err refusal) = refused-kept (reject_of refusal)
open-kept values row (Ok (pdu.InitiateRequest proposal)) = tt
open-kept values row (Ok pdu.ConcludeRequest) = by-conclusion Meant tt (tt, tt) row.waiting row.asked
open-kept values row (Ok (pdu.CancelRequest invoke)) = cancelled-kept (is_waiting invoke row.waiting) invoke
open-kept values row (Ok (pdu.ConfirmedRequest invoke asked)) = requested-kept (nat_lt values.nesting (depth_of (pdu.ConfirmedRequest invoke asked))) row invoke asked
open-kept values row (Ok (pdu.ModifiedRequest invoke modifier asked)) = (tt, tt)
open-kept values row (Ok (pdu.HeardResponse number told)) = by-response Meant (λ n came. tt) (λ n. (tt, tt)) (tt, tt) tt number told (asked_of number row.asked)
open-kept values row (Ok (pdu.HeardError number)) = by-error Meant (λ n came. tt) (λ n. (tt, tt)) (tt, tt) tt number (asked_of number row.asked)
open-kept values row (Ok (pdu.HeardReject number)) = by-rejected Meant (λ n came. tt) (λ n. (tt, tt)) (tt, tt) tt number row.asked
open-kept values row (Ok heard) = tt

by-kept : (a : Association) (row : ClientRow) (heard : Result Pdu Refusal) → Meant (verdict_by a row heard)
by-kept Idle row heard = idle-kept heard
by-kept (Open values) row heard = open-kept values row heard

resolved-kept : (t : Tables) (row : ClientRow) (v : Verdict) → Meant v → Meant (resolved t row v)
resolved-kept t row = by-tables Meant t row (λ invoke asked is. tt) (λ number came is. tt) (λ is. (tt, tt))

-- ---- each event

grants-kept : (grants : List Granted) → AreKept (grants_told grants)
grants-kept [] = tt
grants-kept (g ∷ grants) = (tt, (tt, grants-kept grants))

notices-kept : (told : List (ℕ × Effect)) → AreNotices told → AreKept told
notices-kept [] are = tt
notices-kept (t ∷ told) are = (subst IsKept (sym are.0.is) tt, notices-kept told are.1)

happened-kept : (happened : List DatedHappening) → AreKept (all_told happened)
happened-kept [] = tt
happened-kept (x ∷ rest) = both (dated_told x) (all_told rest) (by_one x.happening) (happened-kept rest)
  where
    by_one : (h : DeviceHappening) → AreKept (happened_told h)
    by_one (device.Semaphores (happens.WaitEnds client invoke)) = (tt, (tt, tt))
    by_one (device.Semaphores (happens.Grants grant)) = (tt, (tt, tt))
    by_one (device.Semaphores (happens.Aborts client)) = (tt, (tt, tt))
    by_one (device.Turns told) = notices-kept (notices_told told.turned told.notices) (told-notices told.turned told.notices)

reply-kept : (client number : ℕ) (came : Came) (o : Option (Asked × List ℕ)) (d : DomainTables) → AreKept (replied_to client number came o d).also
reply-kept client number came None d = tt
reply-kept client number came (Some of) d = (tt, next (asked_next (reply_of came of) d.domains))
  where
    next : (o : Option Asked) → AreKept (asks_next client o of.1)
    next None = tt
    next (Some kind) = (tt, tt)

module _ (t : Tables) (row : ClientRow) where
  took : (invoke : ℕ) (o : Option TakeDone) (asked : TakeControl) → AreKept (take_outcome t row.client invoke asked o).also
  took invoke None asked = tt
  took invoke (Some (taken.Answered told)) asked = tt
  took invoke (Some (taken.Waits entry)) asked = (tt, tt)

  gave : (o : Option (Option Granted)) (asked : RelinquishControl) → AreKept (relinquish_outcome t row.client asked o).also
  gave None asked = tt
  gave (Some grant) asked = grants-kept (option_to_list grant)

  effect-kept : (invoke : ℕ) (asked : Request) → AreKept (effect t row invoke asked).also
  effect-kept invoke (request.TakeControl x) = took invoke (take_told row.client x t.semaphores) x
  effect-kept invoke (request.RelinquishControl x) = gave (relinquish_granted row.client x t.semaphores) x
  effect-kept invoke (request.InitiateDownloadSequence x) = (tt, tt)
  effect-kept invoke (request.DeleteEventCondition x) = notices-kept (effect t row invoke (request.DeleteEventCondition x)).also (deletion-notices t row invoke x)
  effect-kept invoke (request.AlterEventConditionMonitoring x) =
      notices-kept (effect t row invoke (request.AlterEventConditionMonitoring x)).also (alteration-notices t row invoke x)
  effect-kept invoke (request.TriggerEvent x) = notices-kept (effect t row invoke (request.TriggerEvent x)).also (trigger-notices t row invoke x)
  effect-kept invoke asked = tt

  also-kept : (v : Verdict) → AreKept (also_told t row v)
  also-kept (Takes invoke asked) = by_served (is_served t row invoke asked)
    where
      by_served : (b : Bool) → AreKept (if b then (effect t row invoke asked).also else [])
      by_served true = effect-kept invoke asked
      by_served false = tt
  also-kept (Tells effects) = tt
  also-kept (Replies number came) = by_served (is_served_in t row number (reply_in number came))
    where
      by_served : (b : Bool) → AreKept (if b then (effect_of t row number (reply_in number came)).also else [])
      by_served true = reply-kept row.client number came (asked_of number row.asked) t.domains
      by_served false = tt
  also-kept (Exhausts invoke) = grants-kept (lost_granted row.client (moment_of t) t.semaphores)
  also-kept Concludes = grants-kept (lost_granted row.client (moment_of t) t.semaphores)
  also-kept (Cancels invoke) = tt
  also-kept Aborts = grants-kept (lost_granted row.client (moment_of t) t.semaphores)

  answered-kept : (invoke : ℕ) (told : Option Answer) → AllKept (answer_told invoke told)
  answered-kept invoke None = tt
  answered-kept invoke (Some answer) = (tt, tt)

  request-kept : (size invoke : ℕ) (why : Option ServiceError) (told : Option Answer) → AllKept (request_told size invoke why told)
  request-kept size invoke (Some refusal) told = (tt, tt)
  request-kept size invoke None told = by_fit (fits size invoke told)
    where
      by_fit : (b : Bool) → AllKept (if b then answer_told invoke told else refuses invoke other_error ∷ [])
      by_fit true = answered-kept invoke told
      by_fit false = (tt, tt)

  own-kept : (v : Verdict) → Meant v → AllKept (own_told t row v)
  own-kept (Tells effects) meant = meant
  own-kept (Takes invoke asked) meant = request-kept (size_of row.association) invoke (cause t row asked) (effect t row invoke asked).answer
  own-kept (Replies number came) meant =
      request-kept (size_of row.association) number (cause_of t row (reply_in number came)) (effect_of t row number (reply_in number came)).answer
  own-kept (Exhausts invoke) meant = (tt, (tt, (tt, tt)))
  own-kept Concludes meant = (tt, (tt, tt))
  own-kept (Cancels invoke) meant = (tt, (tt, (tt, tt)))
  own-kept Aborts meant = (tt, (tt, tt))

  loss-kept : (a : Association) → AllKept (loss_told a)
  loss-kept Idle = tt
  loss-kept (Open values) = (tt, tt)

  lost-kept : (a : Association) → AreKept (also_lost a row.client t)
  lost-kept Idle = tt
  lost-kept (Open values) = grants-kept (lost_granted row.client (moment_of t) t.semaphores)

-- an event that is no drain
abbrev IsNoDrain : CellEvent → Type 0
IsNoDrain (Heard client octets) = Unit {0}
IsNoDrain (Lost client) = Unit {0}
IsNoDrain (Tick ms) = Unit {0}
IsNoDrain (Ends name) = Unit {0}
IsNoDrain (Drain client) = ⊥

event-kept : (s : State) (event : CellEvent) → IsNoDrain event → AreKept (told_in s event)
event-kept s (Heard client octets) is =
    let row = row_at cell client s.clients in
    let v = resolved (cell.tables_of s) row (verdict row octets) in
    both (tell client (own_told (cell.tables_of s) row v)) (also_told (cell.tables_of s) row v)
    (kept-tell client (own_told (cell.tables_of s) row v) (own-kept (cell.tables_of s) row v
    (resolved-kept (cell.tables_of s) row (verdict row octets) (by-kept row.association row (pdu_heard row.constants.edition octets)))))
    (also-kept (cell.tables_of s) row v)
event-kept s (Lost client) is =
    let row = row_at cell client s.clients in
    both (tell client (loss_told row.association)) (also_lost row.association row.client (cell.tables_of s))
    (kept-tell client (loss_told row.association) (loss-kept (cell.tables_of s) row row.association)) (lost-kept (cell.tables_of s) row row.association)
event-kept s (Tick ms) is = happened-kept (meanwhile ms (cell.tables_of s)).happened
event-kept s (Ends name) is = tt
event-kept s (Drain client) is = absurd is

-- ---- one event, by the place of the client's row

event-sent : (s : State) (event : CellEvent) (k : ℕ) → k < length s.clients → drains (suc k) event ≡ false
    → outbox_in (slice_get (step s event).clients k) ≡ outbox_in (slice_get s.clients k) ++ sent_to (suc k) s.clients (told_in s event)
event-sent s (Drain other) k within none = ap outbox_in (other-stays Drains other k s.clients none) ∙ nothing (suc k == other)
  where
    nothing : (b : Bool) → outbox_in (slice_get s.clients k) ≡ outbox_in (slice_get s.clients k) ++ ((if b then [] else []) ++ [])
    nothing true = sym (append-nil (outbox_in (slice_get s.clients k)))
    nothing false = sym (append-nil (outbox_in (slice_get s.clients k)))
event-sent s (Heard client octets) k within none = told-sent (told_in s (Heard client octets)) s.clients k (event-kept s (Heard client octets) tt) within
event-sent s (Lost client) k within none = told-sent (told_in s (Lost client)) s.clients k (event-kept s (Lost client) tt) within
event-sent s (Tick ms) k within none = told-sent (told_in s (Tick ms)) s.clients k (event-kept s (Tick ms) tt) within
event-sent s (Ends name) k within none = told-sent (told_in s (Ends name)) s.clients k (event-kept s (Ends name) tt) within

drained-empty : (s : State) (k : ℕ) → outbox_in (slice_get (step s (Drain (suc k))).clients k) ≡ []
drained-empty s k = ap outbox_in (get_changed (felt Drains) s.clients k) ∙ by_row (slice_get s.clients k)
  where
    by_row : (o : Option ClientRow) → outbox_in (option_map (felt Drains) o) ≡ []
    by_row None = refl
    by_row (Some row) = refl

-- ---- by the number of the client

pub is_sent : (s : State) (event : CellEvent) (client : ℕ) → 1 ≤ client → client ≤ length s.clients → drains client event ≡ false
    → outbox_of (step s event) client ≡ outbox_of s client ++ sent_to client s.clients (told_in s event)
is_sent s event client some few none =
    let at : client ≡ suc (client - 1) = omega (arith, some) in
    event-sent s event (client - 1) (omega (arith, some, few)) (subst (λ (c : ℕ). drains c event ≡ false) at none)
    ∙ ap (λ (c : ℕ). outbox_of s client ++ sent_to c s.clients (told_in s event)) (sym at)

pub is_emptied : (s : State) (client : ℕ) → 1 ≤ client → outbox_of (step s (Drain client)) client ≡ []
is_emptied s client some =
    let at : client ≡ suc (client - 1) = omega (arith, some) in
    ap (λ (c : ℕ). outbox_in (slice_get (step s (Drain c)).clients (client - 1))) at ∙ drained-empty s (client - 1)

-- ---- all events

-- a drain sends nothing
nothing-sent : (client : ℕ) (s : State) (event : CellEvent) → drains client event ≡ true → sent_to client s.clients (told_in s event) ≡ []
nothing-sent client s (Drain other) is = none (client == other)
  where
    none : (b : Bool) → cond {A = List What} b [] [] ++ [] ≡ []
    none true = refl
    none false = refl
nothing-sent client s (Heard other octets) is = absurd (cc is)
nothing-sent client s (Lost other) is = absurd (cc is)
nothing-sent client s (Tick ms) is = absurd (cc is)
nothing-sent client s (Ends name) is = absurd (cc is)

emptied-by : (client : ℕ) (s : State) (event : CellEvent) → 1 ≤ client → drains client event ≡ true → outbox_of (step s event) client ≡ []
emptied-by client s (Drain other) some is =
    ap (λ (c : ℕ). outbox_of (step s (Drain c)) client) (sym (nat-same client other is)) ∙ is_emptied s client some
emptied-by client s (Heard other octets) some is = absurd (cc is)
emptied-by client s (Lost other) some is = absurd (cc is)
emptied-by client s (Tick ms) some is = absurd (cc is)
emptied-by client s (Ends name) some is = absurd (cc is)

-- what is taken away and what is left is what was there and what is sent
one-passes : (client : ℕ) (s : State) (event : CellEvent) → 1 ≤ client → client ≤ length s.clients
    → (if drains client event then outbox_of s client else []) ++ outbox_of (step s event) client ≡ outbox_of s client ++ sent_to client s.clients (told_in s event)
one-passes client s event some few = by_test (drains client event) refl
  where
    by_test : (b : Bool) → drains client event ≡ b
        → (if b then outbox_of s client else []) ++ outbox_of (step s event) client ≡ outbox_of s client ++ sent_to client s.clients (told_in s event)
    by_test true e =
        ap (λ (l : List What). outbox_of s client ++ l) (emptied-by client s event some e ∙ sym (nothing-sent client s event e))
    by_test false e = is_sent s event client some few e

-- what was sent since the association opened is the end of what was taken away and what is left
abbrev EndsIn : List What → List What → Type 0
EndsIn all end = (older : List What) × (all ≡ older ++ end)

ends-more : (all sent more : List What) (b : Bool) → EndsIn all sent → EndsIn (all ++ more) ((if b then [] else sent) ++ more)
ends-more all sent more true is = (all, refl)
ends-more all sent more false is = (is.0, ap (λ (l : List What). l ++ more) is.1 ∙ append_assoc is.0 sent more)

along : (client : ℕ) (a : Account) (before : List What) (history : List CellEvent) → 1 ≤ client → client ≤ length a.state.clients → EndsIn (before ++ outbox_of a.state client) a.sent
    → EndsIn (before ++ (drained client a.state history ++ outbox_of (fold step a.state history) client)) (fold (account_after client) a history).sent
along client a before [] some few is = is
along client a before (event ∷ rest) some few is =
    subst (λ (l : List What). EndsIn l (fold (account_after client) a (event ∷ rest)).sent) (joined ∙ ap (λ (l : List What). before ++ l) (sym (append_assoc out later last)))
    (along client (account_after client a event) (before ++ out) rest some (let sized = step_sized a.state event in omega (arith, sized, few))
    (subst (λ (l : List What). EndsIn l (account_after client a event).sent) (sym passes)
    (ends-more (before ++ outbox_of a.state client) a.sent (sent_to client a.state.clients (told_in a.state event)) (opens client (told_in a.state event)) is)))
  where
    out : List What
    out = if drains client event then outbox_of a.state client else []

    later : List What
    later = drained client (step a.state event) rest

    last : List What
    last = outbox_of (fold step (step a.state event) rest) client

    joined : (before ++ out) ++ (later ++ last) ≡ before ++ (out ++ (later ++ last))
    joined = append_assoc before out (later ++ last)

    passes : (before ++ out) ++ outbox_of (step a.state event) client ≡ (before ++ outbox_of a.state client) ++ sent_to client a.state.clients (told_in a.state event)
    passes =
        append_assoc before out (outbox_of (step a.state event) client)
        ∙ ap (λ (l : List What). before ++ l) (one-passes client a.state event some few)
        ∙ sym (append_assoc before (outbox_of a.state client) (sent_to client a.state.clients (told_in a.state event)))

sized-along : (s : State) (history : List CellEvent) → length (fold step s history).clients ≡ length s.clients
sized-along s [] = refl
sized-along s (event ∷ rest) = sized-along (step s event) rest ∙ step_sized s event

pub is_drained : (config : Config) (history : List CellEvent) (client : ℕ) → 1 ≤ client → client ≤ length (replay config history).clients
    → (older : List What) × (drained client (start config) history ++ outbox_of (replay config history) client ≡ older ++ (account config history client).sent)
is_drained config history client some few =
    along client (record { state = start config; taken = []; sent = [] }) [] history some (let sized = sized-along (start config) history in omega (arith, sized, few))
    (outbox_of (start config) client, sym (append-nil (outbox_of (start config) client)))

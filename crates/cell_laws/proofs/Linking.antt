-- Each event keeps what links requests that wait and entries that are queued.
use Rattle.std.proofs.Common.{◌≡◌, ℕ, zero, suc, Bool, true, false, cond, ◌==◌, ◌&&◌, nat_lt, List, [], ◌∷◌, ◌++◌, map, slice_get, unwrap_or, Option, None, Some, option_map, option_and_then, option_to_list, Result, Ok, Err, if◌then◌else◌, refl, sym, ◌∙◌, ap, subst, arith}
use Rattle.mms_types.specs.Order.{key_of}
use Rattle.mms_types.specs.declared.asked.Asked.{Asked}
use Rattle.mms_types.specs.declared.asked.Asked.TheVariants as asks
use Rattle.mms_types.specs.declared.event.CellEvent.{CellEvent}
use Rattle.mms_types.specs.declared.event.CellEvent.TheVariants.{Heard, Lost, Tick, Ends, Drain}
use Rattle.mms_types.specs.declared.event.What.{What}
use Rattle.mms_types.specs.declared.event.What.TheVariants.{Abort}
use Rattle.mms_types.specs.declared.initiate.InitiateAnswer.{InitiateAnswer}
use Rattle.mms_types.specs.declared.key.Key.{Key}
use Rattle.mms_types.specs.declared.memory.Memory.{Memory}
use Rattle.mms_types.specs.declared.moment.Moment.{Moment}
use Rattle.mms_types.specs.declared.pdu.Answer.{Answer}
use Rattle.mms_types.specs.declared.pdu.Pdu.{Pdu}
use Rattle.mms_types.specs.declared.pdu.Pdu.TheVariants as pdu
use Rattle.mms_types.specs.declared.pdu.Reject.{Reject}
use Rattle.mms_types.specs.declared.pdu.Request.{Request}
use Rattle.mms_types.specs.declared.pdu.Request.TheVariants as request
use Rattle.mms_types.specs.declared.semaphore.TakeControl.{TakeControl}
use Rattle.mms_types.specs.declared.service_error.ServiceError.{ServiceError}
use Rattle.mms_pdu.specs.declared.refusal.Refusal.{Refusal}
use Rattle.mms_pdu.specs.Heard.{pdu_heard}
use Rattle.mms_pdu.specs.Hearing.{depth_of}
use Rattle.mms_pdu.specs.Rejects.{reject_of}
use Rattle.association.specs.declared.client_part.NotAdmitted.{NotAdmitted}
use Rattle.association.specs.declared.client_part.NotAdmitted.TheVariants as not_admitted
use Rattle.association.specs.declared.negotiation.Association.{Association}
use Rattle.association.specs.declared.negotiation.Association.TheVariants.{Idle, Open}
use Rattle.association.specs.declared.negotiation.Negotiated.{Negotiated}
use Rattle.association.specs.declared.waiting.Waiting.{Waiting}
use Rattle.association.specs.Admission.{admission}
use Rattle.association.specs.Asked.{asked_of}
use Rattle.association.specs.Client.{ClientRow}
use Rattle.association.specs.Negotiation.{negotiation}
use Rattle.association.specs.Waiting.{is_waiting}
use Rattle.token_sem.specs.declared.entry.Expired.{Expired}
use Rattle.token_sem.specs.declared.entry.Grant.{Grant}
use Rattle.mms_time.proofs.Unopposed.{nothing_against}
use Rattle.serve_semaphores.specs.Semaphores.{define_semaphore}
use Rattle.cell_services.specs.Requests.{told_in}
use Rattle.cell_services.specs.Tables.{own_semaphores}
use Rattle.mms_time.specs.Deadlines.{NamedDeadline, expired, expire_after, next_due}
use Rattle.mms_time.specs.Loss.{lost}
use Rattle.mms_time.specs.Semaphores.{Rows}
use Rattle.mms_time.specs.Services.{take_told}
use Rattle.mms_time.specs.declared.taking.TakeDone.{TakeDone}
use Rattle.mms_time.specs.declared.taking.TakeDone.TheVariants as taken
use Rattle.parted_state.specs.ListsLaws.{get_changed}
use Rattle.parted_state.specs.Served.{done_of, row_at, reached, delivered}
use Rattle.sem_ticks.specs.Granted.{granted, lost_granted, relinquish_granted}
use Rattle.sem_ticks.specs.Sound.{AreSound}
use Rattle.sem_ticks.specs.Ticks.{Ticking, abort_told, after_abort, entries_left, expiry_told, met, met_as, next_met, ticked_on}
use Rattle.sem_ticks.specs.Ticks as ticks
use Rattle.sem_ticks.specs.declared.granted.Granted.{Granted}
use Rattle.sem_ticks.specs.declared.ticks.Happening.{Happening}
use Rattle.sem_ticks.specs.declared.ticks.Happening.TheVariants as happens
use Rattle.sem_ticks.proofs.Kept.{keeps_lost}
use Rattle.sem_ticks.proofs.Settling.{settle-keeps}
use Rattle.cell_client.specs.Association.{Came, Verdict, Tells, Takes, Replies, Exhausts, Concludes, Cancels, Aborts, other_error, verdict, verdict_by, idle_verdict, open_verdict, admitted, requested, cancelled, negotiated, refused, loss_told}
use Rattle.cell_client.specs.Effects.{Effect, Sends, Closes, Answers, Asks, Settles, Drains, felt, tell}
use Rattle.cell_services.specs.Requests.{among}
use Rattle.cell_services.specs.Services.{cause, effect, grants_told, relinquish_outcome, take_outcome}
use Rattle.cell_client.specs.Areas.{OutcomeIn}
use Rattle.cell_client.specs.Requests.{answer_told, fits, is_done, refuses, request_told, size_of}
use Rattle.cell_ticks.specs.Ticks as device
use Rattle.cell_ticks.specs.declared.happening.DatedHappening.{DatedHappening}
use Rattle.event_cond.specs.Skips.{Saying}
use Rattle.event_ticks.specs.Ticks as events
use Rattle.cell_services.specs.Serving.{all_told, also_lost, also_told, happening_told, own_told, resolved, saying, services, tables_cancelled, tables_heard, tables_lost, waiting_of}
use Rattle.cell_services.specs.Tables.{Tables, moment_after, moment_of, own_domains}
use Rattle.serve_domains.specs.Domains.{asks_next, replied_to, reply_of}
use Rattle.serve_domains.specs.Tables.{DomainTables}
use Rattle.domain_load.specs.Loading.{asked_next}
use Rattle.step_parts.specs.Partition.{cell, no_client}
use Rattle.step_parts.specs.State.{State, IsSound}
use Rattle.step_parts.specs.Step.{step}
use Rattle.step_sound.proofs.Sound.{delivered_both}
use Rattle.cell_laws.specs.Linked.{asker}
use Rattle.cell_laws.proofs.Bound.{Bound, bound-same, nat-same, of-both}
use Rattle.cell_laws.proofs.Bounds.{bound-answered, bound-cancelled, bound-defined, bound-deleted, bound-given, bound-waits, told_of}
use Rattle.cell_laws.proofs.Happened.{at_conditions, at_semaphores, conditions-told, from_rows, keeps-ticked, sem-both, sem_told, then-told, told-more}
use Rattle.cell_laws.proofs.Hears.{AllStill, AreStill, IsAdmitted, RowsDistinct, admitted-none, admitted-open, all-still, distinct-told, granted-left, next-still, reached-answered, reached-closed, reached-still, reached-waits, told-still, waits_in}
use Rattle.cell_laws.proofs.Losing.{bound-lost}
use Rattle.cell_laws.proofs.Meetings.{bound-met, is_met, sound-met}
use Rattle.cell_laws.proofs.Notices.{alteration-notices, deletion-notices, notices-still, trigger-notices}
use Rattle.cell_laws.proofs.Queues.{is_answered, rise}
use Rattle.cell_laws.proofs.Verdicts.{by-conclusion, by-error, by-rejected, by-response, by-tables}

-- what links the requests that wait and the entries that are queued
pub record Linked (s : State) : Type 0 where
  pub bound : Bound (asker s.semaphores) (waits_in s.clients)
  pub distinct : RowsDistinct s.clients

-- ---- what octets come to

abbrev pub Meant : ClientRow → Verdict → Type 0
Meant row (Tells effects) = AreStill effects
Meant row (Takes invoke asked) = IsAdmitted invoke row
Meant row (Replies number came) = row.association ≡ Idle → ⊥
Meant row (Exhausts invoke) = row.association ≡ Idle → ⊥
Meant row Concludes = row.association ≡ Idle → ⊥
Meant row (Cancels invoke) = Unit {0}
Meant row Aborts = row.association ≡ Idle → ⊥

refused-meant : (told : Result Reject Memory) → AreStill (refused told)
refused-meant (Ok reject) = (tt, tt)
refused-meant (Err memory) = tt

negotiated-meant : (told : Result InitiateAnswer ServiceError) → AreStill (negotiated told)
negotiated-meant (Ok answer) = (tt, (tt, tt))
negotiated-meant (Err refusal) = (tt, tt)

admitted-meant : (row : ClientRow) (may : Result Unit NotAdmitted) (invoke : ℕ) (asked : Request) → admission invoke row ≡ may → Meant row (admitted may invoke asked)
admitted-meant row (Err not_admitted.Waiting) invoke asked is = (tt, tt)
admitted-meant row (Err not_admitted.Outstanding) invoke asked is = (tt, tt)
admitted-meant row (Ok may) invoke asked is = is

requested-meant : (row : ClientRow) (too_deep : Bool) (invoke : ℕ) (asked : Request) → Meant row (requested too_deep row invoke asked)
requested-meant row true invoke asked = (tt, tt)
requested-meant row false invoke asked = admitted-meant row (admission invoke row) invoke asked refl

cancelled-meant : (row : ClientRow) (waits : Bool) (invoke : ℕ) → Meant row (cancelled waits invoke)
cancelled-meant row true invoke = tt
cancelled-meant row false invoke = (tt, tt)

idle-meant : (row : ClientRow) (heard : Result Pdu Refusal) → Meant row (idle_verdict heard)
idle-meant row (Ok (pdu.InitiateRequest proposal)) = negotiated-meant (negotiation proposal)
idle-meant row heard = (tt, tt)

open-meant : (values : Negotiated) (row : ClientRow) (heard : Result Pdu Refusal) → (row.association ≡ Idle → ⊥) → Meant row (open_verdict values row heard)
open-meant values row (Err refusal) is = refused-meant (reject_of refusal)
open-meant values row (Ok (pdu.InitiateRequest proposal)) is = is
open-meant values row (Ok pdu.ConcludeRequest) is = by-conclusion (Meant row) is (tt, tt) row.waiting row.asked
open-meant values row (Ok (pdu.CancelRequest invoke)) is = cancelled-meant row (is_waiting invoke row.waiting) invoke
open-meant values row (Ok (pdu.ConfirmedRequest invoke asked)) is = requested-meant row (nat_lt values.nesting (depth_of (pdu.ConfirmedRequest invoke asked))) invoke asked
open-meant values row (Ok (pdu.ModifiedRequest invoke modifier asked)) is = (tt, tt)
open-meant values row (Ok (pdu.HeardResponse number told)) is =
    by-response (Meant row) (λ n came. is) (λ n. (tt, tt)) (tt, tt) tt number told (asked_of number row.asked)
open-meant values row (Ok (pdu.HeardError number)) is = by-error (Meant row) (λ n came. is) (λ n. (tt, tt)) (tt, tt) tt number (asked_of number row.asked)
open-meant values row (Ok (pdu.HeardReject number)) is = by-rejected (Meant row) (λ n came. is) (λ n. (tt, tt)) (tt, tt) tt number row.asked
open-meant values row (Ok heard) is = tt

by-meant : (row : ClientRow) (a : Association) (heard : Result Pdu Refusal) → row.association ≡ a → Meant row (verdict_by a row heard)
by-meant row Idle heard is = idle-meant row heard
by-meant row (Open values) heard is = open-meant values row heard (λ idle. cc (sym is ∙ idle))

pub verdict-meant : (row : ClientRow) (octets : List ℕ) → Meant row (verdict row octets)
verdict-meant row octets = by-meant row row.association (pdu_heard row.constants.edition octets) refl

pub resolved-meant : (t : Tables) (row : ClientRow) (v : Verdict) → Meant row v → Meant row (resolved t row v)
resolved-meant t row = by-tables (Meant row) t row (λ invoke asked may. admitted-open invoke row may) (λ number came is. is) (λ is. (tt, tt))

-- ---- rows

sent-admitted : (invoke k : ℕ) (output : What) (rows : List ClientRow) → IsAdmitted invoke (row_at cell k rows) → IsAdmitted invoke (row_at cell k (reached cell k (Sends output) rows))
sent-admitted invoke zero output rows may = may
sent-admitted invoke (suc k) output rows may =
    subst (λ (o : Option ClientRow). IsAdmitted invoke (unwrap_or o no_client)) (sym (get_changed (felt (Sends output)) rows k)) (by_row (slice_get rows k) may)
  where
    by_row : (o : Option ClientRow) → IsAdmitted invoke (unwrap_or o no_client) → IsAdmitted invoke (unwrap_or (option_map (felt (Sends output)) o) no_client)
    by_row None h = h
    by_row (Some row) h = h

pub numbered-client : (count : ℕ) (s : State) (client : ℕ) → IsSound count s → ((row_at cell client s.clients).association ≡ Idle → ⊥) → (row_at cell client s.clients).client ≡ client
numbered-client count s zero sound is = absurd (is refl)
numbered-client count s (suc k) sound is = by_row (slice_get s.clients k) refl is
  where
    by_row : (o : Option ClientRow) → slice_get s.clients k ≡ o → ((unwrap_or o no_client).association ≡ Idle → ⊥) → (unwrap_or o no_client).client ≡ suc k
    by_row None e h = absurd (h refl)
    by_row (Some row) e h = let is = (sound.rows k row e).number in omega (arith, is)

-- ---- what is heard

module _ (count : ℕ) (s : State) (sound : IsSound count s) (bound : Bound (asker s.semaphores) (waits_in s.clients)) (client : ℕ) where
  abbrev its : ClientRow
  its = row_at cell client s.clients

  abbrev old : Tables
  old = cell.tables_of s

  abbrev After : Rows → List (ℕ × Effect) → Type 0
  After rows told = Bound (asker rows) (waits_in (delivered cell told s.clients))

  in-parts : (own also : List (ℕ × Effect)) (c i : ℕ) → waits_in (delivered cell (own ++ also) s.clients) c i ≡ waits_in (delivered cell also (delivered cell own s.clients)) c i
  in-parts own also c i = ap (λ (rows : List ClientRow). waits_in rows c i) (delivered_both own also s.clients)

  still : (effects : List Effect) → AreStill effects → After s.semaphores (tell client effects ++ [])
  still effects are =
      bound-same (asker s.semaphores) (asker s.semaphores) (waits_in s.clients) (waits_in (delivered cell (tell client effects ++ []) s.clients)) bound (λ k n. refl)
      (λ c i. in-parts (tell client effects) [] c i ∙ told-still client effects s.clients are c i)

  -- the association ends
  ends : (effects : List Effect) → AreStill effects → (its.association ≡ Idle → ⊥)
      → After (lost its.client (moment_of old) s.semaphores) (tell client (effects ++ Closes ∷ []) ++ grants_told (lost_granted its.client (moment_of old) s.semaphores))
  ends effects are is =
      bound-lost its.client (moment_of old) s.semaphores (rise s.semaphores sound.semaphores) (waits_in s.clients)
      (waits_in (delivered cell (tell client (effects ++ Closes ∷ []) ++ grants_told (lost_granted its.client (moment_of old) s.semaphores)) s.clients)) bound
      (λ c i.
      in-parts (tell client (effects ++ Closes ∷ [])) (grants_told (lost_granted its.client (moment_of old) s.semaphores)) c i
      ∙ granted-left (lost_granted its.client (moment_of old) s.semaphores) (delivered cell (tell client (effects ++ Closes ∷ [])) s.clients) c i
      ∙ ap (cond (is_answered (lost_granted its.client (moment_of old) s.semaphores) c i) None)
      (closing effects are s.clients c i ∙ ap (λ (d : ℕ). cond (c == d) None (waits_in s.clients c i)) (sym (numbered-client count s client sound is))))
    where
      closing : (es : List Effect) → AreStill es → (rows : List ClientRow) (c i : ℕ)
          → waits_in (delivered cell (tell client (es ++ Closes ∷ [])) rows) c i ≡ cond (c == client) None (waits_in rows c i)
      closing [] a rows c i = reached-closed client rows c i
      closing (e ∷ es) a rows c i = closing es a.1 (reached cell client e rows) c i ∙ ap (cond (c == client) None) (reached-still e a.0 client rows c i)

  -- a request that is done
  module _ (rows : List ClientRow) (same : (c i : ℕ) → waits_in rows c i ≡ waits_in s.clients c i) (invoke : ℕ) (may : IsAdmitted invoke (row_at cell client rows))
      (is : its.client ≡ client) where
    now_bound : Bound (asker s.semaphores) (waits_in rows)
    now_bound = bound-same (asker s.semaphores) (asker s.semaphores) (waits_in s.clients) (waits_in rows) bound (λ k n. refl) same

    abbrev Then : Rows → List (ℕ × Effect) → Type 0
    Then semaphores also = Bound (asker semaphores) (waits_in (delivered cell also rows))

    taking : (x : TakeControl) (o : Option TakeDone) → take_told its.client x s.semaphores ≡ o → cause old its (request.TakeControl x) ≡ None
        → Then (take_outcome old its.client invoke x o).tables.semaphores (take_outcome old its.client invoke x o).also
    taking x None told none = now_bound
    taking x (Some (taken.Answered answer)) told none = bound-answered s.semaphores (waits_in rows) now_bound sound.semaphores its.client invoke (moment_of old) x answer none told
    taking x (Some (taken.Waits entry)) told none =
        let mine : IsAdmitted invoke (row_at cell its.client rows) = subst (λ (k : ℕ). IsAdmitted invoke (row_at cell k rows)) (sym is) may in
        bound-waits s.semaphores (waits_in rows) now_bound sound.semaphores its.client invoke (moment_of old) x entry _ none told (admitted-none invoke its.client rows mine)
        (reached-waits (record { invoke = invoke; key = key_of its.client x.name; entry = entry }) its.client rows mine)

    told-nothing : (also : List (ℕ × Effect)) → AllStill also → Then s.semaphores also
    told-nothing also are =
        bound-same (asker s.semaphores) (asker s.semaphores) (waits_in rows) (waits_in (delivered cell also rows)) now_bound (λ k n. refl) (all-still also rows are)

    done : (asked : Request) → cause old its asked ≡ None → Then (effect old its invoke asked).tables.semaphores (effect old its invoke asked).also
    done (request.TakeControl x) none = taking x (take_told its.client x s.semaphores) refl none
    done (request.RelinquishControl x) none = by_grant (relinquish_granted its.client x s.semaphores) refl
      where
        by_grant : (o : Option (Option Granted)) → relinquish_granted its.client x s.semaphores ≡ o
            → Then (relinquish_outcome old its.client x o).tables.semaphores (relinquish_outcome old its.client x o).also
        by_grant None told = now_bound
        by_grant (Some grant) told =
            bound-given s.semaphores (waits_in rows) now_bound sound.semaphores its.client (moment_of old) x grant _ told (granted-left (option_to_list grant) rows)
    done (request.DefineSemaphore x) none = bound-defined s.semaphores (waits_in rows) now_bound its.client x
        (nothing_against (told_in own_semaphores old its (define_semaphore x)).live its.client x s.semaphores none)
    done (request.DeleteSemaphore x) none = bound-deleted s.semaphores (waits_in rows) now_bound sound.semaphores its.client x none
    done (request.InitiateDownloadSequence x) none = told-nothing ((its.client, Asks asks.Segment x.domain) ∷ []) (tt, tt)
    done (request.DeleteEventCondition x) none =
        let also : List (ℕ × Effect) = (effect old its invoke (request.DeleteEventCondition x)).also in
        told-nothing also (notices-still also (deletion-notices old its invoke x))
    done (request.AlterEventConditionMonitoring x) none =
        let also : List (ℕ × Effect) = (effect old its invoke (request.AlterEventConditionMonitoring x)).also in
        told-nothing also (notices-still also (alteration-notices old its invoke x))
    done (request.TriggerEvent x) none =
        let also : List (ℕ × Effect) = (effect old its invoke (request.TriggerEvent x)).also in
        told-nothing also (notices-still also (trigger-notices old its invoke x))
    done asked none = now_bound

  answered-still : (invoke : ℕ) (told : Option Answer) → AreStill (answer_told invoke told)
  answered-still invoke None = tt
  answered-still invoke (Some answer) = (tt, tt)

  answered-admitted : (invoke : ℕ) (told : Option Answer) → IsAdmitted invoke its → IsAdmitted invoke (row_at cell client (delivered cell (tell client (answer_told invoke told)) s.clients))
  answered-admitted invoke None may = may
  answered-admitted invoke (Some answer) may = sent-admitted invoke client _ s.clients may

  takes-one : (invoke : ℕ) (asked : Request) → IsAdmitted invoke its → After (tables_heard old its (Takes invoke asked)).semaphores (tell client (own_told old its (Takes invoke asked)) ++ also_told old its (Takes invoke asked))
  takes-one invoke asked may = by_cause (cause old its asked) refl
    where
      size : ℕ
      size = size_of its.association

      open_one : its.association ≡ Idle → ⊥
      open_one = admitted-open invoke its may

      by_fit : (b : Bool) → cause old its asked ≡ None
          → After (if b then (effect old its invoke asked).tables else old).semaphores
          (tell client (if b then answer_told invoke (effect old its invoke asked).answer else refuses invoke other_error ∷ []) ++ (if b then (effect old its invoke asked).also else []))
      by_fit true none =
          let own : List (ℕ × Effect) = tell client (answer_told invoke (effect old its invoke asked).answer) in
          bound-same (asker (effect old its invoke asked).tables.semaphores) (asker (effect old its invoke asked).tables.semaphores)
          (waits_in (delivered cell (effect old its invoke asked).also (delivered cell own s.clients)))
          (waits_in (delivered cell (own ++ (effect old its invoke asked).also) s.clients))
          (done (delivered cell own s.clients) (told-still client (answer_told invoke (effect old its invoke asked).answer) s.clients (answered-still invoke (effect old its invoke asked).answer))
          invoke (answered-admitted invoke (effect old its invoke asked).answer may) (numbered-client count s client sound open_one) asked none)
          (λ k n. refl) (in-parts own (effect old its invoke asked).also)
      by_fit false none = still (refuses invoke other_error ∷ []) (tt, tt)

      by_cause : (o : Option ServiceError) → cause old its asked ≡ o
          → After (if is_done size invoke o (effect old its invoke asked).answer then (effect old its invoke asked).tables else old).semaphores
          (tell client (request_told size invoke o (effect old its invoke asked).answer) ++ (if is_done size invoke o (effect old its invoke asked).answer then (effect old its invoke asked).also else []))
      by_cause None e = by_fit (fits size invoke (effect old its invoke asked).answer) e
      by_cause (Some refusal) e = still (refuses invoke refusal ∷ []) (tt, tt)

  -- a client answers what the server asked: its request is unanswered no more, and what is next may be asked
  replies-one : (number : ℕ) (came : Came)
      → After (tables_heard old its (Replies number came)).semaphores (tell client (own_told old its (Replies number came)) ++ also_told old its (Replies number came))
  replies-one number came = by_of (asked_of number its.asked)
    where
      size : ℕ
      size = size_of its.association

      done_by : Option (Asked × List ℕ) → OutcomeIn DomainTables
      done_by o = replied_to its.client number came o old.domains

      by_of : (o : Option (Asked × List ℕ))
          → After (if is_done size number None (done_by o).answer then (among own_domains old (done_by o)).tables else old).semaphores
          (tell client (request_told size number None (done_by o).answer) ++ (if is_done size number None (done_by o).answer then (done_by o).also else []))
      by_of None = bound
      by_of (Some of) =
          let next : Option Asked = asked_next (reply_of came of) old.domains.domains in
          let also : List (ℕ × Effect) = (its.client, Settles number) ∷ asks_next its.client next of.1 in
          bound-same (asker s.semaphores) (asker s.semaphores) (waits_in s.clients) (waits_in (delivered cell also s.clients)) bound (λ k n. refl)
          (all-still also s.clients (tt, next-still its.client next of.1))

  -- a request is cancelled
  cancels-one : (invoke : ℕ) → After (tables_heard old its (Cancels invoke)).semaphores (tell client (own_told old its (Cancels invoke)) ++ [])
  cancels-one invoke = by_waiting (waiting_of invoke its.waiting) refl
    where
      left : (c i : ℕ) → waits_in (delivered cell (tell client (own_told old its (Cancels invoke)) ++ []) s.clients) c i ≡ cond (c == client && i == invoke) None (waits_in s.clients c i)
      left c i =
          reached-still _ tt client (reached cell client _ (reached cell client (Answers invoke) s.clients)) c i
          ∙ reached-still _ tt client (reached cell client (Answers invoke) s.clients) c i
          ∙ reached-answered invoke client s.clients c i

      by_waiting : (o : Option Waiting) → waiting_of invoke its.waiting ≡ o → After (tables_cancelled o old).semaphores (tell client (own_told old its (Cancels invoke)) ++ [])
      by_waiting None none =
          bound-same (asker s.semaphores) (asker s.semaphores) (waits_in s.clients) (waits_in (delivered cell (tell client (own_told old its (Cancels invoke)) ++ []) s.clients)) bound (λ k n. refl)
          (λ c i. left c i ∙ by_test c i (c == client && i == invoke) refl)
        where
          by_test : (c i : ℕ) (b : Bool) → (c == client && i == invoke) ≡ b → cond b None (waits_in s.clients c i) ≡ waits_in s.clients c i
          by_test c i true e =
              let tests = of-both (c == client) (i == invoke) e in
              sym (ap (λ (x : ℕ). waits_in s.clients x i) (nat-same c client tests.0) ∙ ap (waits_in s.clients client) (nat-same i invoke tests.1) ∙ none)
          by_test c i false e = refl
      by_waiting (Some w) found =
          bound-cancelled s.semaphores (waits_in s.clients) bound w.key w.entry client invoke
          (waits_in (delivered cell (tell client (own_told old its (Cancels invoke)) ++ []) s.clients)) (bound.queued client invoke w found) left

  heard : (v : Verdict) → Meant its v → After (tables_heard old its v).semaphores (tell client (own_told old its v) ++ also_told old its v)
  heard (Tells effects) meant = still effects meant
  heard (Takes invoke asked) meant = takes-one invoke asked meant
  heard (Replies number came) meant = replies-one number came
  heard (Exhausts invoke) meant = ends (_ ∷ _ ∷ []) (tt, (tt, tt)) meant
  heard Concludes meant = ends (_ ∷ []) (tt, tt) meant
  heard (Cancels invoke) meant = cancels-one invoke
  heard Aborts meant = ends (_ ∷ []) (tt, tt) meant

  -- ---- a client is lost

  loses-one : (a : Association) → its.association ≡ a → After (tables_lost a its.client old).semaphores (tell client (loss_told a) ++ also_lost a its.client old)
  loses-one Idle is = bound
  loses-one (Open values) is = ends [] tt (λ idle. cc (sym is ∙ idle))

-- ---- time goes by

told-both : (xs ys : List Happening) (rows : List ClientRow) → delivered cell (sem_told (xs ++ ys)) rows ≡ delivered cell (sem_told ys) (delivered cell (sem_told xs) rows)
told-both xs ys rows = ap (λ (l : List (ℕ × Effect)). delivered cell l rows) (sem-both xs ys) ∙ delivered_both (sem_told xs) (sem_told ys) rows

pub told-grants : (grants : List Granted) → sem_told (map happens.Grants grants) ≡ grants_told grants
told-grants [] = refl
told-grants (g ∷ grants) = ap (λ (l : List (ℕ × Effect)). happening_told (happens.Grants g) ++ l) (told-grants grants)

-- an entry's deadline is met
pub expiry-left : (named : Rows) (key : Key) (x : Expired) (rows : List ClientRow) (c i : ℕ)
    → waits_in (delivered cell (sem_told (expiry_told named key x)) rows) c i ≡ cond (is_met named key x c i) None (waits_in rows c i)
expiry-left named key x rows c i = by_waited x.waited
  where
    by_grant : (o : Option Grant) → waits_in (delivered cell (sem_told (ticks.grant_told named key o)) rows) c i ≡ cond (is_answered (option_to_list (told_of named key o)) c i) None (waits_in rows c i)
    by_grant None = refl
    by_grant (Some g) = granted-left (granted named (key, g) ∷ []) rows c i

    by_waited : (b : Bool) → waits_in (delivered cell (sem_told (if b then happens.WaitEnds x.client x.invoke ∷ [] else ticks.grant_told named key x.grant)) rows) c i
        ≡ cond (if b then c == x.client && i == x.invoke else is_answered (option_to_list (told_of named key x.grant)) c i) None (waits_in rows c i)
    by_waited true = reached-still _ tt x.client (reached cell x.client (Answers x.invoke) rows) c i ∙ reached-answered x.invoke x.client rows c i
    by_waited false = by_grant x.grant

-- and an association may be aborted
aborted-left : (client : ℕ) (now : Moment) (rows : Rows) (clients : List ClientRow) (c i : ℕ)
    → waits_in (delivered cell (sem_told (abort_told true client now rows)) clients) c i
    ≡ cond (is_answered (lost_granted client now rows) c i) None (cond (c == client) None (waits_in clients c i))
aborted-left client now rows clients c i =
    ap (λ (told : List (ℕ × Effect)). waits_in (delivered cell told (reached cell client Closes (reached cell client (Sends Abort) clients))) c i) (told-grants (lost_granted client now rows))
    ∙ granted-left (lost_granted client now rows) (reached cell client Closes (reached cell client (Sends Abort) clients)) c i
    ∙ ap (cond (is_answered (lost_granted client now rows) c i) None)
    (reached-closed client (reached cell client (Sends Abort) clients) c i ∙ ap (cond (c == client) None) (reached-still (Sends Abort) tt client clients c i))

-- what holds of the semaphores meanwhile, and of clients that are told of what happened
pub record Meanwhile (clients : List ClientRow) (s : Ticking) : Type 0 where
  pub bound : Bound (asker s.rows) (waits_in (delivered cell (sem_told s.happened) clients))
  pub sound : AreSound s.rows

module _ (clients : List ClientRow) where
  pub one-met : (s : Ticking) (d : NamedDeadline) (x : Expired) → expired d.key d.entry s.rows ≡ Some x → Meanwhile clients s → Meanwhile clients (met_as s d x)
  one-met s d x is are = by_abort x.abort
    where
      rows : Rows
      rows = expire_after d.key d.entry d.at s.rows

      told : List ClientRow
      told = delivered cell (sem_told s.happened) clients

      met_clients : List ClientRow
      met_clients = delivered cell (sem_told (expiry_told rows d.key x)) told

      met_bound : Bound (asker rows) (waits_in met_clients)
      met_bound = bound-met s.rows (waits_in told) (waits_in met_clients) are.bound are.sound rows d.key d.entry d.at x is (expiry-left rows d.key x told)

      met_sound : AreSound rows
      met_sound = sound-met s.rows (waits_in told) (waits_in met_clients) are.bound are.sound d.key d.entry d.at

      in_parts : (more : List Happening) (c i : ℕ)
          → waits_in (delivered cell (sem_told (s.happened ++ (expiry_told rows d.key x ++ more))) clients) c i ≡ waits_in (delivered cell (sem_told more) met_clients) c i
      in_parts more c i =
          ap (λ (l : List ClientRow). waits_in l c i) (told-both s.happened (expiry_told rows d.key x ++ more) clients ∙ told-both (expiry_told rows d.key x) more told)

      by_abort : (b : Bool) → Meanwhile clients (record { rows = after_abort b x.client d.at rows; happened = s.happened ++ (expiry_told rows d.key x ++ abort_told b x.client d.at rows) })
      by_abort false = record {
        bound = bound-same (asker rows) (asker rows) (waits_in met_clients) (waits_in (delivered cell (sem_told (s.happened ++ (expiry_told rows d.key x ++ []))) clients)) met_bound (λ k n. refl) (in_parts []);
        sound = met_sound;
      }
      by_abort true = record {
        bound = bound-lost x.client d.at rows (rise rows met_sound) (waits_in met_clients)
            (waits_in (delivered cell (sem_told (s.happened ++ (expiry_told rows d.key x ++ abort_told true x.client d.at rows))) clients)) met_bound
            (λ c i. in_parts (abort_told true x.client d.at rows) c i ∙ aborted-left x.client d.at rows met_clients c i);
        sound = keeps_lost x.client d.at rows met_sound;
      }

  met-keeps : (s t : Ticking) (d : NamedDeadline) → met s d ≡ Some t → Meanwhile clients s → Meanwhile clients t
  met-keeps s t d same are = by_expired (expired d.key d.entry s.rows) refl same
    where
      by_expired : (o : Option Expired) → expired d.key d.entry s.rows ≡ o → option_map (met_as s d) o ≡ Some t → Meanwhile clients t
      by_expired None e h = absurd (cc h)
      by_expired (Some x) e h = let one : met_as s d x ≡ t = cc h in subst (Meanwhile clients) one (one-met s d x e are)

  pub next-keeps : (until : Moment) (s t : Ticking) → next_met until s ≡ Some t → Meanwhile clients s → Meanwhile clients t
  next-keeps until s t same are = by_due (next_due until s.rows) same
    where
      by_due : (o : Option NamedDeadline) → option_and_then (met s) o ≡ Some t → Meanwhile clients t
      by_due None h = absurd (cc h)
      by_due (Some d) h = met-keeps s t d h are

  pub ticked-keeps : (until : Moment) (s : Ticking) → Meanwhile clients s → Meanwhile clients (ticked_on until s)
  ticked-keeps until s are = settle-keeps (next_met until) (Meanwhile clients) (next-keeps until) (entries_left s.rows) s are

-- ---- and on the device, whose conditions are evaluated meanwhile

pub record OnDevice (clients : List ClientRow) (s : device.Ticking) : Type 0 where
  pub bound : Bound (asker s.semaphores) (waits_in (delivered cell (all_told s.happened) clients))
  pub sound : AreSound s.semaphores

module _ (clients : List ClientRow) (cells : Saying) where
  pub device-met : (s : device.Ticking) (d : NamedDeadline) (x : Expired) → expired d.key d.entry s.semaphores ≡ Some x → OnDevice clients s
      → OnDevice clients (device.with_semaphores s d.at (met_as (from_rows s.semaphores) d x))
  device-met s d x is are = record { bound = subst (λ (rows : List ClientRow). Bound (asker after.rows) (waits_in rows)) (sym so) met_so.bound; sound = met_so.sound }
    where
      told : List ClientRow
      told = delivered cell (all_told s.happened) clients

      after : Ticking
      after = met_as (from_rows s.semaphores) d x

      met_so : Meanwhile told after
      met_so = one-met told (from_rows s.semaphores) d x is (record { bound = are.bound; sound = are.sound })

      so : delivered cell (all_told (s.happened ++ at_semaphores d.at after.happened)) clients ≡ delivered cell (sem_told after.happened) told
      so =
          ap (λ (l : List (ℕ × Effect)). delivered cell l clients) (then-told s.happened d.at after.happened)
          ∙ delivered_both (all_told s.happened) (sem_told after.happened) clients

  pub device-evaluated : (s : device.Ticking) (d : NamedDeadline) → OnDevice clients s → OnDevice clients (device.evaluated cells s d)
  device-evaluated s d are = record {
    bound = bound-same (asker s.semaphores) (asker s.semaphores) (waits_in told) (waits_in (delivered cell (all_told (s.happened ++ turns)) clients)) are.bound (λ k n. refl)
        (λ c i. ap (λ (rows : List ClientRow). waits_in rows c i) so ∙ all-still (all_told turns) told (notices-still (all_told turns) (conditions-told d.at evaluated.told)) c i);
    sound = are.sound;
  }
    where
      told : List ClientRow
      told = delivered cell (all_told s.happened) clients

      evaluated : events.Ticking
      evaluated = events.evaluated cells (events.begun s.conditions s.enrolments []) (d.at, d.key)

      turns : List DatedHappening
      turns = at_conditions d.at evaluated.told

      so : delivered cell (all_told (s.happened ++ turns)) clients ≡ delivered cell (all_told turns) told
      so = ap (λ (l : List (ℕ × Effect)). delivered cell l clients) (told-more s.happened turns) ∙ delivered_both (all_told s.happened) (all_told turns) clients

  device-ticked : (until : Moment) (s : device.Ticking) → OnDevice clients s → OnDevice clients (device.ticked_on cells until s)
  device-ticked until = keeps-ticked cells until (OnDevice clients) (λ s d x due is are. device-met s d x is are) device-evaluated

-- ---- each event

pub linked-bound : (count : ℕ) (s : State) (event : CellEvent) → IsSound count s → Bound (asker s.semaphores) (waits_in s.clients)
    → Bound (asker (step s event).semaphores) (waits_in (step s event).clients)
linked-bound count s (Heard client octets) sound bound =
    let row = row_at cell client s.clients in
    heard count s sound bound client (resolved (cell.tables_of s) row (verdict row octets))
    (resolved-meant (cell.tables_of s) row (verdict row octets) (verdict-meant row octets))
linked-bound count s (Lost client) sound bound = loses-one count s sound bound client (row_at cell client s.clients).association refl
linked-bound count s (Tick ms) sound bound =
    (device-ticked s.clients (saying s.variables) (moment_after ms (cell.tables_of s)) (device.begun s.semaphores s.events.conditions s.events.enrolments)
    (record { bound = bound; sound = sound.semaphores })).bound
linked-bound count s (Ends name) sound bound = bound
linked-bound count s (Drain client) sound bound =
    bound-same (asker s.semaphores) (asker s.semaphores) (waits_in s.clients) (waits_in (delivered cell (tell client (Drains ∷ [])) s.clients)) bound (λ k n. refl)
    (told-still client (Drains ∷ []) s.clients (tt, tt))

told-of : (s : State) (event : CellEvent) → RowsDistinct s.clients → RowsDistinct (step s event).clients
told-of s event distinct = distinct-told (done_of cell services s event).told s.clients distinct

pub linked_step : (count : ℕ) (s : State) (event : CellEvent) → IsSound count s → Linked s → Linked (step s event)
linked_step count s event sound linked = record { bound = linked-bound count s event sound linked.bound; distinct = told-of s event linked.distinct }

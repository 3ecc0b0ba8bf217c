-- After any history no deadline is further away than 32 bits tell.
use Rattle.std.proofs.Common.{◌≡◌, ℕ, ◌+◌, ◌≤◌, Bool, IfSome, true, false, nat_lt, List, [], ◌∷◌, fold, Option, None, Some, option_map, Result, Ok, Err, if◌then◌else◌, sym, subst, arith}
use Rattle.std.specs.List.{All}
use Rattle.mms_types.specs.Order.{key_of}
use Rattle.mms_types.specs.declared.cells.PoolRow.{PoolRow}
use Rattle.mms_types.specs.declared.event.CellEvent.{CellEvent}
use Rattle.mms_types.specs.declared.event.CellEvent.TheVariants.{Heard, Lost, Tick, Ends, Drain}
use Rattle.mms_types.specs.declared.key.Key.{Key}
use Rattle.mms_types.specs.declared.moment.Moment.{Moment}
use Rattle.mms_types.specs.declared.pdu.Pdu.{Pdu}
use Rattle.mms_types.specs.declared.pdu.Pdu.TheVariants as pdu
use Rattle.mms_types.specs.declared.pdu.Request.{Request}
use Rattle.mms_types.specs.declared.pdu.Request.TheVariants as request
use Rattle.mms_types.specs.declared.semaphore.TakeControl.{TakeControl}
use Rattle.mms_pdu.specs.declared.refusal.Refusal.{Refusal}
use Rattle.mms_pdu.specs.Heard.{pdu_heard}
use Rattle.mms_pdu.specs.Hearing.{depth_of}
use Rattle.association.specs.declared.client_part.NotAdmitted.{NotAdmitted}
use Rattle.association.specs.declared.client_part.NotAdmitted.TheVariants as not_admitted
use Rattle.association.specs.declared.negotiation.Association.{Association}
use Rattle.association.specs.declared.negotiation.Association.TheVariants.{Idle, Open}
use Rattle.association.specs.declared.negotiation.Negotiated.{Negotiated}
use Rattle.association.specs.declared.waiting.Waiting.{Waiting}
use Rattle.association.specs.Admission.{admission}
use Rattle.association.specs.Asked.{asked_of}
use Rattle.association.specs.Client.{ClientRow}
use Rattle.association.specs.Waiting.{is_waiting}
use Rattle.cell_config.specs.declared.config.Config.{Config}
use Rattle.token_sem.specs.declared.entry.SemEntry.{SemEntry}
use Rattle.mms_time.specs.Deadlines.{all_deadlines}
use Rattle.mms_time.specs.Opening.{configured}
use Rattle.mms_time.specs.Semaphores.{Rows, entry_in}
use Rattle.mms_time.specs.Services.{take_told}
use Rattle.mms_time.specs.Statuses.{entry_status, left_until}
use Rattle.mms_time.specs.declared.taking.TakeDone.{TakeDone}
use Rattle.mms_time.specs.declared.taking.TakeDone.TheVariants.{Answered, Waits}
use Rattle.sem_ticks.specs.Granted.{relinquish_granted}
use Rattle.sem_ticks.specs.declared.granted.Granted.{Granted}
use Rattle.parted_state.specs.Served.{row_at}
use Rattle.cell_client.specs.Association.{Verdict, Tells, Takes, Replies, Exhausts, Concludes, Cancels, Aborts, admitted, cancelled, idle_verdict, open_verdict, requested, verdict, verdict_by}
use Rattle.cell_services.specs.Services.{effect, effect_of, relinquish_outcome, reply_in, take_outcome}
use Rattle.cell_ticks.specs.Ticks.{begun}
use Rattle.cell_services.specs.Serving.{is_served, is_served_in, resolved, saying, tables_cancelled, tables_heard, tables_lost, waiting_of}
use Rattle.cell_services.specs.Tables.{Tables, moment_after, moment_of}
use Rattle.step_parts.specs.Partition.{cell}
use Rattle.step_parts.specs.State.{State, start}
use Rattle.step_parts.specs.Step.{replay, step}
use Rattle.step_parts.proofs.PartsAfter.{now_lost, step_still}
use Rattle.cell_laws.proofs.Asked32.{AsksFew, FewAsked, HeardFew, RequestFew, heard-few}
use Rattle.cell_laws.proofs.Near.{IsBy, RowsNear, all_near, entry_near, near_cancelled, near_defined, near_deleted, near_lost, near_relinquished, near_taken, near_ticked, rows-later}
use Rattle.cell_laws.proofs.Verdicts.{by-conclusion, by-error, by-rejected, by-response, by-tables}

-- ---- what a client's octets come to

abbrev TakesFew : Verdict → Type 0
TakesFew (Takes invoke asked) = RequestFew asked
TakesFew v = Unit {0}

admitted-few : (may : Result Unit NotAdmitted) (invoke : ℕ) (asked : Request) → RequestFew asked → TakesFew (admitted may invoke asked)
admitted-few (Err not_admitted.Waiting) invoke asked few = tt
admitted-few (Err not_admitted.Outstanding) invoke asked few = tt
admitted-few (Ok taken) invoke asked few = few

requested-few : (row : ClientRow) (too_deep : Bool) (invoke : ℕ) (asked : Request) → RequestFew asked → TakesFew (requested too_deep row invoke asked)
requested-few row true invoke asked few = tt
requested-few row false invoke asked few = admitted-few (admission invoke row) invoke asked few

cancelled-few : (waits : Bool) (invoke : ℕ) → TakesFew (cancelled waits invoke)
cancelled-few true invoke = tt
cancelled-few false invoke = tt

idle-few : (heard : Result Pdu Refusal) → TakesFew (idle_verdict heard)
idle-few (Ok (pdu.InitiateRequest proposal)) = tt
idle-few heard = tt

open-few : (values : Negotiated) (row : ClientRow) (heard : Result Pdu Refusal) → HeardFew heard → TakesFew (open_verdict values row heard)
open-few values row (Err refusal) few = tt
open-few values row (Ok pdu.ConcludeRequest) few = by-conclusion TakesFew tt tt row.waiting row.asked
open-few values row (Ok (pdu.CancelRequest invoke)) few = cancelled-few (is_waiting invoke row.waiting) invoke
open-few values row (Ok (pdu.ConfirmedRequest invoke asked)) few = requested-few row (nat_lt values.nesting (depth_of (pdu.ConfirmedRequest invoke asked))) invoke asked few
open-few values row (Ok (pdu.HeardResponse number told)) few = by-response TakesFew (λ n came. tt) (λ n. tt) tt tt number told (asked_of number row.asked)
open-few values row (Ok (pdu.HeardError number)) few = by-error TakesFew (λ n came. tt) (λ n. tt) tt tt number (asked_of number row.asked)
open-few values row (Ok (pdu.HeardReject number)) few = by-rejected TakesFew (λ n came. tt) (λ n. tt) tt tt number row.asked
open-few values row (Ok heard) few = tt

by-few : (row : ClientRow) (a : Association) (heard : Result Pdu Refusal) → HeardFew heard → TakesFew (verdict_by a row heard)
by-few row Idle heard few = idle-few heard
by-few row (Open values) heard few = open-few values row heard few

verdict-few : (row : ClientRow) (octets : List ℕ) → TakesFew (verdict row octets)
verdict-few row octets = by-few row row.association (pdu_heard row.constants.edition octets) (heard-few row.constants.edition octets)

resolved-few : (t : Tables) (row : ClientRow) (v : Verdict) → TakesFew v → TakesFew (resolved t row v)
resolved-few t row = by-tables TakesFew t row (λ invoke asked few. tt) (λ number came few. tt) (λ few. tt)

-- ---- each event

module _ (t : Tables) (all : RowsNear (moment_of t) t.semaphores) where
  abbrev Then : Rows → Type 0
  Then rows = RowsNear (moment_of t) rows

  le : t.now ≤ t.now
  le = omega arith

  taken-near : (client invoke : ℕ) (x : TakeControl) (o : Option TakeDone) → AsksFew x → Then (take_outcome t client invoke x o).tables.semaphores
  taken-near client invoke x None few = all
  taken-near client invoke x (Some (Answered told)) few = near_taken (moment_of t) (moment_of t) le client invoke x t.semaphores few all
  taken-near client invoke x (Some (Waits entry)) few = near_taken (moment_of t) (moment_of t) le client invoke x t.semaphores few all

  effect-near : (row : ClientRow) (invoke : ℕ) (asked : Request) → FewAsked asked → Then (effect t row invoke asked).tables.semaphores
  effect-near row invoke (request.TakeControl x) few = taken-near row.client invoke x (take_told row.client x t.semaphores) few
  effect-near row invoke (request.RelinquishControl x) few = by_grant (relinquish_granted row.client x t.semaphores)
    where
      by_grant : (o : Option (Option Granted)) → Then (relinquish_outcome t row.client x o).tables.semaphores
      by_grant None = all
      by_grant (Some grant) = near_relinquished (moment_of t) (moment_of t) le (key_of row.client x.name) row.client x.token t.semaphores all
  effect-near row invoke (request.DefineSemaphore x) few = near_defined (moment_of t) (moment_of t) le row.client x t.semaphores all
  effect-near row invoke (request.DeleteSemaphore x) few = near_deleted (moment_of t) (moment_of t) le (key_of row.client x) t.semaphores all
  effect-near row invoke asked few = all

  heard-near : (row : ClientRow) (v : Verdict) → TakesFew v → Then (tables_heard t row v).semaphores
  heard-near row (Takes invoke asked) few = by_test (is_served t row invoke asked)
    where
      by_test : (b : Bool) → Then (if b then (effect t row invoke asked).tables else t).semaphores
      by_test true = effect-near row invoke asked few.few
      by_test false = all
  heard-near row (Tells effects) few = all
  heard-near row (Replies number came) few = by_test (is_served_in t row number (reply_in number came))
    where
      by_test : (b : Bool) → Then (if b then (effect_of t row number (reply_in number came)).tables else t).semaphores
      by_test true = all
      by_test false = all
  heard-near row (Exhausts invoke) few = near_lost (moment_of t) (moment_of t) le row.client t.semaphores all
  heard-near row Concludes few = near_lost (moment_of t) (moment_of t) le row.client t.semaphores all
  heard-near row (Cancels invoke) few = by_waiting (waiting_of invoke row.waiting)
    where
      by_waiting : (o : Option Waiting) → Then (tables_cancelled o t).semaphores
      by_waiting None = all
      by_waiting (Some request) = near_cancelled (moment_of t) (moment_of t) le request.key request.entry t.semaphores all
  heard-near row Aborts few = near_lost (moment_of t) (moment_of t) le row.client t.semaphores all

  lost-near : (a : Association) (client : ℕ) → Then (tables_lost a client t).semaphores
  lost-near Idle client = all
  lost-near (Open values) client = near_lost (moment_of t) (moment_of t) le client t.semaphores all

-- no deadline is further away
abbrev AreNear : State → Type 0
AreNear s = RowsNear (record { 0 = s.now }) s.semaphores

near-after : (s : State) (event : CellEvent) → AreNear s → AreNear (step s event)
near-after s (Heard client octets) all =
    subst (λ (now : ℕ). RowsNear (record { 0 = now }) (step s (Heard client octets)).semaphores) (sym (step_still s client octets))
    (let row = row_at cell client s.clients in
    heard-near (cell.tables_of s) all row (resolved (cell.tables_of s) row (verdict row octets)) (resolved-few (cell.tables_of s) row (verdict row octets) (verdict-few row octets)))
near-after s (Lost client) all =
    subst (λ (now : ℕ). RowsNear (record { 0 = now }) (step s (Lost client)).semaphores)
    (sym (now_lost (row_at cell client s.clients).association (row_at cell client s.clients).client (cell.tables_of s)))
    (lost-near (cell.tables_of s) all (row_at cell client s.clients).association (row_at cell client s.clients).client)
near-after s (Tick ms) all =
    near_ticked (saying s.variables) (moment_after ms (cell.tables_of s)) (begun s.semaphores s.events.conditions s.events.enrolments)
    (rows-later (record { 0 = s.now }) (moment_after ms (cell.tables_of s)) s.semaphores (omega arith) all)
near-after s (Ends name) all = all
near-after s (Drain client) all = all

near-along : (s : State) (history : List CellEvent) → AreNear s → AreNear (fold step s history)
near-along s [] all = all
near-along s (event ∷ rest) all = near-along (step s event) rest (near-after s event all)

-- the pools that there are at the start have no entries
near-first : (now : Moment) (pools : List PoolRow) → RowsNear now (configured pools)
near-first now [] = tt
near-first now (pool ∷ pools) = (tt, near-first now pools)

replay-near : (config : Config) (history : List CellEvent) → AreNear (replay config history)
replay-near config history = near-along (start config) history (near-first (record { 0 = config.start.0 }) config.pools)

-- ---- what is told of deadlines

pub replay_near : (config : Config) (history : List CellEvent)
    → All (λ due. due.at.0 ≤ (replay config history).now + 4294967295) (all_deadlines (replay config history).semaphores)
replay_near config history = all_near (record { 0 = (replay config history).now }) (replay config history).semaphores (replay-near config history)

left-near : (now : Moment) (o : Option Moment) → IsBy now o → IfSome (option_map (left_until now) o) (λ left. left ≤ 4294967295)
left-near now None by = tt
left-near now (Some at) by = omega (arith, by)

pub replay_left : (config : Config) (history : List CellEvent) (key : Key) (number : ℕ) (entry : SemEntry) (names : List (List ℕ))
    → entry_in key number (replay config history).semaphores ≡ Some entry
    → IfSome (entry_status names (record { 0 = (replay config history).now }) entry).remaining (λ left. left ≤ 4294967295)
replay_left config history key number entry names there =
    left-near (record { 0 = (replay config history).now }) entry.deadline
    (entry_near (record { 0 = (replay config history).now }) key number (replay config history).semaphores entry (replay-near config history) there)

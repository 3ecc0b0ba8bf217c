-- The event conditions of a device stay as they should be, at each event.
use Rattle.std.specs.Prelude.{◌≡◌, ℕ, ◌+◌, Option, None, Some}
use Rattle.std.proofs.Common.{sym, subst, arith}
use Rattle.mms_types.specs.declared.event.CellEvent.{CellEvent}
use Rattle.mms_types.specs.declared.event.CellEvent.TheVariants.{Heard, Lost, Tick, Ends, Drain}
use Rattle.mms_types.specs.declared.pdu.Request.{Request}
use Rattle.mms_types.specs.declared.pdu.Request.TheVariants as request
use Rattle.mms_time.specs.declared.taking.TakeDone.{TakeDone}
use Rattle.mms_time.specs.declared.taking.TakeDone.TheVariants.{Answered, Waits}
use Rattle.mms_time.specs.Services.{take_told}
use Rattle.sem_ticks.specs.Granted.{relinquish_granted}
use Rattle.sem_ticks.specs.Sound as semaphores
use Rattle.sem_ticks.specs.declared.granted.Granted.{Granted}
use Rattle.association.specs.Client.{ClientRow}
use Rattle.association.specs.declared.negotiation.Association.{Association}
use Rattle.association.specs.declared.negotiation.Association.TheVariants.{Idle, Open}
use Rattle.parted_state.specs.Served.{row_at}
use Rattle.serve_events.specs.Events.{alter_condition, define_condition}
use Rattle.cell_ticks.specs.Parts.{losses_of, of_semaphores}
use Rattle.cell_ticks.specs.Ticks as device
use Rattle.cell_ticks.proofs.Ticked.{both_parts}
use Rattle.cell_client.specs.Association.{Verdict, verdict}
use Rattle.cell_services.specs.Requests.{told_in}
use Rattle.cell_services.specs.Services.{cause, effect, relinquish_outcome, take_outcome}
use Rattle.cell_services.specs.Serving.{resolved, saying, tables_heard, tables_lost}
use Rattle.cell_services.specs.Tables.{Tables, moment_after, moment_of, own_events}
use Rattle.step_parts.specs.Partition.{cell}
use Rattle.step_parts.specs.State.{IsSound, State}
use Rattle.step_parts.specs.Step.{step}
use Rattle.step_sound.proofs.ConditionsKept.{AreWell, sound_of, well_after_alter, well_after_trigger, well_deleted, well_lost, well_more, well_of, well_ticked}
use Rattle.step_parts.proofs.PartsAfter.{now_lost, step_still}
use Rattle.step_sound.proofs.Walked.{by_heard}

-- ---- what is heard

module _ (t : Tables) (well : AreWell (moment_of t) t.events.conditions) where
  abbrev Stays : Tables → Type 0
  Stays u = AreWell (moment_of t) u.events.conditions

  effect_well : (row : ClientRow) (invoke : ℕ) (asked : Request) → cause t row asked ≡ None → Stays (effect t row invoke asked).tables
  effect_well row invoke (request.DefineEventCondition x) none =
      let facts = told_in own_events t row (define_condition x) in well_more (moment_of t) facts.live row.client x (facts.cell row.client) t.events.conditions none well
  effect_well row invoke (request.DeleteEventCondition x) none = well_deleted (moment_of t) row.client x t.events.conditions well
  effect_well row invoke (request.AlterEventConditionMonitoring x) none =
      well_after_alter (moment_of t) row.client (told_in own_events t row (alter_condition x)).truth x t.events.conditions well
  effect_well row invoke (request.TriggerEvent x) none = well_after_trigger (moment_of t) row.client x.name t.events.conditions well
  effect_well row invoke (request.TakeControl x) none = by_done (take_told row.client x t.semaphores)
    where
      by_done : (o : Option TakeDone) → Stays (take_outcome t row.client invoke x o).tables
      by_done None = well
      by_done (Some (Answered told)) = well
      by_done (Some (Waits entry)) = well
  effect_well row invoke (request.RelinquishControl x) none = by_grant (relinquish_granted row.client x t.semaphores)
    where
      by_grant : (o : Option (Option Granted)) → Stays (relinquish_outcome t row.client x o).tables
      by_grant None = well
      by_grant (Some grant) = well
  effect_well row invoke asked none = well

  heard_well : (row : ClientRow) (v : Verdict) → Stays (tables_heard t row v)
  heard_well row v = by_heard t row Stays well (well_lost (moment_of t) row.client t.events.conditions well) (effect_well row) (λ number came. well) (λ request. well) v

  lost_well : (a : Association) (client : ℕ) → Stays (tables_lost a client t)
  lost_well Idle client = well
  lost_well (Open values) client = well_lost (moment_of t) client t.events.conditions well

-- ---- each event

pub well_before : (count : ℕ) (s : State) → IsSound count s → AreWell (record { 0 = s.now }) s.events.conditions
well_before count s sound = well_of (record { 0 = s.now }) s.events.conditions sound.conditions sound.awaited

abbrev IsWellIn : State → ℕ → Type 0
IsWellIn s now = AreWell (record { 0 = now }) s.events.conditions

-- time goes by: as it does where there are no semaphores
ticked_well : (s : State) (ms : ℕ) → semaphores.AreSound s.semaphores → IsWellIn s s.now → IsWellIn (step s (Tick ms)) (s.now + ms)
ticked_well s ms sound well =
    let t = cell.tables_of s in
    let until = moment_after ms t in
    subst (λ (u : device.Ticking). AreWell until u.conditions)
    (sym (both_parts (saying s.variables) until s.semaphores s.events.conditions s.events.enrolments
    (record { semaphores = sound; conditions = sound_of (moment_of t) s.events.conditions well })))
    (well_ticked (saying s.variables) (moment_of t) until s.events.conditions s.events.enrolments (losses_of (of_semaphores until s.semaphores)) (omega arith) well)

pub well_after : (s : State) (event : CellEvent) → semaphores.AreSound s.semaphores → IsWellIn s s.now → IsWellIn (step s event) (step s event).now
well_after s (Heard client octets) sound well =
    subst (IsWellIn (step s (Heard client octets))) (sym (step_still s client octets))
    (heard_well (cell.tables_of s) well (row_at cell client s.clients) (resolved (cell.tables_of s) (row_at cell client s.clients) (verdict (row_at cell client s.clients) octets)))
well_after s (Lost client) sound well =
    subst (IsWellIn (step s (Lost client))) (sym (now_lost (row_at cell client s.clients).association (row_at cell client s.clients).client (cell.tables_of s)))
    (lost_well (cell.tables_of s) well (row_at cell client s.clients).association (row_at cell client s.clients).client)
well_after s (Tick ms) sound well = ticked_well s ms sound well
well_after s (Ends name) sound well = well
well_after s (Drain client) sound well = well

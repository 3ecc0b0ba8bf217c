-- What contracts see of a device that many callers share, and what one call makes of a caller's pass (this profile's
-- choice).
use Rattle.std.specs.Prelude.{◌≡◌, ◌≢◌, ◌^◌, ℕ, ◌+◌, ◌-◌, List, [], ◌∷◌, ◌++◌, length, map, Contains}
use Rattle.mms_types.specs.declared.event.CellEvent.{CellEvent}
use Rattle.mms_types.specs.declared.event.CellEvent.TheVariants.{Tick}
use Rattle.cell_config.specs.declared.config.Config.{Config}
use Rattle.part_table.specs.History.{StartsWith, events_of}
use Rattle.part_table.specs.Known.{Known, Opened}
use Rattle.step_parts.specs.declared.part.Part.{Part}
use Rattle.step_parts.specs.State.{State, start}
use Rattle.step_parts.specs.Step.{replay, IsInTime}
use Rattle.step_parts.specs.Partition.{parts_of}
use Rattle.step_parts.specs.Needs.{wanted}
use Rattle.mms_device.specs.Making.{MayMake}

-- the device: the table of its parts, and its configuration
pub record Shared : Type 0 where
  pub table : Opened Part
  pub config : Config

-- the table is that of the configured device: its parts are those of the start, its callers are the cell and each
-- client, and each of them may commit 2^33 events
pub record IsOf (table : Opened Part) (config : Config) : Type 0 where
  pub opening : table.opening ≡ parts_of (start config)
  pub callers : table.callers ≡ config.clients + 1
  pub quota : table.quota ≡ 2 ^ 33

-- a caller's pass
abbrev pub Caller : Type 0
Caller = Known Part CellEvent

-- a history: events, each with the number of the caller that made it
abbrev pub History : Type 0
History = List (ℕ × CellEvent)

-- its events
abbrev pub all_events : History → List CellEvent
all_events history = map (λ made. made.1) history

-- the state of the configured device to which it leads
abbrev pub led_to : Config → History → State
led_to config history = replay config (all_events history)

-- the milliseconds that go by in events
abbrev pub goes_by : CellEvent → ℕ
goes_by (Tick ms) = ms
goes_by event = 0

abbrev pub ticks_in : List CellEvent → ℕ
ticks_in [] = 0
ticks_in (event ∷ events) = goes_by event + ticks_in events

-- the configured moment, the ticks among the caller's own events, and this event come to no more than the last moment
abbrev pub IsTimely : Config → Caller → CellEvent → Type 0
IsTimely config pass event = IsInTime (config.start.0 + ticks_in (events_of pass.by pass.seen)) event

-- The pass is the device's, and its caller may make the event now: the event's actor has its number, and the event is in
-- time.
pub record MayMakeNow (device : Shared) (event : CellEvent) (pass : Caller) : Type 0 where
  pub table : pass.table ≡ device.table
  pub actor : MayMake pass.by event
  pub time : IsTimely device.config pass event

-- The event was committed, once: it has that place behind a history that begins with what the pass knew. Beside those
-- that were there it is the one event of the caller's own, and nothing else of the pass has changed.
pub record IsServed (event : CellEvent) (old new : Caller) (ticket : ℕ) (h : History) : Type 0 where
  pub pass : new ≡ record old { seen = h ++ (old.by, event) ∷ []; own = old.own ++ ticket ∷ []; left = old.left - 1 }
  pub seen : StartsWith h old.seen
  pub place : ticket ≡ length h + 1
  pub own : events_of old.by new.seen ≡ events_of old.by old.seen ++ event ∷ []

-- Nothing of the pass has changed but what it knows of others: the history begins with what it knew, and has no further
-- event of the caller's own.
pub record IsAsBefore (old new : Caller) : Type 0 where
  pub pass : new ≡ record old { seen = new.seen }
  pub seen : StartsWith new.seen old.seen
  pub own : events_of old.by new.seen ≡ events_of old.by old.seen

-- One claim was lost, on a part that the event wants in the state to which the history leads that the pass then knows,
-- and to another caller. Nothing else has changed but what the pass knows of others.
pub record IsBusy (config : Config) (event : CellEvent) (old new : Caller) (part by : ℕ) : Type 0 where
  pub pass : new ≡ record old { seen = new.seen; lost = old.lost ++ (part, by) ∷ [] }
  pub seen : StartsWith new.seen old.seen
  pub own : events_of old.by new.seen ≡ events_of old.by old.seen
  pub another : by ≢ old.by
  pub wants : Contains (wanted event (led_to config new.seen)) part

-- A caller tried in vain: nothing of the pass has changed but what it knows of others and the claims that it lost, and
-- both begin with what was there.
pub record HasTried (old new : Caller) : Type 0 where
  pub pass : new ≡ record old { seen = new.seen; lost = new.lost }
  pub seen : StartsWith new.seen old.seen
  pub own : events_of old.by new.seen ≡ events_of old.by old.seen
  pub lost : StartsWith new.lost old.lost

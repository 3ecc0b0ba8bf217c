-- A device of many callers that serves phases: the words of clauses inside the crate.
use Rattle.std.specs.Prelude.{◌≡◌, ◌≤◌, ◌^◌, ℕ, ◌+◌, List, [], ◌∷◌, ◌++◌, Some, slice_get, length, drop}
use Rattle.part_table.specs.History.{events_of, IsMade}
use Rattle.part_table.specs.Known.{HoldsNothing}
use Rattle.mms_types.specs.declared.event.CellEvent.{CellEvent}
use Rattle.cell_config.specs.declared.config.Config.{Config}
use Rattle.mms_device.specs.Making.{MayMake}
use Rattle.mms_device.specs.Shared.{Shared, Caller, History, IsOf, all_events, ticks_in}
use Rattle.mms_device.specs.Turns.{CanServe, IsFit, places, events}
use Rattle.mms_device.specs.declared.turns.CellJob.{CellJob}
use Rattle.cell_record.specs.Grammar.{all_ms}
use Rattle.cell_record.specs.History.{Interleaves, history, events_of as acts_of}
use Rattle.cell_run.specs.declared.crew.Crew.{Crew}
use Rattle.cell_words.specs.declared.words.Command.{Command}
use Rattle.cell_words.specs.declared.words.Command.TheVariants.{Replay, Run, Stress}
use Rattle.cell_run.specs.Drained.{AreKnown}
use Rattle.cell_run.specs.Laying.{Log}
use Rattle.cell_run.specs.Bodies.{Serves}
use Rattle.cell_run.specs.Serving.{IsNext}

-- What was served to a pass: all these events. Their places are its new own places, and they are
-- what it has made since, in a history that begins with the one that it knew. The pass is the same
-- caller's, of the same device, and holds nothing.
pub record IsWhole (device : Shared) (given : List CellEvent) (before after : Caller) (log : Log)
    : Type 0 where
  pub work : given ≡ events log
  pub own : after.own ≡ before.own ++ places log
  pub known : events_of before.by after.seen ≡ events_of before.by before.seen ++ events log
  pub seen : after.seen ≡ before.seen ++ drop (length before.seen) after.seen
  pub left : after.left + length log ≡ before.left
  pub by : after.by ≡ before.by
  pub of_table : after.table ≡ device.table
  pub idle : HoldsNothing after

-- each job may be served on the device, and none of its events was
abbrev pub AreReady : Shared → List CellJob → Type 0
AreReady device jobs =
    (i : ℕ) (job : CellJob) → slice_get jobs i ≡ Some job → IsFit device job × (job.log.items ≡ [])

-- all events of each job were served, to its pass
abbrev pub AreServed : Shared → List CellJob → List CellJob → Type 0
AreServed device given back =
    (i : ℕ) (a b : CellJob) → slice_get given i ≡ Some a → slice_get back i ≡ Some b
    → (b.rest ≡ []) × IsWhole device a.rest a.pass b.pass b.log.items

-- the pass of each caller may serve the caller's own of these events on the device
abbrev pub CanServeAll : Shared → List Caller → List CellEvent → Type 0
CanServeAll device passes events =
    (i : ℕ) (p : Caller) → slice_get passes i ≡ Some p → CanServe device p (acts_of i events)

-- Passes, in the order of their callers' numbers, have served events, each those of its caller:
-- what was made of each, and the places of its events.
pub record HaveServed (device : Shared) (before : List Caller) (events : List CellEvent)
    (after : List Caller) (logs : List Log) : Type 0 where
  pub same : length after ≡ length before
  pub all : length logs ≡ length before
  pub each : (i : ℕ) (p q : Caller) (log : Log) → slice_get before i ≡ Some p
      → slice_get after i ≡ Some q → slice_get logs i ≡ Some log
      → IsWhole device (acts_of i events) p q log

-- how many events there are in phases
abbrev pub size_of : List (List CellEvent) → ℕ
size_of [] = 0
size_of (phase ∷ phases) = length phase + size_of phases

-- The device, configured so, has served phases by bodies. Its passes know one history, which is
-- that of the bodies, and hold nothing; there are commits enough, and time goes by as the phases say.
pub record HasRun (crew : Crew) (config : Config) (phases bodies : List (List CellEvent))
    : Type 0 where
  pub common : History
  pub along : all_events common ≡ history config.clients bodies
  pub interleave : Interleaves bodies phases
  pub device : crew.device.config ≡ config
  pub of : IsOf crew.device.table config
  pub known : AreKnown crew.device.table crew.passes.items common
  pub made : IsMade (config.clients + 1) MayMake common
  pub count : crew.count ≡ length common
  pub workers : (1 ≤ crew.workers) × (crew.workers ≤ 16)
  pub left : (i : ℕ) (p : Caller) → slice_get crew.passes.items i ≡ Some p
      → 2 ^ 33 ≤ size_of phases + length phases + p.left
  pub time : (caller : ℕ) → ticks_in (events_of caller common) ≤ all_ms phases

-- so configured, and after some phases, these events may come next, and are not too many in all
pub record MayRun (crew : Crew) (events : List CellEvent) : Type 0 where
  pub config : Config
  pub phases : List (List CellEvent)
  pub bodies : List (List CellEvent)
  pub served : HasRun crew config phases bodies
  pub next : IsNext config phases events
  pub size : size_of phases + length events ≤ 2 ^ 32

-- the command is `run`, by whatever number of workers
abbrev pub IsRun : Command → Type 0
IsRun Replay = ⊥
IsRun (Run workers) = Unit {0}
IsRun (Stress seed clients rounds workers) = ⊥

pub run_interleaves : (crew : Crew) (config : Config) (phases bodies : List (List CellEvent))
    → HasRun crew config phases bodies → Interleaves bodies phases
run_interleaves crew config phases bodies h = h.interleave

pub run_serves : (command : Command) (phases bodies : List (List CellEvent))
    → IsRun command → Serves command bodies phases
run_serves Replay phases bodies is = absurd is
run_serves (Run workers) phases bodies is = tt
run_serves (Stress seed clients rounds workers) phases bodies is = absurd is

-- What serves the phases of a recording: the words of clauses inside the crate.
use Rattle.std.specs.Prelude.{◌≡◌, ◌≢◌, ◌≤◌, ◌<◌, ◌^◌, ℕ, ◌+◌, ◌*◌, false, List, [], ◌∷◌, ◌++◌, length}
use Rattle.std.specs.Prelude.{None, IfSome, IfOk, Result, refl}
use Rattle.std.specs.List.{All}
use Rattle.std.specs.declared.option.Option.{Option}
use Rattle.std.specs.Io.KnownBytes.{Appends, IsAtEnd}
use Rattle.cell_io.specs.Faults.{Rose}
use Rattle.cell_io.specs.Held.{Held, IsLaterPart}
use Rattle.cell_io.specs.Prefix.{AppendsPrefix}
use Rattle.mms_types.specs.Actors.{clients_to}
use Rattle.mms_types.specs.declared.event.CellEvent.{CellEvent}
use Rattle.cell_config.specs.declared.config.Config.{Config}
use Rattle.step_parts.specs.Step.{said}
use Rattle.mms_device.specs.Served.{Served, device_after}
use Rattle.cell_record.specs.EventLine.{IsRecorded}
use Rattle.cell_record.specs.Recording.{Place, Reading}
use Rattle.cell_record.specs.Grammar.{all_ms, phase_ms}
use Rattle.cell_record.specs.History.{Interleaves, history}
use Rattle.cell_record.specs.Progress.{Progress, place_of, rest_in, rest_of}
use Rattle.cell_record.specs.Report.{phase_text, placed_from, taken}
use Rattle.cell_record.specs.Stops.{Stops}
use Rattle.cell_record.specs.declared.recording.Phase.{Phase}
use Rattle.cell_record.specs.declared.told.Told.{Told}
use Rattle.cell_words.specs.declared.words.Command.{Command}
use Rattle.cell_words.specs.declared.words.Command.TheVariants.{Replay}
use Rattle.cell_run.specs.Bodies.{Serves}
use Rattle.cell_run.specs.declared.status.Status.{Status}
use Rattle.cell_run.specs.declared.status.Status.TheVariants as status
use Rattle.cell_run.specs.Ending.{Seen}
use Rattle.cell_run.specs.Outcome.{IsFinal, PrintsFor, report_of, status_for}

-- the text of a phase of this number that was served by this body, after a history
abbrev pub body_text : Config → ℕ → List CellEvent → List CellEvent → List ℕ
body_text config number before body =
    phase_text number (placed_from (length before + 1) body)
    (taken (said config) (before ++ body) (clients_to config.clients))

-- events that a recording may have as its next phase
pub record IsNext (config : Config) (phases : List (List CellEvent)) (events : List CellEvent)
    : Type 0 where
  pub recorded : All (IsRecorded config) events
  pub clock : config.start.0 + all_ms phases + phase_ms events ≤ 5662310399999
  pub few : length events ≤ 16384
  pub many : length phases < 2 ^ 32

-- so configured, and after some phases, these events may come next
pub record MayServe (has_served : Config → List (List CellEvent) → List (List CellEvent) → Type 0)
    (events : List CellEvent) : Type 0 where
  pub config : Config
  pub phases : List (List CellEvent)
  pub bodies : List (List CellEvent)
  pub served : has_served config phases bodies
  pub next : IsNext config phases events

-- a phase of this number was served by a body: what is told of it, and what has been served then
pub record ServesPhase (config : Config) (phases bodies : List (List CellEvent)) (number : ℕ)
    (events : List CellEvent) (told : Told)
    (has_served : Config → List (List CellEvent) → List (List CellEvent) → Type 0)
    : Type 0 where
  pub body : List CellEvent
  pub number_is : told.number ≡ number
  pub placed : told.served ≡ placed_from (length (history config.clients bodies) + 1) body
  pub outputs : told.outputs
      ≡ taken (said config) (history config.clients bodies ++ body) (clients_to config.clients)
  pub served : has_served config (phases ++ events ∷ []) (bodies ++ body ∷ [])

-- whatever phases had been served, and by whatever bodies: what was told of the next one is that it
-- was served by a body, and what has been served then goes on with it
abbrev pub TellsPhase : {E : Type 0}
    → (Config → List (List CellEvent) → List (List CellEvent) → Type 0) → Phase → Result Told E
    → (Config → List (List CellEvent) → List (List CellEvent) → Type 0) → Type 0
TellsPhase had_served phase result has_served =
    (config : Config) (phases bodies : List (List CellEvent)) → had_served config phases bodies
    → IfOk result
    (λ told. ServesPhase config phases bodies phase.number phase.events told has_served)

-- the device of one thread has served phases by themselves
pub record HasReplayed (device : Served) (config : Config) (phases bodies : List (List CellEvent))
    : Type 0 where
  pub along : device ≡ device_after config (history config.clients bodies)
  pub same : bodies ≡ phases
  pub clients : config.clients ≤ 64
  pub clock : device.state.now ≡ config.start.0 + all_ms phases
  pub count : device.count ≤ length phases * 16448

-- phases serve themselves
pub interleaves_self : (phases : List (List CellEvent)) → Interleaves phases phases
interleaves_self [] = tt
interleaves_self (phase ∷ phases) = (record { each = λ actor. refl }, interleaves_self phases)

pub replay_serves : (device : Served) (config : Config) (phases bodies : List (List CellEvent))
    → HasReplayed device config phases bodies
    → Interleaves bodies phases × Serves Replay bodies phases
replay_serves device config phases bodies h = rw h.same (interleaves_self phases, refl)

-- ---- what was written of a reading

pub record WritesAllOf (command : Command) (config : Config) (said : Reading)
    (old new : Option (List ℕ)) : Type 0 where
  pub printed : List ℕ
  pub prints : PrintsFor command config said printed
  pub written : Appends old new printed

pub record WritesSomeOf (command : Command) (config : Config) (said : Reading)
    (old new : Option (List ℕ)) : Type 0 where
  pub printed : List ℕ
  pub prints : PrintsFor command config said printed
  pub written : AppendsPrefix old new printed

-- the source failed, and the report of the phases that were complete was written
pub record WritesToStop (command : Command) (config : Config)
    (f : List (List ℕ) → Place → Reading) (held : Held) (p : Place)
    (left last old new : Option (List ℕ)) : Type 0 where
  pub done : List (List CellEvent)
  pub events : List CellEvent
  pub end : Place
  pub most : end.octets ≤ 4294967296
  pub stops : Stops f held p left last end (record { phases = done ++ events ∷ []; refusal = None })
  pub bodies : List (List CellEvent)
  pub interleave : Interleaves bodies done
  pub serve : Serves command bodies done
  pub written : Appends old new (report_of config bodies)

-- ---- how the serving of a recording ends, from a place on

-- no phase was read yet, and nothing is refused
abbrev pub Begins : Progress → Type 0
Begins p =
    (p.moment ≡ p.config.start.0) × (p.number ≡ 0) × (p.over ≡ false) × (p.refusal ≡ None)

-- the serving of what a recording still says ends so
pub record EndsFrom (command : Command) (p : Progress) (s : Status) (input rest out after : Seen)
    : Type 0 where
  pub known : s ≢ status.Usage
  -- what is still said was written whole, with the status that it gives, or else a prefix of that
  pub whole : IsFinal s → IfSome (rest_of p input.octets)
      (λ r. (s ≡ status_for r.refusal) × WritesAllOf command p.config r out.octets after.octets)
  pub part : IfSome (rest_of p input.octets)
      (λ r. WritesSomeOf command p.config r out.octets after.octets)
  pub ended : s ≡ status.Done → IsAtEnd rest.octets
  pub left : IsLaterPart input.octets rest.octets
  -- faults of the source, where it stopped the reading, and of the sink
  pub read : s ≡ status.ReadFault → Rose input.faults rest.faults
  pub stop : s ≡ status.ReadFault
      → WritesToStop command p.config (rest_in p) p.held (place_of p)
      input.octets rest.octets out.octets after.octets
  pub write : s ≡ status.WriteFault → Rose out.faults after.faults
  pub accepted : s ≢ status.WriteFault → after.faults ≡ out.faults

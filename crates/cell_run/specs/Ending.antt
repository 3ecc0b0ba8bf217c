-- How a run ends (this profile's choice).
use Rattle.std.specs.Prelude.{◌≡◌, ◌≢◌, ◌⊎◌, ℕ, List, IfSome, Some, None}
use Rattle.std.specs.Io.KnownBytes.{Appends, IsAtEnd}
use Rattle.std.specs.declared.option.Option.{Option}
use Rattle.cell_io.specs.Faults.{Rose}
use Rattle.cell_io.specs.Prefix.{AppendsPrefix}
use Rattle.mms_types.specs.declared.event.CellEvent.{CellEvent}
use Rattle.cell_config.specs.declared.config.Config.{Config}
use Rattle.cell_record.specs.Grammar.{ReadsRecording}
use Rattle.cell_words.specs.declared.words.Command.{Command}
use Rattle.cell_words.specs.declared.words.Command.TheVariants.{Replay, Run, Stress}
use Rattle.cell_run.specs.Bodies.{ReadsInput}
use Rattle.cell_run.specs.declared.status.Status.{Status}
use Rattle.cell_run.specs.declared.status.Status.TheVariants as status
use Rattle.cell_run.specs.Codes.{code_of}
use Rattle.cell_run.specs.Counted.{WritesCounts, WritesSomeCounts}
use Rattle.cell_run.specs.Outcome.{Completes, IsCut, IsFinal, WritesAll, WritesSome, status_of}
use Rattle.cell_run.specs.Outcome.{usage_text}

-- what is seen of a source or a sink: what is left there or held, where that is told, and the count
-- of faults
pub record Seen : Type 0 where
  pub octets : Option (List ℕ)
  pub faults : ℕ

-- of one that tells its octets and its faults by these
abbrev pub seen : {T : Type 0} → (T → Option (List ℕ)) → (T → ℕ) → T → Seen
seen octets faults x = record { octets = octets x; faults = faults x }

-- no fault of it was counted
abbrev pub IsUnfailed : Seen → Seen → Type 0
IsUnfailed before after = Rose before.faults after.faults → ⊥

-- with other words the usage line is written, unless the sink fails
abbrev pub EndsUsage : Status → Seen → Seen → Type 0
EndsUsage status.Usage out after =
    after.faults ≡ out.faults × Appends out.octets after.octets usage_text
EndsUsage status.WriteFault out after =
    Rose out.faults after.faults × AppendsPrefix out.octets after.octets usage_text
EndsUsage status.Done out after = ⊥
EndsUsage status.Bad out after = ⊥
EndsUsage status.Memory out after = ⊥
EndsUsage status.ReadFault out after = ⊥
EndsUsage status.BadConfig out after = ⊥
EndsUsage status.TooMuch out after = ⊥

-- `run` reads the next phase while it serves one: where that one can't be served for want of
-- memory, or written for a fault of the sink, no status tells a fault of the source that was met
-- ahead of it
abbrev pub MayReadAhead : Command → Status → Type 0
MayReadAhead (Run workers) status.Memory = Unit {0}
MayReadAhead (Run workers) status.WriteFault = Unit {0}
MayReadAhead (Run workers) other = ⊥
MayReadAhead Replay s = ⊥
MayReadAhead (Stress seed clients rounds workers) s = ⊥

-- a command that serves a recording ends so
pub record EndsServing (command : Command) (s : Status) (input rest out after : Seen) : Type 0 where
  pub known : s ≢ status.Usage
  -- what the text says, with the status that it gives, was written whole, or else a prefix of that
  pub whole : IsFinal s → IfSome input.octets
      (λ text. (s ≡ status_of text) × WritesAll command text out.octets after.octets)
  pub part : IfSome input.octets (λ text. WritesSome command text out.octets after.octets)
  pub ended : s ≡ status.Done → IsAtEnd rest.octets
  -- one fault of the source or of the sink is counted where it is told, and else none, but for one
  -- of the source that was met ahead; one of the source where it stopped the reading
  pub read : s ≡ status.ReadFault → Rose input.faults rest.faults
  pub unfailed : s ≢ status.ReadFault → (MayReadAhead command s → ⊥) → rest.faults ≡ input.faults
  pub once : (rest.faults ≡ input.faults) ⊎ Rose input.faults rest.faults
  pub cut : s ≡ status.ReadFault → IfSome input.octets
      (λ text. IsCut command text rest.octets out.octets after.octets)
  pub write : s ≡ status.WriteFault → Rose out.faults after.faults
  pub accepted : s ≢ status.WriteFault → after.faults ≡ out.faults

-- `stress` ends so: its four lines were written whole, or else a prefix of them
abbrev pub EndsStress : ℕ → ℕ → ℕ → Status → Seen → Seen → Type 0
EndsStress seed clients rounds status.Done out after =
    after.faults ≡ out.faults × WritesCounts seed clients rounds out.octets after.octets
EndsStress seed clients rounds status.Memory out after =
    after.faults ≡ out.faults × WritesSomeCounts seed clients rounds out.octets after.octets
EndsStress seed clients rounds status.WriteFault out after =
    Rose out.faults after.faults × WritesSomeCounts seed clients rounds out.octets after.octets
EndsStress seed clients rounds status.Usage out after = ⊥
EndsStress seed clients rounds status.Bad out after = ⊥
EndsStress seed clients rounds status.ReadFault out after = ⊥
EndsStress seed clients rounds status.BadConfig out after = ⊥
EndsStress seed clients rounds status.TooMuch out after = ⊥

-- how a run ends by its words; `stress` leaves the source as it was
abbrev pub Ends : Option Command → Status → Seen → Seen → Seen → Seen → Type 0
Ends None s input rest out after = EndsUsage s out after
Ends (Some Replay) s input rest out after = EndsServing Replay s input rest out after
Ends (Some (Run workers)) s input rest out after = EndsServing (Run workers) s input rest out after
Ends (Some (Stress seed clients rounds workers)) s input rest out after =
    (rest ≡ input) × EndsStress seed clients rounds s out after

-- by its exit status
pub record EndsWith (command : Option Command) (code : ℕ) (input rest out after : Seen)
    : Type 0 where
  pub status : Status
  pub is : code ≡ code_of status
  pub ends : Ends command status input rest out after

-- ---- where nothing fails

-- A text that is a recording is served and reported whole, where neither the source nor the sink
-- fails: then it ends as done, or for want of memory.
abbrev pub ReportsWhole : Command → (done wanting : Type 0) → Seen → Seen → Seen → Seen → Type 0
ReportsWhole command done wanting input rest out after = IfSome input.octets (λ text.
    (config : Config) (phases : List (List CellEvent)) → ReadsRecording text config phases
    → IsUnfailed input rest → IsUnfailed out after
    → wanting ⊎ (done × Completes command config phases out.octets after.octets))

-- so it is for a command that reads its input, by its exit status
abbrev pub CompletesFor : Option Command → ℕ → Seen → Seen → Seen → Seen → Type 0
CompletesFor asked code input rest out after =
    (command : Command) → ReadsInput command → asked ≡ Some command
    → ReportsWhole command (code ≡ 0) (code ≡ 3) input rest out after

-- and where the sink doesn't fail, `stress` writes its four lines
abbrev pub CountsFor : Option Command → ℕ → Seen → Seen → Type 0
CountsFor asked code out after =
    (seed clients rounds workers : ℕ) → asked ≡ Some (Stress seed clients rounds workers)
    → IsUnfailed out after
    → (code ≡ 3) ⊎ ((code ≡ 0) × WritesCounts seed clients rounds out.octets after.octets)

-- ---- inside the crate

-- these lines were written whole, or else a prefix of them
abbrev pub WritesLines : List ℕ → Status → Seen → Seen → Type 0
WritesLines lines status.Done out after =
    after.faults ≡ out.faults × Appends out.octets after.octets lines
WritesLines lines status.Memory out after = after ≡ out
WritesLines lines status.WriteFault out after =
    Rose out.faults after.faults × AppendsPrefix out.octets after.octets lines
WritesLines lines status.Usage out after = ⊥
WritesLines lines status.Bad out after = ⊥
WritesLines lines status.ReadFault out after = ⊥
WritesLines lines status.BadConfig out after = ⊥
WritesLines lines status.TooMuch out after = ⊥

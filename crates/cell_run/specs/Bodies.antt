-- The bodies by which a command may serve phases (this profile's choice).
use Rattle.std.specs.Prelude.{◌≡◌, List}
use Rattle.mms_types.specs.declared.event.CellEvent.{CellEvent}
use Rattle.cell_words.specs.declared.words.Command.{Command}
use Rattle.cell_words.specs.declared.words.Command.TheVariants.{Replay, Run, Stress}

-- of all those that interleave the phases: `replay` serves them as they were recorded, and `run`
-- and `stress` by any of them
abbrev pub Serves : Command → List (List CellEvent) → List (List CellEvent) → Type 0
Serves Replay bodies phases = bodies ≡ phases
Serves (Run workers) bodies phases = Unit {0}
Serves (Stress seed clients rounds workers) bodies phases = Unit {0}

-- the command reads a recording: `stress` makes its own
abbrev pub ReadsInput : Command → Type 0
ReadsInput Replay = Unit {0}
ReadsInput (Run workers) = Unit {0}
ReadsInput (Stress seed clients rounds workers) = ⊥

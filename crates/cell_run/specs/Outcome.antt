-- What a run prints, and the status with which it ends (this profile's choice).
use Rattle.std.specs.Prelude.{◌≡◌, ℕ, ◌+◌, List, [], ◌∷◌, ◌++◌, length, codes, Some, None, Ok, Err}
use Rattle.std.specs.Fmt.{decimal}
use Rattle.std.specs.Io.KnownBytes.{Appends}
use Rattle.std.specs.declared.option.Option.{Option}
use Rattle.cell_io.specs.Lines.{whole_lines}
use Rattle.cell_io.specs.Prefix.{AppendsPrefix}
use Rattle.cell_record.specs.History.{Interleaves}
use Rattle.cell_words.specs.declared.words.Command.{Command}
use Rattle.cell_run.specs.Bodies.{Serves}
use Rattle.mms_types.specs.declared.event.CellEvent.{CellEvent}
use Rattle.step_parts.specs.Step.{said}
use Rattle.cell_record.specs.declared.refusal.BadWord.{BadWord}
use Rattle.cell_record.specs.declared.refusal.BadWord.TheVariants as bad
use Rattle.cell_record.specs.declared.refusal.RecordError.{RecordError}
use Rattle.cell_record.specs.declared.refusal.RecordError.TheVariants.{Bad, BadConfig, TooMuch, ReadFault, Memory}
use Rattle.cell_config.specs.declared.config.Config.{Config}
use Rattle.cell_record.specs.Recording.{Reading, Opening, after_opening, opening_of_text, reading_of_text}
use Rattle.cell_record.specs.Stops.{IsRead, lines_in}
use Rattle.cell_record.specs.Report.{report}
use Rattle.cell_run.specs.declared.status.Status.{Status}
use Rattle.cell_run.specs.declared.status.Status.TheVariants as status

-- how the command is used
abbrev pub usage_text : List ℕ
usage_text = codes "usage: mmscell replay | run --workers N | stress --seed N --clients N --rounds N --workers N\n"

-- ---- why a recording isn't served to its end

abbrev pub word_text : BadWord → List ℕ
word_text bad.Header = codes "header"
word_text bad.Config = codes "config"
word_text bad.Long = codes "long"
word_text bad.Event = codes "event"
word_text bad.Hex = codes "hex"
word_text bad.Client = codes "client"
word_text bad.Clock = codes "clock"

-- the line that tells it
abbrev pub last_line : Option RecordError → List ℕ
last_line None = []
last_line (Some (Bad line word)) =
    codes "bad " ++ decimal line ++ codes " " ++ word_text word ++ codes "\n"
last_line (Some (BadConfig rule)) = codes "bad config " ++ decimal rule ++ codes "\n"
last_line (Some (TooMuch line)) = codes "too much " ++ decimal line ++ codes "\n"
last_line (Some ReadFault) = []
last_line (Some Memory) = []

-- and the status with which the run ends
abbrev pub status_for : Option RecordError → Status
status_for None = status.Done
status_for (Some (Bad line word)) = status.Bad
status_for (Some (BadConfig rule)) = status.BadConfig
status_for (Some (TooMuch line)) = status.TooMuch
status_for (Some ReadFault) = status.ReadFault
status_for (Some Memory) = status.Memory

-- ---- what is printed

-- the report of the history that serves phases in their recorded order, where each client is told
-- what the configured device has for it along that history
abbrev pub report_of : Config → List (List CellEvent) → List ℕ
report_of config phases = report (said config) config.clients phases

-- what a command may print of what is said after the configuration: the report of bodies that serve
-- the complete phases, and why no more are served
pub record PrintsFor (command : Command) (config : Config) (said : Reading) (printed : List ℕ)
    : Type 0 where
  pub bodies : List (List CellEvent)
  pub interleave : Interleaves bodies said.phases
  pub serve : Serves command bodies said.phases
  pub is : printed ≡ report_of config bodies ++ last_line said.refusal

-- where the lines up to `end` are refused, that alone is told
abbrev pub PrintsBy : Command → Opening → List ℕ → Type 0
PrintsBy command (Err e) printed = printed ≡ last_line (Some e)
PrintsBy command (Ok o) printed = PrintsFor command o.config (after_opening (Ok o)) printed

-- what a command may print of a text
abbrev pub Prints : Command → List ℕ → List ℕ → Type 0
Prints command text printed = PrintsBy command (opening_of_text text) printed

-- all of that was written
pub record WritesAll (command : Command) (text : List ℕ) (old new : Option (List ℕ)) : Type 0 where
  pub printed : List ℕ
  pub prints : Prints command text printed
  pub written : Appends old new printed

-- the report of bodies that serve all the phases was written
pub record Completes (command : Command) (config : Config) (phases : List (List CellEvent))
    (old new : Option (List ℕ)) : Type 0 where
  pub bodies : List (List CellEvent)
  pub interleave : Interleaves bodies phases
  pub serve : Serves command bodies phases
  pub written : Appends old new (report_of config bodies)

-- a prefix of it was written
pub record WritesSome (command : Command) (text : List ℕ) (old new : Option (List ℕ)) : Type 0 where
  pub printed : List ℕ
  pub prints : Prints command text printed
  pub written : AppendsPrefix old new printed

-- the status of a text that was read to its end, or up to what refuses it
abbrev pub status_of : List ℕ → Status
status_of text = status_for (reading_of_text text).refusal

-- ---- where the source fails

-- of octets that were read behind a configuration: no line of them is refused, they complete all
-- their phases but the last, and the report of bodies that serve these was written
pub record WritesComplete (command : Command) (config : Config) (said : Reading)
    (old new : Option (List ℕ)) : Type 0 where
  pub done : List (List CellEvent)
  pub events : List CellEvent
  pub said_is : said ≡ record { phases = done ++ events ∷ []; refusal = None }
  pub bodies : List (List CellEvent)
  pub interleave : Interleaves bodies done
  pub serve : Serves command bodies done
  pub written : Appends old new (report_of config bodies)

-- before the line `end` nothing was written, and but the next line is missing
abbrev pub WritesCut : Command → Opening → ℕ → Option (List ℕ) → Option (List ℕ) → Type 0
WritesCut command (Err e) lines old new =
    (word : BadWord) × (e ≡ Bad (lines + 1) word) × Appends old new []
WritesCut command (Ok o) lines old new =
    WritesComplete command o.config (after_opening (Ok o)) old new

-- the source failed behind so much of a text, and the report of the phases that are complete there
-- was written
pub record IsCut (command : Command) (text : List ℕ) (last old new : Option (List ℕ)) : Type 0 where
  pub octets : List ℕ
  pub read : IsRead text last octets
  pub written : WritesCut command (opening_of_text (whole_lines octets))
      (length (lines_in octets)) old new

-- the statuses that words and text decide
abbrev pub IsFinal : Status → Type 0
IsFinal status.Done = Unit {0}
IsFinal status.Usage = Unit {0}
IsFinal status.Bad = Unit {0}
IsFinal status.BadConfig = Unit {0}
IsFinal status.TooMuch = Unit {0}
IsFinal status.Memory = ⊥
IsFinal status.ReadFault = ⊥
IsFinal status.WriteFault = ⊥

-- How far a recording was read.
use Rattle.std.specs.Prelude.{◌≡◌, ℕ, Bool, if◌then◌else◌, List, Some, None, IfSome}
use Rattle.std.specs.Option.{option_map}
use Rattle.std.specs.declared.option.Option.{Option}
use Rattle.cell_io.specs.Lines.{lines_of}
use Rattle.cell_io.specs.Held.{Held, ahead}
use Rattle.cell_config.specs.declared.config.Config.{Config}
use Rattle.cell_record.specs.Recording.{Place, Reading, reading_of, refused, ended, fresh}
use Rattle.cell_record.specs.declared.refusal.RecordError.{RecordError}
use Rattle.cell_record.specs.declared.refusal.RecordError.TheVariants.{ReadFault, Bad, BadConfig}
use Rattle.cell_record.specs.declared.refusal.RecordError.TheVariants.{TooMuch, Memory}

-- what the reader of lines holds, the configuration, the lines so far, the moment, the phases
-- given, whether the last one was, and the refusal that is kept
pub record Progress : Type 0 where
  pub held : Held
  pub config : Config
  pub lines : ℕ
  pub moment : ℕ
  pub number : ℕ
  pub over : Bool
  pub refusal : Option RecordError

-- where the reading goes on
abbrev pub place_of : Progress → Place
place_of p = record { lines = p.lines; octets = p.held.given }

abbrev pub rest_by : Option RecordError → Bool → Reading → Reading
rest_by (Some e) over r = refused e
rest_by None over r = if over then ended else r

-- what a recording still says of these lines, from a place on
abbrev pub rest_in : Progress → List (List ℕ) → Place → Reading
rest_in p lines q = rest_by p.refusal p.over (reading_of p.config lines q (fresh p.moment))

-- what a recording still says, where so much is left in the source
abbrev pub rest_of : Progress → Option (List ℕ) → Option Reading
rest_of p left = option_map (λ text. rest_by p.refusal p.over
    (reading_of p.config (lines_of text) (place_of p) (fresh p.moment))) (ahead p.held left)

-- where it is told, the one is what `f` makes of the other
abbrev pub Becomes : {T : Type 0} → Option T → (T → T) → Option T → Type 0
Becomes before f after = IfSome before (λ r. option_map f after ≡ Some r)

-- a refusal that the text itself states
abbrev pub IsStated : RecordError → Type 0
IsStated ReadFault = ⊥
IsStated Memory = ⊥
IsStated (Bad line word) = Unit {0}
IsStated (BadConfig rule) = Unit {0}
IsStated (TooMuch line) = Unit {0}

-- What is read with a line of a phase (this profile's choice).
use Rattle.std.specs.Prelude.{◌≡◌, ◌+◌, ◌<◌, ◌≤◌, ℕ, true, false, List, length, take, drop}
use Rattle.std.specs.Prelude.{Some, IfSome}
use Rattle.std.specs.declared.option.Option.{Option}
use Rattle.cell_io.specs.Lines.{first_line, after_line, has_feed}
use Rattle.cell_io.specs.Held.{Held}
use Rattle.cell_config.specs.declared.config.Config.{Config}
use Rattle.cell_record.specs.Words.{content}
use Rattle.cell_record.specs.EventLine.{MayHappen, said_of, heard_of}
use Rattle.cell_record.specs.Recording.{makes, moved, whole, refused}
use Rattle.cell_record.specs.Numbered.{Numbered, phases, IsWithin}
use Rattle.cell_record.specs.Progress.{IsStated}
use Rattle.cell_record.specs.ToRead.{to_read, still_said, Follows}
use Rattle.cell_record.specs.declared.said.LineMeaning.{LineMeaning}
use Rattle.cell_record.specs.declared.counts.Counts.{Counts}
use Rattle.cell_record.specs.declared.refusal.RecordError.{RecordError}

-- the next line says this, with so much of its phase before it and after it
pub record SaysLine (config : Config) (said : LineMeaning) (old : Numbered) (before : Counts)
    (left : Option (List ℕ)) (new : Numbered) (after : Counts)
    (left' : Option (List ℕ)) : Type 0 where
  pub line : Follows (to_read (phases config before) old left) (makes said)
      (to_read (phases config after) new left')
  pub may : MayHappen config said
  pub counts : after ≡ moved before said
  pub within : IsWithin after
  pub grows : old.held.given < new.held.given

-- there is no further line: the phase that was begun is the last
pub record EndsPhases (config : Config) (old : Numbered) (before : Counts) (left : Option (List ℕ))
    (new : Numbered) (after : Counts) (left' : Option (List ℕ)) : Type 0 where
  pub last : IfSome (still_said (to_read (phases config before) old left))
      (λ r. (r ≡ whole) × (still_said (to_read (phases config before) new left') ≡ Some r))
  pub over : new.held.ended ≡ true
  pub counts : after ≡ before
  pub within : IsWithin after

-- a text begins with a whole line of so many octets, its line feed counted
pub record BeginsWithLine (text : List ℕ) (size : ℕ) : Type 0 where
  pub feed : has_feed text ≡ true
  pub some : 1 ≤ size
  pub held : size ≤ length text
  pub short : size ≤ 196608
  pub line : first_line text ≡ take size text
  pub rest : after_line text ≡ drop size text

-- a reader of lines holds the next line whole, of so many octets, and with it gives no more than
-- 4,294,967,296 octets
pub record HoldsLine (held : Held) (size : ℕ) : Type 0 where
  pub unended : held.ended ≡ false
  pub line : BeginsWithLine held.octets size
  pub few : held.given + size ≤ 4294967296

-- the first line of a text says that this client sent these octets
abbrev pub SaysSent : List ℕ → ℕ → List ℕ → Type 0
SaysSent text client octets = (config : Config)
    → said_of config (content (first_line text)) ≡ heard_of config (Some client) (Some octets)

-- the next line is refused so, whatever the source has left
pub record RefusesLine (config : Config) (e : RecordError) (old : Numbered)
    (before : Counts) : Type 0 where
  pub stated : IsStated e
  pub refused : (left : Option (List ℕ))
      → IfSome (still_said (to_read (phases config before) old left)) (λ r. r ≡ refused e)

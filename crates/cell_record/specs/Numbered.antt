-- The lines of a text with their numbers.
use Rattle.cell_config.specs.declared.config.Config.{Config}
use Rattle.mms_types.specs.declared.identifier.Edition.{Edition}
use Rattle.std.specs.Prelude.{◌≡◌, ℕ, ◌+◌, ◌<◌, ◌≤◌, true, false, List, [], length, Some, IfSome}
use Rattle.std.specs.Option.{option_map}
use Rattle.std.specs.declared.option.Option.{Option}
use Rattle.cell_io.specs.Lines.{lines_of, first_line, after_line, kept_of, has_feed}
use Rattle.std.specs.Io.KnownBytes.{Consumes}
use Rattle.cell_io.specs.Held.{Held, ahead, IsEndSeen, FailsInLine}
use Rattle.cell_record.specs.Recording.{Place, Opening, Reading, reading_of, setup_of, fresh, ended}
use Rattle.cell_record.specs.Progress.{IsStated}
use Rattle.cell_record.specs.declared.counts.Counts.{Counts}
use Rattle.cell_record.specs.declared.refusal.RecordError.{RecordError}
use Rattle.cell_record.specs.declared.refusal.RecordError.TheVariants.{ReadFault, TooMuch}
use Rattle.std.specs.Prelude.{Bool, if◌then◌else◌}

-- what the reader of lines holds, how many lines it gave, and what is kept of the last of these
pub record Numbered : Type 0 where
  pub held : Held
  pub lines : ℕ
  pub line : List ℕ

-- a line was given: what is kept of it, what is ahead after it, and how many octets were given in
-- all
abbrev pub Gives : Option (List ℕ) → Option (List ℕ) → List ℕ → ℕ → ℕ → Type 0
Gives before after line octets next = IfSome before (λ text.
    (0 < length text) × (line ≡ kept_of (first_line text)) × (after ≡ Some (after_line text))
    × (next ≡ octets + length (first_line text)))

-- what is left is a later part of what was left
pub record IsPart (old new : Option (List ℕ)) : Type 0 where
  pub gone : List ℕ
  pub consumed : Consumes old new gone

-- nothing is ahead
abbrev pub EndsThere : Option (List ℕ) → Option (List ℕ) → Type 0
EndsThere before after = IfSome before (λ text. (text ≡ []) × (after ≡ Some []))

-- the reader of lines goes on in its source, and gives at most 4,294,967,296 octets; it sees the
-- end where the source ends
pub record GoesOn (old : Held) (before : Option (List ℕ)) (new : Held)
    (after : Option (List ℕ)) : Type 0 where
  pub order : old.given ≤ new.given
  pub most : new.given ≤ 4294967296
  pub seen : IsEndSeen old before → IsEndSeen new after
  pub left : IsPart before after

-- the next line was given; where the end wasn't seen with it, it has its line feed
pub record NextLine (old : Numbered) (before : Option (List ℕ)) (new : Numbered)
    (after : Option (List ℕ)) : Type 0 where
  pub gives : Gives (ahead old.held before) (ahead new.held after)
      new.line old.held.given new.held.given
  pub feed : new.held.ended ≡ false → IfSome (ahead old.held before) (λ text. has_feed text ≡ true)
  pub unended : old.held.ended ≡ false
  pub count : new.lines ≡ old.lines + 1
  pub grows : old.held.given < new.held.given

-- there is no further line
pub record NoLine (old : Numbered) (before : Option (List ℕ)) (new : Numbered)
    (after : Option (List ℕ)) : Type 0 where
  pub ends : EndsThere (ahead old.held before) (ahead new.held after)
  pub over : new.held.ended ≡ true
  pub count : new.lines ≡ old.lines
  pub given : new.held.given ≡ old.held.given

-- with the next line the input has more than 4,294,967,296 octets
pub record IsTooMuch (old : Numbered) (before : Option (List ℕ)) (e : RecordError) : Type 0 where
  pub told : e ≡ TooMuch (old.lines + 1)
  pub octets : IfSome (ahead old.held before) (λ text.
      4294967296 < old.held.given + length (first_line text))

-- why the next line wasn't given: it is too much, or the source failed in it; else memory was
-- wanting
pub record FailsAtLine (old : Numbered) (before : Option (List ℕ)) (e : RecordError)
    (new : Numbered) (after : Option (List ℕ)) : Type 0 where
  pub too_much : IsStated e → IsTooMuch old before e
  pub stops : e ≡ ReadFault → FailsInLine old.held before after new.held.given
  pub count : new.lines ≡ old.lines
  pub unended : new.held.ended ≡ false

-- the place behind the last line that was given
abbrev pub place_at : Numbered → Place
place_at n = record { lines = n.lines; octets = n.held.given }

-- what is said of the lines ahead
abbrev pub at : {T : Type 0} → (List (List ℕ) → Place → T) → Numbered → Option (List ℕ) → Option T
at f n left = option_map (λ text. f (lines_of text) (place_at n)) (ahead n.held left)

-- the configuration's lines, behind those that have this text
abbrev pub setup : Edition → List ℕ → List (List ℕ) → Place → Opening
setup edition text lines p = setup_of edition lines p text

-- the event lines, under a configuration and with so much of the phase before them
abbrev pub phases : Config → Counts → List (List ℕ) → Place → Reading
phases config c lines p = reading_of config lines p c

-- the lines after a phase, of which there is none after the last
abbrev pub after_phase : Config → Bool → ℕ → List (List ℕ) → Place → Reading
after_phase config last moment lines p = if last then ended
    else reading_of config lines p (fresh moment)

-- no more than a phase has, and no later than a time names
abbrev pub IsWithin : Counts → Type 0
IsWithin c = (c.events ≤ 16384) × (c.octets ≤ 67108864) × (c.moment ≤ 5662310399999)

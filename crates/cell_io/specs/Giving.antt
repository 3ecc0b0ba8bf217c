-- How a reader of lines gives the next line, and how it takes octets from its source.
use Rattle.std.specs.Prelude.{◌≡◌, ◌≢◌, ℕ, ◌+◌, ◌<◌, ◌≤◌, true, false, List, [], ◌++◌, length, Some, IfSome}
use Rattle.std.specs.Io.KnownBytes.{IsAtEnd, Keeps}
use Rattle.std.specs.declared.option.Option.{Option}
use Rattle.cell_io.specs.Held.{Held, ahead, IsLaterPart, IsEndSeen, FailsInLine, StopsInLine}
use Rattle.cell_io.specs.Lines.{first_line, after_line, has_feed, kept_of}
use Rattle.cell_io.specs.declared.lines.Stop.{Stop}
use Rattle.cell_io.specs.declared.lines.Stop.TheVariants.{Fault, TooMuch}

-- the first line of what was ahead was given: the buffer has what is kept of it, what stands after it is ahead, and
-- its size is counted; no more is kept, also where the source doesn't tell what is left
pub record GivesLine (old : Held) (before : Option (List ℕ)) (new : Held) (after : Option (List ℕ)) (buffer : List ℕ) : Type 0 where
  pub line : IfSome (ahead old before) (λ text. buffer ≡ kept_of (first_line text))
  pub rest : IfSome (ahead old before) (λ text. ahead new after ≡ Some (after_line text))
  pub size : IfSome (ahead old before) (λ text. new.given ≡ old.given + length (first_line text))
  pub kept : length buffer ≤ 196612

-- there was a line: the end wasn't seen before, something was ahead, and at least one octet was given; where the end
-- isn't seen after it either, the line has its line feed
pub record HadLine (old : Held) (before : Option (List ℕ)) (new : Held) : Type 0 where
  pub unended : old.ended ≡ false
  pub there : IfSome (ahead old before) (λ text. 0 < length text)
  pub grows : old.given < new.given
  pub feed : new.ended ≡ false → IfSome (ahead old before) (λ text. has_feed text ≡ true)

-- there was no line: nothing was ahead, nothing was given, and the end is seen
pub record HadNoLine (old : Held) (before : Option (List ℕ)) (new : Held) : Type 0 where
  pub none : IfSome (ahead old before) (λ text. text ≡ [])
  pub stays : new.given ≡ old.given
  pub over : new.ended ≡ true

-- why no line was given: with this line the input is too long, or the source failed before the line's end was read,
-- or else memory was wanting; in each case a front of the line was given, and what is ahead begins with its rest
pub record StopsFor (stop : Stop) (old : Held) (before : Option (List ℕ)) (new : Held) (after : Option (List ℕ)) : Type 0 where
  pub too_much : stop ≡ TooMuch → IfSome (ahead old before) (λ text. 4294967296 < old.given + length (first_line text))
  pub before_end : stop ≡ Fault → FailsInLine old before after new.given
  pub stops : StopsInLine old before new after

-- however it ends: no fewer octets were given than before, and 4,294,967,296 at most; where the end is seen, still
-- nothing is left; and what is left is a later part of what was left
pub record GoesAhead (old : Held) (before : Option (List ℕ)) (new : Held) (after : Option (List ℕ)) : Type 0 where
  pub order : old.given ≤ new.given
  pub most : new.given ≤ 4294967296
  pub seen : IsEndSeen old before → IsEndSeen new after
  pub left : IsLaterPart before after

-- ---- a part of the line

-- what was held of the line was given: the buffer has what is kept of the line with it, what stands after it is
-- held, and its size is counted
pub record GivesPart (old new : Held) (before after : List ℕ) : Type 0 where
  pub line : after ≡ kept_of (before ++ first_line old.octets)
  pub rest : new.octets ≡ after_line old.octets
  pub size : new.given ≡ old.given + length (first_line old.octets)

-- why what was held of the line wasn't given: with it the input is too long, or else memory was wanting; all is held
-- as it was
pub record StopsAtPart (stop : Stop) (old new : Held) : Type 0 where
  pub too_much : stop ≡ TooMuch → 4294967296 < old.given + length (first_line old.octets)
  pub cause : stop ≢ Fault
  pub stays : new ≡ old

-- ---- a read

-- something was read, and the end wasn't seen
pub record HoldsMore (new : Held) : Type 0 where
  pub some : 0 < length new.octets
  pub unended : new.ended ≡ false

-- nothing is held, nothing is left, and the end was seen
pub record HoldsNoMore (new : Held) (after : Option (List ℕ)) : Type 0 where
  pub none : new.octets ≡ []
  pub at_end : IsAtEnd after
  pub ended : new.ended ≡ true

-- the source failed: what was left is left, nothing is held, and the end is seen as before
pub record FailsToRead (old : Held) (before : Option (List ℕ)) (new : Held) (after : Option (List ℕ)) : Type 0 where
  pub kept : Keeps before after
  pub emptied : new.octets ≡ []
  pub same : new.ended ≡ old.ended

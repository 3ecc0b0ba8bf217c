-- What a reader of lines holds.
use Rattle.std.specs.Prelude.{◌≡◌, ℕ, ◌+◌, true, false, Bool, if◌then◌else◌, List, [], length, Some}
use Rattle.std.specs.Io.KnownBytes.{Consumes, IsAtEnd, prepend_known}
use Rattle.std.specs.declared.option.Option.{Option}
use Rattle.cell_io.specs.Lines.{has_feed}

-- the octets that were taken from the source and not yet given, how many octets were given, line feeds counted, and whether the end of the source was seen
pub record Held : Type 0 where
  pub octets : List ℕ
  pub given : ℕ
  pub ended : Bool

-- what is ahead of a reader: what it holds, and then what is left in the source; nothing where it has seen the end
abbrev pub ahead : Held → Option (List ℕ) → Option (List ℕ)
ahead held left = if held.ended then Some [] else prepend_known held.octets left

-- what is left is a later part of what was left
abbrev pub IsLaterPart : Option (List ℕ) → Option (List ℕ) → Type 0
IsLaterPart old new = (bs : List ℕ) × Consumes old new bs

-- where the reader has seen the end, nothing is left
abbrev pub IsEndSeen : Held → Option (List ℕ) → Type 0
IsEndSeen held left = held.ended ≡ true → IsAtEnd left

-- the source failed in the middle of a line: of what was ahead the front of that line was read, and the end wasn't seen
pub record FailsInLine (held : Held) (before left : Option (List ℕ)) (given : ℕ) : Type 0 where
  pub unended : held.ended ≡ false
  pub octets : List ℕ
  pub consumed : Consumes (ahead held before) left octets
  pub no_feed : has_feed octets ≡ false
  pub size : given ≡ held.given + length octets

-- the reader stopped in the middle of a line: the front of that line was given, its rest is ahead, and the end wasn't seen
pub record StopsInLine (held : Held) (before : Option (List ℕ)) (after : Held) (left : Option (List ℕ)) : Type 0 where
  pub unended : (held.ended ≡ false) × (after.ended ≡ false)
  pub octets : List ℕ
  pub consumed : Consumes (ahead held before) (ahead after left) octets
  pub no_feed : has_feed octets ≡ false
  pub size : after.given ≡ held.given + length octets

-- What code compares, in the words of deadlines.
use Rattle.std.specs.Prelude.{nat_le, Option, None, Some, if◌then◌else◌}
use Rattle.mms_time.specs.Deadlines.{NamedDeadline}

-- the sooner of two by their moments, if there are two, and of one moment the first
abbrev pub sooner_if : Option NamedDeadline → Option NamedDeadline → Option NamedDeadline
sooner_if first None = first
sooner_if None (Some second) = Some second
sooner_if (Some first) (Some second) = Some (if nat_le first.at.0 second.at.0 then first else second)

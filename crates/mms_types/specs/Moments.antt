-- What a moment is: ISO 9506-2, TimeOfDay with days.
use Rattle.std.specs.Prelude.{ℕ, ◌+◌, ◌*◌, ◌≤◌}
use Rattle.mms_types.specs.declared.moment.Moment.{Moment}

-- so many milliseconds after the beginning of a day, the days counted from 1 January 1984
abbrev pub milliseconds : ℕ → ℕ → ℕ
milliseconds day ms = day * 86400000 + ms

-- six octets name the moment: it is no later than the last millisecond of day 65,535
abbrev pub IsDated : Moment → Type 0
IsDated moment = moment.0 ≤ milliseconds 65535 86399999

-- The moments at which a monitored event condition is evaluated: the multiples of its interval since its definition (this profile's choice).
use Rattle.std.specs.Prelude.{◌≡◌, ℕ, ◌+◌, ◌-◌, ◌*◌, ◌/◌}
use Rattle.mms_types.specs.declared.moment.Moment.{Moment}

-- so much later
abbrev pub later : Moment → ℕ → Moment
later moment ms = record { 0 = moment.0 + ms }

-- so many whole intervals after a moment
abbrev pub IsMultiple : Moment → ℕ → Moment → Type 0
IsMultiple since interval moment = (n : ℕ) × (moment.0 ≡ since.0 + n * interval)

-- the least multiple of an interval since a moment that lies after another one: the intervals that are over by then, and one more
abbrev pub least_multiple : Moment → ℕ → Moment → Moment
least_multiple since interval after = later since (((after.0 - since.0) / interval + 1) * interval)

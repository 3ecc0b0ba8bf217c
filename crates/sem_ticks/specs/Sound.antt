-- What holds of the semaphores of a device at any time.
use Rattle.std.specs.Prelude.{◌<◌}
use Rattle.std.specs.List.{All, IsDistinct}
use Rattle.std.specs.Map.{keys_of, values_of}
use Rattle.mms_types.specs.Order.{key_eq}
use Rattle.mms_types.specs.declared.moment.Moment.{Moment}
use Rattle.mms_time.specs.Deadlines.{all_deadlines}
use Rattle.mms_time.specs.Semaphores.{IsSound, Rows}

-- each has a name of its own; its entries are distinct and in order of number, no more tokens are owned or hung than there are, and where one is free no entry
-- waits
pub record AreSound (rows : Rows) : Type 0 where
  pub names : IsDistinct key_eq (keys_of rows)
  pub each : All (λ row. IsSound row.semaphore) (values_of rows)

-- every deadline lies after that moment
abbrev pub LieAhead : Moment → Rows → Type 0
LieAhead now rows = All (λ d. now.0 < d.at.0) (all_deadlines rows)

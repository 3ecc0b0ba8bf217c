-- What `stress` prints (this profile's choice).
use Rattle.std.specs.Prelude.{◌≡◌, ◌≤◌, ◌*◌, ◌^◌, ℕ, List, ◌++◌, codes, length, map}
use Rattle.std.specs.Fmt.{decimal}
use Rattle.std.specs.Io.KnownBytes.{Appends}
use Rattle.std.specs.declared.option.Option.{Option}
use Rattle.cell_io.specs.Prefix.{AppendsPrefix}
use Rattle.mms_types.specs.declared.event.CellEvent.{CellEvent}
use Rattle.cell_config.specs.declared.config.Config.{Config}
use Rattle.step_parts.specs.Step.{said}
use Rattle.cell_record.specs.History.{Interleaves, history}
use Rattle.cell_record.specs.declared.told.Told.{Told}
use Rattle.cell_stress.specs.Counts.{events_in, replies_in, requests_in}
use Rattle.cell_stress.specs.Stress.{stress_config, stress_phases}
use Rattle.cell_run.specs.declared.stressing.Numbers.{Numbers}

abbrev pub count_line : List ℕ → ℕ → List ℕ
count_line name number = name ++ codes " " ++ decimal number ++ codes "\n"

-- the four lines
abbrev pub lines_of : ℕ → ℕ → ℕ → ℕ → List ℕ
lines_of phases events requests replies =
    count_line (codes "phases") phases ++ count_line (codes "events") events
    ++ count_line (codes "requests") requests ++ count_line (codes "replies") replies

-- those on the history of bodies: how many phases, events and confirmed requests it has, and how
-- many PDUs the configured device sends along it
abbrev pub counts_of : Config → List (List CellEvent) → List ℕ
counts_of config bodies =
    lines_of (length bodies) (events_in (history config.clients bodies))
    (requests_in (history config.clients bodies))
    (replies_in (said config) config.clients bodies)

-- those of bodies that interleave the phases were written
pub record WritesCounts (seed clients rounds : ℕ) (old new : Option (List ℕ)) : Type 0 where
  pub bodies : List (List CellEvent)
  pub interleave : Interleaves bodies (stress_phases seed clients rounds)
  pub written : Appends old new (counts_of (stress_config clients) bodies)

-- a prefix of them was written
pub record WritesSomeCounts (seed clients rounds : ℕ) (old new : Option (List ℕ)) : Type 0 where
  pub bodies : List (List CellEvent)
  pub interleave : Interleaves bodies (stress_phases seed clients rounds)
  pub written : AppendsPrefix old new (counts_of (stress_config clients) bodies)

-- ---- inside the crate

-- the four lines of what was counted
abbrev pub lines_for : Numbers → List ℕ
lines_for numbers = lines_of numbers.phases numbers.events numbers.requests numbers.replies

-- the events of a phase, without their places
abbrev pub events_told : Told → List CellEvent
events_told told = map (λ placed. placed.1) told.served

-- how much was served of bodies
pub record AreCounts (config : Config) (bodies : List (List CellEvent)) (numbers : Numbers)
    : Type 0 where
  pub phases : numbers.phases ≡ length bodies
  pub events : numbers.events ≡ events_in (history config.clients bodies)
  pub requests : numbers.requests ≡ requests_in (history config.clients bodies)
  pub replies : numbers.replies ≡ replies_in (said config) config.clients bodies

-- of bodies that interleave the phases
pub record HasCounted (seed clients rounds : ℕ) (numbers : Numbers) : Type 0 where
  pub bodies : List (List CellEvent)
  pub interleave : Interleaves bodies (stress_phases seed clients rounds)
  pub counts : AreCounts (stress_config clients) bodies numbers

-- so few that one phase more can be counted
abbrev pub AreFew : Numbers → Type 0
AreFew numbers =
    (numbers.events ≤ numbers.phases * 2 ^ 64) × (numbers.requests ≤ numbers.phases * 2 ^ 64)
    × (numbers.replies ≤ numbers.phases * 2 ^ 70)

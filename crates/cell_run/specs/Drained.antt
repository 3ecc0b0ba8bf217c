-- Passes of a device that have gathered, and clients that are drained one after the other: the
-- words of clauses inside the crate.
use Rattle.std.specs.Prelude.{◌≡◌, ◌≤◌, ◌<◌, ℕ, ◌+◌, ◌-◌, List, [], ◌∷◌, ◌++◌, Some, slice_get, length}
use Rattle.part_table.specs.History.{StartsWith, places_of}
use Rattle.part_table.specs.Known.{Known, Opened, HoldsNothing}
use Rattle.mms_types.specs.Actors.{clients_to}
use Rattle.mms_types.specs.declared.event.CellEvent.{CellEvent}
use Rattle.mms_types.specs.declared.event.CellEvent.TheVariants.{Drain}
use Rattle.mms_types.specs.declared.event.What.{What}
use Rattle.mms_device.specs.Shared.{Caller, History, all_events}
use Rattle.cell_record.specs.Report.{taken}

module _ {T E : Type 0} where
  -- the pass of a caller of a table holds nothing, and has a commit left
  abbrev pub IsIdle : Opened T → ℕ → Known T E → Type 0
  IsIdle table caller pass =
      (pass.table ≡ table) × (pass.by ≡ caller) × (0 < pass.left) × HoldsNothing pass

  -- the pass of a caller, which holds nothing, knows this history, and has no further event of its
  -- own
  pub record IsOne (table : Opened T) (common : List (ℕ × E)) (caller : ℕ) (pass : Known T E)
      : Type 0 where
    pub of_table : pass.table ≡ table
    pub by : pass.by ≡ caller
    pub idle : HoldsNothing pass
    pub seen : StartsWith pass.seen common
    pub own : pass.own ≡ places_of caller common

  -- all passes of a table, in the order of their numbers
  pub record AreKnown (table : Opened T) (passes : List (Known T E)) (common : List (ℕ × E))
      : Type 0 where
    pub count : length passes ≡ table.callers
    pub each : (i : ℕ) (p : Known T E) → slice_get passes i ≡ Some p → IsOne table common i p

-- the drains of these clients, as events of theirs
abbrev pub drains_of : List ℕ → History
drains_of [] = []
drains_of (c ∷ cs) = (c, Drain c) ∷ drains_of cs

-- a pass whose client was drained once
pub record IsDrained (before after : Caller) : Type 0 where
  pub ticket : ℕ
  pub pass : after ≡ record before {
    seen = after.seen;
    own = before.own ++ ticket ∷ [];
    left = before.left - 1;
    lost = after.lost;
  }
  pub seen : StartsWith after.seen before.seen

-- A client was drained, once, between two meetings with another pass. What that one knew is before
-- the drain, and what it knows then begins with it.
pub record HasDrained (said : List CellEvent → ℕ → List What) (now last before after : Caller)
    (out : List What) : Type 0 where
  pub h : History
  pub kept : last ≡ record now { seen = last.seen }
  pub seen : StartsWith last.seen now.seen
  pub drained : IsDrained before after
  pub ahead : StartsWith h now.seen
  pub knows : StartsWith last.seen (h ++ (before.by, Drain before.by) ∷ [])
  pub told : out ≡ said (all_events h) before.by

-- As far as a place, the passes of clients were drained, each between two meetings with the first
-- pass. Its history is longer by as many events at least, and where it is longer by just as many,
-- these are the drains, and what was taken is what there was to be taken.
pub record HaveDrained (said : List CellEvent → ℕ → List What) (common : History)
    (first now : Caller) (before after : List Caller) (place : ℕ) (outputs : List (List What))
    : Type 0 where
  pub kept : now ≡ record first { seen = now.seen }
  pub seen : StartsWith now.seen first.seen
  pub least : length common + place ≤ length now.seen
  pub exact : length now.seen ≤ length common + place
      → (now.seen ≡ common ++ drains_of (clients_to place))
      × (outputs ≡ taken said (all_events common) (clients_to place))
  pub same : length after ≡ length before
  pub done : (i : ℕ) (p : Caller) → i < place → slice_get before i ≡ Some p
      → (q : Caller) × (slice_get after i ≡ Some q) × IsDrained p q
  pub rest : (i : ℕ) → place ≤ i → slice_get after i ≡ slice_get before i

-- all clients were drained, behind the pass of the cell
pub record DrainAll (said : List CellEvent → ℕ → List What) (common : History) (first : Caller)
    (clients passes : List Caller) (outputs : List (List What)) : Type 0 where
  pub last : Caller
  pub after : List Caller
  pub are : passes ≡ last ∷ after
  pub drained : HaveDrained said common first last clients after (length clients) outputs

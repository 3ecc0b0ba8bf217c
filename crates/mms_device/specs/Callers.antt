-- The passes of a device's callers.
use Rattle.std.specs.Prelude.{◌≡◌, ℕ, ◌+◌, List, [], ◌∷◌}
use Rattle.part_table.specs.Known.{Opened, HoldsNothing}
use Rattle.step_parts.specs.declared.part.Part.{Part}
use Rattle.mms_device.specs.Shared.{Caller}

-- these are passes of a table, none holding a part, in the order of their numbers from one on
abbrev pub AreInOrder : Opened Part → ℕ → List Caller → Type 0
AreInOrder table from [] = Unit {0}
AreInOrder table from (pass ∷ passes) = (pass.table ≡ table) × (pass.by ≡ from) × HoldsNothing pass × AreInOrder table (from + 1) passes

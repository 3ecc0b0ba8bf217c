-- The passes with which a table begins stand in the order of their callers, and hold nothing.
use Rattle.std.proofs.Common.{ℕ, zero, suc, ◌+◌, map, refl}
use Rattle.std.specs.List.{range_with_len}
use Rattle.part_table.specs.Amounts.{AreInOrder}
use Rattle.part_table.specs.Known.{Opened, newcomer}

pub newcomers : (E : Type 0) (table : Opened ℕ) (from n : ℕ) → AreInOrder {E = E} table from (map (newcomer table) (range_with_len from n))
newcomers E table from zero = tt
newcomers E table from (suc n) = (refl, refl, (refl, refl, refl), newcomers E table (from + 1) n)

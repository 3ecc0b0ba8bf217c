-- The rows of clients after what is told.
use Rattle.std.specs.Prelude.{◌≡◌, ℕ, suc, List, [], ◌∷◌, ◌++◌, Option, Some, slice_get, unwrap_or, refl}
use Rattle.std.proofs.Common.{ap}
use Rattle.association.specs.Client.{ClientRow}
use Rattle.cell_client.specs.Effects.{Effect, tell}
use Rattle.parted_state.specs.Served.{delivered, reached, row_at}
use Rattle.step_parts.specs.Partition.{cell, no_client}

pub nobody_told : (effects : List Effect) (rows : List ClientRow) → delivered cell (tell 0 effects) rows ≡ rows
nobody_told [] rows = refl
nobody_told (effect ∷ effects) rows = nobody_told effects rows

pub row_of_it : (rows : List ClientRow) (k : ℕ) (row : ClientRow) → slice_get rows k ≡ Some row → row_at cell (suc k) rows ≡ row
row_of_it rows k row there = ap (λ (o : Option ClientRow). unwrap_or o no_client) there

pub delivered_both : (xs ys : List (ℕ × Effect)) (rows : List ClientRow) → delivered cell (xs ++ ys) rows ≡ delivered cell ys (delivered cell xs rows)
delivered_both [] ys rows = refl
delivered_both (x ∷ xs) ys rows = delivered_both xs ys (reached cell x.0 x.1 rows)

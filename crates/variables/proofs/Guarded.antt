-- Where no cell has a guard, no variable has one; and a new value leaves guards as they are.
use Rattle.std.proofs.Common.{◌≡◌, ℕ, Bool, true, false, ◌||◌, is_some, nat_eq, List, [], ◌∷◌, map, Option, None, Some, refl, ap, ◌∙◌, if◌then◌else◌}
use Rattle.std.specs.List.{list_any}
use Rattle.std.specs.Map.{lookup}
use Rattle.std.specs.Option.{option_and_then}
use Rattle.mms_types.specs.Datum.{Datum}
use Rattle.mms_types.specs.declared.cells.CellRow.{CellRow}
use Rattle.mms_types.specs.declared.variable.Spec.{Spec}
use Rattle.variables.specs.declared.rows.StoredCell.{StoredCell}
use Rattle.variables.specs.Rows.{Rows, cell_at, number_told}
use Rattle.variables.specs.Access.{are_guarded, change_cell, guard_in, guard_named}
use Rattle.variables.specs.Bounds.{has_guard}
use Rattle.variables.specs.NewValues.{with_data}
use Rattle.variables.specs.Start.{cell_row}

-- ---- no guard

first_none : (a b : Bool) → (a || b) ≡ false → (a ≡ false) × (b ≡ false)
first_none true b e = absurd cc
first_none false b e = (refl, e)

no_guard : (o : Option (List ℕ)) → is_some o ≡ false → o ≡ None
no_guard None e = refl
no_guard (Some guard) e = absurd cc

none_at : (number : ℕ) (cells : List (ℕ × StoredCell)) → has_guard cells ≡ false → guard_in (lookup (nat_eq number) cells) ≡ None
none_at number [] none = refl
none_at number (row ∷ rows) none =
    let both = first_none (is_some row.1.guard) (has_guard rows) none in
    by_number (nat_eq number row.0) (no_guard row.1.guard both.0) (none_at number rows both.1)
  where
    by_number : (b : Bool) → row.1.guard ≡ None → guard_in (lookup (nat_eq number) rows) ≡ None → guard_in (if b then Some row.1 else lookup (nat_eq number) rows) ≡ None
    by_number true first rest = first
    by_number false first rest = rest

none_named : (client : ℕ) (s : Spec) (rows : Rows) → has_guard rows.cells ≡ false → guard_named client rows s ≡ None
none_named client s rows none = by_told (number_told client s rows)
  where
    by_told : (told : Option ℕ) → guard_in (option_and_then (λ number. cell_at number rows) told) ≡ None
    by_told None = refl
    by_told (Some number) = none_at number rows.cells none

pub none_guarded : (client : ℕ) (variables : List Spec) (rows : Rows) → has_guard rows.cells ≡ false → are_guarded client variables rows ≡ false
none_guarded client [] rows none = refl
none_guarded client (s ∷ later) rows none =
    ap (λ (o : Option (List ℕ)). is_some o || are_guarded client later rows) (none_named client s rows none) ∙ none_guarded client later rows none

-- ---- a configuration

pub guard_of_rows : (rows : List CellRow) → list_any (λ row. is_some row.guard) rows ≡ has_guard (map cell_row rows)
guard_of_rows [] = refl
guard_of_rows (row ∷ rows) = ap (λ (b : Bool). is_some row.guard || b) (guard_of_rows rows)

-- ---- a new value

guard_kept : (b : Bool) (value : Datum) (cell : StoredCell) → (if b then with_data value cell else cell).guard ≡ cell.guard
guard_kept true value cell = refl
guard_kept false value cell = refl

pub guards_kept : (number : ℕ) (value : Datum) (cells : List (ℕ × StoredCell)) → has_guard (change_cell number (with_data value) cells) ≡ has_guard cells
guards_kept number value [] = refl
guards_kept number value (row ∷ rows) =
    ap (λ (o : Option (List ℕ)). is_some o || has_guard (change_cell number (with_data value) rows)) (guard_kept (nat_eq number row.0) value row.1)
    ∙ ap (λ (b : Bool). is_some row.1.guard || b) (guards_kept number value rows)

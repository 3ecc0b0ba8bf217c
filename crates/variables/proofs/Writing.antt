-- What becomes of a variable doesn't depend on what was written before it.
use Rattle.std.proofs.Common.{◌≡◌, ℕ, Bool, true, false, not, ◌||◌, ◌&&◌, is_none, nat_eq, List, [], ◌∷◌, map, Option, None, Some, refl, sym, ap, ◌∙◌, length, arith, if◌then◌else◌}
use Rattle.std.specs.List.{zip}
use Rattle.std.specs.Map.{lookup}
use Rattle.std.specs.Option.{option_map, option_and_then}
use Rattle.mms_types.specs.Datum.{Datum}
use Rattle.mms_types.specs.Shape.{Shape}
use Rattle.mms_types.specs.Matches.{matches}
use Rattle.mms_types.specs.declared.variable.Spec.{Spec}
use Rattle.mms_types.specs.declared.variable.Spec.TheVariants as spec
use Rattle.mms_types.specs.declared.access_result.WriteResult.{WriteResult}
use Rattle.mms_types.specs.declared.access_result.WriteResult.TheVariants as write
use Rattle.mms_types.specs.declared.access_result.DataAccessError.TheVariants.{ObjectAccessDenied, TypeInconsistent, ObjectNonExistent}
use Rattle.variables.specs.declared.rows.StoredCell.{StoredCell}
use Rattle.variables.specs.Rows.{Rows, cell_at, number_told, cell_named, number_named}
use Rattle.variables.specs.Access.{is_open, taken_by, with_value, change_cell, change_named, result_of, written, writes}

-- the type of a cell and its guard, which a write leaves as they are
abbrev pub fixed : StoredCell → Shape × Option (List ℕ)
fixed cell = (cell.of, cell.guard)

abbrev pub fixed_of : Option StoredCell → Option (Shape × Option (List ℕ))
fixed_of = option_map fixed

pub same_type : (owns : Bool) (value : Datum) (cell : StoredCell) → fixed (with_value owns value cell) ≡ fixed cell
same_type owns value cell = by_test (is_open owns cell && matches value cell.of) refl
  where
    by_test : (b : Bool) → (is_open owns cell && matches value cell.of) ≡ b → fixed (with_value owns value cell) ≡ fixed cell
    by_test true e = rw e refl
    by_test false e = rw e refl

pub types_stay : (at number : ℕ) (owns : Bool) (value : Datum) (cells : List (ℕ × StoredCell)) → fixed_of (lookup (nat_eq at) (change_cell number (with_value owns value) cells)) ≡ fixed_of (lookup (nat_eq at) cells)
types_stay at number owns value [] = refl
types_stay at number owns value (row ∷ rows) = by_number (nat_eq at row.0) (nat_eq number row.0) refl refl (types_stay at number owns value rows)
  where
    by_number : (a b : Bool) → nat_eq at row.0 ≡ a → nat_eq number row.0 ≡ b → fixed_of (lookup (nat_eq at) (change_cell number (with_value owns value) rows)) ≡ fixed_of (lookup (nat_eq at) rows)
        → fixed_of (lookup (nat_eq at) (change_cell number (with_value owns value) (row ∷ rows))) ≡ fixed_of (lookup (nat_eq at) (row ∷ rows))
    by_number true true e f rest = rw (e, f) (ap Some (same_type owns value row.1))
    by_number true false e f rest = rw (e, f) refl
    by_number false b e f rest = rw e rest

-- what becomes of data, by the type of the cell and its guard
abbrev taken : Bool → Datum → Option (Shape × Option (List ℕ)) → WriteResult
taken owns value None = write.Failure ObjectNonExistent
taken owns value (Some kept) =
    if not (is_none kept.1 || owns) then write.Failure ObjectAccessDenied
    else if matches value kept.0 then write.Success else write.Failure TypeInconsistent

taken_is : (owns : Bool) (value : Datum) (o : Option StoredCell) → taken_by owns value o ≡ taken owns value (fixed_of o)
taken_is owns value None = refl
taken_is owns value (Some cell) = refl

pub types_kept : (client : ℕ) (s : Spec) (o : Option ℕ) (owns : Bool) (value : Datum) (rows : Rows)
    → fixed_of (cell_named client s (change_named o (with_value owns value) rows)) ≡ fixed_of (cell_named client s rows)
types_kept client s None owns value rows = refl
types_kept client (spec.Address at) (Some number) owns value rows = types_stay at number owns value rows.cells
types_kept client (spec.Name name) (Some number) owns value rows = by_variable (number_told client (spec.Name name) rows)
  where
    by_variable : (told : Option ℕ) → fixed_of (option_and_then (λ at. cell_at at (change_named (Some number) (with_value owns value) rows)) told) ≡ fixed_of (option_and_then (λ at. cell_at at rows) told)
    by_variable None = refl
    by_variable (Some at) = types_stay at number owns value rows.cells

pub same_result : (client : ℕ) (x y : Bool × (Spec × Datum)) (rows : Rows) → result_of client (written client y rows) x ≡ result_of client rows x
same_result client x y rows =
    taken_is x.0 x.1.1 (cell_named client x.1.0 (written client y rows)) ∙ ap (taken x.0 x.1.1) (types_kept client x.1.0 (number_named client y.1.0 rows) y.0 y.1.1 rows)
    ∙ sym (taken_is x.0 x.1.1 (cell_named client x.1.0 rows))

results_alike : (client : ℕ) (xs : List (Bool × (Spec × Datum))) (y : Bool × (Spec × Datum)) (rows : Rows)
    → map (result_of client (written client y rows)) xs ≡ map (result_of client rows) xs
results_alike client [] y rows = refl
results_alike client (x ∷ xs) y rows =
    ap (λ (r : WriteResult). r ∷ map (result_of client (written client y rows)) xs) (same_result client x y rows)
    ∙ ap (λ (rs : List WriteResult). result_of client rows x ∷ rs) (results_alike client xs y rows)

-- so each is told by the variables as they are before all
pub results_are : (client : ℕ) (xs : List (Bool × (Spec × Datum))) (rows : Rows) → (writes client xs rows).1 ≡ map (result_of client rows) xs
results_are client [] rows = refl
results_are client (x ∷ xs) rows =
    ap (λ (rs : List WriteResult). result_of client rows x ∷ rs) (results_are client xs (written client x rows) ∙ results_alike client xs x rows)

-- nothing is beside nothing
pub no_first : {A B : Type 0} (xs : List A) (ys : List B) → length xs ≡ 0 → zip xs ys ≡ []
no_first [] ys none = refl
no_first (x ∷ xs) ys none = absurd (omega (arith, none))

pub no_second : {A B : Type 0} (xs : List A) (ys : List B) → length ys ≡ 0 → zip xs ys ≡ []
no_second [] ys none = refl
no_second (x ∷ xs) [] none = refl
no_second (x ∷ xs) (y ∷ ys) none = absurd (omega (arith, none))

-- The new values of a write make of the variables what the write does.
use Rattle.std.proofs.Common.{◌≡◌, ℕ, Bool, true, false, not, ◌&&◌, nat_eq, List, [], ◌∷◌, ◌++◌, map, Option, None, Some, refl, sym, ap, subst, ◌∙◌, if◌then◌else◌}
use Rattle.std.specs.List.{IsDistinct, zip}
use Rattle.std.specs.Map.{lookup, keys_of, set_value}
use Rattle.std.specs.Option.{option_map, option_and_then}
use Rattle.mms_types.specs.Datum.{Datum}
use Rattle.mms_types.specs.Matches.{matches}
use Rattle.mms_types.specs.Shape.{Shape}
use Rattle.mms_types.specs.declared.variable.Spec.{Spec}
use Rattle.mms_types.specs.declared.variable.Spec.TheVariants as spec
use Rattle.mms_types.specs.declared.access_result.WriteResult.{WriteResult}
use Rattle.mms_types.specs.declared.access_result.WriteResult.TheVariants as write
use Rattle.mms_types.specs.declared.access_result.DataAccessError.TheVariants.{ObjectAccessDenied, TypeInconsistent}
use Rattle.variables.specs.declared.rows.StoredCell.{StoredCell}
use Rattle.variables.specs.declared.rows.NewValue.{NewValue}
use Rattle.variables.specs.Rows.{Rows, cell_at, number_named, number_told}
use Rattle.variables.specs.Access.{change_cell, change_named, flagged, flags_of, guard_named, guards, is_open, is_owned, result_of, taken_by, with_value, writes, written}
use Rattle.variables.specs.NewValues.{is_success, new_of, new_where, with_data, with_new_values}
use Rattle.variables.proofs.Cells.{changed}
use Rattle.variables.proofs.Writing.{fixed_of, same_result, types_stay}

-- ---- whose guards are asked for where they are met

abbrev pub asked : (List ℕ → Bool) → ℕ → Rows → Spec × Datum → Bool × (Spec × Datum)
asked owns client rows x = (is_owned owns (guard_named client rows x.0), x)

pub flags-asked : (owns : List ℕ → Bool) (client : ℕ) (rows : Rows) (variables : List Spec) (values : List Datum)
    → flagged (flags_of owns (guards client variables rows)) (zip variables values) ≡ map (asked owns client rows) (zip variables values)
flags-asked owns client rows [] values = refl
flags-asked owns client rows (s ∷ later) [] = refl
flags-asked owns client rows (s ∷ later) (value ∷ values) =
    ap (λ (xs : List (Bool × (Spec × Datum))). asked owns client rows (s, value) ∷ xs) (flags-asked owns client rows later values)

-- ---- the new values of several variables

abbrev pub news : ℕ → Rows → List (Bool × (Spec × Datum)) → List NewValue
news client rows [] = []
news client rows (x ∷ xs) = new_of client rows x ++ news client rows xs

-- those after the others
after_both : (a b : List NewValue) (rows : Rows) → with_new_values (a ++ b) rows ≡ with_new_values b (with_new_values a rows)
after_both [] b rows = refl
after_both (x ∷ a) b rows = after_both a b (record rows { cells = change_cell x.cell (with_data x.value) rows.cells })

-- ---- what was written before makes no difference

there_is : (n : ℕ) (o : Option StoredCell) → option_map (λ (_ : StoredCell). n) o ≡ option_map (λ (_ : Shape × Option (List ℕ)). n) (fixed_of o)
there_is n None = refl
there_is n (Some cell) = refl

there_stays : (n number : ℕ) (owns : Bool) (value : Datum) (cells : List (ℕ × StoredCell))
    → option_map (λ (_ : StoredCell). n) (lookup (nat_eq n) (change_cell number (with_value owns value) cells)) ≡ option_map (λ (_ : StoredCell). n) (lookup (nat_eq n) cells)
there_stays n number owns value cells =
    there_is n (lookup (nat_eq n) (change_cell number (with_value owns value) cells))
    ∙ ap (λ (o : Option (Shape × Option (List ℕ))). option_map (λ (_ : Shape × Option (List ℕ)). n) o) (types_stay n number owns value cells)
    ∙ sym (there_is n (lookup (nat_eq n) cells))

number_kept : (client : ℕ) (s : Spec) (o : Option ℕ) (owns : Bool) (value : Datum) (rows : Rows)
    → number_named client s (change_named o (with_value owns value) rows) ≡ number_named client s rows
number_kept client s None owns value rows = refl
number_kept client (spec.Address at) (Some number) owns value rows = there_stays at number owns value rows.cells
number_kept client (spec.Name name) (Some number) owns value rows = by_variable (number_told client (spec.Name name) rows)
  where
    by_variable : (told : Option ℕ)
        → option_and_then (λ n. option_map (λ _. n) (cell_at n (change_named (Some number) (with_value owns value) rows))) told ≡ option_and_then (λ n. option_map (λ _. n) (cell_at n rows)) told
    by_variable None = refl
    by_variable (Some at) = there_stays at number owns value rows.cells

new_kept : (client : ℕ) (x y : Bool × (Spec × Datum)) (rows : Rows) → new_of client (written client y rows) x ≡ new_of client rows x
new_kept client x y rows =
    ap (λ (r : WriteResult). new_where (is_success r) x.1.1 (number_named client x.1.0 (written client y rows))) (same_result client x y rows)
    ∙ ap (λ (o : Option ℕ). new_where (is_success (result_of client rows x)) x.1.1 o) (number_kept client x.1.0 (number_named client y.1.0 rows) y.0 y.1.1 rows)

news_kept : (client : ℕ) (xs : List (Bool × (Spec × Datum))) (y : Bool × (Spec × Datum)) (rows : Rows) → news client (written client y rows) xs ≡ news client rows xs
news_kept client [] y rows = refl
news_kept client (x ∷ xs) y rows =
    ap (λ (l : List NewValue). l ++ news client (written client y rows) xs) (new_kept client x y rows)
    ∙ ap (λ (l : List NewValue). new_of client rows x ++ l) (news_kept client xs y rows)

-- ---- one variable

-- two changes that make the same of the cell of that number are one
same_change : (number : ℕ) (f g : StoredCell → StoredCell) (cells : List (ℕ × StoredCell)) (cell : StoredCell) → IsDistinct nat_eq (keys_of cells) → lookup (nat_eq number) cells ≡ Some cell → f cell ≡ g cell
    → change_cell number f cells ≡ change_cell number g cells
same_change number f g cells cell d found e =
    sym (changed number f cells cell d found) ∙ ap (λ (c : StoredCell). set_value (nat_eq number) cells c) e ∙ changed number g cells cell d found

-- no change
no_change : (number : ℕ) (cells : List (ℕ × StoredCell)) → change_cell number (λ c. c) cells ≡ cells
no_change number [] = refl
no_change number (row ∷ rows) = by_number (nat_eq number row.0) (no_change number rows)
  where
    by_number : (b : Bool) → change_cell number (λ c. c) rows ≡ rows → (row.0, if b then row.1 else row.1) ∷ change_cell number (λ c. c) rows ≡ row ∷ rows
    by_number true rest = ap (λ (l : List (ℕ × StoredCell)). row ∷ l) rest
    by_number false rest = ap (λ (l : List (ℕ × StoredCell)). row ∷ l) rest

new_written : (client : ℕ) (owns : Bool) (s : Spec) (value : Datum) (rows : Rows) → IsDistinct nat_eq (keys_of rows.cells)
    → with_new_values (new_of client rows (owns, (s, value))) rows ≡ written client (owns, (s, value)) rows
new_written client owns s value rows d = by_told (number_told client s rows)
  where
    by_tests : (number : ℕ) (cell : StoredCell) → cell_at number rows ≡ Some cell → (opens fits : Bool)
        → with_new_values (new_where (is_success (if not opens then write.Failure ObjectAccessDenied else if fits then write.Success else write.Failure TypeInconsistent)) value (Some number)) rows
        ≡ record rows { cells = change_cell number (λ _. if opens && fits then with_data value cell else cell) rows.cells }
    by_tests number cell f true true =
        ap (λ (cells : List (ℕ × StoredCell)). record rows { cells = cells }) (same_change number (with_data value) (λ _. with_data value cell) rows.cells cell d f refl)
    by_tests number cell f true false =
        ap (λ (cells : List (ℕ × StoredCell)). record rows { cells = cells }) (sym (same_change number (λ _. cell) (λ c. c) rows.cells cell d f refl ∙ no_change number rows.cells))
    by_tests number cell f false fits =
        ap (λ (cells : List (ℕ × StoredCell)). record rows { cells = cells }) (sym (same_change number (λ _. cell) (λ c. c) rows.cells cell d f refl ∙ no_change number rows.cells))

    by_cell : (number : ℕ) (o : Option StoredCell) → cell_at number rows ≡ o
        → with_new_values (new_where (is_success (taken_by owns value o)) value (option_map (λ _. number) o)) rows ≡ change_named (option_map (λ _. number) o) (with_value owns value) rows
    by_cell number None f = refl
    by_cell number (Some cell) f =
        by_tests number cell f (is_open owns cell) (matches value cell.of)
        ∙ ap (λ (cells : List (ℕ × StoredCell)). record rows { cells = cells })
        (sym (same_change number (with_value owns value) (λ _. with_value owns value cell) rows.cells cell d f refl))

    by_told : (told : Option ℕ)
        → with_new_values (new_where (is_success (taken_by owns value (option_and_then (λ n. cell_at n rows) told))) value (option_and_then (λ n. option_map (λ _. n) (cell_at n rows)) told)) rows
        ≡ change_named (option_and_then (λ n. option_map (λ _. n) (cell_at n rows)) told) (with_value owns value) rows
    by_told None = refl
    by_told (Some number) = by_cell number (cell_at number rows) refl

-- ---- all of them

-- the numbers of the cells stay
keys_stay : (number : ℕ) (f : StoredCell → StoredCell) (cells : List (ℕ × StoredCell)) → keys_of (change_cell number f cells) ≡ keys_of cells
keys_stay number f [] = refl
keys_stay number f (row ∷ rows) = ap (λ (ks : List ℕ). row.0 ∷ ks) (keys_stay number f rows)

distinct_after : (number : Option ℕ) (f : StoredCell → StoredCell) (rows : Rows) → IsDistinct nat_eq (keys_of rows.cells) → IsDistinct nat_eq (keys_of (change_named number f rows).cells)
distinct_after None f rows d = d
distinct_after (Some number) f rows d = subst (IsDistinct nat_eq) (sym (keys_stay number f rows.cells)) d

pub all_written : (client : ℕ) (xs : List (Bool × (Spec × Datum))) (rows : Rows) → IsDistinct nat_eq (keys_of rows.cells) → with_new_values (news client rows xs) rows ≡ (writes client xs rows).0
all_written client [] rows d = refl
all_written client (x ∷ xs) rows d =
    after_both (new_of client rows x) (news client rows xs) rows
    ∙ ap (with_new_values (news client rows xs)) (new_written client x.0 x.1.0 x.1.1 rows d)
    ∙ ap (λ (l : List NewValue). with_new_values l (written client x rows)) (sym (news_kept client xs x rows))
    ∙ all_written client xs (written client x rows) (distinct_after (number_named client x.1.0 rows) (with_value x.0 x.1.1) rows d)

-- A cell that stands at the place of its number is changed there.
use Rattle.std.proofs.Common.{◌≡◌, ℕ, zero, suc, Bool, true, false, nat_eq, List, [], ◌∷◌, None, Some, sym, ap, subst, ◌∙◌, arith, if◌then◌else◌, slice_get}
use Rattle.std.proofs.lemmas.Bool.Decides.{nat_tests}
use Rattle.std.specs.List.{IsDistinct, AllByRecursion}
use Rattle.std.specs.Map.{keys_of, values_of}
use Rattle.std.specs.Option.{option_map}
use Rattle.indexmap.specs.Layout.{set_value_at}
use Rattle.variables.specs.declared.rows.StoredCell.{StoredCell}
use Rattle.variables.specs.Access.{change_cell}
use Rattle.variables.proofs.Cells.{unchanged}

some_is : {X : Type 0} (x y : X) → Some x ≡ Some y → x ≡ y
some_is x y e = cc

row_is : (row other : ℕ × StoredCell) → Some row ≡ Some other → row ≡ other
row_is row other e = cc

-- the row at a place, by its number and its cell
pub row_there : (place number : ℕ) (cells : List (ℕ × StoredCell)) (cell : StoredCell) → option_map (λ (row : ℕ × StoredCell). row.0) (slice_get cells place) ≡ Some number
    → slice_get (values_of cells) place ≡ Some cell → slice_get cells place ≡ Some (number, cell)
row_there place number [] cell n v = absurd cc
row_there zero number (row ∷ rows) cell n v = ap (λ (m : ℕ). Some (m, row.1)) (some_is row.0 number n) ∙ ap (λ (c : StoredCell). Some (number, c)) (some_is row.1 cell v)
row_there (suc place) number (row ∷ rows) cell n v = row_there place number rows cell n v

pub not_there : (place number : ℕ) (cells : List (ℕ × StoredCell)) → option_map (λ (row : ℕ × StoredCell). row.0) (slice_get cells place) ≡ Some number → slice_get (values_of cells) place ≡ None → ⊥
not_there place number [] n v = cc
not_there zero number (row ∷ rows) n v = cc
not_there (suc place) number (row ∷ rows) n v = not_there place number rows n v

-- a number that none has isn't that of a place
other_there : (place number m : ℕ) (cells : List (ℕ × StoredCell)) (cell : StoredCell) → AllByRecursion (λ other. nat_eq m other ≡ false) (keys_of cells) → slice_get cells place ≡ Some (number, cell)
    → nat_eq m number ≡ false
other_there place number m [] cell none at = absurd cc
other_there zero number m (row ∷ rows) cell none at = subst (λ (r : ℕ × StoredCell). nat_eq m r.0 ≡ false) (row_is row (number, cell) at) none.0
other_there (suc place) number m (row ∷ rows) cell none at = other_there place number m rows cell none.1 at

pub in_place : (place number : ℕ) (f : StoredCell → StoredCell) (cells : List (ℕ × StoredCell)) (cell : StoredCell) → IsDistinct nat_eq (keys_of cells) → slice_get cells place ≡ Some (number, cell)
    → set_value_at cells place (f cell) ≡ change_cell number f cells
unfolding IsDistinct
in_place place number f [] cell d at = absurd cc
in_place zero number f (row ∷ rows) cell d at =
    subst (λ (r : ℕ × StoredCell). AllByRecursion (λ other. nat_eq r.0 other ≡ false) (keys_of rows) → set_value_at (r ∷ rows) zero (f cell) ≡ change_cell number f (r ∷ rows))
    (sym (row_is row (number, cell) at)) first d.0
  where
    same : nat_eq number number ≡ true
    same = grind (arith, nat_tests)

    first : AllByRecursion (λ other. nat_eq number other ≡ false) (keys_of rows) → (number, f cell) ∷ rows ≡ (number, if nat_eq number number then f cell else cell) ∷ change_cell number f rows
    first none =
        ap (λ (rs : List (ℕ × StoredCell)). (number, f cell) ∷ rs) (sym (unchanged number f rows none))
        ∙ ap (λ (b : Bool). (number, if b then f cell else cell) ∷ change_cell number f rows) (sym same)
in_place (suc place) number f (row ∷ rows) cell d at =
    ap (λ (rs : List (ℕ × StoredCell)). row ∷ rs) (in_place place number f rows cell d.1 at)
    ∙ ap (λ (b : Bool). (row.0, if b then f row.1 else row.1) ∷ change_cell number f rows) (sym other)
  where
    before : nat_eq row.0 number ≡ false
    before = other_there place number row.0 rows cell d.0 at

    other : nat_eq number row.0 ≡ false
    other = grind (arith, nat_tests, before)

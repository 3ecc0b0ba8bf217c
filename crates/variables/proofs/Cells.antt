-- Cells are found by numbers of 16 bits, and one that is changed keeps its number.
use Rattle.std.proofs.Common.{◌≡◌, ℕ, ◌≤◌, Bool, true, false, cond, nat_eq, List, [], ◌∷◌, None, Some, refl, sym, ap, subst, ◌∙◌, arith, if◌then◌else◌}
use Rattle.std.proofs.lemmas.Bool.Decides.{nat_tests}
use Rattle.std.specs.List.{IsDistinct, AllByRecursion}
use Rattle.std.specs.Map.{lookup, set_value, keys_of}
use Rattle.variables.specs.declared.rows.StoredCell.{StoredCell}
use Rattle.variables.specs.Access.{change_cell}
use Rattle.variables.specs.Bounds.{AreSmall}

-- a number of more bits is that of no cell
pub beyond : (number : ℕ) (cells : List (ℕ × StoredCell)) → AreSmall cells → 65536 ≤ number → lookup (nat_eq number) cells ≡ None
beyond number [] small large = refl
beyond number (row ∷ rows) small large =
    let other : nat_eq number row.0 ≡ false = grind (arith, nat_tests, small.0, large) in
    ap (λ (b : Bool). cond b (Some row.1) (lookup (nat_eq number) rows)) other ∙ beyond number rows small.1 large

-- a number that no cell has changes none
pub unchanged : (number : ℕ) (f : StoredCell → StoredCell) (cells : List (ℕ × StoredCell)) → AllByRecursion (λ other. nat_eq number other ≡ false) (keys_of cells) → change_cell number f cells ≡ cells
unchanged number f [] none = refl
unchanged number f (row ∷ rows) none =
    ap (λ (b : Bool). (row.0, if b then f row.1 else row.1) ∷ change_cell number f rows) none.0
    ∙ ap (λ (rest : List (ℕ × StoredCell)). row ∷ rest) (unchanged number f rows none.1)

-- to write the cell of a number is to change that cell, where no two have the same number
pub changed : (number : ℕ) (f : StoredCell → StoredCell) (cells : List (ℕ × StoredCell)) (cell : StoredCell) → IsDistinct nat_eq (keys_of cells) → lookup (nat_eq number) cells ≡ Some cell
    → set_value (nat_eq number) cells (f cell) ≡ change_cell number f cells
unfolding IsDistinct
changed number f [] cell distinct found = refl
changed number f (row ∷ rows) cell distinct found = by_first (nat_eq number row.0) refl (changed number f rows cell distinct.1)
  where
    same : nat_eq number row.0 ≡ true → number ≡ row.0
    same e = grind (arith, nat_tests, e)

    is_first : nat_eq number row.0 ≡ true → row.1 ≡ cell
    is_first e = some_is (sym (ap (λ (b : Bool). cond b (Some row.1) (lookup (nat_eq number) rows)) e) ∙ found)
      where
        some_is : Some row.1 ≡ Some cell → row.1 ≡ cell
        some_is h = cc

    by_first : (b : Bool) → nat_eq number row.0 ≡ b → (lookup (nat_eq number) rows ≡ Some cell → set_value (nat_eq number) rows (f cell) ≡ change_cell number f rows)
        → set_value (nat_eq number) (row ∷ rows) (f cell) ≡ change_cell number f (row ∷ rows)
    by_first true e rest =
        let none : AllByRecursion (λ other. nat_eq number other ≡ false) (keys_of rows) = subst (λ (n : ℕ). AllByRecursion (λ other. nat_eq n other ≡ false) (keys_of rows)) (sym (same e)) distinct.0 in
        ap (λ (b : Bool). cond b ((row.0, f cell) ∷ rows) (row ∷ set_value (nat_eq number) rows (f cell))) e
        ∙ ap (λ (c : StoredCell). (row.0, f c) ∷ rows) (sym (is_first e))
        ∙ ap (λ (rs : List (ℕ × StoredCell)). (row.0, f row.1) ∷ rs) (sym (unchanged number f rows none))
        ∙ ap (λ (b : Bool). (row.0, if b then f row.1 else row.1) ∷ change_cell number f rows) (sym e)
    by_first false e rest =
        let found_rest = sym (ap (λ (b : Bool). cond b (Some row.1) (lookup (nat_eq number) rows)) e) ∙ found in
        ap (λ (b : Bool). cond b ((row.0, f cell) ∷ rows) (row ∷ set_value (nat_eq number) rows (f cell))) e
        ∙ ap (λ (rs : List (ℕ × StoredCell)). row ∷ rs) (rest found_rest)
        ∙ ap (λ (b : Bool). (row.0, if b then f row.1 else row.1) ∷ change_cell number f rows) (sym e)

-- a number under which no cell is found changes none
pub changed_there : (number : ℕ) (f : StoredCell → StoredCell) (cells : List (ℕ × StoredCell)) → lookup (nat_eq number) cells ≡ None → change_cell number f cells ≡ cells
changed_there number f [] none = refl
changed_there number f (row ∷ rows) none = by_first (nat_eq number row.0) refl none (changed_there number f rows)
  where
    by_first : (b : Bool) → nat_eq number row.0 ≡ b → cond b (Some row.1) (lookup (nat_eq number) rows) ≡ None → (lookup (nat_eq number) rows ≡ None → change_cell number f rows ≡ rows)
        → change_cell number f (row ∷ rows) ≡ row ∷ rows
    by_first true e none rest = absurd cc
    by_first false e none rest =
        ap (λ (b : Bool). (row.0, if b then f row.1 else row.1) ∷ change_cell number f rows) e ∙ ap (λ (rs : List (ℕ × StoredCell)). row ∷ rs) (rest none)

-- and it keeps the numbers
pub small_changed : (number : ℕ) (f : StoredCell → StoredCell) (cells : List (ℕ × StoredCell)) → AreSmall cells → AreSmall (change_cell number f cells)
small_changed number f [] small = small
small_changed number f (row ∷ rows) small = (small.0, small_changed number f rows small.1)

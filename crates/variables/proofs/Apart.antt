-- Rows of distinct keys are put in one after the other.
use Rattle.std.proofs.Common.{◌≡◌, ℕ, ◌<◌, Bool, false, cond, nat_eq, List, [], ◌∷◌, ◌++◌, map, None, Some, refl, ap, sym, subst, ◌∙◌}
use Rattle.std.specs.List.{IsDistinct, AllByRecursion}
use Rattle.std.specs.Map.{lookup, keys_of}
use Rattle.std.specs.Cmp.Lexicographic.{pointwise}
use Rattle.mms_types.specs.declared.cells.CellRow.{CellRow}
use Rattle.mms_types.specs.declared.cells.NamedCell.{NamedCell}
use Rattle.mms_types.specs.declared.key.Scope.TheVariants.{Vmd}
use Rattle.mms_types.specs.Order.{key_eq}
use Rattle.variables.specs.declared.rows.StoredCell.{StoredCell}
use Rattle.variables.specs.Bounds.{AreSmall}
use Rattle.variables.specs.Start.{cell_row, variable_row}

-- ---- numbers

other_numbers : (n : ℕ) (rows : List CellRow) → AllByRecursion (λ m. nat_eq n m ≡ false) (map (λ row. row.number) rows) → AllByRecursion (λ m. nat_eq n m ≡ false) (keys_of (map cell_row rows))
other_numbers n [] h = tt
other_numbers n (row ∷ rows) h = (h.0, other_numbers n rows h.1)

pub numbers_apart : (rows : List CellRow) → IsDistinct nat_eq (map (λ row. row.number) rows) → IsDistinct nat_eq (keys_of (map cell_row rows))
unfolding IsDistinct
numbers_apart [] h = h
numbers_apart (row ∷ rows) h = (other_numbers row.number rows h.0, numbers_apart rows h.1)

-- ---- names

other_names : (name : List ℕ) (rows : List NamedCell) → AllByRecursion (λ other. pointwise nat_eq name other ≡ false) (map (λ row. row.name) rows)
    → AllByRecursion (λ other. key_eq (record { scope = Vmd; item = name }) other ≡ false) (keys_of (map variable_row rows))
other_names name [] h = tt
other_names name (row ∷ rows) h = (h.0, other_names name rows h.1)

pub names_apart : (rows : List NamedCell) → IsDistinct (pointwise nat_eq) (map (λ row. row.name) rows) → IsDistinct key_eq (keys_of (map variable_row rows))
unfolding IsDistinct
names_apart [] h = h
names_apart (row ∷ rows) h = (other_names row.name rows h.0, names_apart rows h.1)

-- ---- none of the rows in front has the key

module _ {K X : Type 0} (eq : K → K → Bool) (symmetric : (a b : K) → eq a b ≡ eq b a) where
  other_key : (key : K) (front rest : List (K × X)) (row : K × X) → AllByRecursion (λ other. eq key other ≡ false) (keys_of (front ++ row ∷ rest)) → eq row.0 key ≡ false
  other_key key [] rest row all = symmetric row.0 key ∙ all.0
  other_key key (r ∷ front) rest row all = other_key key front rest row all.1

  new_key : (front rest : List (K × X)) (row : K × X) → IsDistinct eq (keys_of (front ++ row ∷ rest)) → lookup (eq row.0) front ≡ None
  unfolding IsDistinct
  new_key [] rest row distinct = refl
  new_key (r ∷ front) rest row distinct =
      ap (λ (b : Bool). cond b (Some r.1) (lookup (eq row.0) front)) (other_key r.0 front rest row distinct.0) ∙ new_key front rest row distinct.1

  pub not_there : (front rest all : List (K × X)) (row : K × X) → front ++ row ∷ rest ≡ all → IsDistinct eq (keys_of all) → lookup (eq row.0) front ≡ None
  not_there front rest all row is distinct = new_key front rest row (subst (λ (l : List (K × X)). IsDistinct eq (keys_of l)) (sym is) distinct)

pub small_more : (cells : List (ℕ × StoredCell)) (row : ℕ × StoredCell) → AreSmall cells → row.0 < 65536 → AreSmall (cells ++ row ∷ [])
small_more [] row small less = (less, tt)
small_more (c ∷ cells) row small less = (small.0, small_more cells row small.1 less)

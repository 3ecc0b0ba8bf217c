-- A write leaves a cell as it is that has a guard which its client doesn't own.
use Rattle.std.proofs.Common.{◌≡◌, ℕ, Bool, true, false, nat_eq, List, [], ◌∷◌, Option, None, Some, refl, sym, ap, ◌∙◌, arith}
use Rattle.std.proofs.lemmas.Bool.Decides.{nat_tests}
use Rattle.std.specs.List.{zip}
use Rattle.std.specs.Map.{lookup}
use Rattle.std.specs.Option.{option_map, option_and_then}
use Rattle.mms_types.specs.Datum.{Datum}
use Rattle.mms_types.specs.Shape.{Shape}
use Rattle.mms_types.specs.declared.variable.Spec.{Spec}
use Rattle.variables.specs.declared.rows.StoredCell.{StoredCell}
use Rattle.variables.specs.Rows.{Rows, cell_at, number_told, cell_named, number_named}
use Rattle.variables.specs.Access.{change_cell, change_named, flagged, flags_of, guard_at, guard_in, guard_named, guards, is_owned, with_value, writes, written}
use Rattle.variables.proofs.Writing.{fixed_of, types_kept}

-- ---- guards stay

abbrev guard_fixed : Option (Shape × Option (List ℕ)) → Option (List ℕ)
guard_fixed None = None
guard_fixed (Some kept) = kept.1

guard_is : (o : Option StoredCell) → guard_in o ≡ guard_fixed (fixed_of o)
guard_is None = refl
guard_is (Some cell) = refl

guard_stays : (client : ℕ) (x : Bool × (Spec × Datum)) (rows : Rows) (s : Spec) → guard_named client (written client x rows) s ≡ guard_named client rows s
guard_stays client x rows s =
    guard_is (cell_named client s (written client x rows)) ∙ ap guard_fixed (types_kept client s (number_named client x.1.0 rows) x.0 x.1.1 rows)
    ∙ sym (guard_is (cell_named client s rows))

pub guards_stay : (client : ℕ) (x : Bool × (Spec × Datum)) (rows : Rows) (variables : List Spec) → guards client variables (written client x rows) ≡ guards client variables rows
guards_stay client x rows [] = refl
guards_stay client x rows (s ∷ later) =
    ap (λ (g : Option (List ℕ)). g ∷ guards client later (written client x rows)) (guard_stays client x rows s)
    ∙ ap (λ (gs : List (Option (List ℕ))). guard_named client rows s ∷ gs) (guards_stay client x rows later)

-- ---- a cell that isn't open

-- a change of a cell that leaves it as it is
not_changed : (at number : ℕ) (f : StoredCell → StoredCell) (cells : List (ℕ × StoredCell)) → (nat_eq at number ≡ true → option_map f (lookup (nat_eq at) cells) ≡ lookup (nat_eq at) cells)
    → lookup (nat_eq at) (change_cell number f cells) ≡ lookup (nat_eq at) cells
not_changed at number f [] same = refl
not_changed at number f (row ∷ rows) same = by_number (nat_eq at row.0) (nat_eq number row.0) refl refl same (not_changed at number f rows)
  where
    alike : nat_eq at row.0 ≡ true → nat_eq number row.0 ≡ true → nat_eq at number ≡ true
    alike e g = grind (arith, nat_tests, e, g)

    by_number : (a b : Bool) → nat_eq at row.0 ≡ a → nat_eq number row.0 ≡ b
        → (nat_eq at number ≡ true → option_map f (lookup (nat_eq at) (row ∷ rows)) ≡ lookup (nat_eq at) (row ∷ rows))
        → ((nat_eq at number ≡ true → option_map f (lookup (nat_eq at) rows) ≡ lookup (nat_eq at) rows) → lookup (nat_eq at) (change_cell number f rows) ≡ lookup (nat_eq at) rows)
        → lookup (nat_eq at) (change_cell number f (row ∷ rows)) ≡ lookup (nat_eq at) (row ∷ rows)
    by_number true true e g same rest =
        let h : option_map f (lookup (nat_eq at) (row ∷ rows)) ≡ lookup (nat_eq at) (row ∷ rows) = same (alike e g) in
        let k : Some (f row.1) ≡ Some row.1 = rw e at h in
        rw (e, g) k
    by_number true false e g same rest = rw (e, g) refl
    by_number false b e g same rest =
        let other : nat_eq at number ≡ true → option_map f (lookup (nat_eq at) rows) ≡ lookup (nat_eq at) rows = λ h. rw e at (same h) in
        rw e (rest other)

module _ (guard : List ℕ) where
  closed : (value : Datum) (cell : StoredCell) → cell.guard ≡ Some guard → with_value false value cell ≡ cell
  closed value cell e = rw e refl

  closed_there : (value : Datum) (o : Option StoredCell) → guard_in o ≡ Some guard → option_map (with_value false value) o ≡ o
  closed_there value None e = refl
  closed_there value (Some cell) e = ap Some (closed value cell e)

-- the cell that is named is that of the number that is named
named_at : (client : ℕ) (s : Spec) (rows : Rows) (number : ℕ) → number_named client s rows ≡ Some number → cell_named client s rows ≡ cell_at number rows
named_at client s rows number e = by_told (number_told client s rows) e
  where
    by_cell : (m : ℕ) (o : Option StoredCell) → option_map (λ _. m) o ≡ Some number → m ≡ number
    by_cell m None e = absurd cc
    by_cell m (Some cell) e = cc

    by_told : (told : Option ℕ) → option_and_then (λ m. option_map (λ _. m) (cell_at m rows)) told ≡ Some number → option_and_then (λ m. cell_at m rows) told ≡ cell_at number rows
    by_told None e = absurd cc
    by_told (Some m) e = ap (λ (n : ℕ). cell_at n rows) (by_cell m (cell_at m rows) e)

-- ---- the write

module _ (owns : List ℕ → Bool) (client number : ℕ) (guard : List ℕ) (unowned : owns guard ≡ false) where
  one_stays : (x : Spec × Datum) (rows : Rows) → guard_at number rows ≡ Some guard
      → cell_at number (written client (is_owned owns (guard_named client rows x.0), x) rows) ≡ cell_at number rows
  one_stays x rows guarded = by_named (number_named client x.0 rows) refl
    where
      by_named : (o : Option ℕ) → number_named client x.0 rows ≡ o
          → cell_at number (change_named o (with_value (is_owned owns (guard_named client rows x.0)) x.1) rows) ≡ cell_at number rows
      by_named None e = refl
      by_named (Some m) e = not_changed number m (with_value (is_owned owns (guard_named client rows x.0)) x.1) rows.cells same
        where
          is_of : nat_eq number m ≡ true → m ≡ number
          is_of h = grind (arith, nat_tests, h)

          owned : nat_eq number m ≡ true → is_owned owns (guard_named client rows x.0) ≡ false
          owned h =
              ap (λ (o : Option StoredCell). is_owned owns (guard_in o)) (named_at client x.0 rows m e ∙ ap (λ (n : ℕ). cell_at n rows) (is_of h))
              ∙ ap (is_owned owns) guarded ∙ unowned

          same : nat_eq number m ≡ true → option_map (with_value (is_owned owns (guard_named client rows x.0)) x.1) (cell_at number rows) ≡ cell_at number rows
          same h = ap (λ (b : Bool). option_map (with_value b x.1) (cell_at number rows)) (owned h) ∙ closed_there guard x.1 (cell_at number rows) guarded

  pub unowned_stays : (variables : List Spec) (values : List Datum) (rows : Rows) → guard_at number rows ≡ Some guard
      → cell_at number (writes client (flagged (flags_of owns (guards client variables rows)) (zip variables values)) rows).0 ≡ cell_at number rows
  unowned_stays [] values rows guarded = refl
  unowned_stays (s ∷ later) [] rows guarded = refl
  unowned_stays (s ∷ later) (value ∷ others) rows guarded =
      let one : Bool × (Spec × Datum) = (is_owned owns (guard_named client rows s), (s, value)) in
      let after : Rows = written client one rows in
      let step : cell_at number after ≡ cell_at number rows = one_stays (s, value) rows guarded in
      ap (λ (gs : List (Option (List ℕ))). cell_at number (writes client (flagged (flags_of owns gs) (zip later others)) after).0) (sym (guards_stay client one rows later))
      ∙ unowned_stays later others after (ap guard_in step ∙ guarded) ∙ step

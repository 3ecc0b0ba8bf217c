-- What holds of the name of each row holds so of fewer rows, and of one more where it holds of its name.
use Rattle.std.proofs.Common.{◌≡◌, zero, suc, Bool, true, false, not, cond, List, [], ◌∷◌, ◌++◌, filter, Option, None, Some, refl, arith, nat_le, if◌then◌else◌, ℕ}
use Rattle.std.specs.Prelude.{◌||◌}
use Rattle.std.specs.List.{All}
use Rattle.std.specs.Map.{keys_of, lookup, remove_entry, set_value}
use Rattle.mms_types.specs.Order.{key_eq, scope_eq}
use Rattle.mms_types.specs.declared.key.Key.{Key}
use Rattle.mms_types.specs.declared.key.Scope.{Scope}
use Rattle.object_names.specs.Deletion.{goes, left}
use Rattle.object_names.specs.Scopes.{has_any_of, without_all_of}
use Rattle.mms_time.specs.Loss.{all_changed}
use Rattle.parted_state.specs.Gathered.{put_behind}
use Rattle.mms_time.specs.Semaphores.{Rows, changed, changed_row, changed_to}
use Rattle.mms_time.specs.declared.row.Semaphore.{Semaphore}
use Rattle.mms_time.specs.declared.row.SemaphoreRow.{SemaphoreRow}

abbrev pub Each : {T : Type 0} → (Key → Type 0) → List (Key × T) → Type 0
Each P [] = Unit {0}
Each P (row ∷ rows) = P row.0 × Each P rows

module _ {T : Type 0} (P : Key → Type 0) where
  pub each_kept : (p : Key × T → Bool) (rows : List (Key × T)) → Each P rows → Each P (filter p rows)
  each_kept p [] all = tt
  each_kept p (row ∷ rows) all = by_test (p row) (each_kept p rows all.1)
    where
      by_test : (b : Bool) → Each P (filter p rows) → Each P (cond b (row ∷ filter p rows) (filter p rows))
      by_test true rest = (all.0, rest)
      by_test false rest = rest

  -- some are deleted
  pub each_left : (is_fixed : T → Bool) (selected : Key → Bool) (rows : List (Key × T)) → Each P rows → Each P (left is_fixed selected rows)
  each_left is_fixed selected rows all = each_kept (λ row. not (goes is_fixed selected row)) rows all

  -- all of a scope go
  pub each_without : (scope : Scope) (rows : List (Key × T)) → Each P rows → Each P (without_all_of scope rows)
  each_without scope rows all = each_kept (λ row. not (scope_eq row.0.scope scope)) rows all

  -- one goes
  pub each_removed : (test : Key → Bool) (rows : List (Key × T)) → Each P rows → Each P (remove_entry test rows)
  each_removed test [] all = tt
  each_removed test (row ∷ rows) all = by_test (test row.0) (each_removed test rows all.1)
    where
      by_test : (b : Bool) → Each P (remove_entry test rows) → Each P (cond b rows (row ∷ remove_entry test rows))
      by_test true rest = all.1
      by_test false rest = (all.0, rest)

  -- one has another value
  pub each_set : (test : Key → Bool) (new : T) (rows : List (Key × T)) → Each P rows → Each P (set_value test rows new)
  each_set test new [] all = tt
  each_set test new (row ∷ rows) all = by_test (test row.0) (each_set test new rows all.1)
    where
      by_test : (b : Bool) → Each P (set_value test rows new) → Each P (cond b ((row.0, new) ∷ rows) (row ∷ set_value test rows new))
      by_test true rest = (all.0, all.1)
      by_test false rest = (all.0, rest)

  -- one more is made
  pub each_added : (rows : List (Key × T)) (row : Key × T) → Each P rows → P row.0 → Each P (rows ++ row ∷ [])
  each_added [] row all new = (new, tt)
  each_added (first ∷ rows) row all new = (all.0, each_added rows row all.1 new)

  -- one that stands behind those of its place
  pub each_put : (place : Key × T → ℕ) (rows : List (Key × T)) (row : Key × T) → Each P rows → P row.0 → Each P (put_behind place row rows)
  each_put place [] row all new = (new, tt)
  each_put place (first ∷ rows) row all new = by_test (nat_le (place first) (place row)) (each_put place rows row all.1 new)
    where
      by_test : (b : Bool) → Each P (put_behind place row rows) → Each P (if b then first ∷ put_behind place row rows else row ∷ first ∷ rows)
      by_test true rest = (all.0, rest)
      by_test false rest = (new, all)

  -- by places
  pub each_all : (rows : List (Key × T)) → Each P rows → All P (keys_of rows)
  each_all [] all k d low = absurd (omega (arith, low))
  each_all (row ∷ rows) all zero d low = all.0
  each_all (row ∷ rows) all (suc k) d low = each_all rows all.1 k d (omega (arith, low))

module _ {T : Type 0} (P Q : Key → Type 0) where
  pub each_weaker : ((key : Key) → P key → Q key) → (rows : List (Key × T)) → Each P rows → Each Q rows
  each_weaker weaker [] all = tt
  each_weaker weaker (row ∷ rows) all = (weaker row.0 all.0, each_weaker weaker rows all.1)

  -- where none is of that scope
  pub each_other : (scope : Scope) → ((key : Key) → scope_eq key.scope scope ≡ false → P key → Q key) → (rows : List (Key × T)) → has_any_of scope rows ≡ false
      → Each P rows → Each Q rows
  each_other scope other [] none all = tt
  each_other scope other (row ∷ rows) none all = by_test (scope_eq row.0.scope scope) refl (each_other scope other rows) none
    where
      by_test : (b : Bool) → scope_eq row.0.scope scope ≡ b → (has_any_of scope rows ≡ false → Each P rows → Each Q rows)
          → (b || has_any_of scope rows) ≡ false → Each Q (row ∷ rows)
      by_test true e rest h = absurd (cc h)
      by_test false e rest h = (other row.0 e all.0, rest h all.1)

-- ---- semaphores

module _ (P : Key → Type 0) where
  -- one is changed
  pub each_changed : (f : Semaphore → Semaphore) (key : Key) (rows : Rows) → Each P rows → Each P (changed f key rows)
  each_changed f key rows all = by_row (lookup (key_eq key) rows)
    where
      by_row : (o : Option SemaphoreRow) → Each P (changed_to o f key rows)
      by_row None = all
      by_row (Some row) = each_set P (key_eq key) (changed_row f row) rows all

  -- all are
  pub each_mapped : (f : Semaphore → Semaphore) (rows : Rows) → Each P rows → Each P (all_changed f rows)
  each_mapped f [] all = tt
  each_mapped f (row ∷ rows) all = (all.0, each_mapped f rows all.1)

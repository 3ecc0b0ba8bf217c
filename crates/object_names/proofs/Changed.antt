-- What changes of rows make of their keys.
use Rattle.std.proofs.Common.{◌≡◌, ◌∙◌, ap, sym, refl, subst, ℕ, zero, suc, Bool, true, false, cond, not, ◌||◌, List, [], ◌∷◌, ◌++◌, drop, filter, length, map, take, Some, None, is_some}
use Rattle.std.specs.List.{AllByRecursion, IsDistinct, list_any}
use Rattle.std.specs.Map.{keys_of, lookup, remove_entry}
use Rattle.std.proofs.lemmas.List.{length-map}
use Rattle.indexmap.specs.Layout.{set_value_at}
use Rattle.mms_types.specs.declared.key.Key.{Key}
use Rattle.mms_types.specs.declared.key.Scope.{Scope}
use Rattle.mms_types.specs.KeyLaws.{scopes_equal}
use Rattle.mms_types.specs.Order.{key_eq, scope_eq}
use Rattle.object_names.specs.Index.{IsIndexOf, IsSplit, is_front, key_at}
use Rattle.object_names.specs.Scopes.{has_any_of}
use Rattle.object_names.proofs.Counted.{differs}
use Rattle.object_names.proofs.KeysInOrder.{put_front, put_rest}
use Rattle.object_names.proofs.Places.{index_put}

module _ {T : Type 0} where
  keys_more : (rows : List (Key × T)) (key : Key) (value : T) → keys_of (rows ++ (key, value) ∷ []) ≡ keys_of rows ++ key ∷ []
  keys_more [] key value = refl
  keys_more (row ∷ rows) key value = ap (λ ks. row.0 ∷ ks) (keys_more rows key value)

  absent : (key : Key) (rows : List (Key × T)) → lookup (key_eq key) rows ≡ None → AllByRecursion (λ other. key_eq key other ≡ false) (keys_of rows)
  absent key [] none = tt
  absent key (row ∷ rows) none = by (key_eq key row.0) refl (absent key rows)
    where
      by : (b : Bool) → key_eq key row.0 ≡ b → (lookup (key_eq key) rows ≡ None → AllByRecursion (λ other. key_eq key other ≡ false) (keys_of rows)) → (key_eq key row.0 ≡ false) × AllByRecursion (λ other. key_eq key other ≡ false) (keys_of rows)
      by true e later = absurd (let found = sym (ap (λ b. cond b (Some row.1) (lookup (key_eq key) rows)) e) ∙ none in cc found)
      by false e later = (e, later (sym (ap (λ b. cond b (Some row.1) (lookup (key_eq key) rows)) e) ∙ none))

  -- the index of rows with one more
  pub index_more : (rows : List (Key × T)) (key : Key) (value : T) (places : List ℕ) (n place : ℕ) → IsIndexOf (keys_of rows) places → lookup (key_eq key) rows ≡ None
      → IsSplit (is_front key.scope (Some key.item)) (map (key_at (keys_of rows)) places) n → place ≡ length rows → IsIndexOf (keys_of (rows ++ (key, value) ∷ [])) (take n places ++ place ∷ drop n places)
  index_more rows key value places n place index none split last =
      let count : length (keys_of rows) ≡ place = length-map rows (λ (row : Key × T). row.0) ∙ sym last in
      subst (λ ks. IsIndexOf ks (take n places ++ place ∷ drop n places)) (sym (keys_more rows key value))
      (subst (λ p. IsIndexOf (keys_of rows ++ key ∷ []) (take n places ++ p ∷ drop n places)) count
      (index_put (keys_of rows) key places n index (put_front (keys_of rows) key places n index (absent key rows none) split) (put_rest (keys_of rows) key places n split)))

  -- a value that is written leaves the keys
  pub keys_stay : (rows : List (Key × T)) (place : ℕ) (value : T) → keys_of (set_value_at rows place value) ≡ keys_of rows
  keys_stay [] zero value = refl
  keys_stay [] (suc place) value = refl
  keys_stay (row ∷ rows) zero value = refl
  keys_stay (row ∷ rows) (suc place) value = ap (λ ks. row.0 ∷ ks) (keys_stay rows place value)

  pub count_stays : (rows : List (Key × T)) (place : ℕ) (value : T) → length (set_value_at rows place value) ≡ length rows
  count_stays [] zero value = refl
  count_stays [] (suc place) value = refl
  count_stays (row ∷ rows) zero value = refl
  count_stays (row ∷ rows) (suc place) value = ap suc (count_stays rows place value)

  -- where no row has the name none is taken out
  pub none_out : (key : Key) (rows : List (Key × T)) → is_some (lookup (key_eq key) rows) ≡ false → rows ≡ remove_entry (key_eq key) rows
  none_out key [] none = refl
  none_out key (row ∷ rows) none = by (key_eq key row.0) refl (none_out key rows)
    where
      by : (b : Bool) → key_eq key row.0 ≡ b → (is_some (lookup (key_eq key) rows) ≡ false → rows ≡ remove_entry (key_eq key) rows) → row ∷ rows ≡ cond b rows (row ∷ remove_entry (key_eq key) rows)
      by true e later = absurd (let some = sym (ap (λ b. is_some (cond b (Some row.1) (lookup (key_eq key) rows))) e) ∙ none in cc some)
      by false e later = ap (λ l. row ∷ l) (later (sym (ap (λ b. is_some (cond b (Some row.1) (lookup (key_eq key) rows))) e) ∙ none))

  none_left_out : (key other : Key) (rows : List (Key × T)) → key_eq key other ≡ true → AllByRecursion (λ k. key_eq other k ≡ false) (keys_of rows) → rows ≡ filter (λ row. not (key_eq key row.0)) rows
  none_left_out key other [] same apart = refl
  none_left_out key other (row ∷ rows) same apart =
      ap (λ l. row ∷ l) (none_left_out key other rows same apart.1)
      ∙ sym (ap (λ b. cond (not b) (row ∷ filter (λ row. not (key_eq key row.0)) rows) (filter (λ row. not (key_eq key row.0)) rows)) (differs key other row.0 same apart.0))

  -- a row that is taken out is the one that has the name
  pub others : (key : Key) (rows : List (Key × T)) → IsDistinct key_eq (keys_of rows) → remove_entry (key_eq key) rows ≡ filter (λ row. not (key_eq key row.0)) rows
  unfolding IsDistinct
  others key [] distinct = refl
  others key (row ∷ rows) distinct = by (key_eq key row.0) refl (others key rows distinct.1)
    where
      by : (b : Bool) → key_eq key row.0 ≡ b → remove_entry (key_eq key) rows ≡ filter (λ row. not (key_eq key row.0)) rows
          → cond b rows (row ∷ remove_entry (key_eq key) rows) ≡ cond (not b) (row ∷ filter (λ row. not (key_eq key row.0)) rows) (filter (λ row. not (key_eq key row.0)) rows)
      by true e later = none_left_out key row.0 rows e distinct.0
      by false e later = ap (λ l. row ∷ l) later

-- where nothing has a property all stay
pub all_stay : {X : Type 0} (p : X → Bool) (xs : List X) → list_any p xs ≡ false → filter (λ x. not (p x)) xs ≡ xs
all_stay p [] none = refl
all_stay {X} p (x ∷ xs) none = by (p x) refl (all_stay p xs)
  where
    by : (b : Bool) → p x ≡ b → (list_any p xs ≡ false → filter (λ y. not (p y)) xs ≡ xs) → cond (not b) (x ∷ filter (λ y. not (p y)) xs) (filter (λ y. not (p y)) xs) ≡ x ∷ xs
    by true e later = absurd (let some = sym (ap (λ b. b || list_any p xs) e) ∙ none in cc some)
    by false e later = ap (λ l. x ∷ l) (later (sym (ap (λ b. b || list_any p xs) e) ∙ none))

-- where no row has a name of the scope, nothing that asks for one is among the rows
pub none_of_scope : {T : Type 0} (scope : Scope) (p : Key × T → Bool) (rows : List (Key × T)) → ((row : Key × T) → scope_eq scope row.0.scope ≡ false → p row ≡ false) → has_any_of scope rows ≡ false → filter p rows ≡ []
none_of_scope scope p [] h none = refl
none_of_scope {T} scope p (row ∷ rows) h none = by (scope_eq row.0.scope scope) refl (none_of_scope scope p rows h)
  where
    by : (b : Bool) → scope_eq row.0.scope scope ≡ b → (has_any_of scope rows ≡ false → filter p rows ≡ []) → cond (p row) (row ∷ filter p rows) (filter p rows) ≡ []
    by true e later = absurd (let some = sym (ap (λ b. b || has_any_of scope rows) e) ∙ none in cc some)
    by false e later =
        ap (λ b. cond b (row ∷ filter p rows) (filter p rows)) (h row (scopes_equal.symm scope row.0.scope ∙ e))
        ∙ later (sym (ap (λ b. b || has_any_of scope rows) e) ∙ none)

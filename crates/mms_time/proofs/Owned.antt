-- The semaphores of which a client owns a token: they alone grant one where it is lost, and each is put at its place.
use Rattle.std.proofs.Common.{◌≡◌, ◌∙◌, ap, refl, sym, Bor, ℕ, zero, suc, ◌+◌, ◌<◌, ◌≤◌, Bool, true, false, ◌||◌, cond, List, [], ◌∷◌, ◌++◌, filter, map, drop, take, length, slice_get, Option, None, Some, arith}
use Rattle.std.specs.List.{flat_map, list_any, IsDistinct}
use Rattle.std.specs.Map.{keys_of, lookup, values_of}
use Rattle.std.proofs.lemmas.Map.Entries.{lookup_from_place}
use Rattle.mms_types.specs.KeyLaws.{keys_equal}
use Rattle.mms_types.specs.Order.{key_eq}
use Rattle.mms_types.specs.declared.key.Key.{Key}
use Rattle.mms_types.specs.declared.moment.Moment.{Moment}
use Rattle.token_sem.specs.Semaphore.{owned_by}
use Rattle.token_sem.specs.declared.entry.Grant.{Grant}
use Rattle.mms_time.specs.Loss.{all_changed, grants_of, grants_of_each, keyed, left_rows, owned_rows, owns_any, semaphore_without, sorted_keys}
use Rattle.mms_time.specs.Semaphores.{Rows, changed_row, entries_of}
use Rattle.mms_time.specs.declared.row.SemaphoreRow.{SemaphoreRow}
use Rattle.mms_time.proofs.KeyOrder.{sorted_filtered}
use Rattle.mms_time.proofs.Listed.{take_whole}
use Rattle.mms_time.proofs.Unowned.{none_granted_by, still_at}

abbrev pub owned : ℕ → SemaphoreRow → Bool
owned client row = list_any (owned_by client) (entries_of row)

abbrev pub owned_row : ℕ → Key × SemaphoreRow → Bool
owned_row client row = owned client row.1

abbrev pub key_of_row : Key × SemaphoreRow → Key
key_of_row row = row.0

abbrev pub left_of : ℕ → Moment → Key × SemaphoreRow → SemaphoreRow
left_of client now row = changed_row (semaphore_without client now) row.1

-- ---- the names of some rows

abbrev on_some : {X : Type 0} → (X → Bool) → Option X → Bool
on_some p None = false
on_some p (Some x) = p x

keys_kept : {K X : Type 0} (p : X → Bool) (found : K → Option X) (es : List (K × X)) → ((i : ℕ) (k : K) (v : X) → slice_get es i ≡ Some (k, v) → found k ≡ Some v)
    → keys_of (filter (λ e. p e.1) es) ≡ filter (λ k. on_some p (found k)) (keys_of es)
keys_kept p found [] each = refl
keys_kept {K} {X} p found (e ∷ es) each = by_test (p e.1) refl (keys_kept p found es (λ i. each (suc i)))
  where
    by_test : (b : Bool) → p e.1 ≡ b → keys_of (filter (λ e. p e.1) es) ≡ filter (λ k. on_some p (found k)) (keys_of es)
        → keys_of (cond b (e ∷ filter (λ e. p e.1) es) (filter (λ e. p e.1) es)) ≡ filter (λ k. on_some p (found k)) (e.0 ∷ keys_of es)
    by_test true is rest =
        ap (λ (l : List K). e.0 ∷ l) rest
        ∙ ap (λ (b : Bool). cond b (e.0 ∷ filter (λ k. on_some p (found k)) (keys_of es)) (filter (λ k. on_some p (found k)) (keys_of es))) (sym (ap (on_some p) (each 0 e.0 e.1 refl) ∙ is))
    by_test false is rest =
        rest
        ∙ ap (λ (b : Bool). cond b (e.0 ∷ filter (λ k. on_some p (found k)) (keys_of es)) (filter (λ k. on_some p (found k)) (keys_of es))) (sym (ap (on_some p) (each 0 e.0 e.1 refl) ∙ is))

-- what nothing is made of may be left out
flat_kept : {X A : Type 0} (f : X → List A) (q : X → Bool) → ((x : X) → q x ≡ false → f x ≡ []) → (xs : List X) → flat_map f (filter q xs) ≡ flat_map f xs
flat_kept f q none [] = refl
flat_kept {X} {A} f q none (x ∷ xs) = by_test (q x) refl (flat_kept f q none xs)
  where
    by_test : (b : Bool) → q x ≡ b → flat_map f (filter q xs) ≡ flat_map f xs → flat_map f (cond b (x ∷ filter q xs) (filter q xs)) ≡ f x ++ flat_map f xs
    by_test true is rest = ap (λ (l : List A). f x ++ l) rest
    by_test false is rest = rest ∙ ap (λ (l : List A). l ++ flat_map f xs) (sym (none x is))

module _ (client : ℕ) (now : Moment) (rows : Rows) where
  abbrev pub grants_here : Key → List (Key × Grant)
  grants_here key = keyed key (grants_of client now (lookup (key_eq key) rows))

  abbrev is_owned : Key → Bool
  is_owned key = on_some (owned client) (lookup (key_eq key) rows)

  none_here : (key : Key) → is_owned key ≡ false → grants_here key ≡ []
  none_here key e = by_row (lookup (key_eq key) rows) e
    where
      by_row : (o : Option SemaphoreRow) → on_some (owned client) o ≡ false → keyed key (grants_of client now o) ≡ []
      by_row None h = refl
      by_row (Some row) h = ap (keyed key) (none_granted_by client now row.semaphore h)

  -- the names of those that the client owns a token of tell all grants
  pub owned_tell : IsDistinct key_eq (keys_of rows) → flat_map grants_here (sorted_keys (keys_of (owned_rows client rows))) ≡ grants_of_each client now rows
  owned_tell distinct =
      ap (λ (ks : List Key). flat_map grants_here (sorted_keys ks)) (keys_kept (owned client) (λ key. lookup (key_eq key) rows) rows (λ i k v at. lookup_from_place keys_equal rows i k v distinct at))
      ∙ ap (flat_map grants_here) (sorted_filtered is_owned (keys_of rows))
      ∙ flat_kept grants_here is_owned none_here (sorted_keys (keys_of rows))

-- those up to the end are all
pub all_named : (keys : List (Bor Key)) (i : ℕ) → length keys ≤ i → map (λ (k : Bor Key). k.now) (take i keys) ≡ map (λ (k : Bor Key). k.now) keys
all_named keys i end = ap (map (λ (k : Bor Key). k.now)) (take_whole keys i end)

-- ---- each is put at its place

none_kept : (client : ℕ) (rows : Rows) → owns_any client rows ≡ false → owned_rows client rows ≡ []
none_kept client [] e = refl
none_kept client (row ∷ rows) e = by_test (owned client row.1) e (none_kept client rows)
  where
    by_test : (b : Bool) → (b || owns_any client rows) ≡ false → (owns_any client rows ≡ false → owned_rows client rows ≡ []) → cond b (row ∷ owned_rows client rows) (owned_rows client rows) ≡ []
    by_test true h rest = absurd (cc h)
    by_test false h rest = rest h

-- a client that owns none leaves none of them
pub none_left : (client : ℕ) (now : Moment) (rows : Rows) → owns_any client rows ≡ false → [] ≡ left_rows client now rows
none_left client now rows e = sym (ap (map (λ (row : Key × SemaphoreRow). changed_row (semaphore_without client now) row.1)) (none_kept client rows e))

heads : {X : Type 0} (x y : X) (xs ys : List X) → x ∷ xs ≡ y ∷ ys → (x ≡ y) × (xs ≡ ys)
heads x y xs ys e = (cc e, cc e)

module _ (client : ℕ) (now : Moment) where
  left_suc : (rows : Rows) (i : ℕ) (row : SemaphoreRow) (b : Bool) → slice_get (values_of rows) i ≡ Some row → owned client row ≡ b
      → left_rows client now (drop i rows) ≡ cond b (changed_row (semaphore_without client now) row ∷ left_rows client now (drop (suc i) rows)) (left_rows client now (drop (suc i) rows))
  left_suc [] zero row b at is = absurd (cc at)
  left_suc [] (suc i) row b at is = absurd (cc at)
  left_suc (r ∷ rows) zero row b at is =
      let same : r.1 ≡ row = cc at in
      whole (owned client r.1) r.1 refl
      ∙ ap (λ (x : SemaphoreRow). cond (owned client x) (changed_row (semaphore_without client now) x ∷ left_rows client now rows) (left_rows client now rows)) same
      ∙ ap (λ (c : Bool). cond c (changed_row (semaphore_without client now) row ∷ left_rows client now rows) (left_rows client now rows)) is
    where
      whole : (c : Bool) (x : SemaphoreRow) → x ≡ r.1 → map (λ (row : Key × SemaphoreRow). changed_row (semaphore_without client now) row.1) (cond c (r ∷ owned_rows client rows) (owned_rows client rows))
          ≡ cond c (changed_row (semaphore_without client now) r.1 ∷ left_rows client now rows) (left_rows client now rows)
      whole true x e = refl
      whole false x e = refl
  left_suc (r ∷ rows) (suc i) row b at is = left_suc rows i row b at is

  -- the next that is left is that of the next of which the client owns a token
  pub left_next : (rows : Rows) (i : ℕ) (row : SemaphoreRow) (b : Bool) → slice_get (values_of rows) i ≡ Some row → owned client row ≡ b
      → left_rows client now (drop i rows) ≡ cond b (changed_row (semaphore_without client now) row ∷ left_rows client now (drop (i + 1) rows)) (left_rows client now (drop (i + 1) rows))
  left_next rows i row b at is =
      let e : suc i ≡ i + 1 = omega arith in
      left_suc rows i row b at is
      ∙ ap (λ (n : ℕ). cond b (changed_row (semaphore_without client now) row ∷ left_rows client now (drop n rows)) (left_rows client now (drop n rows))) e

  module _ (xs rows : Rows) (i : ℕ) (x : SemaphoreRow) (left : List SemaphoreRow)
      (is : rows ≡ all_changed (semaphore_without client now) (take i xs) ++ drop i xs) (at : slice_get (values_of rows) i ≡ Some x) (stays : left ≡ left_rows client now (drop i xs)) where
    here : slice_get (values_of xs) i ≡ Some x
    here = still_at (changed_row (semaphore_without client now)) xs i x (ap (λ (l : Rows). slice_get (values_of l) i) (sym is) ∙ at)

    pub left_first : owned client x ≡ true → left ≡ changed_row (semaphore_without client now) x ∷ left_rows client now (drop (i + 1) xs)
    left_first owns = stays ∙ left_next xs i x true here owns

    pub left_there : owned client x ≡ true → 0 < length left
    left_there owns = let many = ap length (left_first owns) in omega (arith, many)

    pub left_put : (new : SemaphoreRow) (rest : List SemaphoreRow) → owned client x ≡ true → left ≡ new ∷ rest
        → (new ≡ changed_row (semaphore_without client now) x) × (rest ≡ left_rows client now (drop (i + 1) xs))
    left_put new rest owns next = heads new (changed_row (semaphore_without client now) x) rest (left_rows client now (drop (i + 1) xs)) (sym next ∙ left_first owns)

    pub left_still : owned client x ≡ false → left ≡ left_rows client now (drop (i + 1) xs)
    left_still owns = stays ∙ left_next xs i x false here owns

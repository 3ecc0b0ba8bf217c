-- Rows whose names are distinct, and which are no more than so many, stay so as some go, are changed, or one is made.
use Rattle.std.proofs.Common.{◌≡◌, ℕ, ◌+◌, ◌<◌, ◌≤◌, Bool, true, false, cond, nat_le, List, [], ◌∷◌, ◌++◌, filter, length, map, Option, None, Some, is_some, refl, sym, ap, subst, arith}
use Rattle.std.specs.Prelude.{◌||◌}
use Rattle.std.specs.List.{IsDistinct, list_any}
use Rattle.std.specs.Map.{keys_of, lookup, remove_entry, set_value}
use Rattle.std.specs.Option.{option_map_or}
use Rattle.std.specs.Cmp.{IsEquivalence}
use Rattle.std.proofs.lemmas.Bool.Decides.{nat_tests}
use Rattle.std.proofs.lemmas.Map.{keys-set_value}
use Rattle.std.proofs.lemmas.Map.Keys.{IsDistinct-push}
use Rattle.std.proofs.lemmas.Map.Made.{IsDistinct-keys_filter}
use Rattle.object_names.proofs.Distinct.{distinct_removed}
use Rattle.cell_laws.specs.Limits.{AreFew}

-- ---- how many

pub length-filter : {A : Type 0} (p : A → Bool) (xs : List A) → length (filter p xs) ≤ length xs
length-filter p [] = omega arith
length-filter p (x ∷ xs) = by_test (p x) (length-filter p xs)
  where
    by_test : (b : Bool) → length (filter p xs) ≤ length xs → length (cond b (x ∷ filter p xs) (filter p xs)) ≤ length (x ∷ xs)
    by_test true le = omega (arith, le)
    by_test false le = omega (arith, le)

pub length-map : {A B : Type 0} (f : A → B) (xs : List A) → length (map f xs) ≡ length xs
length-map f [] = refl
length-map f (x ∷ xs) = let same = length-map f xs in omega (arith, same)

pub length-more : {A : Type 0} (xs : List A) (x : A) → length (xs ++ x ∷ []) ≡ length xs + 1
length-more [] x = refl
length-more (y ∷ xs) x = let same = length-more xs x in omega (arith, same)

pub room : (most n : ℕ) → nat_le most n ≡ false → n < most
room most n e = grind (arith, nat_tests)

-- ---- rows

module _ {K T : Type 0} (eq : K → K → Bool) (most : ℕ) where
  -- some go
  pub few-kept : (p : K × T → Bool) (rows : List (K × T)) → AreFew eq most rows → AreFew eq most (filter p rows)
  few-kept p rows are = record { distinct = IsDistinct-keys_filter eq p rows are.distinct; few = let le = length-filter p rows in let few = are.few in omega (arith, le, few) }

  -- one goes
  length-removed : (test : K → Bool) (rows : List (K × T)) → length (remove_entry test rows) ≤ length rows
  length-removed test [] = omega arith
  length-removed test (row ∷ rows) = by_test (test row.0) (length-removed test rows)
    where
      by_test : (b : Bool) → length (remove_entry test rows) ≤ length rows → length (cond b rows (row ∷ remove_entry test rows)) ≤ length (row ∷ rows)
      by_test true le = omega arith
      by_test false le = omega (arith, le)

  pub few-removed : (test : K → Bool) (rows : List (K × T)) → AreFew eq most rows → AreFew eq most (remove_entry test rows)
  few-removed test rows are = record { distinct = distinct_removed eq test rows are.distinct; few = let le = length-removed test rows in let few = are.few in omega (arith, le, few) }

  -- one has another value
  length-set : (test : K → Bool) (new : T) (rows : List (K × T)) → length (set_value test rows new) ≡ length rows
  length-set test new [] = refl
  length-set test new (row ∷ rows) = by_test (test row.0) (length-set test new rows)
    where
      by_test : (b : Bool) → length (set_value test rows new) ≡ length rows → length (cond b ((row.0, new) ∷ rows) (row ∷ set_value test rows new)) ≡ length (row ∷ rows)
      by_test true same = refl
      by_test false same = omega (arith, same)

  pub few-set : (test : K → Bool) (new : T) (rows : List (K × T)) → AreFew eq most rows → AreFew eq most (set_value test rows new)
  few-set test new rows are = record {
    distinct = subst (IsDistinct eq) (sym (keys-set_value test rows new)) are.distinct;
    few = let same = length-set test new rows in let few = are.few in omega (arith, same, few);
  }

  pub few-changed : (test : K → Bool) (f : T → T) (o : Option T) (rows : List (K × T)) → AreFew eq most rows → AreFew eq most (option_map_or (λ x. set_value test rows (f x)) o rows)
  few-changed test f None rows are = are
  few-changed test f (Some x) rows are = few-set test (f x) rows are

  -- all are
  keys-mapped : (f : T → T) (rows : List (K × T)) → keys_of (map (λ row. (row.0, f row.1)) rows) ≡ keys_of rows
  keys-mapped f [] = refl
  keys-mapped f (row ∷ rows) = ap (λ (l : List K). row.0 ∷ l) (keys-mapped f rows)

  pub few-mapped : (f : T → T) (rows : List (K × T)) → AreFew eq most rows → AreFew eq most (map (λ row. (row.0, f row.1)) rows)
  few-mapped f rows are = record {
    distinct = subst (IsDistinct eq) (sym (keys-mapped f rows)) are.distinct;
    few = let same = length-map {B = K × T} (λ row. (row.0, f row.1)) rows in let few = are.few in omega (arith, same, few);
  }

  -- one more is made, whose name is free
  absent : (k : K) (rows : List (K × T)) → is_some (lookup (eq k) rows) ≡ false → list_any (eq k) (keys_of rows) ≡ false
  absent k [] none = refl
  absent k (row ∷ rows) none = by_test (eq k row.0) (absent k rows) none
    where
      by_test : (b : Bool) → (is_some (lookup (eq k) rows) ≡ false → list_any (eq k) (keys_of rows) ≡ false) → is_some (cond b (Some row.1) (lookup (eq k) rows)) ≡ false
          → (b || list_any (eq k) (keys_of rows)) ≡ false
      by_test true rest h = absurd (cc h)
      by_test false rest h = rest h

  keys-more : (rows : List (K × T)) (row : K × T) → keys_of (rows ++ row ∷ []) ≡ keys_of rows ++ row.0 ∷ []
  keys-more [] row = refl
  keys-more (first ∷ rows) row = ap (λ (l : List K). first.0 ∷ l) (keys-more rows row)

  pub few-added : IsEquivalence eq → (rows : List (K × T)) (row : K × T) → is_some (lookup (eq row.0) rows) ≡ false → nat_le most (length rows) ≡ false → AreFew eq most rows
      → AreFew eq most (rows ++ row ∷ [])
  few-added laws rows row none small are = record {
    distinct = subst (IsDistinct eq) (sym (keys-more rows row)) (IsDistinct-push laws (keys_of rows) row.0 are.distinct (absent row.0 rows none));
    few = let same = length-more rows row in let less = room most (length rows) small in omega (arith, same, less);
  }

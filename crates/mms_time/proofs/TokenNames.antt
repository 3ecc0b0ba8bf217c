-- The names of a pool's tokens in order, and pools under names of their own.
use Rattle.std.proofs.Common.{◌≡◌, ◌≢◌, ℕ, zero, suc, ◌≤◌, Bool, true, false, cond, nat_eq, List, [], ◌∷◌, ◌++◌, map, take, length, if◌then◌else◌, None, Some, refl, ap, sym, subst, ◌∙◌, arith, add-one}
use Rattle.std.specs.List.{All, AllByRecursion, IsDistinct, AllAdjacentBelow}
use Rattle.std.specs.List.Sorted.{IsPermutation, IsSorted}
use Rattle.std.specs.Map.{lookup, keys_of, values_of}
use Rattle.std.specs.Cmp.Lexicographic.{pointwise, nat_list_cmp_total, texts_ties}
use Rattle.std.specs.declared.cmp.Ordering.{Ordering}
use Rattle.std.specs.declared.cmp.Ordering.TheVariants.{Less, Equal, Greater}
use Rattle.std.specs.Ordering.{is_eq, is_lt, ordering_reverse}
use Rattle.std.proofs.lemmas.List.Sorted.{length_permutation}
use Rattle.mms_types.specs.declared.cells.PoolRow.{PoolRow}
use Rattle.mms_types.specs.declared.key.Scope.TheVariants.{Vmd}
use Rattle.mms_types.specs.Order.{key_eq, name_order}
use Rattle.object_names.specs.Listing.{insert_name, sorted_names}
use Rattle.object_names.proofs.NameOrder.{count_sorted, sort_taken}
use Rattle.pool_sem.specs.Pools.{NamesRise}
use Rattle.mms_time.specs.Opening.{HasTokens, configured, pool_row}
use Rattle.mms_time.specs.Semaphores.{IsSound}
use Rattle.mms_time.specs.declared.row.SemaphoreRow.{SemaphoreRow}

-- ---- a sort gives the names in order

as_they_are : (xs : List (List ℕ)) → map (λ x. x) xs ≡ xs
as_they_are [] = refl
as_they_are (x ∷ xs) = ap (λ rest. x ∷ rest) (as_they_are xs)

all_taken : (n : ℕ) (xs : List (List ℕ)) → length xs ≡ n → take n xs ≡ xs
all_taken zero [] e = refl
all_taken zero (x ∷ xs) e = absurd (omega (arith, e))
all_taken (suc n) [] e = refl
all_taken (suc n) (x ∷ xs) e = ap (λ rest. x ∷ rest) (all_taken n xs (omega (arith, e)))

as_many : (names : List (List ℕ)) → length (sorted_names names) ≡ length names
as_many names = ap (λ (xs : List (List ℕ)). length (sorted_names xs)) (sym (as_they_are names)) ∙ count_sorted (λ x. x) names

pub sorted_are : (xs ys : List (List ℕ)) → IsPermutation xs ys → IsSorted name_order ys → ys ≡ sorted_names xs
sorted_are xs ys moved sorted =
    sym (as_they_are ys)
    ∙ ap (map (λ x. x)) (sym (all_taken (length ys) ys refl))
    ∙ sort_taken (λ x. x) xs ys (length ys) moved sorted
    ∙ ap (λ (zs : List (List ℕ)). take (length ys) (sorted_names zs)) (as_they_are xs)
    ∙ all_taken (length ys) (sorted_names xs) (as_many xs ∙ sym (length_permutation xs ys moved))

-- ---- they rise where no two are the same

-- each comes before the next, the first behind that one
abbrev RisesFrom : List ℕ → List (List ℕ) → Type 0
RisesFrom low [] = Unit {0}
RisesFrom low (x ∷ xs) = (name_order low x ≡ Less) × RisesFrom x xs

abbrev Rises : List (List ℕ) → Type 0
Rises [] = Unit {0}
Rises (x ∷ xs) = RisesFrom x xs

reverse_greater : (o p : Ordering) → o ≡ Greater → p ≡ ordering_reverse o → p ≡ Less
reverse_greater o p e f = f ∙ ap ordering_reverse e

not_same : (a b : List ℕ) → pointwise nat_eq a b ≡ false → name_order a b ≢ Equal
not_same a b other same = cc (sym other ∙ texts_ties a b ∙ ap is_eq same)

abbrev NoneIs : List ℕ → List (List ℕ) → Type 0
NoneIs name names = AllByRecursion (λ other. pointwise nat_eq name other ≡ false) names

-- by the order of one that is there and one that is put in
put_behind : (low name other : List ℕ) (others : List (List ℕ)) → name_order low name ≡ Less → pointwise nat_eq name other ≡ false → name_order low other ≡ Less
    → RisesFrom other others → (name_order other name ≡ Less → RisesFrom other (insert_name name others))
    → RisesFrom low (if is_lt (name_order other name) then other ∷ insert_name name others else name ∷ other ∷ others)
put_behind low name other others first apart next rest later = by_order (name_order other name) refl
  where
    by_order : (o : Ordering) → name_order other name ≡ o → RisesFrom low (if is_lt o then other ∷ insert_name name others else name ∷ other ∷ others)
    by_order Less e = (next, later e)
    by_order Equal e =
        let tied : name_order name other ≡ Equal = nat_list_cmp_total.antisymm name other ∙ ap ordering_reverse e in
        absurd (not_same name other apart tied)
    by_order Greater e = (first, (reverse_greater (name_order other name) (name_order name other) e (nat_list_cmp_total.antisymm name other), rest))

inserted_from : (low name : List ℕ) (names : List (List ℕ)) → name_order low name ≡ Less → NoneIs name names → RisesFrom low names → RisesFrom low (insert_name name names)
inserted_from low name [] first apart rises = (first, tt)
inserted_from low name (other ∷ others) first apart rises =
    put_behind low name other others first apart.0 rises.0 rises.1 (λ e. inserted_from other name others e apart.1 rises.1)

inserted : (name : List ℕ) (names : List (List ℕ)) → NoneIs name names → Rises names → Rises (insert_name name names)
inserted name [] apart rises = tt
inserted name (other ∷ others) apart rises = by_order (name_order other name) refl
  where
    by_order : (o : Ordering) → name_order other name ≡ o → Rises (if is_lt o then other ∷ insert_name name others else name ∷ other ∷ others)
    by_order Less e = inserted_from other name others e apart.1 rises
    by_order Equal e = absurd (not_same name other apart.0 (nat_list_cmp_total.antisymm name other ∙ ap ordering_reverse e))
    by_order Greater e = (reverse_greater (name_order other name) (name_order name other) e (nat_list_cmp_total.antisymm name other), rises)

-- what is none of some names is none of them in order
none_inserted : (name other : List ℕ) (names : List (List ℕ)) → pointwise nat_eq name other ≡ false → NoneIs name names → NoneIs name (insert_name other names)
none_inserted name other [] apart none = (apart, tt)
none_inserted name other (x ∷ xs) apart none = by_test (is_lt (name_order x other)) (none_inserted name other xs apart none.1)
  where
    by_test : (b : Bool) → NoneIs name (insert_name other xs) → NoneIs name (if b then x ∷ insert_name other xs else other ∷ x ∷ xs)
    by_test true rest = (none.0, rest)
    by_test false rest = (apart, none)

none_sorted : (name : List ℕ) (names : List (List ℕ)) → NoneIs name names → NoneIs name (sorted_names names)
none_sorted name [] none = tt
none_sorted name (x ∷ xs) none = none_inserted name x (sorted_names xs) none.0 (none_sorted name xs none.1)

sorted_rise : (names : List (List ℕ)) → IsDistinct (pointwise nat_eq) names → Rises (sorted_names names)
unfolding IsDistinct
sorted_rise [] distinct = tt
sorted_rise (x ∷ xs) distinct = inserted x (sorted_names xs) (none_sorted x xs distinct.0) (sorted_rise xs distinct.1)

adjacent : (xs : List (List ℕ)) → Rises xs → AllAdjacentBelow (λ a b. name_order a b ≡ Less) xs (length xs)
adjacent [] rises k d low = absurd (omega (arith, low))
adjacent (x ∷ []) rises k d low = absurd (omega (arith, low))
adjacent (x ∷ y ∷ xs) rises zero d low = rises.0
adjacent (x ∷ y ∷ xs) rises (suc k) d low = rw add-one (rw add-one at (adjacent (y ∷ xs) rises.1 k d (omega (arith, low))))

pub names_rise : (pool : PoolRow) → HasTokens pool → NamesRise (sorted_names pool.tokens)
names_rise pool is = adjacent (sorted_names pool.tokens) (sorted_rise pool.tokens is.distinct)

pub some_tokens : (pool : PoolRow) → HasTokens pool → 1 ≤ length (sorted_names pool.tokens)
some_tokens pool is = let many = as_many pool.tokens in let some = is.some in omega (arith, many, some)

pub few_tokens : (pool : PoolRow) → HasTokens pool → length (sorted_names pool.tokens) ≤ 256
few_tokens pool is = let many = as_many pool.tokens in let few = is.few in omega (arith, many, few)

-- ---- pools under names of their own

other_names : (name : List ℕ) (pools : List PoolRow) → NoneIs name (map (λ pool. pool.name) pools)
    → AllByRecursion (λ other. key_eq (record { scope = Vmd; item = name }) other ≡ false) (keys_of (configured pools))
other_names name [] h = tt
other_names name (pool ∷ pools) h = (h.0, other_names name pools h.1)

pub pools_apart : (pools : List PoolRow) → IsDistinct (pointwise nat_eq) (map (λ pool. pool.name) pools) → IsDistinct key_eq (keys_of (configured pools))
unfolding IsDistinct
pools_apart [] h = h
pools_apart (pool ∷ pools) h = (other_names pool.name pools h.0, pools_apart pools h.1)

module _ {K X : Type 0} (eq : K → K → Bool) (symmetric : (a b : K) → eq a b ≡ eq b a) where
  other_key : (key : K) (front rest : List (K × X)) (row : K × X) → AllByRecursion (λ other. eq key other ≡ false) (keys_of (front ++ row ∷ rest)) → eq row.0 key ≡ false
  other_key key [] rest row all = symmetric row.0 key ∙ all.0
  other_key key (r ∷ front) rest row all = other_key key front rest row all.1

  new_key : (front rest : List (K × X)) (row : K × X) → IsDistinct eq (keys_of (front ++ row ∷ rest)) → lookup (eq row.0) front ≡ None
  unfolding IsDistinct
  new_key [] rest row distinct = refl
  new_key (r ∷ front) rest row distinct =
      ap (λ (b : Bool). cond b (Some r.1) (lookup (eq row.0) front)) (other_key r.0 front rest row distinct.0) ∙ new_key front rest row distinct.1

  pub not_there : (front rest all : List (K × X)) (row : K × X) → front ++ row ∷ rest ≡ all → IsDistinct eq (keys_of all) → lookup (eq row.0) front ≡ None
  not_there front rest all row is distinct = new_key front rest row (subst (λ (l : List (K × X)). IsDistinct eq (keys_of l)) (sym is) distinct)

-- ---- they are sound, and have no entries

pool_sound : (pool : PoolRow) → HasTokens pool → IsSound (pool_row pool).1.semaphore
pool_sound pool is = record {
  sorted = names_rise pool is;
  some = some_tokens pool is;
  few = few_tokens pool is;
  rises = omega arith;
  placed = refl;
  once = λ token. omega arith;
  served = λ token there none. refl;
}

pub each_sound : (pools : List PoolRow) → AllByRecursion HasTokens pools → All (λ (row : SemaphoreRow). IsSound row.semaphore) (values_of (configured pools))
each_sound [] each k d low = absurd (omega (arith, low))
each_sound (pool ∷ pools) each zero d low = pool_sound pool each.0
each_sound (pool ∷ pools) each (suc k) d low = each_sound pools each.1 k d (omega (arith, low))

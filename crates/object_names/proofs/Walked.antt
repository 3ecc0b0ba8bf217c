-- The names of a scope are gone through in their order, until so many are listed or the scope ends.
use Rattle.std.proofs.Common.{◌≡◌, ◌∙◌, ap, sym, refl, subst, ℕ, zero, suc, ◌+◌, ◌<◌, ◌≤◌, Bool, true, false, cond, List, [], ◌∷◌, ◌++◌, append_assoc, append-nil, drop, filter, length, length-append, map, nat_lt, take, Option, arith}
use Rattle.std.specs.List.{AllByRecursion}
use Rattle.std.specs.List.Sorted.{IsStrictlySortedBy}
use Rattle.std.specs.Map.{keys_of}
use Rattle.std.proofs.lemmas.Bool.{le-ltb, lt-ltb}
use Rattle.std.proofs.lemmas.List.{take_all}
use Rattle.mms_types.specs.declared.key.Key.{Key}
use Rattle.mms_types.specs.declared.key.Scope.{Scope}
use Rattle.mms_types.specs.Order.{key_order, scope_eq}
use Rattle.object_names.specs.Index.{IsIndexOf, IsSplit, is_front, key_at}
use Rattle.object_names.specs.Listing.{names_after}
use Rattle.object_names.proofs.KeysInOrder.{names_in_order, past, sorted_left}

-- all names are those listed, and then those of the scope among the keys that are left
pub record IsWalked (all : List (List ℕ)) (scope : Scope) (after : Option (List ℕ)) (keys : List Key) (list : List (List ℕ)) (most : ℕ) : Type 0 where
  pub names : all ≡ list ++ map (λ key. key.item) (filter (λ key. scope_eq key.scope scope) keys)
  pub ascend : IsStrictlySortedBy key_order keys
  pub rest : AllByRecursion (λ key. is_front scope after key ≡ false) keys
  pub few : length list ≤ most

pub begins : {T : Type 0} (scope : Scope) (after : Option (List ℕ)) (rows : List (Key × T)) (places : List ℕ) (n : ℕ) (list : List (List ℕ)) (most : ℕ) → list ≡ [] → IsIndexOf (keys_of rows) places
    → IsSplit (is_front scope after) (map (key_at (keys_of rows)) places) n → IsWalked (names_after scope after rows) scope after (drop n (map (key_at (keys_of rows)) places)) list most
begins scope after rows places n list most none index split = record {
  names = names_in_order scope after rows places n index split
      ∙ ap (λ l. l ++ map (λ key. key.item) (filter (λ key. scope_eq key.scope scope) (drop n (map (key_at (keys_of rows)) places)))) (sym none);
  ascend = sorted_left n (map (key_at (keys_of rows)) places) index.ascend;
  rest = split.rest;
  few = let long = ap (λ (l : List (List ℕ)). length l) none in omega (arith, long);
}

module _ (all : List (List ℕ)) (scope : Scope) (after : Option (List ℕ)) (most : ℕ) where
  abbrev q : Key → Bool
  q key = scope_eq key.scope scope

  first_of : (b : Bool) (key : Key) (keys : List Key) → q key ≡ b → filter q (key ∷ keys) ≡ cond b (key ∷ filter q keys) (filter q keys)
  first_of b key keys e = ap (λ b. cond b (key ∷ filter q keys) (filter q keys)) e

  -- one more is listed
  pub goes_on : (keys : List Key) (list : List (List ℕ)) (key : Key) (rest : List Key) (longer : List (List ℕ)) → IsWalked all scope after keys list most → keys ≡ key ∷ rest → scope_eq key.scope scope ≡ true
      → length list < most → longer ≡ list ++ key.item ∷ [] → IsWalked all scope after rest longer most
  unfolding IsStrictlySortedBy
  goes_on keys list key rest longer walked is own less new = record {
    names = walked.names ∙ ap (λ ks. list ++ map (λ k. k.item) (filter q ks)) is ∙ ap (λ ks. list ++ map (λ k. k.item) ks) (first_of true key rest own)
        ∙ sym (append_assoc list (key.item ∷ []) (map (λ k. k.item) (filter q rest))) ∙ ap (λ l. l ++ map (λ k. k.item) (filter q rest)) (sym new);
    ascend = (subst (IsStrictlySortedBy key_order) is walked.ascend).1;
    rest = (subst (AllByRecursion (λ k. is_front scope after k ≡ false)) is walked.rest).1;
    few =
        let long = ap (λ (l : List (List ℕ)). length l) new in
        let more = length-append list (key.item ∷ []) in
        omega (arith, less, long, more);
  }

  nothing_left : (list left : List (List ℕ)) → all ≡ list ++ left → left ≡ [] → all ≡ list
  nothing_left list left is none = is ∙ ap (λ l. list ++ l) none ∙ append-nil list

  ended : (list : List (List ℕ)) → all ≡ list → length list ≤ most → (list ≡ take most all) × (false ≡ nat_lt most (length all))
  ended list is few = (
    sym (ap (take most) is ∙ take_all most list few),
    (let long = ap (λ (l : List (List ℕ)). length l) is in sym (le-ltb most (length all) (omega (arith, long, few)))),
  )

  -- no key is left
  pub ends : (keys : List Key) (list : List (List ℕ)) → IsWalked all scope after keys list most → keys ≡ [] → (list ≡ take most all) × (false ≡ nat_lt most (length all))
  ends keys list walked none = ended list (nothing_left list _ walked.names (ap (λ ks. map (λ k. k.item) (filter q ks)) none)) walked.few

  -- the scope ends
  pub leaves : (keys : List Key) (list : List (List ℕ)) (key : Key) (rest : List Key) → IsWalked all scope after keys list most → keys ≡ key ∷ rest → scope_eq key.scope scope ≡ false
      → (list ≡ take most all) × (false ≡ nat_lt most (length all))
  leaves keys list key rest walked is other =
      let sorted : IsStrictlySortedBy key_order (key ∷ rest) = subst (IsStrictlySortedBy key_order) is walked.ascend in
      let behind : AllByRecursion (λ k. is_front scope after k ≡ false) (key ∷ rest) = subst (AllByRecursion (λ k. is_front scope after k ≡ false)) is walked.rest in
      let none : filter q (key ∷ rest) ≡ [] = past scope after key rest sorted behind.0 other in
      ended list (nothing_left list _ walked.names (ap (λ ks. map (λ k. k.item) (filter q ks)) is ∙ ap (λ ks. map (λ k. k.item) ks) none)) walked.few

  front_of : (list left : List (List ℕ)) (n : ℕ) → length list ≡ n → take n (list ++ left) ≡ list
  front_of [] left zero e = refl
  front_of [] left (suc n) e = absurd (omega (arith, e))
  front_of (x ∷ list) left zero e = absurd (omega (arith, e))
  front_of (x ∷ list) left (suc n) e = ap (λ l. x ∷ l) (front_of list left n (omega (arith, e)))

  -- so many are listed, and there is one more
  pub fills : (keys : List Key) (list : List (List ℕ)) (key : Key) (rest : List Key) → IsWalked all scope after keys list most → keys ≡ key ∷ rest → scope_eq key.scope scope ≡ true
      → most ≤ length list → (list ≡ take most all) × (true ≡ nat_lt most (length all))
  fills keys list key rest walked is own full =
      let names : all ≡ list ++ key.item ∷ map (λ k. k.item) (filter q rest) =
      walked.names ∙ ap (λ ks. list ++ map (λ k. k.item) (filter q ks)) is ∙ ap (λ ks. list ++ map (λ k. k.item) ks) (first_of true key rest own) in
      let count : length list ≡ most = omega (arith, walked.few, full) in
      let long = ap (λ (l : List (List ℕ)). length l) names in
      let sum = length-append list (key.item ∷ map (λ k. k.item) (filter q rest)) in (
        sym (ap (take most) names ∙ front_of list (key.item ∷ map (λ k. k.item) (filter q rest)) most count),
        sym (lt-ltb most (length all) (omega (arith, long, sum, count))),
      )

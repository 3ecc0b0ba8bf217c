-- Keys in their order: where the names of a scope stand among them.
use Rattle.std.proofs.Common.{◌≡◌, ◌∙◌, ap, sym, refl, subst, ℕ, zero, suc, ◌+◌, ◌<◌, ◌≤◌, ◌⊎◌, inl, inr, Bool, true, false, cond, not, ◌&&◌, ◌||◌, if◌then◌else◌, List, [], ◌∷◌, drop, filter, get_or, length, map, slice_get, take, Option, Some, None, sum_by, arith}
use Rattle.std.specs.List.{AllByRecursion}
use Rattle.std.specs.List.Sorted.{IsPartitionedBy, IsPartitionPoint, IsStrictlySortedBy}
use Rattle.std.specs.Map.{keys_of}
use Rattle.std.specs.declared.cmp.Ordering.{Ordering}
use Rattle.std.specs.declared.cmp.Ordering.TheVariants.{Less, Equal, Greater}
use Rattle.std.specs.Ordering.{is_eq, is_gt, is_le, is_lt, match_ordering, ordering_reverse, ordering_then}
use Rattle.std.proofs.lemmas.Bool.{cases_lt}
use Rattle.std.proofs.lemmas.List.{get_or-map, length-map}
use Rattle.std.proofs.lemmas.List.Sums.{sum_by-cons, sum_by-take-drop}
use Rattle.std.proofs.lemmas.Map.Keys.{Less-from_sorted}
use Rattle.mms_types.specs.declared.key.Key.{Key}
use Rattle.mms_types.specs.declared.key.Scope.{Scope}
use Rattle.mms_types.specs.KeyLaws.{keys_total, scopes_tie, scopes_total}
use Rattle.mms_types.specs.Order.{key_eq, key_order, name_order, scope_eq, scope_order}
use Rattle.mms_types.proofs.Precedence.{key_eq_tells, key_order_tells_apart}
use Rattle.object_names.specs.Index.{IsIndexOf, IsSplit, is_front, is_front_at, key_at}
use Rattle.object_names.specs.Listing.{comes_after, insert_name, is_listed, listed_names, names_after, sorted_names}
use Rattle.object_names.proofs.Ordered.{IsOrdered, before}
use Rattle.object_names.specs.Scopes.{has_any_of}
use Rattle.object_names.proofs.NameOrder.{gt_lt, sorted_ordered, sum_sorted, unique}
use Rattle.object_names.proofs.Places.{all_both, all_map, all_taken, index_sum, none_from_sum, sum_filter, sum_map, sum_none, sum_same, within}

-- ---- scopes

scopes_tell : (a b : Scope) → scope_order a b ≡ Equal → a ≡ b
scopes_tell a b e =
    let same : key_order (record { scope = a; item = [] }) (record { scope = b; item = [] }) ≡ Equal = ap (λ o. ordering_then o Equal) e in
    ap (λ (k : Key). k.scope) ((key_order_tells_apart (record { scope = a; item = [] }) (record { scope = b; item = [] })).0 same)

tied : (a b : Scope) (o : Ordering) → scope_order a b ≡ o → scope_eq a b ≡ is_eq o
tied a b o e = scopes_tie a b ∙ ap is_eq e

same_scope : (a b : Scope) → scope_eq a b ≡ true → scope_order a b ≡ Equal
same_scope a b e = by (scope_order a b) refl
  where
    by : (o : Ordering) → scope_order a b ≡ o → scope_order a b ≡ Equal
    by Less o = absurd (let t = tied a b Less o in cc (sym e ∙ t))
    by Equal o = o
    by Greater o = absurd (let t = tied a b Greater o in cc (sym e ∙ t))

pub sorted_left : (n : ℕ) (ks : List Key) → IsStrictlySortedBy key_order ks → IsStrictlySortedBy key_order (drop n ks)
unfolding IsStrictlySortedBy
sorted_left zero ks sorted = sorted
sorted_left (suc n) [] sorted = tt
sorted_left (suc n) (k ∷ ks) sorted = sorted_left n ks sorted.1

-- ---- what stands in front of the names of a scope

module _ (scope : Scope) (after : Option (List ℕ)) where
  -- is not listed
  front_unlisted : (k : Key) → is_front scope after k ≡ true → is_listed scope after k ≡ false
  front_unlisted k front = by (scope_order k.scope scope) refl
    where
      none : (b : Bool) → not b ≡ true → (true && b) ≡ false
      none true h = absurd cc
      none false h = refl

      by : (o : Ordering) → scope_order k.scope scope ≡ o → is_listed scope after k ≡ false
      by Less o = ap (λ b. b && comes_after after k.item) (tied k.scope scope Less o)
      by Equal o = ap (λ b. b && comes_after after k.item) (tied k.scope scope Equal o)
          ∙ none (comes_after after k.item) (sym (ap (λ o. match_ordering o true (not (comes_after after k.item)) false) o) ∙ front)
      by Greater o = ap (λ b. b && comes_after after k.item) (tied k.scope scope Greater o)

  -- and of what stands behind all names of the scope are
  rest_listed : (k : Key) → is_front scope after k ≡ false → is_listed scope after k ≡ scope_eq k.scope scope
  rest_listed k rest = by (scope_order k.scope scope) refl
    where
      all : (b c : Bool) → not c ≡ false → (b && c) ≡ b
      all true true h = refl
      all false true h = refl
      all b false h = absurd cc

      behind : (o : Ordering) → scope_order k.scope scope ≡ o → match_ordering o true (not (comes_after after k.item)) false ≡ false
      behind o e = sym (ap (λ o. match_ordering o true (not (comes_after after k.item)) false) e) ∙ rest

      by : (o : Ordering) → scope_order k.scope scope ≡ o → is_listed scope after k ≡ scope_eq k.scope scope
      by Less o = absurd (let b = behind Less o in cc b)
      by Equal o = all (scope_eq k.scope scope) (comes_after after k.item) (behind Equal o)
      by Greater o =
          let t = tied k.scope scope Greater o in
          ap (λ b. b && comes_after after k.item) t ∙ sym t

  -- behind a key of another scope no name of the scope stands
  pub past : (k : Key) (rest : List Key) → IsStrictlySortedBy key_order (k ∷ rest) → is_front scope after k ≡ false → scope_eq k.scope scope ≡ false → filter (λ x. scope_eq x.scope scope) (k ∷ rest) ≡ []
  unfolding IsStrictlySortedBy
  past k rest sorted front other = ap (λ b. cond b (k ∷ filter (λ x. scope_eq x.scope scope) rest) (filter (λ x. scope_eq x.scope scope) rest)) other ∙ none rest sorted.0
    where
      greater : (o : Ordering) → scope_order k.scope scope ≡ o → scope_order k.scope scope ≡ Greater
      greater Less o = absurd (let b = sym (ap (λ o. match_ordering o true (not (comes_after after k.item)) false) o) ∙ front in cc b)
      greater Equal o = absurd (let t = tied k.scope scope Equal o in cc (sym t ∙ other))
      greater Greater o = o

      not_there : (x : Key) (b : Bool) → scope_eq x.scope scope ≡ b → key_order k x ≡ Less → b ≡ false
      not_there x false e less = refl
      not_there x true e less =
          let one : x.scope ≡ scope = scopes_tell x.scope scope (same_scope x.scope scope e) in
          let behind : scope_order k.scope x.scope ≡ Greater = ap (scope_order k.scope) one ∙ greater (scope_order k.scope scope) refl in
          let wrong : key_order k x ≡ Greater = ap (λ o. ordering_then o (name_order k.item x.item)) behind in
          absurd (cc (sym less ∙ wrong))

      none : (xs : List Key) → AllByRecursion (λ x. key_order k x ≡ Less) xs → filter (λ x. scope_eq x.scope scope) xs ≡ []
      none [] less = refl
      none (x ∷ xs) less =
          ap (λ b. cond b (x ∷ filter (λ x. scope_eq x.scope scope) xs) (filter (λ x. scope_eq x.scope scope) xs)) (not_there x (scope_eq x.scope scope) refl less.0)
          ∙ none xs less.1

  -- ---- the names of the scope, as their keys stand in order

  names_ordered : (ks : List Key) → IsStrictlySortedBy key_order ks → IsOrdered (map (λ k. k.item) (filter (λ k. scope_eq k.scope scope) ks))
  unfolding IsStrictlySortedBy
  names_ordered [] sorted = tt
  names_ordered (k ∷ ks) sorted = by (scope_eq k.scope scope) refl (names_ordered ks sorted.1)
    where
      q : Key → Bool
      q x = scope_eq x.scope scope

      later : (x : Key) → q k ≡ true → q x ≡ true → key_order k x ≡ Less → before k.item x.item ≡ 0
      later x here there less =
          let one : scope_order k.scope x.scope ≡ Equal = same_scope k.scope x.scope (ap (scope_eq k.scope) (scopes_tell x.scope scope (same_scope x.scope scope there)) ∙ here) in
          let names : name_order k.item x.item ≡ Less = sym (ap (λ o. ordering_then o (name_order k.item x.item)) one) ∙ less in
          ap (λ o. if is_gt o then 1 else 0) names

      none : q k ≡ true → (xs : List Key) → AllByRecursion (λ x. key_order k x ≡ Less) xs → sum_by (before k.item) (map (λ x. x.item) (filter q xs)) ≡ 0
      none here [] less = refl
      none here (x ∷ xs) less = by_x (q x) refl (none here xs less.1)
        where
          by_x : (b : Bool) → q x ≡ b → sum_by (before k.item) (map (λ x. x.item) (filter q xs)) ≡ 0 → sum_by (before k.item) (map (λ x. x.item) (cond b (x ∷ filter q xs) (filter q xs))) ≡ 0
          by_x true there rest =
              let a = sum_by-cons (before k.item) x.item (map (λ x. x.item) (filter q xs)) in
              let first : before k.item x.item ≡ 0 = later x here there less.0 in
              omega (arith, a, first, rest)
          by_x false there rest = rest

      by : (b : Bool) → q k ≡ b → IsOrdered (map (λ x. x.item) (filter q ks)) → IsOrdered (map (λ x. x.item) (cond b (k ∷ filter q ks) (filter q ks)))
      by true here rest = (none here ks sorted.0, rest)
      by false here rest = rest

  pub names_in_order : {T : Type 0} (rows : List (Key × T)) (places : List ℕ) (n : ℕ) → IsIndexOf (keys_of rows) places → IsSplit (is_front scope after) (map (key_at (keys_of rows)) places) n
      → names_after scope after rows ≡ map (λ k. k.item) (filter (λ k. scope_eq k.scope scope) (drop n (map (key_at (keys_of rows)) places)))
  names_in_order {T} rows places n index split =
      sym (unique (map (λ k. k.item) (filter (λ k. scope_eq k.scope scope) (drop n keys))) (sorted_names (listed_names scope after rows))
      (names_ordered (drop n keys) (sorted_left n keys index.ascend)) (sorted_ordered (listed_names scope after rows)) sums)
    where
      keys : List Key
      keys = map (key_at (keys_of rows)) places

      sums : (f : List ℕ → ℕ) → sum_by f (map (λ k. k.item) (filter (λ k. scope_eq k.scope scope) (drop n keys))) ≡ sum_by f (sorted_names (listed_names scope after rows))
      sums f =
          let rest : sum_by (λ k. if scope_eq k.scope scope then f k.item else 0) (drop n keys) ≡ sum_by h (drop n keys) =
          sum_same (λ k. if scope_eq k.scope scope then f k.item else 0) h (drop n keys) (all_map (λ k r. ap (λ b. if b then f k.item else 0) (sym (rest_listed k r))) (drop n keys) split.rest) in
          let front : sum_by h (take n keys) ≡ 0 = sum_none h (take n keys) (all_map (λ k r. ap (λ b. if b then f k.item else 0) (front_unlisted k r)) (take n keys) split.front) in
          let whole : sum_by h (take n keys) + sum_by h (drop n keys) ≡ sum_by h keys = sum_by-take-drop h keys n in
          let all_rest : sum_by h (drop n keys) ≡ sum_by h keys = omega (arith, front, whole) in
          let rows_sum : sum_by h keys ≡ sum_by (λ row. h row.0) rows = index_sum (keys_of rows) places index h ∙ sum_map h (λ (row : Key × T). row.0) rows in
          let listed : sum_by f (listed_names scope after rows) ≡ sum_by (λ row. h row.0) rows =
          sum_map f (λ (row : Key × T). row.0.item) (filter (λ row. is_listed scope after row.0) rows) ∙ sum_filter (λ (row : Key × T). f row.0.item) (λ row. is_listed scope after row.0) rows in
          let sorted = sum_sorted f (listed_names scope after rows) in
          sum_map f (λ (k : Key). k.item) (filter (λ k. scope_eq k.scope scope) (drop n keys)) ∙ sum_filter (λ (k : Key). f k.item) (λ k. scope_eq k.scope scope) (drop n keys)
          ∙ rest ∙ all_rest ∙ rows_sum ∙ sym listed ∙ sym sorted
        where
          h : Key → ℕ
          h k = if is_listed scope after k then f k.item else 0

-- ---- whether there is a name of the scope

abbrev any_of : List (List ℕ) → Bool
any_of [] = false
any_of (x ∷ xs) = true

any_sorted : (names : List (List ℕ)) → any_of (sorted_names names) ≡ any_of names
any_sorted [] = refl
any_sorted (name ∷ names) = put (sorted_names names)
  where
    put : (others : List (List ℕ)) → any_of (insert_name name others) ≡ true
    put [] = refl
    put (other ∷ others) = by (is_lt (name_order other name))
      where
        by : (b : Bool) → any_of (cond b (other ∷ insert_name name others) (name ∷ other ∷ others)) ≡ true
        by true = refl
        by false = refl

any_listed : {T : Type 0} (scope : Scope) (rows : List (Key × T)) → has_any_of scope rows ≡ any_of (listed_names scope None rows)
any_listed scope [] = refl
any_listed {T} scope (row ∷ rows) = by (scope_eq row.0.scope scope) (any_listed scope rows)
  where
    by : (b : Bool) → has_any_of scope rows ≡ any_of (listed_names scope None rows)
        → (b || has_any_of scope rows) ≡ any_of (map (λ (row : Key × T). row.0.item) (cond (b && true) (row ∷ filter (λ row. is_listed scope None row.0) rows) (filter (λ row. is_listed scope None row.0) rows)))
    by true rest = refl
    by false rest = rest

any_named : {T : Type 0} (scope : Scope) (rows : List (Key × T)) (places : List ℕ) (n : ℕ) → IsIndexOf (keys_of rows) places → IsSplit (is_front scope None) (map (key_at (keys_of rows)) places) n
    → has_any_of scope rows ≡ any_of (map (λ k. k.item) (filter (λ k. scope_eq k.scope scope) (drop n (map (key_at (keys_of rows)) places))))
any_named scope rows places n index split =
    any_listed scope rows ∙ sym (any_sorted (listed_names scope None rows)) ∙ ap any_of (names_in_order scope None rows places n index split)

-- ---- what is in front of a new key, and behind it

front_is : (key other : Key) → is_front key.scope (Some key.item) other ≡ is_le (key_order other key)
front_is key other = by (scope_order other.scope key.scope)
  where
    not_gt : (o : Ordering) → not (is_gt o) ≡ is_le o
    not_gt Less = refl
    not_gt Equal = refl
    not_gt Greater = refl

    by : (o : Ordering) → match_ordering o true (not (is_lt (name_order key.item other.item))) false ≡ is_le (ordering_then o (name_order other.item key.item))
    by Less = refl
    by Equal = ap not (sym (gt_lt other.item key.item)) ∙ not_gt (name_order other.item key.item)
    by Greater = refl

front_less : (key other : Key) → key_eq key other ≡ false → is_front key.scope (Some key.item) other ≡ true → key_order other key ≡ Less
front_less key other apart front = by (key_order other key) refl
  where
    by : (o : Ordering) → key_order other key ≡ o → key_order other key ≡ Less
    by Less o = o
    by Equal o =
        let one : other ≡ key = (key_order_tells_apart other key).0 o in
        let same : key_eq key other ≡ true = (key_eq_tells key other).1 (sym one) in
        absurd (cc (sym same ∙ apart))
    by Greater o = absurd (let wrong = sym (ap is_le o) ∙ sym (front_is key other) ∙ front in cc wrong)

rest_more : (key other : Key) → is_front key.scope (Some key.item) other ≡ false → key_order key other ≡ Less
rest_more key other rest = keys_total.antisymm key other ∙ by (key_order other key) refl
  where
    by : (o : Ordering) → key_order other key ≡ o → ordering_reverse (key_order other key) ≡ Less
    by Less o = absurd (let wrong = sym (ap is_le o) ∙ sym (front_is key other) ∙ rest in cc wrong)
    by Equal o = absurd (let wrong = sym (ap is_le o) ∙ sym (front_is key other) ∙ rest in cc wrong)
    by Greater o = ap ordering_reverse o

-- a key in front of one that stands in front stands in front too
front_down : (scope : Scope) (after : Option (List ℕ)) (a b : Key) → key_order a b ≡ Less → is_front scope after b ≡ true → is_front scope after a ≡ true
front_down scope (Some item) a b less front =
    front_is (record { scope = scope; item = item }) a ∙ ap is_le (by (key_order b (record { scope = scope; item = item })) refl)
  where
    by : (o : Ordering) → key_order b (record { scope = scope; item = item }) ≡ o → key_order a (record { scope = scope; item = item }) ≡ Less
    by Less o = keys_total.trans a b (record { scope = scope; item = item }) less o
    by Equal o = ap (key_order a) (sym ((key_order_tells_apart b (record { scope = scope; item = item })).0 o)) ∙ less
    by Greater o = absurd (let wrong = sym (ap is_le o) ∙ sym (front_is (record { scope = scope; item = item }) b) ∙ front in cc wrong)
front_down scope None a b less front =
    ap (λ o. match_ordering o true false false) (by (scope_order a.scope b.scope) refl)
  where
    first : (o : Ordering) → scope_order b.scope scope ≡ o → scope_order b.scope scope ≡ Less
    first Less o = o
    first Equal o = absurd (let wrong = sym (ap (λ o. match_ordering o true false false) o) ∙ front in cc wrong)
    first Greater o = absurd (let wrong = sym (ap (λ o. match_ordering o true false false) o) ∙ front in cc wrong)

    by : (o : Ordering) → scope_order a.scope b.scope ≡ o → scope_order a.scope scope ≡ Less
    by Less o = scopes_total.trans a.scope b.scope scope o (first (scope_order b.scope scope) refl)
    by Equal o = scopes_total.congr a.scope b.scope scope o ∙ first (scope_order b.scope scope) refl
    by Greater o = absurd (let wrong = sym (ap (λ o. ordering_then o (name_order a.item b.item)) o) ∙ less in cc wrong)

-- a new key is none of those of the index
none_is : (keys : List Key) (key : Key) (places : List ℕ) → IsIndexOf keys places → AllByRecursion (λ other. key_eq key other ≡ false) keys → AllByRecursion (λ other. key_eq key other ≡ false) (map (key_at keys) places)
none_is keys key places index apart =
    all_map (λ other none. out (key_eq key other) none) (map (key_at keys) places) (none_from_sum g (map (key_at keys) places)
    (index_sum keys places index g ∙ sum_none g keys (all_map (λ other none. ap (λ b. if b then 1 else 0) none) keys apart)))
  where
    g : Key → ℕ
    g other = if key_eq key other then 1 else 0

    out : (b : Bool) → ◌≡◌ {A = ℕ} (if b then 1 else 0) 0 → b ≡ false
    out true none = absurd (omega (arith, none))
    out false none = refl

-- so all in front of its place are less, and all behind are more
pub put_front : (keys : List Key) (key : Key) (places : List ℕ) (n : ℕ) → IsIndexOf keys places → AllByRecursion (λ other. key_eq key other ≡ false) keys
    → IsSplit (is_front key.scope (Some key.item)) (map (key_at keys) places) n → AllByRecursion (λ k. key_order k key ≡ Less) (take n (map (key_at keys) places))
put_front keys key places n index apart split =
    all_both (λ other none front. front_less key other none front) (take n (map (key_at keys) places)) (all_taken (λ other. key_eq key other ≡ false) n (map (key_at keys) places) (none_is keys key places index apart)) split.front

pub put_rest : (keys : List Key) (key : Key) (places : List ℕ) (n : ℕ)
    → IsSplit (is_front key.scope (Some key.item)) (map (key_at keys) places) n → AllByRecursion (λ k. key_order key k ≡ Less) (drop n (map (key_at keys) places))
put_rest keys key places n split = all_map (λ other rest. rest_more key other rest) (drop n (map (key_at keys) places)) split.rest

-- the key of a row is there
pub key_there : {T : Type 0} (rows : List (Key × T)) (place : ℕ) (key : Key) (value : T) → slice_get rows place ≡ Some (key, value) → slice_get (keys_of rows) place ≡ Some key
key_there [] zero key value at = absurd cc
key_there [] (suc place) key value at = absurd cc
key_there (row ∷ rows) zero key value at = let same : row ≡ (key, value) = cc in ap (λ (r : Key × _). Some r.0) same
key_there (row ∷ rows) (suc place) key value at = key_there rows place key value at

-- ---- a search by halves

module _ (scope : Scope) (after : Option (List ℕ)) (keys : List Key) where
  abbrev front_at : ℕ → Bool
  front_at place = is_front_at (is_front scope after) (slice_get keys place)

  at_place : (place : ℕ) → place < length keys → front_at place ≡ is_front scope after (key_at keys place)
  at_place place small = ap (is_front_at (is_front scope after)) (there keys place small)
    where
      there : (keys : List Key) (place : ℕ) → place < length keys → slice_get keys place ≡ Some (key_at keys place)
      there [] place small = absurd (omega (arith, small))
      there (k ∷ keys) zero small = refl
      there (k ∷ keys) (suc place) small = there keys place (omega (arith, small))

  at_index : (places : List ℕ) (n d : ℕ) → IsIndexOf keys places → n < length places → front_at (get_or places n d) ≡ is_front scope after (get_or (map (key_at keys) places) n (key_at keys d))
  at_index places n d index less =
      at_place (get_or places n d) (one places n (within keys places index) less)
      ∙ ap (is_front scope after) (sym (get_or-map (key_at keys) places n d (key_at keys d) less))
    where
      one : (places : List ℕ) (n : ℕ) → AllByRecursion (λ place. place < length keys) places → n < length places → get_or places n d < length keys
      one [] n all less = absurd (omega (arith, less))
      one (place ∷ places) zero all less = all.0
      one (place ∷ places) (suc n) all less = one places n all.1 (omega (arith, less))

  -- the places in front stand in front of the others
  pub parted : (places : List ℕ) → IsIndexOf keys places → IsPartitionedBy front_at places
  parted places index i j d up small front = choose (cases_lt i j)
    where
      choose : (i < j) ⊎ (j ≤ i) → front_at (get_or places i d) ≡ true
      choose (inl less) =
          let long = length-map places (key_at keys) in
          at_index places i d index (omega (arith, less, small))
          ∙ front_down scope after (get_or (map (key_at keys) places) i (key_at keys d)) (get_or (map (key_at keys) places) j (key_at keys d))
          (Less-from_sorted key_order (map (key_at keys) places) i j (key_at keys d) index.ascend less (omega (arith, long, small)))
          (sym (at_index places j d index small) ∙ front)
      choose (inr le) =
          let same : i ≡ j = omega (arith, le, up) in
          ap (λ m. front_at (get_or places m d)) same ∙ front

  pub split_from : (places : List ℕ) (n : ℕ) → IsIndexOf keys places → n ≤ length places → IsPartitionPoint (λ place. front_at place ≡ true) (λ place. front_at place ≡ false) places n
      → IsSplit (is_front scope after) (map (key_at keys) places) n
  split_from places n index bound point = record {
    front = taken (λ k. is_front scope after k ≡ true) places n bound (λ k d less.
        let within_k : k < length places = omega (arith, bound, less) in
        sym (at_index places k d index within_k ∙ ap (is_front scope after) (get_or-map (key_at keys) places k d (key_at keys d) within_k)) ∙ point.0 k d (omega arith) less);
    rest = left (λ k. is_front scope after k ≡ false) places n (λ k d from less.
        sym (at_index places k d index less ∙ ap (is_front scope after) (get_or-map (key_at keys) places k d (key_at keys d) less)) ∙ point.1 k d from less);
  }
    where
      taken : (P : Key → Type 0) (places : List ℕ) (n : ℕ) → n ≤ length places → ((k d : ℕ) → k < n → P (key_at keys (get_or places k d))) → AllByRecursion P (take n (map (key_at keys) places))
      taken P places zero bound h = tt
      taken P [] (suc n) bound h = absurd (omega (arith, bound))
      taken P (place ∷ places) (suc n) bound h = (h 0 place (omega arith), taken P places n (omega (arith, bound)) (λ k d less. h (suc k) d (omega (arith, less))))

      left : (P : Key → Type 0) (places : List ℕ) (n : ℕ) → ((k d : ℕ) → n ≤ k → k < length places → P (key_at keys (get_or places k d))) → AllByRecursion P (drop n (map (key_at keys) places))
      left P [] zero h = tt
      left P (place ∷ places) zero h = (h 0 place (omega arith) (omega arith), left P places zero (λ k d from less. h (suc k) d (omega arith) (omega (arith, less))))
      left P [] (suc n) h = tt
      left P (place ∷ places) (suc n) h = left P places n (λ k d from less. h (suc k) d (omega (arith, from)) (omega (arith, less)))

-- ---- the first key of those that are left

-- the row at a place of the index has the key that stands there
pub left_first : {T : Type 0} (rows : List (Key × T)) (places : List ℕ) (n d : ℕ) (key : Key) (value : T) → n < length places → slice_get rows (get_or places n d) ≡ Some (key, value)
    → drop n (map (key_at (keys_of rows)) places) ≡ key ∷ drop (suc n) (map (key_at (keys_of rows)) places)
left_first rows [] n d key value small at = absurd (omega (arith, small))
left_first {T} rows (place ∷ places) zero d key value small at = ap (λ k. k ∷ map (key_at (keys_of rows)) places) (found rows place key value at)
  where
    found : (rows : List (Key × T)) (place : ℕ) (key : Key) (value : T) → slice_get rows place ≡ Some (key, value) → key_at (keys_of rows) place ≡ key
    found [] zero key value at = absurd cc
    found [] (suc place) key value at = absurd cc
    found (row ∷ rows) zero key value at = let same : row ≡ (key, value) = cc in ap (λ (r : Key × T). r.0) same
    found (row ∷ rows) (suc place) key value at = found rows place key value at
left_first rows (place ∷ places) (suc n) d key value small at = left_first rows places n d key value (omega (arith, small)) at

pub left_none : {X : Type 0} (n : ℕ) (xs : List X) → length xs ≤ n → drop n xs ≡ []
left_none zero [] few = refl
left_none (suc n) [] few = refl
left_none zero (x ∷ xs) few = absurd (omega (arith, few))
left_none (suc n) (x ∷ xs) few = left_none n xs (omega (arith, few))

module _ {T : Type 0} (scope : Scope) (rows : List (Key × T)) (places : List ℕ) (n : ℕ) (index : IsIndexOf (keys_of rows) places)
    (split : IsSplit (is_front scope None) (map (key_at (keys_of rows)) places) n) where
  -- no key is left
  pub none_there : length places ≤ n → has_any_of scope rows ≡ false
  none_there few =
      any_named scope rows places n index split
      ∙ ap (λ ks. any_of (map (λ k. k.item) (filter (λ k. scope_eq k.scope scope) ks)))
      (left_none n (map (key_at (keys_of rows)) places) (let long = length-map places (key_at (keys_of rows)) in omega (arith, long, few)))

  -- the first that is left tells it
  pub first_tells : (d : ℕ) (key : Key) (value : T) → n < length places → slice_get rows (get_or places n d) ≡ Some (key, value) → has_any_of scope rows ≡ scope_eq key.scope scope
  first_tells d key value small at =
      any_named scope rows places n index split ∙ ap (λ ks. any_of (map (λ k. k.item) (filter q ks))) first ∙ by (q key) refl
    where
      q : Key → Bool
      q k = scope_eq k.scope scope

      others : List Key
      others = drop (suc n) (map (key_at (keys_of rows)) places)

      first : drop n (map (key_at (keys_of rows)) places) ≡ key ∷ others
      first = left_first rows places n d key value small at

      by : (b : Bool) → q key ≡ b → any_of (map (λ k. k.item) (cond b (key ∷ filter q others) (filter q others))) ≡ b
      by true e = refl
      by false e =
          let sorted : IsStrictlySortedBy key_order (key ∷ others) = subst (IsStrictlySortedBy key_order) first (sorted_left n (map (key_at (keys_of rows)) places) index.ascend) in
          let rest : AllByRecursion (λ k. is_front scope None k ≡ false) (key ∷ others) = subst (AllByRecursion (λ k. is_front scope None k ≡ false)) first split.rest in
          let none = past scope None key others sorted rest.0 e in
          ap (λ ks. any_of (map (λ k. k.item) ks)) (sym (ap (λ b. cond b (key ∷ filter q others) (filter q others)) e) ∙ none)

-- a place of the index is one of a row
pub small_place : {T : Type 0} (rows : List (Key × T)) (places : List ℕ) (n d : ℕ) → IsIndexOf (keys_of rows) places → n < length places → get_or places n d < length rows
small_place {T} rows places n d index less =
    let long : length (keys_of rows) ≡ length rows = length-map rows (λ (row : Key × T). row.0) in
    let small = one places n (within (keys_of rows) places index) less in
    omega (arith, long, small)
  where
    one : (places : List ℕ) (n : ℕ) → AllByRecursion (λ place. place < length (keys_of rows)) places → n < length places → get_or places n d < length (keys_of rows)
    one [] n all less = absurd (omega (arith, less))
    one (place ∷ places) zero all less = all.0
    one (place ∷ places) (suc n) all less = one places n all.1 (omega (arith, less))

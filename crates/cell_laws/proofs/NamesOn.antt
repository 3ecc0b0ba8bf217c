-- Names that are listed after a name are those that were listed behind it, where no name stands twice.
use Rattle.std.proofs.Common.{◌≡◌, ℕ, ◌+◌, ◌≤◌, Bool, true, false, cond, nat_eq, List, [], ◌∷◌, ◌++◌, map, filter, sum_by, Option, None, Some, refl, sym, ap, subst, ◌∙◌, arith}
use Rattle.std.specs.Prelude.{◌&&◌}
use Rattle.std.specs.Cmp.{tied_itself}
use Rattle.std.specs.Cmp.Lexicographic.{pointwise, bytes_decides, nat_list_cmp_total, texts_ties}
use Rattle.std.specs.List.{AllByRecursion, IsDistinct}
use Rattle.std.specs.Map.{keys_of}
use Rattle.std.specs.declared.cmp.Ordering.{Ordering}
use Rattle.std.specs.declared.cmp.Ordering.TheVariants.{Less, Equal, Greater}
use Rattle.std.specs.Ordering.{is_eq, is_gt, is_lt}
use Rattle.std.proofs.lemmas.List.Sums.{sum_by-cons, sum_by-append}
use Rattle.mms_types.proofs.Precedence.{key_eq_tells}
use Rattle.mms_types.specs.Order.{key_eq, name_order, scope_eq}
use Rattle.mms_types.specs.declared.key.Key.{Key}
use Rattle.mms_types.specs.declared.key.Scope.{Scope}
use Rattle.object_names.proofs.NameOrder.{gt_lt, sorted_ordered, sum_sorted, unique}
use Rattle.object_names.proofs.Ordered.{IsOrdered, before}
use Rattle.object_names.specs.Listing.{comes_after, is_listed, listed_names, names_after, sorted_names}

abbrev is_same : List ℕ → List ℕ → ℕ
is_same a b = cond (pointwise nat_eq a b) 1 0

abbrev kept : (List ℕ → Bool) → (List ℕ → ℕ) → List ℕ → ℕ
kept q f x = cond (q x) (f x) 0

zero_more : (n : ℕ) → 0 + n ≡ n
zero_more n = omega arith

-- ---- a sum over what a filter keeps

sum_kept : (q : List ℕ → Bool) (f : List ℕ → ℕ) (xs : List (List ℕ)) → sum_by f (filter q xs) ≡ sum_by (kept q f) xs
sum_kept q f [] = refl
sum_kept q f (x ∷ xs) = by_test (q x) (sum_kept q f xs) ∙ sym (sum_by-cons (kept q f) x xs)
  where
    by_test : (b : Bool) → sum_by f (filter q xs) ≡ sum_by (kept q f) xs → sum_by f (cond b (x ∷ filter q xs) (filter q xs)) ≡ cond b (f x) 0 + sum_by (kept q f) xs
    by_test true rest = sum_by-cons f x (filter q xs) ∙ ap (λ n. f x + n) rest
    by_test false rest = rest ∙ sym (zero_more (sum_by (kept q f) xs))

-- what passes one test passes another: of what passes that, all that passes this is kept
sum_within : (p q : List ℕ → Bool) (f : List ℕ → ℕ) → ((x : List ℕ) → q x ≡ true → p x ≡ true) → (xs : List (List ℕ)) → sum_by (kept p (kept q f)) xs ≡ sum_by (kept q f) xs
sum_within p q f within [] = refl
sum_within p q f within (x ∷ xs) =
    sum_by-cons (kept p (kept q f)) x xs
    ∙ ap (λ n. n + sum_by (kept p (kept q f)) xs) (by_test (p x) (q x) (within x))
    ∙ ap (λ n. kept q f x + n) (sum_within p q f within xs)
    ∙ sym (sum_by-cons (kept q f) x xs)
  where
    by_test : (a b : Bool) → (b ≡ true → a ≡ true) → cond a (cond b (f x) 0) 0 ≡ cond b (f x) 0
    by_test true b h = refl
    by_test false true h = cc (h refl)
    by_test false false h = refl

fewer : (q : List ℕ → Bool) (f : List ℕ → ℕ) (xs : List (List ℕ)) → sum_by f (filter q xs) ≤ sum_by f xs
fewer q f [] = omega arith
fewer q f (x ∷ xs) = by_test (q x) (fewer q f xs)
  where
    by_test : (b : Bool) → sum_by f (filter q xs) ≤ sum_by f xs → sum_by f (cond b (x ∷ filter q xs) (filter q xs)) ≤ sum_by f (x ∷ xs)
    by_test true rest = omega (arith, rest, sum_by-cons f x (filter q xs), sum_by-cons f x xs)
    by_test false rest = omega (arith, rest, sum_by-cons f x xs)

-- ---- a name in a list in order

abbrev after : List ℕ → List ℕ → Bool
after name = comes_after (Some name)

not_itself : (name : List ℕ) → after name name ≡ false
not_itself name = ap is_lt (tied_itself nat_list_cmp_total name)

none_left : (b : Bool) → ◌≡◌ {A = ℕ} (cond b 1 0) 0 → b ≡ false
none_left true h = absurd (omega (arith, h))
none_left false h = refl

is_true : (b : Bool) → ◌≡◌ {A = ℕ} (cond b 0 1) 0 → b ≡ true
is_true true h = refl
is_true false h = absurd (omega (arith, h))

-- neither before it nor the same, it comes after
follows : (name x : List ℕ) → before name x ≡ 0 → is_same name x ≡ 0 → after name x ≡ true
follows name x h g = by_order (name_order name x) refl (none_left (is_gt (name_order name x)) h) (sym (texts_ties name x) ∙ none_left (pointwise nat_eq name x) g)
  where
    by_order : (o : Ordering) → name_order name x ≡ o → is_gt (name_order name x) ≡ false → is_eq (name_order name x) ≡ false → after name x ≡ true
    by_order Less e a b = ap is_lt e
    by_order Equal e a b = cc (ap is_eq e)
    by_order Greater e a b = cc (ap is_gt e)

-- all behind it come after it
all_after : (name : List ℕ) (f : List ℕ → ℕ) (xs : List (List ℕ)) → sum_by (before name) xs ≡ 0 → sum_by (is_same name) xs ≡ 0 → sum_by (kept (after name) f) xs ≡ sum_by f xs
all_after name f [] h g = refl
all_after name f (x ∷ xs) h g =
    let a = sum_by-cons (before name) x xs in
    let b = sum_by-cons (is_same name) x xs in
    let here : after name x ≡ true = follows name x (omega (arith, h, a)) (omega (arith, g, b)) in
    sum_by-cons (kept (after name) f) x xs
    ∙ ap (λ (b : Bool). cond b (f x) 0 + sum_by (kept (after name) f) xs) here
    ∙ ap (λ n. f x + n) (all_after name f xs (omega (arith, h, a)) (omega (arith, g, b)))
    ∙ sym (sum_by-cons f x xs)

-- none in front of it does
none_after : (name : List ℕ) (f : List ℕ → ℕ) (front rest : List (List ℕ)) → IsOrdered (front ++ name ∷ rest) → sum_by (kept (after name) f) front ≡ 0
none_after name f [] rest h = refl
none_after name f (x ∷ front) rest h =
    let both = sum_by-append (before x) front (name ∷ rest) in
    let here = sum_by-cons (before x) name rest in
    let not_less : after name x ≡ false = sym (gt_lt x name) ∙ none_left (is_gt (name_order x name)) (omega (arith, h.0, both, here)) in
    sum_by-cons (kept (after name) f) x front
    ∙ ap (λ (b : Bool). cond b (f x) 0 + sum_by (kept (after name) f) front) not_less
    ∙ zero_more (sum_by (kept (after name) f) front)
    ∙ none_after name f front rest h.1

behind : (front : List (List ℕ)) (name : List ℕ) (rest : List (List ℕ)) → IsOrdered (front ++ name ∷ rest) → IsOrdered (name ∷ rest)
behind [] name rest h = h
behind (x ∷ front) name rest h = behind front name rest h.1

-- ---- listed on

module _ (names : List (List ℕ)) (once : (name : List ℕ) → sum_by (is_same name) names ≤ 1) where
  module _ (last : Option (List ℕ)) (front : List (List ℕ)) (name : List ℕ) (rest : List (List ℕ)) (is : sorted_names (filter (comes_after last) names) ≡ front ++ name ∷ rest) where
    sum_all : (f : List ℕ → ℕ) → sum_by f (front ++ name ∷ rest) ≡ sum_by f (filter (comes_after last) names)
    sum_all f = ap (sum_by f) (sym is) ∙ sum_sorted f (filter (comes_after last) names)

    in_order : IsOrdered (front ++ name ∷ rest)
    in_order = subst IsOrdered is (sorted_ordered (filter (comes_after last) names))

    -- it comes after the last one, since all that are listed do
    it_follows : comes_after last name ≡ true
    it_follows =
        let missing : List ℕ → ℕ = λ x. cond (comes_after last x) 0 1 in
        let none = sum_all missing ∙ sum_kept (comes_after last) missing names ∙ nothing names in
        let both = sum_by-append missing front (name ∷ rest) in
        let here = sum_by-cons missing name rest in
        is_true (comes_after last name) (omega (arith, none, both, here))
      where
        zero_or : (b : Bool) → ◌≡◌ {A = ℕ} (cond b (cond b 0 1) 0) 0
        zero_or true = refl
        zero_or false = refl

        nothing : (xs : List (List ℕ)) → sum_by (kept (comes_after last) (λ x. cond (comes_after last x) 0 1)) xs ≡ 0
        nothing [] = refl
        nothing (x ∷ xs) = sum_by-cons (kept (comes_after last) (λ y. cond (comes_after last y) 0 1)) x xs ∙ ap (λ n. n + sum_by (kept (comes_after last) (λ y. cond (comes_after last y) 0 1)) xs) (zero_or (comes_after last x)) ∙ zero_more (sum_by (kept (comes_after last) (λ y. cond (comes_after last y) 0 1)) xs) ∙ nothing xs

    -- what comes after it comes after the last one
    within : (x : List ℕ) → after name x ≡ true → comes_after last x ≡ true
    within x h = by_last last it_follows
      where
        less : (o : Ordering) → is_lt o ≡ true → o ≡ Less
        less Less e = refl
        less Equal e = cc
        less Greater e = cc

        by_last : (o : Option (List ℕ)) → comes_after o name ≡ true → comes_after o x ≡ true
        by_last None e = refl
        by_last (Some first) e = ap is_lt (nat_list_cmp_total.trans first name x (less (name_order first name) e) (less (name_order name x) h))

    -- it doesn't stand behind itself
    no_more : sum_by (is_same name) rest ≡ 0
    no_more =
        let few = fewer (comes_after last) (is_same name) names in
        let most = once name in
        let all = sum_all (is_same name) in
        let both = sum_by-append (is_same name) front (name ∷ rest) in
        let here = sum_by-cons (is_same name) name rest in
        let one : is_same name name ≡ 1 = ap (λ (b : Bool). cond b 1 0) (texts_ties name name ∙ ap is_eq (tied_itself nat_list_cmp_total name)) in
        omega (arith, few, most, all, both, here, one)

    as_often : (f : List ℕ → ℕ) → sum_by f rest ≡ sum_by f (sorted_names (filter (after name) names))
    as_often f =
        let ordered = behind front name rest in_order in
        let later = all_after name f rest ordered.0 no_more in
        let earlier = none_after name f front rest in_order in
        let itself : kept (after name) f name ≡ 0 = ap (λ (b : Bool). cond b (f name) 0) (not_itself name) in
        let both = sum_by-append (kept (after name) f) front (name ∷ rest) in
        let here = sum_by-cons (kept (after name) f) name rest in
        let all = sum_all (kept (after name) f) ∙ sum_kept (comes_after last) (kept (after name) f) names ∙ sum_within (comes_after last) (after name) f within names in
        let kept_so = sum_sorted f (filter (after name) names) ∙ sum_kept (after name) f names in
        omega (arith, later, earlier, itself, both, here, all, kept_so)

    pub listed_on : sorted_names (filter (after name) names) ≡ rest
    listed_on = sym (unique rest (sorted_names (filter (after name) names)) (behind front name rest in_order).1 (sorted_ordered (filter (after name) names)) as_often)

-- ---- no name stands twice

none_is : (name x : List ℕ) (xs : List (List ℕ)) → pointwise nat_eq name x ≡ true → AllByRecursion (λ y. pointwise nat_eq x y ≡ false) xs → sum_by (is_same name) xs ≡ 0
none_is name x [] e all = refl
none_is name x (y ∷ ys) e all =
    let one : name ≡ x = (bytes_decides name x).0 e in
    sum_by-cons (is_same name) y ys
    ∙ ap (λ (b : Bool). cond b 1 0 + sum_by (is_same name) ys) (ap (λ (z : List ℕ). pointwise nat_eq z y) one ∙ all.0)
    ∙ zero_more (sum_by (is_same name) ys)
    ∙ none_is name x ys e all.1

pub once_each : (names : List (List ℕ)) → IsDistinct (pointwise nat_eq) names → (name : List ℕ) → sum_by (is_same name) names ≤ 1
unfolding IsDistinct
once_each [] distinct name = omega arith
once_each (x ∷ xs) distinct name = by_test (pointwise nat_eq name x) refl (once_each xs distinct.1 name)
  where
    by_test : (b : Bool) → pointwise nat_eq name x ≡ b → sum_by (is_same name) xs ≤ 1 → sum_by (is_same name) (x ∷ xs) ≤ 1
    by_test true e rest = let none = none_is name x xs e distinct.0 in let parts = sum_by-cons (is_same name) x xs in let one : is_same name x ≡ 1 = ap (λ (b : Bool). cond b 1 0) e in omega (arith, none, parts, one)
    by_test false e rest = let parts = sum_by-cons (is_same name) x xs in let none : is_same name x ≡ 0 = ap (λ (b : Bool). cond b 1 0) e in omega (arith, rest, parts, none)

-- ---- the names of one scope

and_true : (b : Bool) → b ≡ true → (b && true) ≡ true
and_true b e = ap (λ (c : Bool). c && true) e

same_scope : (a b : Scope) → scope_eq a b ≡ true → a ≡ b
same_scope a b e = ap (λ (k : Key). k.scope) ((key_eq_tells (record { scope = a; item = [] }) (record { scope = b; item = [] })).0 (and_true (scope_eq a b) e))

module _ (of : Scope) where
  apart : (a b : Key) → scope_eq a.scope of ≡ true → scope_eq b.scope of ≡ true → key_eq a b ≡ false → pointwise nat_eq a.item b.item ≡ false
  apart a b e f differ = by_test (pointwise nat_eq a.item b.item) refl
    where
      by_test : (c : Bool) → pointwise nat_eq a.item b.item ≡ c → c ≡ false
      by_test false g = refl
      by_test true g =
          let scopes : a.scope ≡ b.scope = same_scope a.scope of e ∙ sym (same_scope b.scope of f) in
          let items : a.item ≡ b.item = (bytes_decides a.item b.item).0 g in
          let one : a ≡ b = λ i. record { scope = scopes i; item = items i } in
          cc (sym differ ∙ (key_eq_tells a b).1 one)

module _ {T : Type 0} (of : Scope) where
  abbrev names_of : List (Key × T) → List (List ℕ)
  names_of rows = map (λ row. row.0.item) (filter (λ row. scope_eq row.0.scope of) rows)

  are_those : (last : Option (List ℕ)) (rows : List (Key × T)) → listed_names of last rows ≡ filter (comes_after last) (names_of rows)
  are_those last [] = refl
  are_those last (row ∷ rows) = by_tests (scope_eq row.0.scope of) (comes_after last row.0.item) refl (are_those last rows)
    where
      by_tests : (a b : Bool) → comes_after last row.0.item ≡ b → listed_names of last rows ≡ filter (comes_after last) (names_of rows)
          → map (λ (r : Key × T). r.0.item) (cond (a && b) (row ∷ filter (λ r. is_listed of last r.0) rows) (filter (λ r. is_listed of last r.0) rows))
          ≡ filter (comes_after last) (map (λ (r : Key × T). r.0.item) (cond a (row ∷ filter (λ r. scope_eq r.0.scope of) rows) (filter (λ r. scope_eq r.0.scope of) rows)))
      by_tests false b e rest = rest
      by_tests true true e rest = ap (λ xs. row.0.item ∷ xs) rest ∙ sym (ap (λ (b : Bool). cond b (row.0.item ∷ filter (comes_after last) (names_of rows)) (filter (comes_after last) (names_of rows))) e)
      by_tests true false e rest = rest ∙ sym (ap (λ (b : Bool). cond b (row.0.item ∷ filter (comes_after last) (names_of rows)) (filter (comes_after last) (names_of rows))) e)

  none_of : (key : Key) (rows : List (Key × T)) → scope_eq key.scope of ≡ true → AllByRecursion (λ other. key_eq key other ≡ false) (keys_of rows) → AllByRecursion (λ y. pointwise nat_eq key.item y ≡ false) (names_of rows)
  none_of key [] e all = tt
  none_of key (row ∷ rows) e all = by_test (scope_eq row.0.scope of) refl (none_of key rows e all.1)
    where
      by_test : (b : Bool) → scope_eq row.0.scope of ≡ b → AllByRecursion (λ y. pointwise nat_eq key.item y ≡ false) (names_of rows)
          → AllByRecursion (λ y. pointwise nat_eq key.item y ≡ false) (map (λ (r : Key × T). r.0.item) (cond b (row ∷ filter (λ r. scope_eq r.0.scope of) rows) (filter (λ r. scope_eq r.0.scope of) rows)))
      by_test true f rest = (apart of key row.0 e f all.0, rest)
      by_test false f rest = rest

  distinct_of : (rows : List (Key × T)) → IsDistinct key_eq (keys_of rows) → IsDistinct (pointwise nat_eq) (names_of rows)
  unfolding IsDistinct
  distinct_of [] distinct = tt
  distinct_of (row ∷ rows) distinct = by_test (scope_eq row.0.scope of) refl (distinct_of rows distinct.1)
    where
      by_test : (b : Bool) → scope_eq row.0.scope of ≡ b → IsDistinct (pointwise nat_eq) (names_of rows)
          → IsDistinct (pointwise nat_eq) (map (λ (r : Key × T). r.0.item) (cond b (row ∷ filter (λ r. scope_eq r.0.scope of) rows) (filter (λ r. scope_eq r.0.scope of) rows)))
      by_test true e rest = (none_of row.0 rows e distinct.0, rest)
      by_test false e rest = rest

  pub of_scope_on : (rows : List (Key × T)) → IsDistinct key_eq (keys_of rows) → (last : Option (List ℕ)) (front : List (List ℕ)) (name : List ℕ) (rest : List (List ℕ))
      → names_after of last rows ≡ front ++ name ∷ rest → names_after of (Some name) rows ≡ rest
  of_scope_on rows distinct last front name rest e =
      ap sorted_names (are_those (Some name) rows)
      ∙ listed_on (names_of rows) (once_each (names_of rows) (distinct_of rows distinct)) last front name rest (sym (ap sorted_names (are_those last rows)) ∙ e)

-- The next evaluation of all, by a walk in order of names: of one moment the first that is met has the least name.
use Rattle.std.proofs.Common.{◌≡◌, ◌∙◌, ap, sym, subst, refl, ℕ, suc, zero, ◌+◌, ◌≤◌, Bool, true, false, cond, eqb, nat_lt, List, [], ◌∷◌, drop, fold, if◌then◌else◌, length, slice_get, take, Option, None, Some, IfSome, option_map, arith, Bor}
use Rattle.std.specs.List.{AllByRecursion, IsDistinct}
use Rattle.std.specs.List.Sorted.{IsStrictlySortedBy}
use Rattle.std.specs.Map.{keys_of}
use Rattle.std.specs.Ordering.{is_lt, nat_cmp, ordering_reverse, ordering_then}
use Rattle.std.specs.declared.cmp.Ordering.{Ordering}
use Rattle.std.specs.declared.cmp.Ordering.TheVariants.{Less, Equal, Greater}
use Rattle.std.proofs.lemmas.Bool.{eqb-true, le-ltb}
use Rattle.std.proofs.lemmas.List.{take_all}
use Rattle.std.proofs.lemmas.List.Sorted.{length_permutation}
use Rattle.mms_types.specs.KeyLaws.{keys_total}
use Rattle.mms_types.specs.Order.{key_eq, key_order}
use Rattle.mms_types.specs.declared.key.Key.{Key}
use Rattle.mms_types.specs.declared.moment.Moment.{Moment}
use Rattle.mms_types.proofs.Precedence.{key_order_tells_apart}
use Rattle.object_names.specs.Ranked.{by_name, insert_row}
use Rattle.object_names.proofs.ByName.{same_rows}
use Rattle.event_cond.specs.Conditions.{Rows}
use Rattle.event_cond.specs.Evaluations.{evaluation_meant, evaluation_of, evaluation_order, evaluations, next_evaluation, next_of, sooner, sooner_if, sooner_of}
use Rattle.event_cond.specs.declared.condition.Condition.{Condition}
use Rattle.event_cond.proofs.Soonest.{Stands, first_more, order, ranks, stands_more}

-- ---- two evaluations of which neither comes before the other are one

nat_tied : (x y : ℕ) → nat_cmp x y ≡ Equal → x ≡ y
nat_tied x y h = by_less (nat_lt x y) h
  where
    by_equal : (b : Bool) → eqb x y ≡ b → cond b Equal Greater ≡ Equal → x ≡ y
    by_equal true e k = eqb-true x y e
    by_equal false e k = absurd cc

    by_less : (b : Bool) → cond b Less (cond (eqb x y) Equal Greater) ≡ Equal → x ≡ y
    by_less true k = absurd cc
    by_less false k = by_equal (eqb x y) refl k

both_equal : (o p : Ordering) → ordering_then o p ≡ Equal → (o ≡ Equal) × (p ≡ Equal)
both_equal Less p h = absurd cc
both_equal Equal p h = (refl, h)
both_equal Greater p h = absurd cc

tied : (a b : Moment × Key) → sooner a b ≡ false → sooner b a ≡ false → a ≡ b
tied a b h k = by (evaluation_order a b) refl
  where
    by : (o : Ordering) → evaluation_order a b ≡ o → a ≡ b
    by Less e = absurd (let wrong = sym (ap is_lt e) ∙ h in cc wrong)
    by Equal e =
        let parts = both_equal (nat_cmp a.0.0 b.0.0) (key_order a.1 b.1) e in
        let moments : a.0.0 ≡ b.0.0 = nat_tied a.0.0 b.0.0 parts.0 in
        let keys : a.1 ≡ b.1 = (key_order_tells_apart a.1 b.1).0 parts.1 in
        ap (λ (n : ℕ). (record { 0 = n }, a.1)) moments ∙ ap (λ (k : Key). (b.0, k)) keys
    by Greater e =
        let back : evaluation_order b a ≡ Less = order.antisymm b a ∙ ap ordering_reverse e in
        absurd (let wrong = sym (ap is_lt back) ∙ k in cc wrong)

-- ---- of three evaluations the order in which they are met makes no difference

less_of_two : (a b : Moment × Key) → cond (sooner b a) b a ≡ cond (sooner a b) a b
less_of_two a b = by (sooner b a) (sooner a b) refl refl
  where
    by : (s t : Bool) → sooner b a ≡ s → sooner a b ≡ t → cond s b a ≡ cond t a b
    by true true s t = absurd (let wrong = sym (ranks.one_way b a s) ∙ t in cc wrong)
    by true false s t = refl
    by false true s t = refl
    by false false s t = tied a b t s

swapped : (first : Option (Moment × Key)) (a b : Moment × Key) → sooner_of (sooner_of first a) b ≡ sooner_of (sooner_of first b) a
swapped None a b = ap (λ e. Some e) (less_of_two a b)
swapped (Some z) a b = by (sooner a z) (sooner b z) refl refl
  where
    by : (s t : Bool) → sooner a z ≡ s → sooner b z ≡ t → sooner_of (Some (cond s a z)) b ≡ sooner_of (Some (cond t b z)) a
    by true true s t = ap (λ e. Some e) (less_of_two a b)
    by true false s t =
        let behind : sooner b a ≡ false = ranks.chain b z a t (ranks.one_way a z s) in
        ap (λ e. Some e) (ap (λ c. cond c b a) behind ∙ sym (ap (λ c. cond c a z) s))
    by false true s t =
        let behind : sooner a b ≡ false = ranks.chain a z b s (ranks.one_way b z t) in
        ap (λ e. Some e) (ap (λ c. cond c b z) t ∙ sym (ap (λ c. cond c a b) behind))
    by false false s t = ap (λ e. Some e) (ap (λ c. cond c b z) t ∙ sym (ap (λ c. cond c a z) s))

swapped_if : (first a b : Option (Moment × Key)) → sooner_if (sooner_if first a) b ≡ sooner_if (sooner_if first b) a
swapped_if first None None = refl
swapped_if first None (Some b) = refl
swapped_if first (Some a) None = refl
swapped_if first (Some a) (Some b) = swapped first a b

-- ---- so the next evaluation is that of the rows in any order, and in order of names

from_row : (row : Key × Condition) (rows : Rows) (first : Option (Moment × Key)) → fold sooner_of first (evaluations (row ∷ rows)) ≡ fold sooner_of (sooner_if first (evaluation_of row)) (evaluations rows)
from_row row rows first = by (evaluation_of row) refl
  where
    by : (o : Option (Moment × Key)) → evaluation_of row ≡ o → fold sooner_of first (evaluations (row ∷ rows)) ≡ fold sooner_of (sooner_if first o) (evaluations rows)
    by None e = rw e refl
    by (Some x) e = rw e refl

one_put : (row : Key × Condition) (rows : Rows) (first : Option (Moment × Key)) → fold sooner_of first (evaluations (insert_row row rows)) ≡ fold sooner_of first (evaluations (row ∷ rows))
one_put row [] first = refl
one_put row (other ∷ others) first = by (is_lt (key_order other.0 row.0)) (one_put row others (sooner_if first (evaluation_of other)))
  where
    by : (b : Bool) → fold sooner_of (sooner_if first (evaluation_of other)) (evaluations (insert_row row others)) ≡ fold sooner_of (sooner_if first (evaluation_of other)) (evaluations (row ∷ others))
        → fold sooner_of first (evaluations (if b then other ∷ insert_row row others else row ∷ other ∷ others)) ≡ fold sooner_of first (evaluations (row ∷ other ∷ others))
    by true rest =
        from_row other (insert_row row others) first ∙ rest ∙ from_row row others (sooner_if first (evaluation_of other))
        ∙ ap (λ f. fold sooner_of f (evaluations others)) (swapped_if first (evaluation_of other) (evaluation_of row))
        ∙ sym (from_row other others (sooner_if first (evaluation_of row))) ∙ sym (from_row row (other ∷ others) first)
    by false rest = refl

all_put : (rows : Rows) (first : Option (Moment × Key)) → fold sooner_of first (evaluations (by_name rows)) ≡ fold sooner_of first (evaluations rows)
all_put [] first = refl
all_put (row ∷ rows) first =
    one_put row (by_name rows) first ∙ from_row row (by_name rows) first ∙ all_put rows (sooner_if first (evaluation_of row)) ∙ sym (from_row row rows first)

module _ (rows : Rows) where
  pub all_met : (n : ℕ) (a : Option (Moment × Key)) → length rows ≤ n → a ≡ next_evaluation (take n (by_name rows)) → a ≡ next_evaluation rows
  all_met n a all is =
      let long : length (by_name rows) ≡ length rows = length_permutation rows (by_name rows) (same_rows rows) in
      is ∙ ap next_evaluation (take_all n (by_name rows) (omega (arith, long, all))) ∙ all_put rows None

  -- ---- it is when the condition of its name is evaluated

  module _ (distinct : IsDistinct key_eq (keys_of rows)) where
    stands_up_to : (n : ℕ) → n ≤ length rows → IfSome (next_evaluation (take n rows)) (Stands rows)
    stands_up_to zero low = tt
    stands_up_to (suc n) low =
        let found = there rows n (omega (arith, low)) in
        let more = first_more rows n found.0.0 found.0.1 (next_evaluation (take n rows)) (sooner_if (next_evaluation (take n rows)) (evaluation_of found.0)) found.1 refl refl in
        let one : n + 1 ≡ suc n = omega arith in
        subst (λ o. IfSome o (Stands rows)) (more ∙ ap (λ m. next_evaluation (take m rows)) one)
        (stands_more rows n found.0.0 found.0.1 (next_evaluation (take n rows)) (sooner_if (next_evaluation (take n rows)) (evaluation_of found.0)) distinct found.1
        (stands_up_to n (omega (arith, low))) refl)
      where
        there : {X : Type 0} (xs : List X) (i : ℕ) → suc i ≤ length xs → (x : X) × (slice_get xs i ≡ Some x)
        there [] i low = absurd (omega (arith, low))
        there (x ∷ xs) zero low = (x, refl)
        there (x ∷ xs) (suc i) low = there xs i (omega (arith, low))

    pub next_stands : (a : Option (Moment × Key)) → a ≡ next_evaluation rows → IfSome a (Stands rows)
    next_stands a is =
        subst (λ o. IfSome o (Stands rows)) (ap next_evaluation (take_all (length rows) rows (omega arith)) ∙ sym is) (stands_up_to (length rows) (omega arith))

-- ---- a walk in order of names

-- its name comes before those of rows
abbrev pub IsAhead : Moment × Key → Rows → Type 0
IsAhead e rows = AllByRecursion (λ row. key_order e.1 row.0 ≡ Less) rows

pub drop_next : {X : Type 0} (xs : List X) (i : ℕ) (x : X) → slice_get xs i ≡ Some x → drop i xs ≡ x ∷ drop (i + 1) xs
drop_next {X = X} xs i x h = let e : suc i ≡ i + 1 = omega arith in next xs i h ∙ ap (λ (n : ℕ). x ∷ drop n xs) e
  where
    next : (xs : List X) (i : ℕ) → slice_get xs i ≡ Some x → drop i xs ≡ x ∷ drop (suc i) xs
    next [] i h = absurd cc
    next (y ∷ ys) zero h = let same : y ≡ x = cc in ap (λ (z : X). z ∷ ys) same
    next (y ∷ ys) (suc i) h = next ys i h

-- the name of a row comes before those behind it
ahead : (rows : Rows) (i : ℕ) (key : Key) (c : Condition) (at : Moment) → IsStrictlySortedBy key_order (keys_of rows) → slice_get rows i ≡ Some (key, c) → IsAhead (at, key) (drop (i + 1) rows)
unfolding IsStrictlySortedBy
ahead rows i key c at sorted h = let e : suc i ≡ i + 1 = omega arith in subst (λ n. IsAhead (at, key) (drop n rows)) e (next rows i sorted h)
  where
    of_rows : (rows : Rows) → AllByRecursion (λ k. key_order key k ≡ Less) (keys_of rows) → IsAhead (at, key) rows
    of_rows [] all = tt
    of_rows (row ∷ rows) all = (all.0, of_rows rows all.1)

    next : (rows : Rows) (i : ℕ) → IsStrictlySortedBy key_order (keys_of rows) → slice_get rows i ≡ Some (key, c) → IsAhead (at, key) (drop (suc i) rows)
    next [] i sorted h = absurd cc
    next (row ∷ rows) zero sorted h =
        let same : row ≡ (key, c) = cc in
        of_rows rows (subst (λ (r : Key × Condition). AllByRecursion (λ k. key_order r.0 k ≡ Less) (keys_of rows)) same sorted.0)
    next (row ∷ rows) (suc i) sorted h = next rows i sorted.1 h

-- the first so far comes before the row that is met, and the sooner of both before those behind it
module _ (rows : Rows) (i : ℕ) (key : Key) (c : Condition) (here : slice_get rows i ≡ Some (key, c)) where
  pub ahead_here : (a : Option (Moment × Key)) → IfSome a (λ e. IsAhead e (drop i rows)) → IfSome a (λ e. key_order e.1 key ≡ Less)
  ahead_here None h = tt
  ahead_here (Some e) h = (subst (IsAhead e) (drop_next rows i (key, c) here) h).0

  pub ahead_more : (a r : Option (Moment × Key)) → IsStrictlySortedBy key_order (keys_of rows) → IfSome a (λ e. IsAhead e (drop i rows))
      → r ≡ sooner_if a (option_map (λ at. (at, key)) (next_of c)) → IfSome r (λ e. IsAhead e (drop (i + 1) rows))
  ahead_more a r sorted h is = subst (λ o. IfSome o (λ e. IsAhead e (drop (i + 1) rows))) (sym is) (by_next (next_of c) a h)
    where
      behind : (e : Moment × Key) → IsAhead e (drop i rows) → IsAhead e (drop (i + 1) rows)
      behind e h = (subst (IsAhead e) (drop_next rows i (key, c) here) h).1

      by_test : (b : Bool) (at : Moment) (e : Moment × Key) → IsAhead e (drop i rows) → IsAhead (cond b (at, key) e) (drop (i + 1) rows)
      by_test true at e h = ahead rows i key c at sorted here
      by_test false at e h = behind e h

      by_next : (o : Option Moment) (a : Option (Moment × Key)) → IfSome a (λ e. IsAhead e (drop i rows)) → IfSome (sooner_if a (option_map (λ at. (at, key)) o)) (λ e. IsAhead e (drop (i + 1) rows))
      by_next None None h = tt
      by_next None (Some e) h = behind e h
      by_next (Some at) None h = ahead rows i key c at sorted here
      by_next (Some at) (Some e) h = by_test (sooner (at, key) e) at e h

-- ---- moments alone tell which of two is sooner

key_back : (a b : Key) → key_order a b ≡ Less → key_order b a ≡ Greater
key_back a b h = keys_total.antisymm b a ∙ ap ordering_reverse h

-- the first stays where it is not later
pub first_stays : (at first : Moment) (key first_key : Key) → key_order first_key key ≡ Less → first.0 ≤ at.0 → sooner (at, key) (first, first_key) ≡ false
first_stays at first key first_key h low = by (eqb at.0 first.0)
  where
    ends : (b : Bool) → is_lt (ordering_then (cond b Equal Greater) (key_order key first_key)) ≡ false
    ends true = ap is_lt (key_back first_key key h)
    ends false = refl

    by : (b : Bool) → is_lt (ordering_then (cond (nat_lt at.0 first.0) Less (cond b Equal Greater)) (key_order key first_key)) ≡ false
    by b = ap (λ c. is_lt (ordering_then (cond c Less (cond b Equal Greater)) (key_order key first_key))) (le-ltb at.0 first.0 low) ∙ ends b

pub stays : (first : Option (Moment × Bor Key)) (next : Option Moment) (key : Key) (at f : Moment) (k : Bor Key) → first ≡ Some (f, k) → next ≡ Some at → IfSome first (λ e. key_order e.1.now key ≡ Less) → f.0 ≤ at.0
    → Some (evaluation_meant (f, k)) ≡ sooner_if (option_map evaluation_meant first) (option_map (λ at. (at, key)) next)
stays first next key at f k one two ahead low =
    let less : key_order k.now key ≡ Less = subst (λ o. IfSome o (λ e. key_order e.1.now key ≡ Less)) one ahead in
    sym (ap (λ o. sooner_if (option_map evaluation_meant o) (option_map (λ at. (at, key)) next)) one
    ∙ ap (λ o. sooner_if (Some (f, k.now)) (option_map (λ at. (at, key)) o)) two ∙ ap (λ b. Some (cond b (at, key) (f, k.now))) (first_stays at f key k.now less low))

-- what holds of an evaluation holds of it with the name that it borrows
pub meant : (P : Moment × Key → Type 0) (o : Option (Moment × Bor Key)) → IfSome (option_map evaluation_meant o) P → IfSome o (λ e. P (evaluation_meant e))
meant P None h = tt
meant P (Some e) h = h

-- Where a name stands among names in order, and what becomes of them where it is put there or taken out.
use Rattle.std.proofs.Common.{◌≡◌, ◌∙◌, ℕ, zero, suc, ◌+◌, ◌<◌, ◌≤◌, Bool, true, false, not, cond, if◌then◌else◌, List, [], ◌∷◌, ◌++◌, Result, Ok, Err, ap, arith, drop, filter, get_or, length, refl, subst, sum_by, sym, take}
use Rattle.std.specs.Prelude.{OnErr, OnOk}
use Rattle.std.specs.List.{AllWithin}
use Rattle.std.specs.List.Sorted.{IsPartitionedBy}
use Rattle.std.specs.declared.cmp.Ordering.{Ordering}
use Rattle.std.specs.declared.cmp.Ordering.TheVariants.{Less, Equal, Greater}
use Rattle.std.specs.Ordering.{is_eq, is_gt, is_le, is_lt}
use Rattle.std.specs.Cmp.Lexicographic.{texts_ties}
use Rattle.std.proofs.lemmas.List.Sums.{sum_by-cons}
use Rattle.std.proofs.Math.Decide.{dec_lt}
use Rattle.mms_types.specs.Order.{name_order}
use Rattle.object_names.specs.Listing.{insert_name}
use Rattle.object_names.proofs.NameOrder.{further, gt_lt, not_before, ordered_inserted, was_false}
use Rattle.object_names.proofs.Ordered.{IsOrdered, before}
use Rattle.domain_load.specs.Domains.{name_eq}
use Rattle.domain_load.specs.UserNames.{is_before, is_up_to}

none_at : (f : List ℕ → ℕ) (xs : List (List ℕ)) → sum_by f xs ≡ 0 → (j : ℕ) (d : List ℕ) → j < length xs → f (get_or xs j d) ≡ 0
none_at f [] none j d within = absurd (omega (arith, within))
none_at f (x ∷ xs) none zero d within = let parts = sum_by-cons f x xs in omega (arith, parts, none)
none_at f (x ∷ xs) none (suc j) d within = let parts = sum_by-cons f x xs in none_at f xs (omega (arith, parts, none)) j d (omega (arith, within))

-- one that isn't before another comes at it or behind it
not_less : (name other : List ℕ) → before name other ≡ 0 → is_before name other ≡ false
not_less name other none = sym (gt_lt name other) ∙ was_false name other none

is_upto : (o : Ordering) → is_le o ≡ not (is_gt o)
is_upto Less = refl
is_upto Equal = refl
is_upto Greater = refl

up_to_none : (name other : List ℕ) → is_up_to name other ≡ true → before other name ≡ 0
up_to_none name other e = by_test (is_gt (name_order other name)) refl
  where
    by_test : (b : Bool) → is_gt (name_order other name) ≡ b → before other name ≡ 0
    by_test true g = absurd (cc (sym e ∙ is_upto (name_order other name) ∙ ap not g))
    by_test false g = rw g

none_up_to : (name other : List ℕ) → before other name ≡ 0 → is_up_to name other ≡ true
none_up_to name other none = is_upto (name_order other name) ∙ ap not (was_false other name none)

module _ (name : List ℕ) where
  pub parted_before : (names : List (List ℕ)) → IsOrdered names → IsPartitionedBy (is_before name) names
  parted_before [] order i j d low within e = absurd (omega (arith, within))
  parted_before (a ∷ rest) order zero j d low within e = by_first (is_before name a) refl j within e
    where
      by_first : (b : Bool) → is_before name a ≡ b → (j : ℕ) → j < suc (length rest) → is_before name (get_or (a ∷ rest) j d) ≡ true → is_before name a ≡ true
      by_first true is j within e = is
      by_first false is zero within e = e
      by_first false is (suc j) within e =
          let none = none_at (before name) rest (further name a rest (not_before name a is) order.0) j d (omega (arith, within)) in
          absurd (cc (sym e ∙ not_less name (get_or rest j d) none))
  parted_before (a ∷ rest) order (suc i) zero d low within e = absurd (omega (arith, low))
  parted_before (a ∷ rest) order (suc i) (suc j) d low within e = parted_before rest order.1 i j d (omega (arith, low)) (omega (arith, within)) e

  pub parted_up_to : (names : List (List ℕ)) → IsOrdered names → IsPartitionedBy (is_up_to name) names
  parted_up_to [] order i j d low within e = absurd (omega (arith, within))
  parted_up_to (a ∷ rest) order zero zero d low within e = e
  parted_up_to (a ∷ rest) order zero (suc j) d low within e =
      let far = none_at (before a) rest order.0 j d (omega (arith, within)) in
      let own = sum_by-cons (before (get_or rest j d)) name [] in
      let its = up_to_none name (get_or rest j d) e in
      let all = further a (get_or rest j d) (name ∷ []) far (omega (arith, own, its)) in
      let one = sum_by-cons (before a) name [] in
      none_up_to name a (omega (arith, all, one))
  parted_up_to (a ∷ rest) order (suc i) zero d low within e = absurd (omega (arith, low))
  parted_up_to (a ∷ rest) order (suc i) (suc j) d low within e = parted_up_to rest order.1 i j d (omega (arith, low)) (omega (arith, within)) e

  -- a name that is put behind all that come before it stands at its place
  pub placed : (names : List (List ℕ)) (place : ℕ) → AllWithin (λ y. is_before name y ≡ true) names 0 place → AllWithin (λ y. is_before name y ≡ false) names place (length names)
      → insert_name name names ≡ take place names ++ name ∷ drop place names
  placed [] zero less others = refl
  placed [] (suc place) less others = refl
  placed (a ∷ rest) zero less others = ap (λ (b : Bool). if b then a ∷ insert_name name rest else name ∷ a ∷ rest) (others 0 name (omega arith) (omega arith))
  placed (a ∷ rest) (suc place) less others =
      ap (λ (b : Bool). if b then a ∷ insert_name name rest else name ∷ a ∷ rest) (less 0 name (omega arith) (omega arith))
      ∙ ap (λ ns. a ∷ ns) (placed rest place (λ k d low high. less (suc k) d (omega arith) (omega (arith, high))) (λ k d low high. others (suc k) d (omega (arith, low)) (omega (arith, high))))

  -- ---- which are the name

  is_it : (other : List ℕ) (o : Ordering) → name_order other name ≡ o → name_eq other name ≡ is_eq o
  is_it other o e = texts_ties other name ∙ ap is_eq e

  less_apart : (other : List ℕ) → is_before name other ≡ true → not (name_eq other name) ≡ true
  less_apart other e = by_order (name_order other name) refl
    where
      by_order : (o : Ordering) → name_order other name ≡ o → not (name_eq other name) ≡ true
      by_order Less is = ap not (is_it other Less is)
      by_order Equal is = absurd (cc (sym e ∙ ap is_lt is))
      by_order Greater is = ap not (is_it other Greater is)

  more_apart : (other : List ℕ) → is_up_to name other ≡ false → not (name_eq other name) ≡ true
  more_apart other e = by_order (name_order other name) refl
    where
      by_order : (o : Ordering) → name_order other name ≡ o → not (name_eq other name) ≡ true
      by_order Less is = ap not (is_it other Less is)
      by_order Equal is = absurd (cc (sym e ∙ ap is_le is))
      by_order Greater is = ap not (is_it other Greater is)

  the_same : (other : List ℕ) → is_before name other ≡ false → is_up_to name other ≡ true → not (name_eq other name) ≡ false
  the_same other e u = by_order (name_order other name) refl
    where
      by_order : (o : Ordering) → name_order other name ≡ o → not (name_eq other name) ≡ false
      by_order Less is = absurd (cc (sym e ∙ ap is_lt is))
      by_order Equal is = ap not (is_it other Equal is)
      by_order Greater is = absurd (cc (sym u ∙ ap is_le is))

  abbrev pub others : List (List ℕ) → List (List ℕ)
  others names = filter (λ other. not (name_eq other name)) names

  kept_first : (a : List ℕ) (rest : List (List ℕ)) → not (name_eq a name) ≡ true → others (a ∷ rest) ≡ a ∷ others rest
  kept_first a rest e = ap (λ (b : Bool). cond b (a ∷ others rest) (others rest)) e

  left_first : (a : List ℕ) (rest : List (List ℕ)) → not (name_eq a name) ≡ false → others (a ∷ rest) ≡ others rest
  left_first a rest e = ap (λ (b : Bool). cond b (a ∷ others rest) (others rest)) e

  -- what is left without those that are the name
  pub parted : (names : List (List ℕ)) (place end : ℕ)
      → AllWithin (λ y. is_before name y ≡ true) names 0 place → AllWithin (λ y. is_before name y ≡ false) names place (length names)
      → AllWithin (λ y. is_up_to name y ≡ true) names 0 end → AllWithin (λ y. is_up_to name y ≡ false) names end (length names)
      → place ≤ end → others names ≡ take place names ++ drop end names
  parted [] zero zero less more low high fits = refl
  parted [] zero (suc end) less more low high fits = refl
  parted [] (suc place) zero less more low high fits = refl
  parted [] (suc place) (suc end) less more low high fits = refl
  parted (a ∷ rest) zero zero less more low high fits =
      kept_first a rest (more_apart a (high 0 name (omega arith) (omega arith)))
      ∙ ap (λ ns. a ∷ ns) (parted rest 0 0 (λ k d l h. absurd (omega (arith, l, h))) (λ k d l h. more (suc k) d (omega arith) (omega (arith, h))) (λ k d l h. absurd (omega (arith, l, h)))
      (λ k d l h. high (suc k) d (omega arith) (omega (arith, h))) (omega arith) ∙ all_left rest)
    where
      all_left : (ns : List (List ℕ)) → take 0 ns ++ drop 0 ns ≡ ns
      all_left [] = refl
      all_left (n ∷ ns) = refl
  parted (a ∷ rest) zero (suc end) less more low high fits =
      left_first a rest (the_same a (more 0 name (omega arith) (omega arith)) (low 0 name (omega arith) (omega arith)))
      ∙ parted rest 0 end (λ k d l h. absurd (omega (arith, l, h))) (λ k d l h. more (suc k) d (omega arith) (omega (arith, h))) (λ k d l h. low (suc k) d (omega arith) (omega (arith, h)))
      (λ k d l h. high (suc k) d (omega (arith, l)) (omega (arith, h))) (omega arith)
  parted (a ∷ rest) (suc place) zero less more low high fits = absurd (omega (arith, fits))
  parted (a ∷ rest) (suc place) (suc end) less more low high fits =
      kept_first a rest (less_apart a (less 0 name (omega arith) (omega arith)))
      ∙ ap (λ ns. a ∷ ns) (parted rest place end (λ k d l h. less (suc k) d (omega arith) (omega (arith, h))) (λ k d l h. more (suc k) d (omega (arith, l)) (omega (arith, h)))
      (λ k d l h. low (suc k) d (omega arith) (omega (arith, h))) (λ k d l h. high (suc k) d (omega (arith, l)) (omega (arith, h))) (omega (arith, fits)))

-- what is left of names in order is in order
none_left : (p : List ℕ → Bool) (f : List ℕ → ℕ) (names : List (List ℕ)) → sum_by f names ≡ 0 → sum_by f (filter p names) ≡ 0
none_left p f [] none = refl
none_left p f (name ∷ names) none =
    let parts = sum_by-cons f name names in
    by_test (p name) (none_left p f names (omega (arith, parts, none)))
  where
    own : f name ≡ 0
    own = let parts = sum_by-cons f name names in omega (arith, parts, none)

    by_test : (b : Bool) → sum_by f (filter p names) ≡ 0 → sum_by f (cond b (name ∷ filter p names) (filter p names)) ≡ 0
    by_test true rest = let parts = sum_by-cons f name (filter p names) in omega (arith, parts, rest, own)
    by_test false rest = rest

pub order_left : (p : List ℕ → Bool) (names : List (List ℕ)) → IsOrdered names → IsOrdered (filter p names)
order_left p [] order = tt
order_left p (name ∷ names) order = by_test (p name) (none_left p (before name) names order.0) (order_left p names order.1)
  where
    by_test : (b : Bool) → sum_by (before name) (filter p names) ≡ 0 → IsOrdered (filter p names) → IsOrdered (cond b (name ∷ filter p names) (filter p names))
    by_test true none rest = (none, rest)
    by_test false none rest = rest

-- all that come before a name are among those up to it
pub before_up_to : (name : List ℕ) (names : List (List ℕ)) (place end : ℕ) → place ≤ length names → AllWithin (λ y. is_before name y ≡ true) names 0 place
    → AllWithin (λ y. is_up_to name y ≡ false) names end (length names) → place ≤ end
before_up_to name names place end within less high = by_place (dec_lt end place)
  where
    both : (o : Ordering) → is_lt o ≡ true → is_le o ≡ false → ⊥
    both Less l e = cc e
    both Equal l e = cc l
    both Greater l e = cc l

    by_place : Dec (end < place) → place ≤ end
    by_place (yes lower) =
        absurd (both (name_order (get_or names end name) name) (less end name (omega arith) lower) (high end name (omega arith) (omega (arith, lower, within))))
    by_place (no fits) = omega (arith, fits)

-- one less is left of the first ones
pub one_less : (names rest : List (List ℕ)) (end : ℕ) → suc end ≤ length names
    → take end (take (suc end) names ++ rest) ++ drop (suc end) (take (suc end) names ++ rest) ≡ take end names ++ rest
one_less [] rest end within = absurd (omega (arith, within))
one_less (a ∷ names) rest zero within = refl
one_less (a ∷ names) rest (suc end) within = ap (λ ns. a ∷ ns) (one_less names rest end (omega (arith, within)))

pub last_gone : (names rest : List (List ℕ)) (end e : ℕ) → suc e ≡ end → end ≤ length names
    → take e (take end names ++ rest) ++ drop (e + 1) (take end names ++ rest) ≡ take e names ++ rest
last_gone names rest end e is within =
    let next : suc e ≡ e + 1 = omega arith in
    subst (λ m. take e (take m names ++ rest) ++ drop (e + 1) (take m names ++ rest) ≡ take e names ++ rest) is
    (subst (λ m. take e (take (suc e) names ++ rest) ++ drop m (take (suc e) names ++ rest) ≡ take e names ++ rest) next (one_less names rest e (omega (arith, is, within))))

pub first_many : (names rest : List (List ℕ)) (end : ℕ) → end ≤ length names → end ≤ length (take end names ++ rest)
first_many names rest zero within = omega arith
first_many [] rest (suc end) within = absurd (omega (arith, within))
first_many (a ∷ names) rest (suc end) within = let h = first_many names rest end (omega (arith, within)) in omega (arith, h)

pub all_taken : (n : ℕ) (names : List (List ℕ)) → take n names ++ drop n names ≡ names
all_taken zero [] = refl
all_taken (suc n) [] = refl
all_taken zero (a ∷ names) = refl
all_taken (suc n) (a ∷ names) = ap (λ ns. a ∷ ns) (all_taken n names)

-- whatever comes of putting a name among names in order, they are in order
pub order_put : {A B : Type 0} (r : Result A B) (name : List ℕ) (old new : List (List ℕ)) → IsOrdered old → OnOk r (new ≡ insert_name name old) → OnErr r (new ≡ old) → IsOrdered new
order_put (Ok x) name old new order put kept = subst (λ ns. IsOrdered ns) (sym put) (ordered_inserted name old order)
order_put (Err x) name old new order put kept = subst (λ ns. IsOrdered ns) (sym kept) order

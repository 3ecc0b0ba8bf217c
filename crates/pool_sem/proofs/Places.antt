-- The place of a name among names that rise.
use Rattle.std.proofs.Common.{◌≡◌, ℕ, zero, suc, ◌+◌, ◌-◌, ◌<◌, ◌≤◌, Bool, true, false, cond, List, length, get_or, None, Some, refl, sym, ◌∙◌, ap, subst, arith}
use Rattle.std.specs.Prelude.{nat_eq, nat_lt}
use Rattle.std.specs.List.{AllWithin, position, position_or_len}
use Rattle.std.specs.List.Sorted.{IsNonDecreasingBy}
use Rattle.std.specs.declared.cmp.Ordering.{Ordering}
use Rattle.std.specs.declared.cmp.Ordering.TheVariants.{Less, Equal, Greater}
use Rattle.std.specs.Ordering.{is_eq, ordering_index, ordering_reverse}
use Rattle.std.specs.Cmp.Lexicographic.{pointwise, nat_list_cmp_total, texts_ties}
use Rattle.std.proofs.lemmas.Bool.Decides.{nat_tests}
use Rattle.std.proofs.lemmas.List.Sums.{position_or_len_is}
use Rattle.std.proofs.lemmas.List.Sorted.{IsNonDecreasingBy-from_all_adjacent}
use Rattle.std.proofs.lemmas.Map.Lookups.{exact_bytes}
use Rattle.std.proofs.Math.Decide.{dec_lt}
use Rattle.mms_types.specs.Order.{name_order}
use Rattle.pool_sem.specs.Pools.{NamesRise, place_of}

-- of names that rise each comes before every later one
far : (ts : List (List ℕ)) (d : List ℕ) → NamesRise ts → (n i j : ℕ) → j ≡ i + n + 1 → j < length ts → name_order (get_or ts i d) (get_or ts j d) ≡ Less
far ts d r zero i j e lt =
    let next : j ≡ i + 1 = omega arith in
    let within : i + 1 < length ts = omega arith in
    ap (λ k. name_order (get_or ts i d) (get_or ts k d)) next ∙ r i d within
far ts d r (suc n) i j e lt =
    let next : j ≡ i + n + 1 + 1 = omega arith in
    let within : i + n + 1 + 1 < length ts = omega arith in
    let near : name_order (get_or ts i d) (get_or ts (i + n + 1) d) ≡ Less = far ts d r n i (i + n + 1) refl (omega arith) in
    ap (λ k. name_order (get_or ts i d) (get_or ts k d)) next
    ∙ nat_list_cmp_total.trans (get_or ts i d) (get_or ts (i + n + 1) d) (get_or ts (i + n + 1 + 1) d) near (r (i + n + 1) d within)

-- whether a name is another, by their order
matches : (a b : List ℕ) (o : Ordering) → name_order b a ≡ o → pointwise nat_eq a b ≡ is_eq (ordering_reverse o)
matches a b o e = texts_ties a b ∙ ap is_eq (nat_list_cmp_total.antisymm a b ∙ ap ordering_reverse e)

placed : (p : List ℕ → Bool) (ts : List (List ℕ)) (k : ℕ) → position_or_len p ts ≡ k → k < length ts → position p ts ≡ Some k
placed p ts k e lt =
    let within : nat_lt k (length ts) ≡ true = grind (arith, nat_tests) in
    ap (λ n. cond (nat_lt n (length ts)) (Some n) None) e ∙ ap (λ b. cond b (Some k) None) within

unplaced : (p : List ℕ → Bool) (ts : List (List ℕ)) → position_or_len p ts ≡ length ts → position p ts ≡ None
unplaced p ts e =
    let past : nat_lt (length ts) (length ts) ≡ false = grind (arith, nat_tests) in
    ap (λ n. cond (nat_lt n (length ts)) (Some n) None) e ∙ ap (λ b. cond b (Some (length ts)) None) past

pub place-found : (name : List ℕ) (ts : List (List ℕ)) (k : ℕ) (d : List ℕ) → NamesRise ts → k < length ts → name_order (get_or ts k d) name ≡ Equal → place_of name ts ≡ Some k
place-found name ts k d r lt e = placed (pointwise nat_eq name) ts k
    (position_or_len_is (pointwise nat_eq name) ts k d (omega arith) fails (λ within. matches name (get_or ts k d) Equal e)) lt
  where
    fails : (j : ℕ) → j < k → pointwise nat_eq name (get_or ts j d) ≡ false
    fails j below =
        let same : get_or ts k d ≡ name = exact_bytes (get_or ts k d) name e in
        let less : name_order (get_or ts j d) (get_or ts k d) ≡ Less = far ts d r (k - j - 1) j k (omega arith) lt in
        matches name (get_or ts j d) Less (ap (λ b. name_order (get_or ts j d) b) (sym same) ∙ less)

pub place-missing : (name : List ℕ) (ts : List (List ℕ)) (i : ℕ) → AllWithin (λ y. name_order y name ≡ Less) ts 0 i → AllWithin (λ y. name_order y name ≡ Greater) ts i (length ts)
    → place_of name ts ≡ None
place-missing name ts i before behind = unplaced (pointwise nat_eq name) ts
    (position_or_len_is (pointwise nat_eq name) ts (length ts) name (omega arith) fails (λ past. absurd (omega arith)))
  where
    fails : (j : ℕ) → j < length ts → pointwise nat_eq name (get_or ts j name) ≡ false
    fails j below = by_side (dec_lt j i)
      where
        by_side : Dec (j < i) → pointwise nat_eq name (get_or ts j name) ≡ false
        by_side (yes l) = matches name (get_or ts j name) Less (before j name (omega arith) l)
        by_side (no l) = matches name (get_or ts j name) Greater (behind j name (omega arith) below)

-- where names rise, so does how they stand beside one
rising-step : (a b name : List ℕ) → name_order a b ≡ Less → ordering_index (name_order a name) ≤ ordering_index (name_order b name)
rising-step a b name less = by_second (name_order b name) refl
  where
    at_most : (o : Ordering) → ordering_index o ≤ 2
    at_most Less = omega arith
    at_most Equal = omega arith
    at_most Greater = omega arith

    first : name_order a name ≡ Less → (n : ℕ) → ordering_index (name_order a name) ≤ n
    first e n = subst (λ o. ordering_index o ≤ n) (sym e) (omega arith)

    by_second : (o : Ordering) → name_order b name ≡ o → ordering_index (name_order a name) ≤ ordering_index o
    by_second Less e = first (nat_list_cmp_total.trans a b name less e) 0
    by_second Equal e = first (ap (λ x. name_order a x) (sym (exact_bytes b name e)) ∙ less) 1
    by_second Greater e = at_most (name_order a name)

pub rising : (name : List ℕ) (ts : List (List ℕ)) → NamesRise ts → IsNonDecreasingBy (λ y. ordering_index (name_order y name)) ts
rising name ts r = IsNonDecreasingBy-from_all_adjacent (λ y. ordering_index (name_order y name)) ts (λ k d lt. rising-step (get_or ts k d) (get_or ts (k + 1) d) name (r k d lt))

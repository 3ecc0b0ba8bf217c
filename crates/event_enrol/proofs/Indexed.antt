-- The groups of the index are those of the rows, also after one more row, and after some go.
use Rattle.std.proofs.Common.{◌≡◌, ◌∙◌, ap, arith, sym, refl, subst, ◌==◌, Bool, true, false, not, cond, if◌then◌else◌, List, [], ◌∷◌, ◌++◌, None, Some, Option, IsSome, filter, length, map}
use Rattle.std.proofs.lemmas.Bool.{eqb-true}
use Rattle.std.proofs.lemmas.List.{map-append}
use Rattle.std.proofs.lemmas.List.Elements.{filter-append}
use Rattle.std.proofs.lemmas.Map.{lookup-set_value}
use Rattle.std.specs.List.{AllByRecursion, IsDistinct}
use Rattle.std.specs.Map.{keys_of, lookup, set_value}
use Rattle.std.specs.Map.Calls.{RetainsPairs}
use Rattle.std.specs.Option.{option_map_or, unwrap_or}
use Rattle.mms_types.specs.declared.key.Key.{Key}
use Rattle.mms_types.specs.Order.{key_eq}
use Rattle.mms_types.specs.KeyLaws.{keys_equal}
use Rattle.mms_types.proofs.Precedence.{key_eq_tells}
use Rattle.event_enrol.specs.Enrolments.{Rows, is_on}
use Rattle.event_enrol.specs.Going.{AreLeft, member_stays, stays}
use Rattle.event_enrol.specs.Groups.{Groups, IsIndexOf, group_of, joined, member}
use Rattle.event_enrol.specs.declared.enrolment.Enrolment.{Enrolment}
use Rattle.event_enrol.specs.declared.going.Going.{Going}
use Rattle.event_enrol.specs.declared.group.Member.{Member}

same_key : (a b : Key) → key_eq a b ≡ true → a ≡ b
same_key a b e = (key_eq_tells a b).0 e

-- ---- one more

-- behind others none of which has the key
behind : {X : Type 0} (k c : Key) (x : X) (es : List (Key × X)) → lookup (key_eq c) es ≡ None
    → lookup (key_eq k) (es ++ (c, x) ∷ []) ≡ cond (key_eq k c) (Some x) (lookup (key_eq k) es)
behind k c x [] none = refl
behind {X} k c x (e ∷ es) none = by_first (key_eq c e.0) refl none (behind k c x es)
  where
    apart : (b d : Bool) → key_eq k e.0 ≡ b → key_eq k c ≡ d → key_eq c e.0 ≡ false
        → cond b (Some e.1) (cond d (Some x) (lookup (key_eq k) es)) ≡ cond d (Some x) (cond b (Some e.1) (lookup (key_eq k) es))
    apart true true h i f = absurd (let j = ap (λ (a : Key). key_eq a e.0) (same_key k c i) in cc (h, j, f))
    apart true false h i f = refl
    apart false true h i f = refl
    apart false false h i f = refl

    by_first : (b : Bool) → key_eq c e.0 ≡ b → cond b (Some e.1) (lookup (key_eq c) es) ≡ None
        → (lookup (key_eq c) es ≡ None → lookup (key_eq k) (es ++ (c, x) ∷ []) ≡ cond (key_eq k c) (Some x) (lookup (key_eq k) es))
        → cond (key_eq k e.0) (Some e.1) (lookup (key_eq k) (es ++ (c, x) ∷ [])) ≡ cond (key_eq k c) (Some x) (cond (key_eq k e.0) (Some e.1) (lookup (key_eq k) es))
    by_first true h none later = absurd cc
    by_first false h none later =
        ap (λ (o : Option X). cond (key_eq k e.0) (Some e.1) o) (later none)
        ∙ apart (key_eq k e.0) (key_eq k c) refl refl h

one_key : (c x y : Key) → key_eq c x ≡ true → key_eq c y ≡ key_eq x y
one_key c x y e = ap (λ (a : Key). key_eq a y) (same_key c x e)

group_joined : (k c : Key) (m : Member) (gs : Groups) → group_of k (joined c m gs) ≡ (if key_eq k c then group_of k gs ++ m ∷ [] else group_of k gs)
group_joined k c m gs = by_group (lookup (key_eq c) gs) refl
  where
    by_group : (o : Option (List Member)) → lookup (key_eq c) gs ≡ o
        → group_of k (option_map_or (λ ms. set_value (key_eq c) gs (ms ++ m ∷ [])) o (gs ++ (c, m ∷ []) ∷ [])) ≡ (if key_eq k c then group_of k gs ++ m ∷ [] else group_of k gs)
    by_group None e = ap (λ (o : Option (List Member)). unwrap_or o []) (behind k c (m ∷ []) gs e) ∙ by_key (key_eq k c) refl
      where
        by_key : (b : Bool) → key_eq k c ≡ b → unwrap_or (cond b (Some (m ∷ [])) (lookup (key_eq k) gs)) [] ≡ (if b then group_of k gs ++ m ∷ [] else group_of k gs)
        by_key true h =
            let none : lookup (key_eq k) gs ≡ None = ap (λ (a : Key). lookup (key_eq a) gs) (same_key k c h) ∙ e in
            sym (ap (λ (o : Option (List Member)). unwrap_or o [] ++ m ∷ []) none)
        by_key false h = refl
    by_group (Some ms) e =
        ap (λ (o : Option (List Member)). unwrap_or o []) (lookup-set_value keys_equal (key_eq c) (one_key c) k (ms ++ m ∷ []) gs (subst IsSome (sym e) refl))
        ∙ by_key (key_eq k c) (key_eq c k) refl (keys_equal.symm c k)
      where
        by_key : (b d : Bool) → key_eq k c ≡ b → d ≡ key_eq k c → unwrap_or (cond d (Some (ms ++ m ∷ [])) (lookup (key_eq k) gs)) [] ≡ (if b then group_of k gs ++ m ∷ [] else group_of k gs)
        by_key true true h i =
            let found : lookup (key_eq k) gs ≡ Some ms = ap (λ (a : Key). lookup (key_eq a) gs) (same_key k c h) ∙ e in
            sym (ap (λ (o : Option (List Member)). unwrap_or o [] ++ m ∷ []) found)
        by_key true false h i = absurd cc
        by_key false true h i = absurd cc
        by_key false false h i = refl

pub joins : (rows : Rows) (row : Key × Enrolment) (gs : Groups) → IsIndexOf rows gs → IsIndexOf (rows ++ row ∷ []) (joined row.1.condition (member row) gs)
joins rows row gs is k =
    group_joined k row.1.condition (member row) gs
    ∙ by_key (key_eq k row.1.condition) refl
    ∙ sym (ap (map member) (filter-append (is_on k) rows (row ∷ [])) ∙ map-append member (filter (is_on k) rows) (filter (is_on k) (row ∷ [])))
  where
    by_key : (b : Bool) → key_eq k row.1.condition ≡ b → (if b then group_of k gs ++ member row ∷ [] else group_of k gs) ≡ map member (filter (is_on k) rows) ++ map member (cond b (row ∷ []) [])
    by_key true h = ap (λ (ms : List Member). ms ++ member row ∷ []) (is k)
    by_key false h = is k ∙ sym (nothing (map member (filter (is_on k) rows)))
      where
        nothing : (ms : List Member) → ms ++ [] ≡ ms
        nothing [] = refl
        nothing (x ∷ xs) = ap (λ (l : List Member). x ∷ l) (nothing xs)

-- ---- some go

-- what stays of a group is what stays of its rows
stay_alike : (by : Going) (k : Key) (rows : Rows) → filter (member_stays by k) (map member (filter (is_on k) rows)) ≡ map member (filter (is_on k) (filter (stays by) rows))
stay_alike by k [] = refl
stay_alike by k (row ∷ rows) = by_both (is_on k row) (stays by row) refl refl (stay_alike by k rows)
  where
    by_both : (b s : Bool) → is_on k row ≡ b → stays by row ≡ s
        → filter (member_stays by k) (map member (filter (is_on k) rows)) ≡ map member (filter (is_on k) (filter (stays by) rows))
        → filter (member_stays by k) (map member (cond b (row ∷ filter (is_on k) rows) (filter (is_on k) rows)))
        ≡ map member (filter (is_on k) (cond s (row ∷ filter (stays by) rows) (filter (stays by) rows)))
    by_both true true h i later =
        let here : member_stays by k (member row) ≡ true = ap (λ (a : Key). member_stays by a (member row)) (same_key k row.1.condition h) ∙ i in
        ap (λ (b : Bool). cond b (member row ∷ filter (member_stays by k) (map member (filter (is_on k) rows))) (filter (member_stays by k) (map member (filter (is_on k) rows)))) here
        ∙ ap (λ (l : List Member). member row ∷ l) later
        ∙ sym (ap (λ (b : Bool). map member (cond b (row ∷ filter (is_on k) (filter (stays by) rows)) (filter (is_on k) (filter (stays by) rows)))) h)
    by_both true false h i later =
        let here : member_stays by k (member row) ≡ false = ap (λ (a : Key). member_stays by a (member row)) (same_key k row.1.condition h) ∙ i in
        ap (λ (b : Bool). cond b (member row ∷ filter (member_stays by k) (map member (filter (is_on k) rows))) (filter (member_stays by k) (map member (filter (is_on k) rows)))) here
        ∙ later
    by_both false true h i later =
        later ∙ sym (ap (λ (b : Bool). map member (cond b (row ∷ filter (is_on k) (filter (stays by) rows)) (filter (is_on k) (filter (stays by) rows)))) h)
    by_both false false h i later = later

pub leaves : (by : Going) (rows : Rows) (old new : Groups) → IsIndexOf rows old → AreLeft by old new → IsIndexOf (filter (stays by) rows) new
leaves by rows old new is left k = left k ∙ ap (filter (member_stays by k)) (is k) ∙ stay_alike by k rows

-- a key that stands once isn't among the others
once : (k : Key) (es : Groups) → AllByRecursion (λ other. key_eq k other ≡ false) (keys_of es) → group_of k es ≡ []
once k [] apart = refl
once k (e ∷ es) apart = ap (λ (b : Bool). unwrap_or (cond b (Some e.1) (lookup (key_eq k) es)) []) apart.0 ∙ once k es apart.1

-- what a group's `retain` leaves, where each call leaves the members that stay, and keeps the group where there are any
module _ {F : Type 0} (T : F → Key → List Member → Bool → List Member → F → Type 0) (f : F) (by : Going)
    (says : (k : Key) (v : List Member) (b : Bool) (w : List Member) (g : F) → T f k v b w g → (w ≡ filter (member_stays by k) v) × (b ≡ not (length w == 0)) × (g ≡ f)) where
  none_left : (w : List Member) → not (length w == 0) ≡ false → w ≡ []
  none_left [] e = refl
  none_left (m ∷ w) e = by_test (length (m ∷ w) == 0) refl e
    where
      by_test : (b : Bool) → (length (m ∷ w) == 0) ≡ b → not b ≡ false → m ∷ w ≡ []
      by_test true h i = absurd (let n = eqb-true (length (m ∷ w)) 0 h in omega (arith, n))
      by_test false h i = absurd cc

  pub groups_left : (es kept : Groups) → IsDistinct key_eq (keys_of es) → RetainsPairs T f es kept → AreLeft by es kept
  unfolding IsDistinct
  groups_left [] kept distinct h k = ap (group_of k) h
  groups_left (e ∷ es) kept distinct h k =
      let s = says e.0 e.1 h.0 h.1 h.2 h.4 in
      let rest : AreLeft by es h.3 = groups_left es h.3 distinct.1 (subst (λ g. RetainsPairs T g es h.3) s.2 h.5) in
      ap (group_of k) h.6 ∙ by_both (key_eq k e.0) h.0 refl refl s.0 s.1 (rest k)
    where
      by_both : (d b : Bool) → key_eq k e.0 ≡ d → h.0 ≡ b → h.1 ≡ filter (member_stays by e.0) e.1 → h.0 ≡ not (length h.1 == 0)
          → group_of k h.3 ≡ filter (member_stays by k) (group_of k es)
          → group_of k (cond b ((e.0, h.1) ∷ h.3) h.3) ≡ filter (member_stays by k) (unwrap_or (cond d (Some e.1) (lookup (key_eq k) es)) [])
      by_both true true i j w any later =
          ap (λ (d : Bool). unwrap_or (cond d (Some h.1) (lookup (key_eq k) h.3)) []) i ∙ w ∙ ap (λ (a : Key). filter (member_stays by a) e.1) (sym (same_key k e.0 i))
      by_both true false i j w any later =
          let none : h.1 ≡ [] = none_left h.1 (sym any ∙ j) in
          let gone : group_of k es ≡ [] = ap (λ (a : Key). group_of a es) (same_key k e.0 i) ∙ once e.0 es distinct.0 in
          later ∙ ap (filter (member_stays by k)) gone ∙ sym none ∙ w ∙ ap (λ (a : Key). filter (member_stays by a) e.1) (sym (same_key k e.0 i))
      by_both false true i j w any later = ap (λ (d : Bool). unwrap_or (cond d (Some h.1) (lookup (key_eq k) h.3)) []) i ∙ later
      by_both false false i j w any later = later

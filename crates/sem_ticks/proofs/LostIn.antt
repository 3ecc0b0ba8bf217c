-- A client is lost on drafts as on all semaphores, where each of which it has an entry is among them.
use Rattle.std.proofs.Common.{◌≡◌, ◌∙◌, ap, refl, sym, subst, ℕ, zero, suc, ◌+◌, inl, inr, Bool, true, false, ◌||◌, cond, List, [], ◌∷◌, ◌++◌, filter, map, get_or, slice_get, Option, None, Some, IsSome, unwrap_or, option_map, arith}
use Rattle.std.specs.List.{All, AllByRecursion, AllPairs, IsDistinct, flat_map, list_any}
use Rattle.std.specs.List.Sorted.{IsPermutation, IsSorted}
use Rattle.std.specs.Ordering.{is_lt, ordering_reverse}
use Rattle.std.proofs.lemmas.List.{map-id}
use Rattle.std.specs.Map.{keys_of, lookup}
use Rattle.std.specs.declared.cmp.Ordering.TheVariants.{Less}
use Rattle.std.proofs.lemmas.List.Sorted.{IsPermutation-cons, IsPermutation-middle, IsPermutation-refl, IsPermutation-trans}
use Rattle.std.proofs.lemmas.Map.Keys.{IsDistinct-head, IsDistinct-tail}
use Rattle.std.proofs.lemmas.Map.Made.{IsSome-lookup_same_keys, lookup-map_values}
use Rattle.mms_types.specs.KeyLaws.{keys_equal, keys_total}
use Rattle.mms_types.specs.Order.{key_eq, key_order}
use Rattle.mms_types.proofs.Precedence.{key_eq_tells}
use Rattle.mms_types.specs.declared.key.Key.{Key}
use Rattle.mms_types.specs.declared.key.Scope.TheVariants.{Association}
use Rattle.mms_types.specs.declared.moment.Moment.{Moment}
use Rattle.object_names.specs.Scopes.{has_any_of, without_all_of}
use Rattle.token_sem.proofs.Least.{Stands}
use Rattle.mms_time.specs.Loss.{all_changed, grants_of, keyed, lost, lost_grants, semaphore_without, sorted_keys}
use Rattle.mms_time.specs.Semaphores.{Rows, changed_row, entries_of}
use Rattle.mms_time.specs.declared.row.Semaphore.{Semaphore}
use Rattle.mms_time.specs.declared.row.SemaphoreRow.{SemaphoreRow}
use Rattle.mms_time.proofs.KeyOrder.{sort_gives, sorted_filtered}
use Rattle.mms_time.proofs.TwoSteps.{each_grant, each_semaphore}
use Rattle.mms_time.proofs.Unowned.{none_granted_by}
use Rattle.token_sem.specs.declared.entry.Grant.{Grant}
use Rattle.sem_ticks.specs.Losing.{has_entry}
use Rattle.sem_ticks.specs.Drafts.{become, drafted, AreDrafts, HasPlace, KeepsLeast}
use Rattle.sem_ticks.specs.declared.drafts.Draft.{Draft}
use Rattle.sem_ticks.proofs.Become.{become_keys}
use Rattle.sem_ticks.proofs.Gone.{neither, none_owned, same_scope, same_semaphore, scope_by_keys}
use Rattle.sem_ticks.proofs.Made.{pair_of}

module _ (client : ℕ) (now : Moment) where
  abbrev lost_row : SemaphoreRow → SemaphoreRow
  lost_row = changed_row (semaphore_without client now)

  lost_become : (C rows : Rows) → ((row : Key × SemaphoreRow) → Stands rows row → lookup (key_eq row.0) C ≡ None → has_entry client row.1 ≡ false)
      → all_changed (semaphore_without client now) (become C rows) ≡ become (all_changed (semaphore_without client now) C) rows
  lost_become C [] each = refl
  lost_become C (row ∷ rows) each =
      ap (λ (x : SemaphoreRow). (row.0, x) ∷ all_changed (semaphore_without client now) (become C rows)) (here (lookup (key_eq row.0) C) refl)
      ∙ ap (λ (rest : Rows). (row.0, unwrap_or (lookup (key_eq row.0) (all_changed (semaphore_without client now) C)) row.1) ∷ rest) (lost_become C rows (λ r there. each r (inr there)))
    where
      by_found : (o : Option SemaphoreRow) → lookup (key_eq row.0) C ≡ o → lost_row (unwrap_or o row.1) ≡ unwrap_or (option_map lost_row o) row.1
      by_found None e = ap (λ (s : Semaphore). record row.1 { semaphore = s }) (same_semaphore client now row.1.semaphore (each row (inl refl) e))
      by_found (Some x) e = refl

      here : (o : Option SemaphoreRow) → lookup (key_eq row.0) C ≡ o
          → lost_row (unwrap_or (lookup (key_eq row.0) C) row.1) ≡ unwrap_or (lookup (key_eq row.0) (all_changed (semaphore_without client now) C)) row.1
      here o e =
          ap (λ (p : Option SemaphoreRow). lost_row (unwrap_or p row.1)) e ∙ by_found o e
          ∙ sym (ap (λ (p : Option SemaphoreRow). unwrap_or p row.1) (lookup-map_values lost_row (key_eq row.0) C ∙ ap (option_map lost_row) e))

  -- what all semaphores become by the loss is what the drafts become by it
  pub lost_in : (C rows : Rows) → ((row : Key × SemaphoreRow) → Stands rows row → lookup (key_eq row.0) C ≡ None → has_entry client row.1 ≡ false)
      → has_any_of (Association client) rows ≡ false → lost client now (become C rows) ≡ become (all_changed (semaphore_without client now) C) rows
  lost_in C rows each scope =
      let after = become (all_changed (semaphore_without client now) C) rows in
      ap (without_all_of (Association client)) (sym (each_semaphore client now (become C rows)) ∙ lost_become C rows each)
      ∙ same_scope (Association client) after (scope_by_keys (Association client) rows after (become_keys (all_changed (semaphore_without client now) C) rows) scope)

-- ---- drafts of the same names at the same places

same_names : (ds es : List Draft) → map pair_of es ≡ map pair_of ds → keys_of (drafted es) ≡ keys_of (drafted ds)
same_names [] [] e = refl
same_names [] (x ∷ es) e = absurd (cc e)
same_names (d ∷ ds) [] e = absurd (cc e)
same_names (d ∷ ds) (x ∷ es) e =
    let one : pair_of x ≡ pair_of d = cc e in
    let rest : map pair_of es ≡ map pair_of ds = cc e in
    ap (λ (p : Key × ℕ). p.0 ∷ keys_of (drafted es)) one ∙ ap (λ (ks : List Key). d.key.now ∷ ks) (same_names ds es rest)

same_places : (rows : Rows) (ds es : List Draft) → map pair_of es ≡ map pair_of ds → All (HasPlace rows) ds → All (HasPlace rows) es
same_places rows [] [] e all k y low = absurd (omega (arith, low))
same_places rows [] (x ∷ es) e all k y low = absurd (cc e)
same_places rows (d ∷ ds) [] e all k y low = absurd (cc e)
same_places rows (d ∷ ds) (x ∷ es) e all zero y low =
    let one : pair_of x ≡ pair_of d = cc e in
    subst (λ (p : Key × ℕ). slice_get (keys_of rows) p.1 ≡ Some p.0) (sym one) (all 0 d (omega arith))
same_places rows (d ∷ ds) (x ∷ es) e all (suc k) y low =
    let rest : map pair_of es ≡ map pair_of ds = cc e in
    same_places rows ds es rest (λ j z less. all (suc j) z (omega (arith, less))) k y (omega (arith, low))

-- whatever they have become, they are drafts as before, where each keeps its least deadline
pub drafts_same : (until : Moment) (rows : Rows) (ds es : List Draft) → map pair_of es ≡ map pair_of ds → All KeepsLeast es → AreDrafts until rows ds → AreDrafts until rows es
drafts_same until rows ds es same keeps are =
    let names = same_names ds es same in
    record {
      places = same_places rows ds es same are.places;
      ascend = subst (AllPairs (λ a b. key_order a b ≡ Less)) (sym names) are.ascend;
      least = keeps;
      others = λ k row low none. are.others k row low (none_too (get_or rows k row).0 names none);
    }
  where
    none_too : (q : Key) → keys_of (drafted es) ≡ keys_of (drafted ds) → lookup (key_eq q) (drafted es) ≡ None → lookup (key_eq q) (drafted ds) ≡ None
    none_too q names none = by_found (lookup (key_eq q) (drafted ds)) refl
      where
        by_found : (o : Option SemaphoreRow) → lookup (key_eq q) (drafted ds) ≡ o → o ≡ None
        by_found None e = refl
        by_found (Some x) e =
            let there : IsSome (lookup (key_eq q) (drafted ds)) = subst IsSome (sym e) refl in
            let found = (IsSome-lookup_same_keys (key_eq q) (drafted es) (drafted ds) names).1 there in
            absurd (let never : IsSome {T = SemaphoreRow} None = subst IsSome none found in cc never)

-- ---- the names of drafts are those of all that are among them, in order

abbrev among : List Key → Key → Bool
among cs k = list_any (λ c. key_eq c k) cs

none_else : (q : Key → Bool) (c : Key) (ks : List Key) → AllByRecursion (λ y. key_eq c y ≡ false) ks → filter (λ k. key_eq c k || q k) ks ≡ filter q ks
none_else q c [] all = refl
none_else q c (k ∷ ks) all =
    ap (λ (b : Bool). cond (b || q k) (k ∷ filter (λ k. key_eq c k || q k) ks) (filter (λ k. key_eq c k || q k) ks)) all.0
    ∙ ap (λ (l : List Key). cond (q k) (k ∷ l) l) (none_else q c ks all.1)

one_more : (q : Key → Bool) (c : Key) (ks : List Key) → IsDistinct key_eq ks → Stands ks c → q c ≡ false → IsPermutation (filter (λ k. key_eq c k || q k) ks) (c ∷ filter q ks)
one_more q c [] distinct there not = absurd there
one_more q c (k ∷ ks) distinct there not = by_name (key_eq c k) refl there (λ h. one_more q c ks (IsDistinct-tail key_eq k ks distinct) h not)
  where
    more : List Key
    more = filter (λ k. key_eq c k || q k) ks

    by_test : (b : Bool) → IsPermutation more (c ∷ filter q ks) → IsPermutation (cond b (k ∷ more) more) (c ∷ cond b (k ∷ filter q ks) (filter q ks))
    by_test true rest = IsPermutation-trans _ _ _ (IsPermutation-cons k more (c ∷ filter q ks) rest) (IsPermutation-middle (k ∷ []) c (filter q ks))
    by_test false rest = rest

    differs : key_eq c k ≡ false → Stands (k ∷ ks) c → Stands ks c
    differs apart (inl same) = absurd (cc (sym apart ∙ (key_eq_tells c k).1 (sym same)))
    differs apart (inr h) = h

    by_name : (b : Bool) → key_eq c k ≡ b → Stands (k ∷ ks) c → (Stands ks c → IsPermutation more (c ∷ filter q ks))
        → IsPermutation (cond (b || q k) (k ∷ more) more) (c ∷ cond (q k) (k ∷ filter q ks) (filter q ks))
    by_name true same h rest =
        let one : c ≡ k = (key_eq_tells c k).0 same in
        let no : q k ≡ false = ap q (sym one) ∙ not in
        let tail : more ≡ filter q ks = none_else q c ks (subst (λ (x : Key). AllByRecursion (λ y. key_eq x y ≡ false) ks) (sym one) (IsDistinct-head key_eq k ks distinct)) in
        let left : k ∷ more ≡ c ∷ filter q ks = ap (λ (l : List Key). k ∷ l) tail ∙ ap (λ (x : Key). x ∷ filter q ks) (sym one) in
        let right : c ∷ cond (q k) (k ∷ filter q ks) (filter q ks) ≡ c ∷ filter q ks = ap (λ (b : Bool). c ∷ cond b (k ∷ filter q ks) (filter q ks)) no in
        subst (λ (l : List Key). IsPermutation l (c ∷ cond (q k) (k ∷ filter q ks) (filter q ks))) (sym left)
        (subst (λ (l : List Key). IsPermutation (c ∷ filter q ks) l) (sym right) (IsPermutation-refl (c ∷ filter q ks)))
    by_name false apart h rest = by_test (q k) (rest (differs apart h))

not_among : (c : Key) (cs : List Key) → AllByRecursion (λ y. key_eq c y ≡ false) cs → among cs c ≡ false
not_among c [] all = refl
not_among c (d ∷ cs) all = ap (λ (b : Bool). b || among cs c) (keys_equal.symm d c ∙ all.0) ∙ not_among c cs all.1

none_picked : (ks : List Key) → filter (among []) ks ≡ []
none_picked [] = refl
none_picked (k ∷ ks) = none_picked ks

moved : (cs ks : List Key) → IsDistinct key_eq ks → IsDistinct key_eq cs → ((c : Key) → Stands cs c → Stands ks c) → IsPermutation (filter (among cs) ks) cs
moved [] ks distinct own there = subst (λ (l : List Key). IsPermutation l []) (sym (none_picked ks)) (IsPermutation-refl [])
moved (c ∷ cs) ks distinct own there =
    IsPermutation-trans _ _ _ (one_more (among cs) c ks distinct (there c (inl refl)) (not_among c cs (IsDistinct-head key_eq c cs own)))
    (IsPermutation-cons c (filter (among cs) ks) cs (moved cs ks distinct (IsDistinct-tail key_eq c cs own) (λ d h. there d (inr h))))

sorted_names : (ks : List Key) → AllPairs (λ a b. key_order a b ≡ Less) ks → IsSorted key_order ks
sorted_names ks ascend k d low high =
    let one = ascend k (k + 1) d (omega arith) (omega (arith, high)) in
    ap is_lt (keys_total.antisymm (get_or ks (k + 1) d) (get_or ks k d) ∙ ap ordering_reverse one)

-- ---- who is granted a token is told from the drafts, one after the other

flat_kept : {X A : Type 0} (f : X → List A) (q : X → Bool) → ((x : X) → q x ≡ false → f x ≡ []) → (xs : List X) → flat_map f (filter q xs) ≡ flat_map f xs
flat_kept f q none [] = refl
flat_kept {X} {A} f q none (x ∷ xs) = by_test (q x) refl (flat_kept f q none xs)
  where
    by_test : (b : Bool) → q x ≡ b → flat_map f (filter q xs) ≡ flat_map f xs → flat_map f (cond b (x ∷ filter q xs) (filter q xs)) ≡ f x ++ flat_map f xs
    by_test true is rest = ap (λ (l : List A). f x ++ l) rest
    by_test false is rest = rest ∙ ap (λ (l : List A). l ++ flat_map f xs) (sym (none x is))

none_found : (C : Rows) (key : Key) → among (keys_of C) key ≡ false → lookup (key_eq key) C ≡ None
none_found [] key not = refl
none_found (e ∷ C) key not =
    let both = neither (key_eq e.0 key) (among (keys_of C) key) not in
    ap (λ (b : Bool). cond b (Some e.1) (lookup (key_eq key) C)) (keys_equal.symm key e.0 ∙ both.0) ∙ none_found C key both.1

each_told : {A : Type 0} (f : Key → List A) (g : Key × SemaphoreRow → List A) (C : Rows) → ((e : Key × SemaphoreRow) → Stands C e → f e.0 ≡ g e) → flat_map f (keys_of C) ≡ flat_map g C
each_told f g [] same = refl
each_told {A} f g (e ∷ C) same =
    ap (λ (l : List A). l ++ flat_map f (keys_of C)) (same e (inl refl)) ∙ ap (λ (l : List A). g e ++ l) (each_told f g C (λ d h. same d (inr h)))

module _ (client : ℕ) (now : Moment) (C rows : Rows)
    (each : (row : Key × SemaphoreRow) → Stands rows row → lookup (key_eq row.0) C ≡ None → has_entry client row.1 ≡ false) where
  abbrev pub grants_here : Key → List (Key × Grant)
  grants_here key = keyed key (grants_of client now (lookup (key_eq key) (become C rows)))

  none_here : (key : Key) → among (keys_of C) key ≡ false → grants_here key ≡ []
  none_here key not = ap (keyed key) (from rows each)
    where
      from : (rows : Rows) → ((row : Key × SemaphoreRow) → Stands rows row → lookup (key_eq row.0) C ≡ None → has_entry client row.1 ≡ false)
          → grants_of client now (lookup (key_eq key) (become C rows)) ≡ []
      from [] each = refl
      from (row ∷ rows) each = by_name (key_eq key row.0) refl (from rows (λ r h. each r (inr h)))
        where
          by_name : (b : Bool) → key_eq key row.0 ≡ b → grants_of client now (lookup (key_eq key) (become C rows)) ≡ []
              → grants_of client now (cond b (Some (unwrap_or (lookup (key_eq row.0) C) row.1)) (lookup (key_eq key) (become C rows))) ≡ []
          by_name true same rest =
              let none : lookup (key_eq row.0) C ≡ None = ap (λ (k : Key). lookup (key_eq k) C) (sym ((key_eq_tells key row.0).0 same)) ∙ none_found C key not in
              ap (λ (o : Option SemaphoreRow). grants_of client now (Some (unwrap_or o row.1))) none
              ∙ none_granted_by client now row.1.semaphore (none_owned client (entries_of row.1) (each row (inl refl) none))
          by_name false apart rest = rest

  module _ (distinct : IsDistinct key_eq (keys_of rows)) (own : IsDistinct key_eq (keys_of C)) (ascend : AllPairs (λ a b. key_order a b ≡ Less) (keys_of C))
      (there : (key : Key) → Stands (keys_of C) key → Stands (keys_of rows) key) where
    names : sorted_keys (filter (among (keys_of C)) (keys_of rows)) ≡ keys_of C
    names =
        ap sorted_keys (sym (map-id (filter (among (keys_of C)) (keys_of rows))))
        ∙ sym (sort_gives (λ k. k) (filter (among (keys_of C)) (keys_of rows)) (keys_of C) (moved (keys_of C) (keys_of rows) distinct own there) (sorted_names (keys_of C) ascend))
        ∙ map-id (keys_of C)

    pub granted_in : lost_grants client now (become C rows) ≡ flat_map grants_here (keys_of C)
    granted_in =
        sym (each_grant client now (become C rows) (sorted_keys (keys_of (become C rows))))
        ∙ ap (λ (ks : List Key). flat_map grants_here (sorted_keys ks)) (become_keys C rows)
        ∙ sym (flat_kept grants_here (among (keys_of C)) none_here (sorted_keys (keys_of rows)))
        ∙ ap (flat_map grants_here) (sym (sorted_filtered (among (keys_of C)) (keys_of rows)) ∙ names)

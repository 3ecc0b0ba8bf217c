-- Drafts, their names, and the least of their deadlines.
use Rattle.std.proofs.Common.{◌≡◌, ◌∙◌, ap, refl, sym, subst, ℕ, zero, suc, ◌+◌, ◌<◌, ◌≤◌, ◌==◌, nat_lt, Bool, true, false, ◌&&◌, ◌||◌, cond, if◌then◌else◌, List, [], ◌∷◌, fold, length, map, get_or, set, slice_get, take, Option, None, Some, IsSome, IfSome, option_map, arith}
use Rattle.std.specs.List.{All, AllByRecursion, AllPairs, IsDistinct}
use Rattle.std.specs.Map.{keys_of, lookup, set_value}
use Rattle.std.specs.declared.cmp.Ordering.{Ordering}
use Rattle.std.specs.declared.cmp.Ordering.TheVariants.{Less, Equal, Greater}
use Rattle.std.specs.Ordering.{is_eq, is_lt, nat_cmp, ordering_reverse, ordering_then}
use Rattle.std.proofs.lemmas.Map.{NonePasses, keys-set_value}
use Rattle.std.proofs.lemmas.Map.Keys.{IsDistinct-from_apart, IsDistinct-head, IsDistinct-tail}
use Rattle.std.proofs.lemmas.List.Elements.{All-set}
use Rattle.mms_types.specs.KeyLaws.{keys_equal, keys_tie, keys_total}
use Rattle.mms_types.specs.Order.{key_eq, key_order}
use Rattle.mms_types.specs.declared.key.Key.{Key}
use Rattle.mms_types.specs.declared.moment.Moment.{Moment}
use Rattle.mms_types.proofs.Precedence.{key_eq_tells}
use Rattle.token_sem.proofs.Least.{Stands}
use Rattle.token_sem.specs.Semaphore.{least}
use Rattle.token_sem.specs.declared.entry.Deadline.{Deadline}
use Rattle.mms_time.specs.Deadlines.{deadlines_of, due_sooner, first_due, named_deadline, next_due, pick, until_only}
use Rattle.mms_time.specs.Semaphores.{Rows}
use Rattle.mms_time.specs.declared.row.SemaphoreRow.{SemaphoreRow}
use Rattle.mms_time.proofs.Soonest.{first_more, named_first}
use Rattle.sem_ticks.specs.Drafts.{become, comes_sooner, drafted, is_due, key_and_due, named, next_at, next_named, next_with, of_next, placed, sooner_next, AreDrafts, Ascend, HasPlace, IsNextOf, KeepsLeast}
use Rattle.sem_ticks.specs.Renewed.{put_at}
use Rattle.sem_ticks.specs.declared.drafts.Draft.{Draft}
use Rattle.sem_ticks.specs.declared.drafts.Next.{Next}
use Rattle.sem_ticks.proofs.Become.{become_more, other_name, own_name, set_at_name}
use Rattle.sem_ticks.proofs.NextOf.{from_all, in_map, of_map, place_stands, row_of_name, same_next, AreParted}

-- ---- the names of drafts

apart : (a b : Key) → key_order a b ≡ Less → key_eq a b ≡ false
apart a b e = keys_tie a b ∙ ap is_eq e

pub own_names : (ds : List Draft) → Ascend ds → IsDistinct key_eq (keys_of (drafted ds))
own_names ds ascend = IsDistinct-from_apart key_eq (keys_of (drafted ds)) (λ i j d before low. apart (get_or (keys_of (drafted ds)) i d) (get_or (keys_of (drafted ds)) j d) (ascend i j d before low))

-- the name at a place, by any default
key_at : (ds : List Draft) (i : ℕ) (a : Draft) (k : Key) → slice_get ds i ≡ Some a → (i < length (keys_of (drafted ds))) × (get_or (keys_of (drafted ds)) i k ≡ a.key.now)
key_at [] zero a k e = absurd (cc e)
key_at [] (suc i) a k e = absurd (cc e)
key_at (d ∷ ds) zero a k e = let same : d ≡ a = cc e in (omega arith, ap (λ (x : Draft). x.key.now) same)
key_at (d ∷ ds) (suc i) a k e = let r = key_at ds i a k e in let low = r.0 in (omega (arith, low), r.1)

pub ascends : (ds : List Draft) → Ascend ds → (i j : ℕ) (a b : Draft) → i < j → slice_get ds i ≡ Some a → slice_get ds j ≡ Some b → key_order a.key.now b.key.now ≡ Less
ascends ds ascend i j a b before at_i at_j =
    let first = key_at ds i a a.key.now at_i in
    let next = key_at ds j b a.key.now at_j in
    let low = next.0 in
    ap (λ (k : Key). key_order k b.key.now) (sym first.1)
    ∙ ap (key_order (get_or (keys_of (drafted ds)) i a.key.now)) (sym next.1)
    ∙ ascend i j a.key.now before low

-- a name that stands at a place is found
found_at : (rows : Rows) (p : ℕ) (k : Key) → slice_get (keys_of rows) p ≡ Some k → IsSome (lookup (key_eq k) rows)
found_at [] zero k e = absurd (cc e)
found_at [] (suc p) k e = absurd (cc e)
found_at (row ∷ rows) zero k e =
    let same : row.0 ≡ k = cc e in
    subst (λ (b : Bool). IsSome (cond b (Some row.1) (lookup (key_eq k) rows))) (sym ((key_eq_tells k row.0).1 (sym same))) refl
found_at (row ∷ rows) (suc p) k e = by_test (key_eq k row.0) (found_at rows p k e)
  where
    by_test : (b : Bool) → IsSome (lookup (key_eq k) rows) → IsSome (cond b (Some row.1) (lookup (key_eq k) rows))
    by_test true there = refl
    by_test false there = there

pub draft_found : (rows : Rows) (ds : List Draft) → All (HasPlace rows) ds → (d : Draft) → Stands ds d → IsSome (lookup (key_eq d.key.now) rows)
draft_found rows ds places d there = found_at rows d.place d.key.now (from_all (HasPlace rows) ds places d there)

-- the due ones of a table, and all
pub parted : (until : Moment) (rows : Rows) (ds : List Draft) → IsDistinct key_eq (keys_of rows) → AreDrafts until rows ds → AreParted until rows (drafted ds)
parted until rows ds distinct are = record {
  names = distinct;
  own = own_names ds are.ascend;
  within = λ row there. let r = in_map named ds row there in
      subst (λ (x : Key × SemaphoreRow). IsSome (lookup (key_eq x.0) rows)) r.2 (draft_found rows ds are.places r.0 r.1);
  others = λ row there none. from_all (λ row. lookup (key_eq row.0) (drafted ds) ≡ None → is_due until row.1 ≡ false) rows are.others row there none;
}

-- ---- the least deadline of drafts

by_order : (x : Deadline) (n : Next) (key : Key) → key_order n.due.key.now key ≡ Less → comes_sooner x n ≡ due_sooner (named_deadline key x) (next_named n)
by_order x n key before =
    by_tests (nat_lt x.at.0 n.due.at.0) (x.at.0 == n.due.at.0) (nat_lt x.kind n.due.kind) (x.kind == n.due.kind)
    ∙ ap (λ (o : Ordering). is_lt (ordering_then (ordering_then (ordering_then (nat_cmp x.at.0 n.due.at.0) (nat_cmp x.kind n.due.kind)) o) (nat_cmp x.number n.due.entry))) (sym after)
  where
    after : key_order key n.due.key.now ≡ Greater
    after = keys_total.antisymm key n.due.key.now ∙ ap ordering_reverse before

    by_tests : (s t u v : Bool) → (s || (t && u)) ≡ is_lt (ordering_then (ordering_then (ordering_then (cond s Less (cond t Equal Greater)) (cond u Less (cond v Equal Greater))) Greater) (nat_cmp x.number n.due.entry))
    by_tests true t u v = refl
    by_tests false false u v = refl
    by_tests false true true v = refl
    by_tests false true false true = refl
    by_tests false true false false = refl

pub sooner_least : (first : Option Next) (place : ℕ) (d : Draft) → KeepsLeast d → IfSome first (λ n. key_order n.due.key.now d.key.now ≡ Less)
    → option_map next_named (sooner_next first place d) ≡ pick due_sooner (option_map next_named first) (least due_sooner (deadlines_of (named d)))
sooner_least first place d keeps order =
    with_due d.due first order ∙ ap (pick due_sooner (option_map next_named first)) (named_first d.key.now d.row d.due keeps.least)
  where
    with_due : (o : Option Deadline) (first : Option Next) → IfSome first (λ n. key_order n.due.key.now d.key.now ≡ Less)
        → option_map next_named (next_with first place d o) ≡ pick due_sooner (option_map next_named first) (option_map (named_deadline d.key.now) o)
    with_due None first before = refl
    with_due (Some x) None before = refl
    with_due (Some x) (Some n) before = by_test (comes_sooner x n) ∙ ap (λ (b : Bool). Some (cond b (named_deadline d.key.now x) (next_named n))) (by_order x n d.key.now before)
      where
        by_test : (b : Bool) → option_map next_named (if b then Some (next_at place d x) else Some n) ≡ Some (cond b (named_deadline d.key.now x) (next_named n))
        by_test true = refl
        by_test false = refl

-- the draft at the place of a next deadline
pub record IsDraftOf (ds : List Draft) (n : Next) : Type 0 where
  pub draft : Draft
  pub at : slice_get ds n.place ≡ Some draft
  pub key : draft.key.now ≡ n.due.key.now
  pub due : draft.due ≡ Some (record { at = n.due.at; kind = n.due.kind; number = n.due.entry })

pub draft_of_next : (ds : List Draft) (n : Next) → IsNextOf ds n → IsDraftOf ds n
draft_of_next ds n of = by_draft (slice_get ds n.place) refl of
  where
    by_draft : (o : Option Draft) → slice_get ds n.place ≡ o
        → option_map key_and_due o ≡ Some (of_next n) → IsDraftOf ds n
    by_draft None e h = absurd (cc h)
    by_draft (Some d) e h =
        let same : key_and_due d ≡ of_next n = cc h in
        record { draft = d; at = e; key = ap (λ (x : Key × Option Deadline). x.0) same; due = ap (λ (x : Key × Option Deadline). x.1) same }

-- the names of the drafts before another come before its name
pub before_draft : (ds : List Draft) (place : ℕ) (d : Draft) (first : Option Next) → Ascend ds → slice_get ds place ≡ Some d → IfSome first (λ n. n.place < place) → IfSome first (IsNextOf ds)
    → IfSome first (λ n. key_order n.due.key.now d.key.now ≡ Less)
before_draft ds place d None ascend at within of = tt
before_draft ds place d (Some n) ascend at within of =
    let r = draft_of_next ds n of in
    ap (λ (k : Key). key_order k d.key.now) (sym r.key) ∙ ascends ds ascend n.place place r.draft d within r.at at

-- and what is sooner is one of them, or the other
pub next_of_more : (ds : List Draft) (place : ℕ) (d : Draft) (first : Option Next) → slice_get ds place ≡ Some d → IfSome first (IsNextOf ds) → IfSome (sooner_next first place d) (IsNextOf ds)
next_of_more ds place d first at of = with_due d.due refl first of
  where
    here : (x : Deadline) → d.due ≡ Some x → IsNextOf ds (next_at place d x)
    here x due = ap (option_map key_and_due) at ∙ ap (λ (o : Option Deadline). Some (d.key.now, o)) due

    with_due : (o : Option Deadline) → d.due ≡ o → (first : Option Next) → IfSome first (IsNextOf ds) → IfSome (next_with first place d o) (IsNextOf ds)
    with_due None e first of = of
    with_due (Some x) e None of = here x e
    with_due (Some x) e (Some n) of = by_test (comes_sooner x n)
      where
        by_test : (b : Bool) → IfSome (if b then Some (next_at place d x) else Some n) (IsNextOf ds)
        by_test true = here x e
        by_test false = of

pub within_more : (place : ℕ) (d : Draft) (first : Option Next) → IfSome first (λ n. n.place < place) → IfSome (sooner_next first place d) (λ n. n.place < place + 1)
within_more place d first within = with_due d.due first within
  where
    further : (n : ℕ) → n < place → n < place + 1
    further n low = omega (arith, low)

    with_due : (o : Option Deadline) (first : Option Next) → IfSome first (λ n. n.place < place) → IfSome (next_with first place d o) (λ n. n.place < place + 1)
    with_due None None within = tt
    with_due None (Some n) within = further n.place within
    with_due (Some x) None within = omega arith
    with_due (Some x) (Some n) within = by_test (comes_sooner x n)
      where
        by_test : (b : Bool) → IfSome (if b then Some (next_at place d x) else Some n) (λ m. m.place < place + 1)
        by_test true = omega arith
        by_test false = further n.place within

-- ---- drafts are put into their table

become_none : (rows : Rows) → become [] rows ≡ rows
become_none [] = refl
become_none (row ∷ rows) = ap (λ (rest : Rows). row ∷ rest) (become_none rows)

passes : (k : Key) (rows : Rows) → AllByRecursion (λ y. key_eq k y ≡ false) (keys_of rows) → NonePasses (key_eq k) rows
passes k [] all = tt
passes k (row ∷ rows) all = (all.0, passes k rows all.1)

pub all_put : (ds : List Draft) (rows : Rows) → IsDistinct key_eq (keys_of rows) → IsDistinct key_eq (keys_of (drafted ds)) → All (HasPlace rows) ds → fold put_at rows (map placed ds) ≡ become (drafted ds) rows
all_put [] rows distinct own places = sym (become_none rows)
all_put (d ∷ ds) rows distinct own places =
    let at : slice_get (keys_of rows) d.place ≡ Some d.key.now = places 0 d (omega arith) in
    let put = set_at_name d.place d.key.now d.row rows at distinct in
    let keys = keys-set_value (key_eq d.key.now) rows d.row in
    let here = set_value (key_eq d.key.now) rows d.row in
    ap (λ (r : Rows). fold put_at r (map placed ds)) put
    ∙ all_put ds here (subst (IsDistinct key_eq) (sym keys) distinct) (IsDistinct-tail key_eq d.key.now (keys_of (drafted ds)) own)
    (subst (λ (ks : List Key). All (λ (e : Draft). slice_get ks e.place ≡ Some e.key.now) ds) (sym keys) (λ k e low. places (suc k) e (omega (arith, low))))
    ∙ become_more d.key.now d.row (drafted ds) rows (passes d.key.now (drafted ds) (IsDistinct-head key_eq d.key.now (keys_of (drafted ds)) own)) distinct

-- ---- a draft changes

module _ (p : ℕ) (d e : Draft) (key : e.key.now ≡ d.key.now) where
  -- it stands in its name's place
  pub set_named : (ds : List Draft) → slice_get ds p ≡ Some d → IsDistinct key_eq (keys_of (drafted ds)) → drafted (set ds p e) ≡ set_value (key_eq d.key.now) (drafted ds) e.row
  set_named ds at own = from p ds at own
    where
      from : (p : ℕ) (ds : List Draft) → slice_get ds p ≡ Some d → IsDistinct key_eq (keys_of (drafted ds)) → drafted (set ds p e) ≡ set_value (key_eq d.key.now) (drafted ds) e.row
      from zero [] at own = absurd (cc at)
      from (suc p) [] at own = absurd (cc at)
      from zero (x ∷ ds) at own =
          let same : x.key.now ≡ d.key.now = let is : x ≡ d = cc at in ap (λ (z : Draft). z.key.now) is in
          let yes : key_eq d.key.now x.key.now ≡ true = (key_eq_tells d.key.now x.key.now).1 (sym same) in
          ap (λ (k : Key). (k, e.row) ∷ drafted ds) (key ∙ sym same)
          ∙ ap (λ (b : Bool). cond b ((x.key.now, e.row) ∷ drafted ds) (named x ∷ set_value (key_eq d.key.now) (drafted ds) e.row)) (sym yes)
      from (suc p) (x ∷ ds) at own =
          let no : key_eq d.key.now x.key.now ≡ false = keys_equal.symm d.key.now x.key.now ∙ later p ds at (IsDistinct-head key_eq x.key.now (keys_of (drafted ds)) own) in
          ap (λ (rest : Rows). named x ∷ rest) (from p ds at (IsDistinct-tail key_eq x.key.now (keys_of (drafted ds)) own))
          ∙ ap (λ (b : Bool). cond b ((x.key.now, e.row) ∷ drafted ds) (named x ∷ set_value (key_eq d.key.now) (drafted ds) e.row)) (sym no)
        where
          later : (p : ℕ) (ds : List Draft) → slice_get ds p ≡ Some d → AllByRecursion (λ y. key_eq x.key.now y ≡ false) (keys_of (drafted ds)) → key_eq x.key.now d.key.now ≡ false
          later zero [] at all = absurd (cc at)
          later (suc p) [] at all = absurd (cc at)
          later zero (y ∷ ds) at all = let is : y ≡ d = cc at in ap (λ (z : Draft). key_eq x.key.now z.key.now) (sym is) ∙ all.0
          later (suc p) (y ∷ ds) at all = later p ds at all.1

  -- what holds of it holds of all where it held of the others
  each_set : (P : Draft → Type 0) → P e → (ds : List Draft) → All P ds → All P (set ds p e)
  each_set P here ds all = All-set P ds p e here all

  pub drafts_set : (until : Moment) (rows : Rows) (ds : List Draft) → slice_get ds p ≡ Some d → e.place ≡ d.place → KeepsLeast e → AreDrafts until rows ds → AreDrafts until rows (set ds p e)
  drafts_set until rows ds at place keeps are =
      let own = own_names ds are.ascend in
      let now = set_named ds at own in
      let there : Stands ds d = place_stands ds p d at in
      let found : lookup (key_eq d.key.now) (drafted ds) ≡ Some d.row = row_of_name (drafted ds) d.key.now d.row own (of_map named ds d there) in
      let keys : keys_of (drafted (set ds p e)) ≡ keys_of (drafted ds) = ap keys_of now ∙ keys-set_value (key_eq d.key.now) (drafted ds) e.row in
      record {
        places = each_set (HasPlace rows) (ap (slice_get (keys_of rows)) place ∙ from_all (HasPlace rows) ds are.places d there ∙ ap Some (sym key)) ds are.places;
        ascend = subst (AllPairs (λ a b. key_order a b ≡ Less)) (sym keys) are.ascend;
        least = each_set KeepsLeast keeps ds are.least;
        others = each_other rows are.others (λ q none. was_none q found (ap (lookup (key_eq q)) (sym now) ∙ none) (key_eq d.key.now q) refl);
      }
    where
      was_none : (q : Key) → lookup (key_eq d.key.now) (drafted ds) ≡ Some d.row → lookup (key_eq q) (set_value (key_eq d.key.now) (drafted ds) e.row) ≡ None
          → (b : Bool) → key_eq d.key.now q ≡ b → lookup (key_eq q) (drafted ds) ≡ None
      was_none q found none true same =
          absurd (cc (sym (own_name d.key.now q e.row (drafted ds) same (subst IsSome (sym found) refl)) ∙ none))
      was_none q found none false differ =
          sym (other_name d.key.now q e.row (drafted ds) differ (subst IsSome (sym found) refl)) ∙ none

      each_other : (base : Rows) → All (λ row. lookup (key_eq row.0) (drafted ds) ≡ None → is_due until row.1 ≡ false) base
          → ((q : Key) → lookup (key_eq q) (drafted (set ds p e)) ≡ None → lookup (key_eq q) (drafted ds) ≡ None)
          → All (λ row. lookup (key_eq row.0) (drafted (set ds p e)) ≡ None → is_due until row.1 ≡ false) base
      each_other base all back k row low none = all k row low (back (get_or base k row).0 none)

-- ---- the walk over drafts

pub get_some : {X : Type 0} (xs : List X) (i : ℕ) (x : X) → i < length xs → x ≡ get_or xs i x → slice_get xs i ≡ Some x
get_some [] i x low is = absurd (omega (arith, low))
get_some (y ∷ xs) zero x low is = ap Some (sym is)
get_some (y ∷ xs) (suc i) x low is = get_some xs i x (omega (arith, low)) is

pub got : {X : Type 0} (xs : List X) (i : ℕ) (x y : X) → slice_get xs i ≡ Some x → get_or xs i y ≡ x
got [] zero x y e = absurd (cc e)
got [] (suc i) x y e = absurd (cc e)
got (z ∷ xs) zero x y e = cc e
got (z ∷ xs) (suc i) x y e = got xs i x y e

named_at : (ds : List Draft) (i : ℕ) (d : Draft) → slice_get ds i ≡ Some d → slice_get (drafted ds) i ≡ Some (named d)
named_at [] zero d e = absurd (cc e)
named_at [] (suc i) d e = absurd (cc e)
named_at (x ∷ ds) zero d e = let same : x ≡ d = cc e in ap (λ (z : Draft). Some (named z)) same
named_at (x ∷ ds) (suc i) d e = named_at ds i d e

pub least_more : (ds : List Draft) (place : ℕ) (d : Draft) (first r : Option Next) → Ascend ds → All KeepsLeast ds → slice_get ds place ≡ Some d → IfSome first (λ n. n.place < place)
    → IfSome first (IsNextOf ds) → option_map next_named first ≡ first_due (take place (drafted ds)) → r ≡ sooner_next first place d → option_map next_named r ≡ first_due (take (place + 1) (drafted ds))
least_more ds place d first r ascend keeps at within of before is =
    let here = from_all KeepsLeast ds keeps d (place_stands ds place d at) in
    first_more (drafted ds) place d.key.now d.row (option_map next_named first) (least due_sooner (deadlines_of (named d))) (option_map next_named r) (named_at ds place d at) before refl
    (ap (option_map next_named) is ∙ sooner_least first place d here (before_draft ds place d first ascend at within of))

pub all_taken : (ds : List Draft) (n : ℕ) → length ds ≤ n → take n (drafted ds) ≡ drafted ds
all_taken [] zero low = refl
all_taken [] (suc n) low = refl
all_taken (d ∷ ds) zero low = absurd (omega (arith, low))
all_taken (d ∷ ds) (suc n) low = ap (λ (rest : Rows). named d ∷ rest) (all_taken ds n (omega (arith, low)))

-- the least by a moment, of drafts and of all
pub same_until : (until : Moment) (rows : Rows) (ds : List Draft) (first : Option Next) → IsDistinct key_eq (keys_of rows) → AreDrafts until rows ds → option_map next_named first ≡ first_due (drafted ds)
    → until_only until (option_map next_named first) ≡ next_due until (become (drafted ds) rows)
same_until until rows ds first distinct are is = ap (until_only until) is ∙ sym (same_next until rows (drafted ds) (parted until rows ds distinct are))

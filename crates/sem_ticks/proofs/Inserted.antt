-- One draft more, at the place of its name: the drafts are as before, and so is what all semaphores have become.
use Rattle.std.proofs.Common.{◌≡◌, ◌≢◌, ◌∙◌, ap, refl, sym, subst, ℕ, zero, suc, ◌+◌, ◌<◌, ◌≤◌, nat_lt, inl, inr, Bool, true, false, ◌||◌, cond, if◌then◌else◌, List, [], ◌∷◌, insert, length, get_or, slice_get, Option, None, Some, is_some, unwrap_or, arith}
use Rattle.std.specs.List.{All, IsDistinct, list_any}
use Rattle.std.specs.Map.{keys_of, lookup}
use Rattle.std.specs.Ordering.{is_lt}
use Rattle.std.specs.declared.cmp.Ordering.{Ordering}
use Rattle.std.specs.declared.cmp.Ordering.TheVariants.{Less, Equal, Greater}
use Rattle.std.proofs.lemmas.Bool.Decides.{nat_tests}
use Rattle.std.proofs.lemmas.List.Elements.{All-cons, All-head, All-nil, All-tail}
use Rattle.std.proofs.lemmas.List.Kept.{AllPairs-cons}
use Rattle.std.proofs.lemmas.List.Sorted.{All-permutation, IsPermutation-insert}
use Rattle.mms_types.specs.KeyLaws.{keys_total}
use Rattle.mms_types.specs.Order.{key_eq, key_order}
use Rattle.mms_types.specs.declared.key.Key.{Key}
use Rattle.mms_types.specs.declared.moment.Moment.{Moment}
use Rattle.mms_types.proofs.Precedence.{key_eq_tells}
use Rattle.token_sem.proofs.Least.{Stands}
use Rattle.mms_time.specs.Semaphores.{Rows}
use Rattle.mms_time.specs.declared.row.SemaphoreRow.{SemaphoreRow}
use Rattle.sem_ticks.specs.Drafts.{become, drafted, named, AreDrafts, Ascend, HasPlace, KeepsLeast}
use Rattle.sem_ticks.specs.Losing.{has_entry, names_before, with_draft, HasNone}
use Rattle.sem_ticks.specs.declared.drafts.Draft.{Draft}
use Rattle.sem_ticks.proofs.Made.{in_order, key_of_place}
use Rattle.sem_ticks.proofs.NextOf.{place_stands, row_of_name}

-- ---- what holds of each

pub each_with : (P : Draft → Type 0) (new : Draft) (ds : List Draft) → P new → All P ds → All P (with_draft new ds)
each_with P new ds here all =
    All-permutation P (new ∷ ds) (with_draft new ds) (IsPermutation-insert ds (names_before new.key.now ds) new) (All-cons P new ds here all)

of_keys : (P : Key → Type 0) (ds : List Draft) → All P (keys_of (drafted ds)) → All (λ d. P d.key.now) ds
of_keys P [] all = All-nil (λ (d : Draft). P d.key.now)
of_keys P (d ∷ ds) all =
    All-cons (λ (d : Draft). P d.key.now) d ds (All-head P d.key.now (keys_of (drafted ds)) all)
    (of_keys P ds (All-tail P d.key.now (keys_of (drafted ds)) all))

to_keys : (P : Key → Type 0) (ds : List Draft) → All (λ d. P d.key.now) ds → All P (keys_of (drafted ds))
to_keys P [] all = All-nil P
to_keys P (d ∷ ds) all =
    All-cons P d.key.now (keys_of (drafted ds)) (All-head (λ (d : Draft). P d.key.now) d ds all)
    (to_keys P ds (All-tail (λ (d : Draft). P d.key.now) d ds all))

-- ---- the row of a name

pub named_by : (k : Key) (ds : List Draft) → list_any (λ d. key_eq k d.key.now) ds ≡ is_some (lookup (key_eq k) (drafted ds))
named_by k [] = refl
named_by k (d ∷ ds) = by_name (key_eq k d.key.now) (named_by k ds)
  where
    by_name : (b : Bool) → list_any (λ d. key_eq k d.key.now) ds ≡ is_some (lookup (key_eq k) (drafted ds))
        → (b || list_any (λ d. key_eq k d.key.now) ds) ≡ is_some (cond b (Some d.row) (lookup (key_eq k) (drafted ds)))
    by_name true rest = refl
    by_name false rest = rest

pub none_named : (o : Option SemaphoreRow) → is_some o ≡ false → o ≡ None
none_named None e = refl
none_named (Some x) e = absurd (cc e)

pub some_named : (o : Option SemaphoreRow) → is_some o ≡ true → o ≢ None
some_named None e none = cc e
some_named (Some x) e none = cc none

module _ (new : Draft) (q : Key) where
  abbrev m : Bool
  m = key_eq q new.key.now

  both : (e m : Bool) (x y : SemaphoreRow) (o : Option SemaphoreRow) → (m ≡ true → cond e (Some x) o ≡ None)
      → cond e (Some x) (cond m (Some y) o) ≡ cond m (Some y) (cond e (Some x) o)
  both true true x y o none = absurd (cc (none refl))
  both true false x y o none = refl
  both false true x y o none = refl
  both false false x y o none = refl

  later : (e : Bool) (x : SemaphoreRow) (o : Option SemaphoreRow) → cond e (Some x) o ≡ None → o ≡ None
  later true x o none = absurd (cc none)
  later false x o none = none

  pub lookup_with : (ds : List Draft) → (m ≡ true → lookup (key_eq q) (drafted ds) ≡ None)
      → lookup (key_eq q) (drafted (with_draft new ds)) ≡ cond m (Some new.row) (lookup (key_eq q) (drafted ds))
  lookup_with [] none = refl
  lookup_with (d ∷ ds) none =
      by_test (is_lt (key_order d.key.now new.key.now))
      (lookup_with ds (λ same. later (key_eq q d.key.now) d.row (lookup (key_eq q) (drafted ds)) (none same)))
    where
      by_test : (b : Bool) → lookup (key_eq q) (drafted (with_draft new ds)) ≡ cond m (Some new.row) (lookup (key_eq q) (drafted ds))
          → lookup (key_eq q) (drafted (insert (d ∷ ds) (if b then suc (names_before new.key.now ds) else 0) new))
          ≡ cond m (Some new.row) (lookup (key_eq q) (drafted (d ∷ ds)))
      by_test true rest =
          ap (λ (o : Option SemaphoreRow). cond (key_eq q d.key.now) (Some d.row) o) rest
          ∙ both (key_eq q d.key.now) m d.row new.row (lookup (key_eq q) (drafted ds)) none
      by_test false rest = refl

-- ---- in order of names

less_is : (o : Ordering) → is_lt o ≡ true → o ≡ Less
less_is Less e = refl
less_is Equal e = absurd (cc e)
less_is Greater e = absurd (cc e)

abbrev IsBefore : Key → Key → Type 0
IsBefore a b = key_order a b ≡ Less

first_ascends : (d : Draft) (ds : List Draft) → Ascend (d ∷ ds) → All (IsBefore d.key.now) (keys_of (drafted ds))
first_ascends d ds ascend = λ k x low. ascend 0 (suc k) x (omega arith) (omega (arith, low))

rest_ascends : (d : Draft) (ds : List Draft) → Ascend (d ∷ ds) → Ascend ds
rest_ascends d ds ascend = λ i j x before low. ascend (suc i) (suc j) x (omega (arith, before)) (omega (arith, low))

pub ascend_with : (new : Draft) (ds : List Draft) → lookup (key_eq new.key.now) (drafted ds) ≡ None → Ascend ds → Ascend (with_draft new ds)
ascend_with new [] none ascend = AllPairs-cons IsBefore new.key.now [] (All-nil (IsBefore new.key.now)) ascend
ascend_with new (d ∷ ds) none ascend =
    by_test (is_lt (key_order d.key.now new.key.now)) refl (ascend_with new ds apart.1 (rest_ascends d ds ascend))
  where
    by_name : (e : Bool) → cond e (Some d.row) (lookup (key_eq new.key.now) (drafted ds)) ≡ None → (e ≡ false) × (lookup (key_eq new.key.now) (drafted ds) ≡ None)
    by_name true is = absurd (cc is)
    by_name false is = (refl, is)

    apart : (key_eq new.key.now d.key.now ≡ false) × (lookup (key_eq new.key.now) (drafted ds) ≡ None)
    apart = by_name (key_eq new.key.now d.key.now) none

    by_test : (b : Bool) → is_lt (key_order d.key.now new.key.now) ≡ b → Ascend (with_draft new ds)
        → Ascend (insert (d ∷ ds) (if b then suc (names_before new.key.now ds) else 0) new)
    by_test true is rest =
        let after = each_with (λ (x : Draft). IsBefore d.key.now x.key.now) new ds (less_is (key_order d.key.now new.key.now) is)
        (of_keys (IsBefore d.key.now) ds (first_ascends d ds ascend)) in
        AllPairs-cons IsBefore d.key.now (keys_of (drafted (with_draft new ds))) (to_keys (IsBefore d.key.now) (with_draft new ds) after) rest
    by_test false is rest =
        let one : IsBefore new.key.now d.key.now = in_order new.key.now d.key.now is apart.0 in
        let others : All (IsBefore new.key.now) (keys_of (drafted ds)) =
        λ k x low. keys_total.trans new.key.now d.key.now (get_or (keys_of (drafted ds)) k x) one (first_ascends d ds ascend k x low) in
        AllPairs-cons IsBefore new.key.now (keys_of (drafted (d ∷ ds))) (All-cons (IsBefore new.key.now) d.key.now (keys_of (drafted ds)) one others) ascend

-- ---- what all semaphores have become

become_same : (C D rows : Rows) → ((row : Key × SemaphoreRow) → Stands rows row → unwrap_or (lookup (key_eq row.0) C) row.1 ≡ unwrap_or (lookup (key_eq row.0) D) row.1)
    → become C rows ≡ become D rows
become_same C D [] same = refl
become_same C D (row ∷ rows) same =
    ap (λ (x : SemaphoreRow). (row.0, x) ∷ become C rows) (same row (inl refl))
    ∙ ap (λ (rest : Rows). (row.0, unwrap_or (lookup (key_eq row.0) D) row.1) ∷ rest) (become_same C D rows (λ r there. same r (inr there)))

module _ (new : Draft) (ds : List Draft) (none : lookup (key_eq new.key.now) (drafted ds) ≡ None) where
  -- no draft had that name
  none_so : (q : Key) → key_eq q new.key.now ≡ true → lookup (key_eq q) (drafted ds) ≡ None
  none_so q same = ap (λ (k : Key). lookup (key_eq k) (drafted ds)) ((key_eq_tells q new.key.now).0 same) ∙ none

  -- whatever no draft names, none named before
  pub fewer : (q : Key) → lookup (key_eq q) (drafted (with_draft new ds)) ≡ None → lookup (key_eq q) (drafted ds) ≡ None
  fewer q is = by_name (key_eq q new.key.now) (sym (lookup_with new q ds (none_so q)) ∙ is)
    where
      by_name : (b : Bool) → cond b (Some new.row) (lookup (key_eq q) (drafted ds)) ≡ None → lookup (key_eq q) (drafted ds) ≡ None
      by_name true e = absurd (cc e)
      by_name false e = e

  -- and it is named itself
  pub itself : lookup (key_eq new.key.now) (drafted (with_draft new ds)) ≡ Some new.row
  itself =
      lookup_with new new.key.now ds (none_so new.key.now)
      ∙ ap (λ (b : Bool). cond b (Some new.row) (lookup (key_eq new.key.now) (drafted ds))) ((key_eq_tells new.key.now new.key.now).1 refl)

  pub become_with : (rows : Rows) → IsDistinct key_eq (keys_of rows) → Stands rows (named new) → become (drafted (with_draft new ds)) rows ≡ become (drafted ds) rows
  become_with rows distinct there = become_same (drafted (with_draft new ds)) (drafted ds) rows same
    where
      same : (row : Key × SemaphoreRow) → Stands rows row → unwrap_or (lookup (key_eq row.0) (drafted (with_draft new ds))) row.1 ≡ unwrap_or (lookup (key_eq row.0) (drafted ds)) row.1
      same row stands =
          ap (λ (o : Option SemaphoreRow). unwrap_or o row.1) (lookup_with new row.0 ds (none_so row.0)) ∙ by_name (key_eq row.0 new.key.now) refl
        where
          by_name : (b : Bool) → key_eq row.0 new.key.now ≡ b → unwrap_or (cond b (Some new.row) (lookup (key_eq row.0) (drafted ds))) row.1 ≡ unwrap_or (lookup (key_eq row.0) (drafted ds)) row.1
          by_name true e =
              let name : row.0 ≡ new.key.now = (key_eq_tells row.0 new.key.now).0 e in
              let its : lookup (key_eq row.0) rows ≡ Some row.1 = row_of_name rows row.0 row.1 distinct stands in
              let one : Some new.row ≡ Some row.1 =
              sym (row_of_name rows new.key.now new.row distinct there) ∙ ap (λ (k : Key). lookup (key_eq k) rows) (sym name) ∙ its in
              let is : new.row ≡ row.1 = cc one in
              is ∙ ap (λ (o : Option SemaphoreRow). unwrap_or o row.1) (sym (none_so row.0 e))
          by_name false e = refl

  pub drafts_with : (until : Moment) (rows : Rows) → HasPlace rows new → KeepsLeast new → AreDrafts until rows ds → AreDrafts until rows (with_draft new ds)
  drafts_with until rows place least are = record {
    places = each_with (HasPlace rows) new ds place are.places;
    ascend = ascend_with new ds none are.ascend;
    least = each_with KeepsLeast new ds least are.least;
    others = λ k row low is. are.others k row low (fewer (get_or rows k row).0 is);
  }

-- ---- the walk over all semaphores

-- of those before a place that no draft names none has an entry of the client
abbrev pub HasNoneBefore : ℕ → ℕ → Rows → List Draft → Type 0
HasNoneBefore client place rows ds =
    (p : ℕ) (row : Key × SemaphoreRow) → p < place → slice_get rows p ≡ Some row → lookup (key_eq row.0) (drafted ds) ≡ None → has_entry client row.1 ≡ false

pub none_more : (client place : ℕ) (rows : Rows) (ds es : List Draft) (row : Key × SemaphoreRow) → HasNoneBefore client place rows ds
    → ((q : Key) → lookup (key_eq q) (drafted es) ≡ None → lookup (key_eq q) (drafted ds) ≡ None) → slice_get rows place ≡ Some row
    → (lookup (key_eq row.0) (drafted es) ≡ None → has_entry client row.1 ≡ false) → HasNoneBefore client (place + 1) rows es
none_more client place rows ds es row before back at here p r low there none = by_test (nat_lt p place) refl
  where
    by_test : (b : Bool) → nat_lt p place ≡ b → has_entry client r.1 ≡ false
    by_test true e = before p r (grind (arith, nat_tests)) there (back r.0 none)
    by_test false e =
        let same : p ≡ place = (let high : place ≤ p = grind (arith, nat_tests) in omega (arith, high, low)) in
        let one : Some r ≡ Some row = sym there ∙ ap (slice_get rows) same ∙ at in
        let is : row ≡ r = cc one in
        subst (λ (x : Key × SemaphoreRow). has_entry client x.1 ≡ false) is
        (here (subst (λ (x : Key × SemaphoreRow). lookup (key_eq x.0) (drafted es) ≡ None) (sym is) none))

at_or : {X : Type 0} (xs : List X) (k : ℕ) (x : X) → k < length xs → slice_get xs k ≡ Some (get_or xs k x)
at_or [] k x low = absurd (omega (arith, low))
at_or (y ∷ xs) zero x low = refl
at_or (y ∷ xs) (suc k) x low = at_or xs k x (omega (arith, low))

pub none_in_all : (client place : ℕ) (rows : Rows) (ds : List Draft) → length rows ≤ place → HasNoneBefore client place rows ds → HasNone client rows ds
none_in_all client place rows ds end before =
    λ k row low none. before k (get_or rows k row) (omega (arith, low, end)) (at_or rows k row low) none

-- ---- one step of it

module _ (until : Moment) (client place : ℕ) (rows : Rows) (before ds : List Draft) (key : Key) (row : SemaphoreRow)
    (at : slice_get rows place ≡ Some (key, row))
    (none : HasNoneBefore client place rows ds) where
  -- the semaphore at the place comes to the drafts
  module _ (new : Draft) (es : List Draft) (distinct : IsDistinct key_eq (keys_of rows)) (are : AreDrafts until rows ds)
      (same : become (drafted ds) rows ≡ become (drafted before) rows)
      (name : new.key.now ≡ key) (its : new.place ≡ place) (copy : slice_get rows place ≡ Some (named new)) (least : KeepsLeast new)
      (unnamed : lookup (key_eq key) (drafted ds) ≡ None) (is : es ≡ with_draft new ds) where
    unnamed_so : lookup (key_eq new.key.now) (drafted ds) ≡ None
    unnamed_so = ap (λ (k : Key). lookup (key_eq k) (drafted ds)) name ∙ unnamed

    has_place : HasPlace rows new
    has_place = ap (slice_get (keys_of rows)) its ∙ key_of_place rows place (named new) copy

    pub drafts_then : AreDrafts until rows es
    drafts_then = subst (AreDrafts until rows) (sym is) (drafts_with new ds unnamed_so until rows has_place least are)

    pub same_then : become (drafted es) rows ≡ become (drafted before) rows
    same_then =
        ap (λ (l : List Draft). become (drafted l) rows) is
        ∙ become_with new ds unnamed_so rows distinct (place_stands rows place (named new) copy)
        ∙ same

    named_now : lookup (key_eq key) (drafted es) ≡ Some new.row
    named_now =
        ap (λ (l : List Draft). lookup (key_eq key) (drafted l)) is
        ∙ ap (λ (k : Key). lookup (key_eq k) (drafted (with_draft new ds))) (sym name)
        ∙ itself new ds unnamed_so

    pub none_then : HasNoneBefore client (place + 1) rows es
    none_then =
        none_more client place rows ds es (key, row) none
        (λ q e. fewer new ds unnamed_so q (ap (λ (l : List Draft). lookup (key_eq q) (drafted l)) (sym is) ∙ e)) at
        (λ e. absurd (cc (sym named_now ∙ e)))

  -- or it is among them
  pub none_named_then : list_any (λ d. key_eq key d.key.now) ds ≡ true → HasNoneBefore client (place + 1) rows ds
  none_named_then is =
      none_more client place rows ds ds (key, row) none (λ q e. e) at
      (λ e. absurd (some_named (lookup (key_eq key) (drafted ds)) (sym (named_by key ds) ∙ is) e))

  -- or the client has no entry of it
  pub none_without : has_entry client row ≡ false → HasNoneBefore client (place + 1) rows ds
  none_without is = none_more client place rows ds ds (key, row) none (λ q e. e) at (λ e. is)

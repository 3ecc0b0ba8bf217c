-- The drafts that are made of the semaphores that are due.
use Rattle.std.proofs.Common.{◌≡◌, ◌≢◌, ◌∙◌, ap, refl, sym, subst, ℕ, zero, suc, ◌+◌, ◌<◌, ◌≤◌, inl, inr, Bor, Bool, true, false, cond, List, [], ◌∷◌, ◌++◌, append-nil, filter, length, map, get_or, slice_get, take, Option, None, Some, IsSome, is_some, unwrap_or, arith}
use Rattle.std.specs.List.{All, AllPairs, Contains, IsDistinct}
use Rattle.std.specs.List.Sorted.{IsPermutation, IsSorted}
use Rattle.std.specs.Map.{keys_of, lookup}
use Rattle.std.specs.declared.cmp.Ordering.{Ordering}
use Rattle.std.specs.declared.cmp.Ordering.TheVariants.{Less, Equal, Greater}
use Rattle.std.specs.Ordering.{is_eq, is_lt, ordering_reverse}
use Rattle.std.proofs.lemmas.List.{length-map}
use Rattle.std.proofs.lemmas.List.Elements.{All-push}
use Rattle.std.proofs.lemmas.List.Sorted.{Contains-permutation, IsPermutation-map, ranks_by, sorted_far}
use Rattle.std.proofs.lemmas.Map.Keys.{IsDistinct-IsPermutation, apart_from_distinct}
use Rattle.std.proofs.lemmas.Map.Made.{IsDistinct-keys_filter}
use Rattle.std.proofs.lemmas.Map.Views.{IsSome-lookup_from_Contains}
use Rattle.mms_types.specs.KeyLaws.{keys_equal, keys_tie, keys_total}
use Rattle.mms_types.specs.Order.{key_eq, key_order}
use Rattle.mms_types.specs.declared.key.Key.{Key}
use Rattle.mms_types.specs.declared.moment.Moment.{Moment}
use Rattle.token_sem.proofs.Least.{Stands}
use Rattle.mms_time.specs.Semaphores.{Rows}
use Rattle.mms_time.specs.declared.row.SemaphoreRow.{SemaphoreRow}
use Rattle.mms_time.proofs.Names.{map_more}
use Rattle.object_names.proofs.Listed.{take_next}
use Rattle.sem_ticks.specs.Drafts.{become, drafted, due_rows, is_due, named, AreDrafts, IsPlaced, KeepsLeast}
use Rattle.sem_ticks.specs.declared.drafts.Draft.{Draft}
use Rattle.sem_ticks.proofs.NextOf.{from_all, in_map, name_of_row, place_stands, row_of_name}

abbrev pub place_key : Bor Key × ℕ → Key
place_key p = p.0.now

abbrev pub pair_of : Draft → Key × ℕ
pair_of d = (d.key.now, d.place)

abbrev pub pair_meant : Bor Key × ℕ → Key × ℕ
pair_meant p = (p.0.now, p.1)

-- ---- places, one after the other

pub whole : {X : Type 0} (xs : List X) (n : ℕ) → length xs ≤ n → take n xs ≡ xs
whole [] zero low = refl
whole [] (suc n) low = refl
whole (x ∷ xs) zero low = absurd (omega (arith, low))
whole {X} (x ∷ xs) (suc n) low = ap (λ (rest : List X). x ∷ rest) (whole xs n (omega (arith, low)))

pub pairs_more : (ds new : List Draft) (ps : List (Bor Key × ℕ)) (i : ℕ) (d : Draft) (p : Bor Key × ℕ) → new ≡ ds ++ d ∷ [] → slice_get ps i ≡ Some p → d.key.now ≡ p.0.now → d.place ≡ p.1
    → map pair_of ds ≡ map pair_meant (take i ps) → map pair_of new ≡ map pair_meant (take (i + 1) ps)
pairs_more ds new ps i d p is at key place before =
    let one : pair_of d ≡ pair_meant p = λ j. (key j, place j) in
    ap (map pair_of) is ∙ map_more pair_of ds d ∙ ap (λ (l : List (Key × ℕ)). l ++ pair_of d ∷ []) before
    ∙ ap (λ (x : Key × ℕ). map pair_meant (take i ps) ++ x ∷ []) one
    ∙ sym (map_more pair_meant (take i ps) p) ∙ ap (map pair_meant) (sym (take_next ps i p at))

-- ---- names in order

-- of two that differ one comes first
pub in_order : (a b : Key) → is_lt (key_order b a) ≡ false → key_eq a b ≡ false → key_order a b ≡ Less
in_order a b not_after differ = by_order (key_order a b) refl
  where
    by_order : (o : Ordering) → key_order a b ≡ o → o ≡ Less
    by_order Less e = refl
    by_order Equal e = absurd (cc (sym differ ∙ keys_tie a b ∙ ap is_eq e))
    by_order Greater e = absurd (cc (sym not_after ∙ ap is_lt (keys_total.antisymm b a ∙ ap ordering_reverse e)))

get_map : {X Y : Type 0} (f : X → Y) (xs : List X) (i : ℕ) (x : X) (y : Y) → i < length xs → get_or (map f xs) i y ≡ f (get_or xs i x)
get_map f [] i x y low = absurd (omega (arith, low))
get_map f (z ∷ xs) zero x y low = refl
get_map f (z ∷ xs) (suc i) x y low = get_map f xs i x y (omega (arith, low))

ascending : (ps : List (Bor Key × ℕ)) → IsSorted (λ a b. key_order a.0.now b.0.now) ps → IsDistinct key_eq (map place_key ps) → AllPairs (λ a b. key_order a b ≡ Less) (map place_key ps)
ascending [] sorted distinct i j k before low = absurd (omega (arith, low))
ascending (p ∷ ps) sorted distinct i j k before low =
    let long = length-map (p ∷ ps) place_key in
    let near : i < length (p ∷ ps) = omega (arith, long, low, before) in
    let far : j < length (p ∷ ps) = omega (arith, long, low) in
    let at_i = get_map place_key (p ∷ ps) i p k near in
    let at_j = get_map place_key (p ∷ ps) j p k far in
    let not_after = sorted_far (λ a b. is_lt (key_order a.0.now b.0.now)) (ranks_by keys_total place_key) (p ∷ ps) sorted i j p (omega (arith, before)) far in
    in_order (get_or (map place_key (p ∷ ps)) i k) (get_or (map place_key (p ∷ ps)) j k) (ap (λ (x : Key). is_lt (key_order x (get_or (map place_key (p ∷ ps)) i k))) at_j ∙ ap (λ (y : Key). is_lt (key_order (place_key (get_or (p ∷ ps) j p)) y)) at_i ∙ not_after)
    (apart_from_distinct key_eq (map place_key (p ∷ ps)) i j k distinct before low)

-- ---- those that are due

pub key_of_place : (rows : Rows) (p : ℕ) (row : Key × SemaphoreRow) → slice_get rows p ≡ Some row → slice_get (keys_of rows) p ≡ Some row.0
key_of_place [] zero row e = absurd (cc e)
key_of_place [] (suc p) row e = absurd (cc e)
key_of_place (r ∷ rows) zero row e = let same : r ≡ row = cc e in ap (λ (x : Key × SemaphoreRow). Some x.0) same
key_of_place (r ∷ rows) (suc p) row e = key_of_place rows p row e

filter_more : {X : Type 0} (p : X → Bool) (xs : List X) (x : X) → filter p (xs ++ x ∷ []) ≡ filter p xs ++ cond (p x) (x ∷ []) []
filter_more p [] x = by_test (p x)
  where
    by_test : (b : Bool) → cond b (x ∷ []) [] ≡ cond b (x ∷ []) []
    by_test b = refl
filter_more p (y ∷ xs) x = by_test (p y) (filter_more p xs x)
  where
    by_test : (b : Bool) → filter p (xs ++ x ∷ []) ≡ filter p xs ++ cond (p x) (x ∷ []) []
        → cond b (y ∷ filter p (xs ++ x ∷ [])) (filter p (xs ++ x ∷ [])) ≡ cond b (y ∷ filter p xs) (filter p xs) ++ cond (p x) (x ∷ []) []
    by_test true rest = ap (λ l. y ∷ l) rest
    by_test false rest = rest

due_one_more : (until : Moment) (rows : Rows) (i : ℕ) (row : Key × SemaphoreRow) (b : Bool) → slice_get rows i ≡ Some row → is_due until row.1 ≡ b
    → due_rows until (take (i + 1) rows) ≡ due_rows until (take i rows) ++ cond b (row ∷ []) []
due_one_more until rows i row b at is =
    ap (due_rows until) (take_next rows i row at) ∙ filter_more (λ row. is_due until row.1) (take i rows) row
    ∙ ap (λ (b : Bool). due_rows until (take i rows) ++ cond b (row ∷ []) []) is

pub due_more : (until : Moment) (rows : Rows) (i : ℕ) (key : Bor Key) (row : SemaphoreRow) (due new : List (Bor Key × ℕ)) → slice_get rows i ≡ Some (key.now, row) → is_due until row ≡ true
    → map place_key due ≡ keys_of (due_rows until (take i rows)) → new ≡ due ++ (key, i) ∷ [] → map place_key new ≡ keys_of (due_rows until (take (i + 1) rows))
due_more until rows i key row due new at in_time before is =
    ap (map place_key) is ∙ map_more place_key due (key, i) ∙ ap (λ (ks : List Key). ks ++ key.now ∷ []) before
    ∙ sym (map_more (λ (r : Key × SemaphoreRow). r.0) (due_rows until (take i rows)) (key.now, row))
    ∙ ap keys_of (sym (due_one_more until rows i (key.now, row) true at in_time))

pub undue_more : (until : Moment) (rows : Rows) (i : ℕ) (key : Bor Key) (row : SemaphoreRow) (due : List (Bor Key × ℕ)) → slice_get rows i ≡ Some (key.now, row) → is_due until row ≡ false
    → map place_key due ≡ keys_of (due_rows until (take i rows)) → map place_key due ≡ keys_of (due_rows until (take (i + 1) rows))
undue_more until rows i key row due at out before =
    before ∙ ap keys_of (sym (append-nil (due_rows until (take i rows)))) ∙ ap keys_of (sym (due_one_more until rows i (key.now, row) false at out))

pub placed_more : (rows : Rows) (i : ℕ) (key : Bor Key) (row : SemaphoreRow) (due new : List (Bor Key × ℕ)) → slice_get rows i ≡ Some (key.now, row) → All (IsPlaced rows) due → new ≡ due ++ (key, i) ∷ []
    → All (IsPlaced rows) new
placed_more rows i key row due new at all is =
    subst (All (IsPlaced rows)) (sym is) (All-push (IsPlaced rows) due (key, i) all (key_of_place rows i (key.now, row) at))

pub some_due : (until : Moment) (rows : Rows) (i : ℕ) (row : Key × SemaphoreRow) → slice_get rows i ≡ Some row → is_due until row.1 ≡ true → due_rows until rows ≢ []
some_due until [] zero row at in_time none = absurd (cc at)
some_due until [] (suc i) row at in_time none = absurd (cc at)
some_due until (r ∷ rows) zero row at in_time none =
    let same : r ≡ row = cc at in
    let due : is_due until r.1 ≡ true = ap (λ (x : Key × SemaphoreRow). is_due until x.1) same ∙ in_time in
    let is : r ∷ due_rows until rows ≡ [] = ap (λ (b : Bool). cond b (r ∷ due_rows until rows) (due_rows until rows)) (sym due) ∙ none in
    cc is
some_due until (r ∷ rows) (suc i) row at in_time none = by_test (is_due until r.1) none (some_due until rows i row at in_time)
  where
    by_test : (b : Bool) → cond b (r ∷ due_rows until rows) (due_rows until rows) ≡ [] → due_rows until rows ≢ [] → ⊥
    by_test true e later = cc e
    by_test false e later = later e

-- ---- what the drafts hold

names_same : (ds : List Draft) (ps : List (Bor Key × ℕ)) → map pair_of ds ≡ map pair_meant ps → keys_of (drafted ds) ≡ map place_key ps
names_same [] [] e = refl
names_same [] (p ∷ ps) e = absurd (cc e)
names_same (d ∷ ds) [] e = absurd (cc e)
names_same (d ∷ ds) (p ∷ ps) e =
    let one : pair_of d ≡ pair_meant p = cc e in
    let head : d.key.now ≡ p.0.now = ap (λ (x : Key × ℕ). x.0) one in
    let rest : map pair_of ds ≡ map pair_meant ps = cc e in
    ap (λ (k : Key). k ∷ keys_of (drafted ds)) head ∙ ap (λ (ks : List Key). p.0.now ∷ ks) (names_same ds ps rest)

due_there : (until : Moment) (rows : Rows) (k : ℕ) (row : Key × SemaphoreRow) → k < length rows → is_due until (get_or rows k row).1 ≡ true → Contains (keys_of (due_rows until rows)) (get_or rows k row).0
due_there until [] k row low due = absurd (omega (arith, low))
due_there until (r ∷ rows) zero row low due = subst (λ (b : Bool). Contains (keys_of (cond b (r ∷ due_rows until rows) (due_rows until rows))) r.0) (sym due) (0, omega arith, refl)
due_there until (r ∷ rows) (suc k) row low due = by_test (is_due until r.1) (due_there until rows k row (omega (arith, low)) due)
  where
    q : Key
    q = (get_or rows k row).0

    by_test : (b : Bool) → Contains (keys_of (due_rows until rows)) q → Contains (keys_of (cond b (r ∷ due_rows until rows) (due_rows until rows))) q
    by_test true there = let near = there.1 in (suc there.0, omega (arith, near), there.2)
    by_test false there = there

become_same : (C base : Rows) → ((row : Key × SemaphoreRow) → Stands base row → (x : SemaphoreRow) → lookup (key_eq row.0) C ≡ Some x → x ≡ row.1) → become C base ≡ base
become_same C [] same = refl
become_same C (row ∷ base) same =
    ap (λ (x : SemaphoreRow). (row.0, x) ∷ become C base) (by_found (lookup (key_eq row.0) C) refl)
    ∙ ap (λ (rest : Rows). row ∷ rest) (become_same C base (λ r there. same r (inr there)))
  where
    by_found : (o : Option SemaphoreRow) → lookup (key_eq row.0) C ≡ o → unwrap_or o row.1 ≡ row.1
    by_found None e = refl
    by_found (Some x) e = same row (inl refl) x e

module _ (until : Moment) (rows : Rows) (due ps : List (Bor Key × ℕ)) (ds : List Draft)
    (distinct : IsDistinct key_eq (keys_of rows))
    (keys : map place_key due ≡ keys_of (due_rows until rows))
    (moved : IsPermutation due ps)
    (sorted : IsSorted (λ a b. key_order a.0.now b.0.now) ps)
    (same : map pair_of ds ≡ map pair_meant ps)
    (copies : All (λ d. slice_get rows d.place ≡ Some (named d)) ds)
    (keeps : All KeepsLeast ds) where
  moved_keys : IsPermutation (map place_key due) (map place_key ps)
  moved_keys = IsPermutation-map place_key due ps moved

  apart_all : IsDistinct key_eq (map place_key ps)
  apart_all = IsDistinct-IsPermutation key_eq (λ x y. keys_equal.symm x y) (map place_key due) (map place_key ps) moved_keys
      (subst (IsDistinct key_eq) (sym keys) (IsDistinct-keys_filter key_eq (λ row. is_due until row.1) rows distinct))

  names : keys_of (drafted ds) ≡ map place_key ps
  names = names_same ds ps same

  pub made : AreDrafts until rows ds
  made = record {
    places = λ k d low. key_of_place rows (get_or ds k d).place (named (get_or ds k d)) (copies k d low);
    ascend = subst (AllPairs (λ a b. key_order a b ≡ Less)) (sym names) (ascending ps sorted apart_all);
    least = keeps;
    others = λ k row low none. by_due k row low none (is_due until (get_or rows k row).1) refl;
  }
    where
      by_due : (k : ℕ) (row : Key × SemaphoreRow) → k < length rows → lookup (key_eq (get_or rows k row).0) (drafted ds) ≡ None → (b : Bool) → is_due until (get_or rows k row).1 ≡ b → b ≡ false
      by_due k row low none false e = refl
      by_due k row low none true e =
          let q = (get_or rows k row).0 in
          let first : Contains (map place_key due) q = subst (λ (ks : List Key). Contains ks q) (sym keys) (due_there until rows k row low e) in
          let there : Contains (map place_key ps) q = Contains-permutation (map place_key due) (map place_key ps) q moved_keys first in
          let found = IsSome-lookup_from_Contains keys_equal q (drafted ds) (subst (λ (ks : List Key). Contains ks q) (sym names) there) in
          absurd (let never : IsSome {T = SemaphoreRow} None = subst IsSome none found in cc never)

  pub still : become (drafted ds) rows ≡ rows
  still = become_same (drafted ds) rows (λ row there x found.
      let d = in_map named ds (row.0, x) (name_of_row (drafted ds) row.0 x found) in
      let at : Stands rows (row.0, x) = subst (Stands rows) d.2 (place_stands rows d.0.place (named d.0) (from_all (λ d. slice_get rows d.place ≡ Some (named d)) ds copies d.0 d.1)) in
      let one : Some x ≡ Some row.1 = sym (row_of_name rows row.0 x distinct at) ∙ row_of_name rows row.0 row.1 distinct there in
      cc one)

-- ---- whether any is due

pub is_none : {A : Type 0} (o : Option A) → is_some o ≡ false → o ≡ None
is_none None is = refl
is_none (Some x) is = absurd (cc is)

pub is_there : {A : Type 0} (o : Option A) → is_some o ≡ true → o ≢ None
is_there None is none = cc is
is_there (Some x) is none = cc none

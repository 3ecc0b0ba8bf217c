-- The least deadline of all semaphores is that of those which are due.
use Rattle.std.proofs.Common.{◌≡◌, ◌∙◌, ap, refl, sym, subst, ℕ, zero, suc, ◌<◌, ◌≤◌, ◌⊎◌, inl, inr, ◌==◌, nat_le, nat_lt, Bool, true, false, cond, if◌then◌else◌, List, [], ◌∷◌, ◌++◌, append-nil, map, slice_get, Option, None, Some, IsSome, unwrap_or, option_map, arith}
use Rattle.std.proofs.lemmas.Bool.Decides.{nat_tests}
use Rattle.std.proofs.lemmas.Map.Entries.{lookup_from_place, place_from_lookup}
use Rattle.std.proofs.lemmas.Map.Lookups.{exact_unsigned}
use Rattle.std.specs.List.{All, IsDistinct, flat_map}
use Rattle.std.specs.Map.{keys_of, lookup}
use Rattle.std.specs.declared.cmp.Ordering.{Ordering}
use Rattle.std.specs.declared.cmp.Ordering.TheVariants.{Less, Equal, Greater}
use Rattle.std.specs.Ordering.{is_lt, nat_cmp, ordering_reverse, ordering_then}
use Rattle.mms_types.specs.KeyLaws.{keys_equal}
use Rattle.mms_types.specs.Order.{key_eq, key_order}
use Rattle.mms_types.specs.declared.key.Key.{Key}
use Rattle.mms_types.specs.declared.moment.Moment.{Moment}
use Rattle.mms_types.proofs.Precedence.{key_eq_tells, key_order_tells_apart}
use Rattle.token_sem.specs.Semaphore.{first_deadline, least}
use Rattle.token_sem.specs.declared.entry.Deadline.{Deadline}
use Rattle.token_sem.proofs.Least.{Stands, least-first, least-none, least-stands}
use Rattle.mms_time.specs.Deadlines.{NamedDeadline, all_deadlines, deadlines_of, due_order, due_sooner, first_due, named_deadline, next_due, until_only}
use Rattle.mms_time.specs.Semaphores.{Rows, entries_of}
use Rattle.mms_time.specs.declared.row.SemaphoreRow.{SemaphoreRow}
use Rattle.mms_time.proofs.NextDeadline.{next_by_then, next_least, next_none}
use Rattle.mms_time.proofs.Soonest.{due_ranks, due_total, named_first}
use Rattle.sem_ticks.proofs.Ahead.{due_stands}
use Rattle.sem_ticks.specs.Drafts.{become, due_by, is_due}

-- ---- what stands in lists

module _ {A : Type 0} where
  pub from_all : (P : A → Type 0) (xs : List A) → All P xs → (x : A) → Stands xs x → P x
  from_all P [] all x h = absurd h
  from_all P (y ∷ xs) all x (inl same) = subst P same (all 0 y (omega arith))
  from_all P (y ∷ xs) all x (inr h) = from_all P xs (λ k d low. all (suc k) d (omega (arith, low))) x h

  stands_append : (xs ys : List A) (x : A) → Stands (xs ++ ys) x → Stands xs x ⊎ Stands ys x
  stands_append [] ys x h = inr h
  stands_append (z ∷ xs) ys x (inl h) = inl (inl h)
  stands_append (z ∷ xs) ys x (inr h) = elim (stands_append xs ys x h) [ inl i ↦ inl (inr i) | inr i ↦ inr i ]

  pub stands_left : (xs ys : List A) (x : A) → Stands xs x → Stands (xs ++ ys) x
  stands_left [] ys x h = absurd h
  stands_left (z ∷ xs) ys x (inl h) = inl h
  stands_left (z ∷ xs) ys x (inr h) = inr (stands_left xs ys x h)

  stands_right : (xs ys : List A) (x : A) → Stands ys x → Stands (xs ++ ys) x
  stands_right [] ys x h = h
  stands_right (z ∷ xs) ys x h = inr (stands_right xs ys x h)

  pub stands_place : (xs : List A) (x : A) → Stands xs x → (i : ℕ) × (slice_get xs i ≡ Some x)
  stands_place [] x h = absurd h
  stands_place (y ∷ xs) x (inl same) = (zero, ap Some same)
  stands_place (y ∷ xs) x (inr h) = let r = stands_place xs x h in (suc r.0, r.1)

  pub place_stands : (xs : List A) (i : ℕ) (x : A) → slice_get xs i ≡ Some x → Stands xs x
  place_stands [] zero x e = absurd (cc e)
  place_stands [] (suc i) x e = absurd (cc e)
  place_stands (y ∷ xs) zero x e = inl (cc e)
  place_stands (y ∷ xs) (suc i) x e = inr (place_stands xs i x e)

module _ {X A : Type 0} where
  in_flat : (f : X → List A) (xs : List X) (a : A) → Stands (flat_map f xs) a → (x : X) × Stands xs x × Stands (f x) a
  in_flat f [] a h = absurd h
  in_flat f (x ∷ xs) a h = elim (stands_append (f x) (flat_map f xs) a h) [
    | inl here ↦ (x, inl refl, here)
    | inr more ↦ let r = in_flat f xs a more in (r.0, inr r.1, r.2)
  ]

  of_flat : (f : X → List A) (xs : List X) (x : X) (a : A) → Stands xs x → Stands (f x) a → Stands (flat_map f xs) a
  of_flat f [] x a h there = absurd h
  of_flat f (y ∷ xs) x a (inl same) there = stands_left (f y) (flat_map f xs) a (subst (λ (z : X). Stands (f z) a) (sym same) there)
  of_flat f (y ∷ xs) x a (inr h) there = stands_right (f y) (flat_map f xs) a (of_flat f xs x a h there)

  pub in_map : (f : X → A) (xs : List X) (a : A) → Stands (map f xs) a → (x : X) × Stands xs x × (f x ≡ a)
  in_map f [] a h = absurd h
  in_map f (x ∷ xs) a (inl same) = (x, inl refl, same)
  in_map f (x ∷ xs) a (inr h) = let r = in_map f xs a h in (r.0, inr r.1, r.2)

  pub of_map : (f : X → A) (xs : List X) (x : X) → Stands xs x → Stands (map f xs) (f x)
  of_map f [] x h = absurd h
  of_map f (y ∷ xs) x (inl same) = inl (ap f same)
  of_map f (y ∷ xs) x (inr h) = inr (of_map f xs x h)

-- a row of its name is found
pub row_of_name : (rows : Rows) (key : Key) (row : SemaphoreRow) → IsDistinct key_eq (keys_of rows) → Stands rows (key, row) → lookup (key_eq key) rows ≡ Some row
row_of_name rows key row distinct there = let at = stands_place rows (key, row) there in lookup_from_place keys_equal rows at.0 key row distinct at.1

pub name_of_row : (rows : Rows) (key : Key) (row : SemaphoreRow) → lookup (key_eq key) rows ≡ Some row → Stands rows (key, row)
name_of_row rows key row found =
    let r = place_from_lookup (key_eq key) rows row found in
    place_stands rows r.0 (key, row) (r.2 ∙ ap (λ (k : Key). Some (k, row)) (sym ((key_eq_tells key r.1).0 r.3)))

-- ---- of two deadlines neither of which comes before the other both are one

record Equals (a b : NamedDeadline) : Type 0 where
  at : nat_cmp a.at.0 b.at.0 ≡ Equal
  kind : nat_cmp a.kind b.kind ≡ Equal
  key : key_order a.key b.key ≡ Equal
  entry : nat_cmp a.entry b.entry ≡ Equal

all_equal : (o p q r : Ordering) → ordering_then (ordering_then (ordering_then o p) q) r ≡ Equal → (o ≡ Equal) × (p ≡ Equal) × (q ≡ Equal) × (r ≡ Equal)
all_equal Less p q r e = absurd (cc e)
all_equal Greater p q r e = absurd (cc e)
all_equal Equal Less q r e = absurd (cc e)
all_equal Equal Greater q r e = absurd (cc e)
all_equal Equal Equal Less r e = absurd (cc e)
all_equal Equal Equal Greater r e = absurd (cc e)
all_equal Equal Equal Equal r e = (refl, refl, refl, e)

one_deadline : (a b : NamedDeadline) → due_order a b ≡ Equal → a ≡ b
one_deadline a b e =
    let each = all_equal (nat_cmp a.at.0 b.at.0) (nat_cmp a.kind b.kind) (key_order a.key b.key) (nat_cmp a.entry b.entry) e in
    let at = exact_unsigned a.at.0 b.at.0 each.0 in
    let kind = exact_unsigned a.kind b.kind each.1 in
    let key = (key_order_tells_apart a.key b.key).0 each.2 in
    let entry = exact_unsigned a.entry b.entry each.3 in
    λ i. record { at = record { 0 = at i }; kind = kind i; key = key i; entry = entry i }

neither_less : (o : Ordering) → is_lt o ≡ false → is_lt (ordering_reverse o) ≡ false → o ≡ Equal
neither_less Less h k = absurd (cc h)
neither_less Equal h k = refl
neither_less Greater h k = absurd (cc k)

one_of_both : (a b : NamedDeadline) → due_sooner a b ≡ false → due_sooner b a ≡ false → a ≡ b
one_of_both a b h k = one_deadline a b (neither_less (due_order a b) h (ap is_lt (sym (due_total.antisymm b a)) ∙ k))

-- ---- what is next, by what stands

pub in_time : (until d : Moment) (x : NamedDeadline) → d.0 ≤ until.0 → (if nat_le d.0 until.0 then Some x else None) ≡ Some x
in_time until d x low = let yes : nat_le d.0 until.0 ≡ true = grind (arith, nat_tests) in ap (λ (b : Bool). if b then Some x else None) yes

pub out_of_time : (until d : Moment) (x : NamedDeadline) → until.0 < d.0 → (if nat_le d.0 until.0 then Some x else None) ≡ None
out_of_time until d x high = let out : nat_le d.0 until.0 ≡ false = grind (arith, nat_tests) in ap (λ (b : Bool). if b then Some x else None) out

next_is : (until : Moment) (rows : Rows) (d : NamedDeadline) → Stands (all_deadlines rows) d → d.at.0 ≤ until.0
    → ((x : NamedDeadline) → Stands (all_deadlines rows) x → due_sooner x d ≡ false) → next_due until rows ≡ Some d
next_is until rows d there low first = by_first (first_due rows) refl
  where
    by_first : (o : Option NamedDeadline) → first_due rows ≡ o → until_only until o ≡ Some d
    by_first None e = absurd (subst (λ (l : List NamedDeadline). Stands l d) (least-none due_sooner (all_deadlines rows) e) there)
    by_first (Some m) e =
        let stands = least-stands due_sooner (all_deadlines rows) m e in
        let same : m ≡ d = one_of_both m d (first m stands) (least-first due_sooner due_ranks (all_deadlines rows) m d e there) in
        ap (until_only until) (ap Some same) ∙ in_time until d.at d low

next_nothing : (until : Moment) (rows : Rows) → ((x : NamedDeadline) → Stands (all_deadlines rows) x → until.0 < x.at.0) → next_due until rows ≡ None
next_nothing until rows later = by_first (first_due rows) refl
  where
    by_first : (o : Option NamedDeadline) → first_due rows ≡ o → until_only until o ≡ None
    by_first None e = refl
    by_first (Some m) e =
        let after = later m (least-stands due_sooner (all_deadlines rows) m e) in
        let no : nat_le m.at.0 until.0 ≡ false = grind (arith, nat_tests, after) in
        ap (λ (b : Bool). if b then Some m else None) no

-- what comes after the moment comes not before what comes by then
not_sooner : (until : Moment) (x d : NamedDeadline) → d.at.0 ≤ until.0 → until.0 < x.at.0 → due_sooner x d ≡ false
not_sooner until x d low high =
    let no : nat_lt x.at.0 d.at.0 ≡ false = grind (arith, nat_tests) in
    let other : (x.at.0 == d.at.0) ≡ false = grind (arith, nat_tests) in
    let apart : nat_cmp x.at.0 d.at.0 ≡ Greater =
    ap (λ (b : Bool). cond b Less (cond (x.at.0 == d.at.0) Equal Greater)) no ∙ ap (λ (b : Bool). cond b Equal Greater) other
    in
    ap (λ (o : Ordering). is_lt (ordering_then (ordering_then (ordering_then o (nat_cmp x.kind d.kind)) (key_order x.key d.key)) (nat_cmp x.entry d.entry))) apart

-- ---- a semaphore that is not due

named_by : (until : Moment) (key : Key) (o : Option Deadline) → due_by until o ≡ false → until_only until (option_map (named_deadline key) o) ≡ None
named_by until key None e = refl
named_by until key (Some d) e = ap (λ (b : Bool). if b then Some (named_deadline key d) else None) e

pub not_due : (until : Moment) (key : Key) (row : SemaphoreRow) → is_due until row ≡ false → (x : NamedDeadline) → Stands (deadlines_of (key, row)) x → until.0 < x.at.0
not_due until key row out x there =
    let first : least due_sooner (deadlines_of (key, row) ++ []) ≡ option_map (named_deadline key) (first_deadline (entries_of row)) =
    ap (least due_sooner) (append-nil (deadlines_of (key, row))) ∙ sym (named_first key row (first_deadline (entries_of row)) refl) in
    let none : next_due until ((key, row) ∷ []) ≡ None = ap (until_only until) first ∙ named_by until key (first_deadline (entries_of row)) out in
    from_all (λ y. until.0 < y.at.0) (all_deadlines ((key, row) ∷ [])) (next_none until ((key, row) ∷ []) none) x (stands_left (deadlines_of (key, row)) [] x there)

-- ---- those that are due, and all

pub record AreParted (until : Moment) (base changed : Rows) : Type 0 where
  pub names : IsDistinct key_eq (keys_of base)
  pub own : IsDistinct key_eq (keys_of changed)
  pub within : (row : Key × SemaphoreRow) → Stands changed row → IsSome (lookup (key_eq row.0) base)
  pub others : (row : Key × SemaphoreRow) → Stands base row → lookup (key_eq row.0) changed ≡ None → is_due until row.1 ≡ false

module _ (until : Moment) (base changed : Rows) (parted : AreParted until base changed) where
  from_become : (x : NamedDeadline) → Stands (all_deadlines (become changed base)) x → Stands (all_deadlines changed) x ⊎ (until.0 < x.at.0)
  from_become x there =
      let r = in_flat deadlines_of (become changed base) x there in
      let b = in_map (λ row. (row.0, unwrap_or (lookup (key_eq row.0) changed) row.1)) base r.0 r.1 in
      by_found b.0 b.1 (lookup (key_eq b.0.0) changed) refl (subst (λ row. Stands (deadlines_of row) x) (sym b.2) r.2)
    where
      by_found : (b : Key × SemaphoreRow) → Stands base b → (o : Option SemaphoreRow) → lookup (key_eq b.0) changed ≡ o → Stands (deadlines_of (b.0, unwrap_or (lookup (key_eq b.0) changed) b.1)) x
          → Stands (all_deadlines changed) x ⊎ (until.0 < x.at.0)
      by_found b in_base None e h =
          inr (not_due until b.0 b.1 (parted.others b in_base e) x (subst (λ (o : Option SemaphoreRow). Stands (deadlines_of (b.0, unwrap_or o b.1)) x) e h))
      by_found b in_base (Some row) e h =
          inl (of_flat deadlines_of changed (b.0, row) x (name_of_row changed b.0 row e) (subst (λ (o : Option SemaphoreRow). Stands (deadlines_of (b.0, unwrap_or o b.1)) x) e h))

  to_become : (x : NamedDeadline) → Stands (all_deadlines changed) x → Stands (all_deadlines (become changed base)) x
  to_become x there =
      let r = in_flat deadlines_of changed x there in
      by_found r.0 r.1 r.2 (lookup (key_eq r.0.0) base) refl (parted.within r.0 r.1)
    where
      by_found : (row : Key × SemaphoreRow) → Stands changed row → Stands (deadlines_of row) x → (o : Option SemaphoreRow) → lookup (key_eq row.0) base ≡ o → IsSome o
          → Stands (all_deadlines (become changed base)) x
      by_found row in_changed h None e some = absurd (cc some)
      by_found row in_changed h (Some old) e some =
          let own = row_of_name changed row.0 row.1 parted.own in_changed in
          let now : (row.0, unwrap_or (lookup (key_eq row.0) changed) old) ≡ row = ap (λ (o : Option SemaphoreRow). (row.0, unwrap_or o old)) own in
          let there = of_map (λ b. (b.0, unwrap_or (lookup (key_eq b.0) changed) b.1)) base (row.0, old) (name_of_row base row.0 old e) in
          of_flat deadlines_of (become changed base) row x (subst (λ z. Stands (become changed base) z) now there) h

  pub same_next : next_due until (become changed base) ≡ next_due until changed
  same_next = by_next (next_due until changed) refl
    where
      by_next : (o : Option NamedDeadline) → next_due until changed ≡ o → next_due until (become changed base) ≡ o
      by_next None e = next_nothing until (become changed base) (λ x there. elim (from_become x there) [
        | inl own ↦ from_all (λ y. until.0 < y.at.0) (all_deadlines changed) (next_none until changed e) x own
        | inr after ↦ after
      ])
      by_next (Some d) e =
          let low = next_by_then until changed d e in
          let first = next_least until changed d e in
          next_is until (become changed base) d (to_become d (due_stands until changed d e)) low (λ x there. elim (from_become x there) [
            | inl own ↦ from_all (λ y. due_sooner y d ≡ false) (all_deadlines changed) first x own
            | inr after ↦ not_sooner until x d low after
          ])

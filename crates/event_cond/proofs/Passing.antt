-- Conditions that time passes by, one after the other.
use Rattle.std.specs.Prelude.{OnErr, Result, Ok, Err}
use Rattle.std.proofs.Common.{◌≡◌, ◌≢◌, ◌∙◌, ap, sym, refl, ℕ, zero, suc, ◌+◌, ◌≤◌, if◌then◌else◌, Bool, true, false, ◌||◌, List, [], ◌∷◌, ◌++◌, map, take, drop, length, slice_get, Option, None, Some, is_some, arith, length-append, filter_map}
use Rattle.std.specs.List.{cons_option, list_any}
use Rattle.std.specs.Map.{values_of}
use Rattle.std.proofs.lemmas.List.{length-map, take-append-drop}
use Rattle.indexmap.specs.Layout.{set_value_at}
use Rattle.mms_types.specs.declared.condition.Turned.{Turned}
use Rattle.mms_types.specs.declared.key.Key.{Key}
use Rattle.mms_types.specs.declared.moment.Moment.{Moment}
use Rattle.event_cond.specs.Conditions.{Rows}
use Rattle.event_cond.specs.Skips.{Saying, after_skip, any_due, first_due, first_turn, first_turns, in_order, row_skipped, turns_sooner, with_turn}
use Rattle.event_cond.specs.declared.condition.Condition.{Condition}
use Rattle.object_names.proofs.Listed.{take_next}

-- ---- changed in place

module _ (g : Condition → Condition) where
  abbrev on_value : Key × Condition → Key × Condition
  on_value row = (row.0, g row.1)

  step : (xs : Rows) (i : ℕ) (x : Condition) → slice_get (values_of (map on_value (take i xs) ++ drop i xs)) i ≡ Some x
      → set_value_at (map on_value (take i xs) ++ drop i xs) i (g x) ≡ map on_value (take (suc i) xs) ++ drop (suc i) xs
  step [] i x h = absurd (none i h)
    where
      none : (i : ℕ) → slice_get (values_of (map on_value (take i []) ++ drop i [])) i ≡ Some x → ⊥
      none zero e = cc
      none (suc i) e = cc
  step (y ∷ ys) zero x h = let same : y.1 ≡ x = cc in ap (λ (z : Condition). (y.0, g z) ∷ ys) (sym same)
  step (y ∷ ys) (suc i) x h = ap (λ (l : Rows). on_value y ∷ l) (step ys i x h)

  pub changed_more : (xs rows new : Rows) (i : ℕ) (x now : Condition) → rows ≡ map on_value (take i xs) ++ drop i xs → slice_get (values_of rows) i ≡ Some x → now ≡ g x
      → new ≡ set_value_at rows i now → new ≡ map on_value (take (i + 1) xs) ++ drop (i + 1) xs
  changed_more xs rows new i x now is at becomes set =
      let e : i + 1 ≡ suc i = omega arith in
      let there : slice_get (values_of (map on_value (take i xs) ++ drop i xs)) i ≡ Some x = ap (λ (l : Rows). slice_get (values_of l) i) (sym is) ∙ at in
      set ∙ ap (set_value_at rows i) becomes ∙ ap (λ (l : Rows). set_value_at l i (g x)) is ∙ step xs i x there
      ∙ ap (λ (n : ℕ). map on_value (take n xs) ++ drop n xs) (sym e)

  pub as_many : (xs rows : Rows) (i : ℕ) → rows ≡ map on_value (take i xs) ++ drop i xs → length rows ≡ length xs
  as_many xs rows i is =
      ap length is ∙ length-append (map on_value (take i xs)) (drop i xs)
      ∙ ap (λ (n : ℕ). n + length (drop i xs)) (length-map (take i xs) on_value)
      ∙ sym (length-append (take i xs) (drop i xs)) ∙ ap length (take-append-drop i xs)

  pub all_changed : (xs rows : Rows) (i : ℕ) → rows ≡ map on_value (take i xs) ++ drop i xs → length xs ≤ i → rows ≡ map on_value xs
  all_changed xs rows i is end = is ∙ whole xs i end
    where
      whole : (xs : Rows) (i : ℕ) → length xs ≤ i → map on_value (take i xs) ++ drop i xs ≡ map on_value xs
      whole [] zero e = refl
      whole [] (suc i) e = refl
      whole (y ∷ ys) zero e = absurd (omega (arith, e))
      whole (y ∷ ys) (suc i) e = ap (λ (l : Rows). on_value y ∷ l) (whole ys i (omega (arith, e)))

pub still_few : (until : Moment) (cells : Saying) (rows : Rows) → length rows ≤ 256 → length (after_skip until cells rows) ≤ 256
still_few until cells rows few = let many = length-map rows (row_skipped until cells) in omega (arith, many, few)

-- ---- gone through

any_more : {A : Type 0} (p : A → Bool) (xs : List A) (x : A) → list_any p (xs ++ x ∷ []) ≡ (list_any p xs || p x)
any_more p [] x = by_last (p x)
  where
    by_last : (b : Bool) → (b || false) ≡ (false || b)
    by_last true = refl
    by_last false = refl
any_more p (y ∷ ys) x = by_first (p y) (any_more p ys x)
  where
    by_first : (b : Bool) → list_any p (ys ++ x ∷ []) ≡ (list_any p ys || p x) → (b || list_any p (ys ++ x ∷ [])) ≡ ((b || list_any p ys) || p x)
    by_first true rest = refl
    by_first false rest = rest

pub none_due_more : (until : Moment) (rows : Rows) (i : ℕ) (row : Key × Condition) → slice_get rows i ≡ Some row → any_due until (take i rows) ≡ false → is_some (first_due until row.1) ≡ false
    → any_due until (take (i + 1) rows) ≡ false
none_due_more until rows i row at before now =
    ap (any_due until) (take_next rows i row at) ∙ any_more (λ (r : Key × Condition). is_some (first_due until r.1)) (take i rows) row ∙ ap (λ (b : Bool). b || is_some (first_due until row.1)) before ∙ now

pub one_due : (until : Moment) (rows : Rows) (i : ℕ) (row : Key × Condition) → slice_get rows i ≡ Some row → is_some (first_due until row.1) ≡ true → any_due until rows ≡ true
one_due until [] i row at due = absurd cc
one_due until (r ∷ rows) zero row at due = let same : r ≡ row = cc in ap (λ (x : Key × Condition). is_some (first_due until x.1) || any_due until rows) same ∙ ap (λ (b : Bool). b || any_due until rows) due
one_due until (r ∷ rows) (suc i) row at due = by_first (is_some (first_due until r.1)) (one_due until rows i row at due)
  where
    by_first : (b : Bool) → any_due until rows ≡ true → (b || any_due until rows) ≡ true
    by_first true rest = refl
    by_first false rest = rest

pub row_before : (xs : Rows) (i : ℕ) (x : Key × Condition) → slice_get xs i ≡ Some x → drop i xs ≡ x ∷ drop (suc i) xs
row_before [] i x e = absurd cc
row_before (y ∷ ys) zero x e = let same : y ≡ x = cc in ap (λ (z : Key × Condition). z ∷ ys) same
row_before (y ∷ ys) (suc i) x e = row_before ys i x e

-- one condition more, before those that were gone through
pub turns_more : (until : Moment) (cells : Saying) (rows : Rows) (left next : ℕ) (row : Key × Condition) → suc next ≡ left → slice_get rows next ≡ Some row
    → (o : Option Turned) → o ≡ first_turn until cells row → first_turns until cells (drop next rows) ≡ in_order (cons_option o (filter_map (first_turn until cells) (drop left rows)))
turns_more until cells rows left next row is at o same =
    ap (first_turns until cells) (row_before rows next row at ∙ ap (λ (n : ℕ). row ∷ drop n rows) is)
    ∙ ap (λ (p : Option Turned). in_order (cons_option p (filter_map (first_turn until cells) (drop left rows)))) (sym same)

-- ---- something is told

with_some : (x : Turned) (ys : List Turned) → with_turn x ys ≢ []
with_some x [] h = absurd (cc h)
with_some x (y ∷ ys) h = by_test (turns_sooner y x) h
  where
    by_test : (b : Bool) → (if b then y ∷ with_turn x ys else x ∷ y ∷ ys) ≢ []
    by_test true h = absurd (cc h)
    by_test false h = absurd (cc h)

some_in_order : (ts : List Turned) → ts ≢ [] → in_order ts ≢ []
some_in_order [] some = absurd (some refl)
some_in_order (t ∷ ts) some = with_some t (in_order ts)

pub some_turn : (until : Moment) (cells : Saying) (rows : Rows) (i : ℕ) (row : Key × Condition) → slice_get rows i ≡ Some row → first_turn until cells row ≢ None → first_turns until cells rows ≢ []
some_turn until cells rows i row at some = some_in_order (filter_map (first_turn until cells) rows) (some_told rows i at)
  where
    some_told : (rows : Rows) (i : ℕ) → slice_get rows i ≡ Some row → filter_map (first_turn until cells) rows ≢ []
    some_told [] i at = absurd cc
    some_told (r ∷ rows) zero at = let same : row ≡ r = cc in by_turn (first_turn until cells r) (λ none. some (ap (first_turn until cells) same ∙ none))
      where
        by_turn : (o : Option Turned) → o ≢ None → cons_option o (filter_map (first_turn until cells) rows) ≢ []
        by_turn None is = absurd (is refl)
        by_turn (Some t) is = λ h. absurd (cc h)
    some_told (r ∷ rows) (suc i) at = by_turn (first_turn until cells r) (some_told rows i at)
      where
        by_turn : (o : Option Turned) → filter_map (first_turn until cells) rows ≢ [] → cons_option o (filter_map (first_turn until cells) rows) ≢ []
        by_turn None rest = rest
        by_turn (Some t) rest = λ h. absurd (cc h)

pub on_err : {T E : Type 0} (r : Result T E) {P : Type 0} → P → OnErr r P
on_err (Ok x) h = tt
on_err (Err e) h = h

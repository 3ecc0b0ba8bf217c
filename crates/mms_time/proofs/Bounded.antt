-- No deadline of a table is before the moment that is kept beside it.
use Rattle.std.proofs.Common.{◌≡◌, ◌∙◌, ap, sym, subst, refl, ◌⊎◌, inl, inr, ◌<◌, ◌≤◌, nat_lt, nat_le, Bool, true, false, cond, if◌then◌else◌, List, [], ◌∷◌, ◌++◌, filter, map, Option, None, Some, is_some, option_map, arith}
use Rattle.std.proofs.lemmas.Bool.Decides.{nat_tests}
use Rattle.std.specs.List.{AllByRecursion}
use Rattle.std.specs.Map.{remove_entry}
use Rattle.mms_types.specs.declared.key.Key.{Key}
use Rattle.mms_types.specs.declared.moment.Moment.{Moment}
use Rattle.token_sem.specs.Semaphore.{deadlines, first_deadline, sooner}
use Rattle.token_sem.specs.declared.entry.Deadline.{Deadline}
use Rattle.token_sem.proofs.Least.{Stands, least-first, least-none, least-stands, sooner-order}
use Rattle.mms_time.specs.Bounds.{IsThere, NoneBefore, sooner_of}
use Rattle.mms_time.specs.Deadlines.{NamedDeadline, all_deadlines, deadlines_of, due_sooner, first_due, named_deadline, next_due, until_only}
use Rattle.mms_time.specs.Semaphores.{Rows, entries_of}
use Rattle.mms_time.specs.declared.row.SemaphoreRow.{SemaphoreRow}
use Rattle.mms_time.proofs.NextDeadline.{no_earlier}
use Rattle.mms_time.proofs.Soonest.{due_ranks}

module _ {A : Type 0} where
  all_stand : (P : A → Type 0) (xs : List A) → ((x : A) → Stands xs x → P x) → AllByRecursion P xs
  all_stand P [] each = tt
  all_stand P (x ∷ xs) each = (each x (inl refl), all_stand P xs (λ y there. each y (inr there)))

  one_of : (P : A → Type 0) (xs : List A) (x : A) → AllByRecursion P xs → Stands xs x → P x
  one_of P [] x all there = absurd there
  one_of P (y ∷ ys) x all (inl same) = subst P same all.0
  one_of P (y ∷ ys) x all (inr there) = one_of P ys x all.1 there

  in_front : (xs ys : List A) (x : A) → Stands xs x → Stands (xs ++ ys) x
  in_front [] ys x h = absurd h
  in_front (z ∷ xs) ys x (inl h) = inl h
  in_front (z ∷ xs) ys x (inr h) = inr (in_front xs ys x h)

  behind : (xs ys : List A) (x : A) → Stands ys x → Stands (xs ++ ys) x
  behind [] ys x h = h
  behind (z ∷ xs) ys x h = inr (behind xs ys x h)

  in_either : (xs ys : List A) (x : A) → Stands (xs ++ ys) x → Stands xs x ⊎ Stands ys x
  in_either [] ys x h = inr h
  in_either (z ∷ xs) ys x (inl h) = inl (inl h)
  in_either (z ∷ xs) ys x (inr h) = elim (in_either xs ys x h) [ inl i ↦ inl (inr i) | inr i ↦ inr i ]

-- ---- deadline by deadline

of_each : (at : Moment) (rows : Rows) → ((d : NamedDeadline) → Stands (all_deadlines rows) d → at.0 ≤ d.at.0) → NoneBefore at rows
of_each at [] each = tt
of_each at (row ∷ rows) each = (
  all_stand (λ d. at.0 ≤ d.at.0) (deadlines_of row) (λ d there. each d (in_front (deadlines_of row) (all_deadlines rows) d there)),
  of_each at rows (λ d there. each d (behind (deadlines_of row) (all_deadlines rows) d there)),
)

no_sooner : (at : Moment) (rows : Rows) (d : NamedDeadline) → NoneBefore at rows → Stands (all_deadlines rows) d → at.0 ≤ d.at.0
no_sooner at [] d all there = absurd there
no_sooner at (row ∷ rows) d all there = elim (in_either (deadlines_of row) (all_deadlines rows) d there) [
  | inl here ↦ one_of (λ d. at.0 ≤ d.at.0) (deadlines_of row) d all.0 here
  | inr more ↦ no_sooner at rows d all.1 more
]

-- ---- whether a deadline is due

-- while the moment lies ahead, none is
pub not_due : (until at : Moment) (rows : Rows) → NoneBefore at rows → until.0 < at.0 → false ≡ is_some (next_due until rows)
not_due until at rows all ahead = by_first (first_due rows) refl
  where
    by_first : (o : Option NamedDeadline) → first_due rows ≡ o → false ≡ is_some (until_only until o)
    by_first None e = refl
    by_first (Some d) e = by_test (nat_le d.at.0 until.0) refl
      where
        late : at.0 ≤ d.at.0
        late = no_sooner at rows d all (least-stands due_sooner (all_deadlines rows) d e)

        by_test : (b : Bool) → nat_le d.at.0 until.0 ≡ b → false ≡ is_some (if b then Some d else None)
        by_test true t = let soon : d.at.0 ≤ until.0 = grind (arith, nat_tests, t) in let l = late in absurd (omega arith)
        by_test false t = refl

-- ---- the soonest, as it is found

abbrev at_first : Rows → Option Moment
at_first rows = option_map (λ (d : NamedDeadline). d.at) (first_due rows)

pub none_found : (at : Moment) (rows : Rows) → None ≡ at_first rows → NoneBefore at rows
none_found at rows is = by_first (first_due rows) refl is
  where
    by_first : (o : Option NamedDeadline) → first_due rows ≡ o → None ≡ option_map (λ (d : NamedDeadline). d.at) o → NoneBefore at rows
    by_first None e h = of_each at rows (λ d there. absurd (subst (λ (ds : List NamedDeadline). Stands ds d) (least-none due_sooner (all_deadlines rows) e) there))
    by_first (Some d) e h = absurd (cc h)

pub soonest_found : (at : Moment) (rows : Rows) → Some at ≡ at_first rows → NoneBefore at rows
soonest_found at rows is = by_first (first_due rows) refl is
  where
    by_first : (o : Option NamedDeadline) → first_due rows ≡ o → Some at ≡ option_map (λ (d : NamedDeadline). d.at) o → NoneBefore at rows
    by_first None e h = absurd (cc h)
    by_first (Some m) e h =
        let same : at ≡ m.at = cc h in
        subst (λ (a : Moment). NoneBefore a rows) (sym same)
        (of_each m.at rows (λ d there. no_earlier d m (least-first due_sooner due_ranks (all_deadlines rows) m d e there)))

pub found_due : (until at : Moment) (rows : Rows) → Some at ≡ at_first rows → nat_le at.0 until.0 ≡ is_some (next_due until rows)
found_due until at rows is = by_first (first_due rows) is
  where
    by_first : (o : Option NamedDeadline) → Some at ≡ option_map (λ (d : NamedDeadline). d.at) o → nat_le at.0 until.0 ≡ is_some (until_only until o)
    by_first None h = absurd (cc h)
    by_first (Some m) h =
        let same : at ≡ m.at = cc h in
        ap (λ (a : Moment). nat_le a.0 until.0) same ∙ by_test (nat_le m.at.0 until.0)
      where
        by_test : (b : Bool) → b ≡ is_some (if b then Some m else None)
        by_test true = refl
        by_test false = refl

pub found_there : (known : Bool) (at : Moment) (rows : Rows) → Some at ≡ at_first rows → IsThere known at rows
found_there known at rows is there =
    let itself : nat_le at.0 at.0 ≡ true = grind (arith, nat_tests) in
    sym (found_due at at rows is) ∙ itself

-- ---- as semaphores come, change and go

lower : (at low : Moment) (ds : List NamedDeadline) → low.0 ≤ at.0 → AllByRecursion (λ d. at.0 ≤ d.at.0) ds → AllByRecursion (λ d. low.0 ≤ d.at.0) ds
lower at low [] le all = tt
lower at low (d ∷ ds) le all = (let one : at.0 ≤ d.at.0 = all.0 in omega arith, lower at low ds le all.1)

lower_rows : (at low : Moment) (rows : Rows) → low.0 ≤ at.0 → NoneBefore at rows → NoneBefore low rows
lower_rows at low [] le all = tt
lower_rows at low (row ∷ rows) le all = (lower at low (deadlines_of row) le all.0, lower_rows at low rows le all.1)

record IsLower (at low : Moment) (row : Key × SemaphoreRow) : Type 0 where
  than : low.0 ≤ at.0
  here : AllByRecursion (λ d. low.0 ≤ d.at.0) (deadlines_of row)

of_row : (low : Moment) (key : Key) (ds : List Deadline) → ((x : Deadline) → Stands ds x → low.0 ≤ x.at.0) → AllByRecursion (λ d. low.0 ≤ d.at.0) (map (named_deadline key) ds)
of_row low key [] each = tt
of_row low key (x ∷ ds) each = (each x (inl refl), of_row low key ds (λ y there. each y (inr there)))

sooner_moment : (x y : Deadline) → sooner y x ≡ false → x.at.0 ≤ y.at.0
sooner_moment x y h = grind (arith, nat_tests)

is_lower : (at low : Moment) (key : Key) (row : SemaphoreRow) (due : Option Deadline) → due ≡ first_deadline (entries_of row) → low ≡ sooner_of at due → IsLower at low (key, row)
is_lower at low key row None is same = record {
  than = (let e : low.0 ≡ at.0 = ap (λ (m : Moment). m.0) same in omega arith);
  here = subst (λ (ds : List Deadline). AllByRecursion (λ d. low.0 ≤ d.at.0) (map (named_deadline key) ds)) (sym (least-none sooner (deadlines (entries_of row)) (sym is))) tt;
}
is_lower at low key row (Some x) is same = by_test (nat_lt x.at.0 at.0) refl (ap (λ (m : Moment). m.0) same)
  where
    late : (y : Deadline) → Stands (deadlines (entries_of row)) y → x.at.0 ≤ y.at.0
    late y there = sooner_moment x y (least-first sooner sooner-order (deadlines (entries_of row)) x y (sym is) there)

    by_test : (b : Bool) → nat_lt x.at.0 at.0 ≡ b → low.0 ≡ (if b then x.at else at).0 → IsLower at low (key, row)
    by_test true t e =
        let before : x.at.0 < at.0 = grind (arith, nat_tests, t) in
        record { than = omega arith; here = of_row low key (deadlines (entries_of row)) (λ y there. let l = late y there in omega arith) }
    by_test false t e =
        let after : at.0 ≤ x.at.0 = grind (arith, nat_tests, t) in
        record { than = omega arith; here = of_row low key (deadlines (entries_of row)) (λ y there. let l = late y there in omega arith) }

added : (at low : Moment) (rows : Rows) (row : Key × SemaphoreRow) → IsLower at low row → NoneBefore at rows → NoneBefore low (rows ++ row ∷ [])
added at low [] row is all = (is.here, tt)
added at low (first ∷ rows) row is all = (lower at low (deadlines_of first) is.than all.0, added at low rows row is all.1)

pub none_added : (at low : Moment) (rows new : Rows) (key : Key) (row : SemaphoreRow) (due : Option Deadline) → NoneBefore at rows → due ≡ first_deadline (entries_of row)
    → low ≡ sooner_of at due → new ≡ rows ++ (key, row) ∷ [] → NoneBefore low new
none_added at low rows new key row due all is same put =
    subst (NoneBefore low) (sym put) (added at low rows (key, row) (is_lower at low key row due is same) all)

pub none_left : (at : Moment) (p : Key × SemaphoreRow → Bool) (rows : Rows) → NoneBefore at rows → NoneBefore at (filter p rows)
none_left at p [] all = tt
none_left at p (row ∷ rows) all = by_test (p row) (none_left at p rows all.1)
  where
    by_test : (b : Bool) → NoneBefore at (filter p rows) → NoneBefore at (cond b (row ∷ filter p rows) (filter p rows))
    by_test true rest = (all.0, rest)
    by_test false rest = rest

pub none_removed : (at : Moment) (test : Key → Bool) (rows : Rows) → NoneBefore at rows → NoneBefore at (remove_entry test rows)
none_removed at test [] all = tt
none_removed at test (row ∷ rows) all = by_test (test row.0) (none_removed at test rows all.1)
  where
    by_test : (b : Bool) → NoneBefore at (remove_entry test rows) → NoneBefore at (cond b rows (row ∷ remove_entry test rows))
    by_test true rest = all.1
    by_test false rest = (all.0, rest)

-- What happens with its moment is what happens, and it happens in order: no deadline that arises lies before the one that is met.
use Rattle.std.proofs.Common.{◌≡◌, ◌∙◌, ap, sym, subst, refl, ℕ, zero, suc, ◌+◌, ◌<◌, ◌≤◌, ◌==◌, Bool, true, false, List, [], ◌∷◌, ◌++◌, append-nil, append_assoc, drop, length, map, zip, Option, None, Some, option_and_then, option_map, arith}
use Rattle.std.proofs.lemmas.List.{drop_all, drop_at, length-append, length-map}
use Rattle.mms_types.specs.declared.moment.Moment.{Moment}
use Rattle.token_sem.specs.declared.entry.Expired.{Expired}
use Rattle.mms_time.specs.Deadlines.{NamedDeadline, all_deadlines, expire_after, expired, next_due}
use Rattle.mms_time.specs.Semaphores.{Rows}
use Rattle.mms_time.proofs.NextDeadline.{next_by_then, next_least, no_earlier}
use Rattle.sem_ticks.specs.Dated.{Dating, HappenBy, HappenFrom, IsInOrder, LieFrom, dated, dated_at, dated_on, dated_to, met_dated, next_dated, undated}
use Rattle.sem_ticks.specs.Meant.{with_moments}
use Rattle.sem_ticks.specs.Settling.{settle}
use Rattle.sem_ticks.specs.Ticks.{Ticking, abort_told, after_abort, entries_left, expiry_told, met, met_as, next_met, ticked_on}
use Rattle.sem_ticks.specs.declared.ticks.Happening.{Happening}
use Rattle.sem_ticks.proofs.Ahead.{due_stands}
use Rattle.sem_ticks.proofs.Dues.{each_ahead, each_expired, each_lost}
use Rattle.sem_ticks.proofs.Fewer.{falls}
use Rattle.sem_ticks.proofs.Settling.{settle-none, settle-step, settle_by}

-- ---- lists of what happens

pub undated_at : (at : Moment) (xs : List Happening) → map (λ h. h.1) (dated_at at xs) ≡ xs
undated_at at [] = refl
undated_at at (x ∷ xs) = ap (λ l. x ∷ l) (undated_at at xs)

undated_more : (xs ys : List (Moment × Happening)) → map (λ h. h.1) (xs ++ ys) ≡ map (λ h. h.1) xs ++ map (λ h. h.1) ys
undated_more [] ys = refl
undated_more (x ∷ xs) ys = ap (λ l. x.1 ∷ l) (undated_more xs ys)

-- ---- what one deadline does, whatever happened before

abbrev rows_after : NamedDeadline → Expired → Rows → Rows
rows_after d x rows = after_abort x.abort x.client d.at (expire_after d.key d.entry d.at rows)

abbrev pub happens : NamedDeadline → Expired → Rows → List Happening
happens d x rows = expiry_told (expire_after d.key d.entry d.at rows) d.key x ++ abort_told x.abort x.client d.at (expire_after d.key d.entry d.at rows)

-- a deadline that is met
pub record IsMetAt (until : Moment) (s t : Dating) : Type 0 where
  pub deadline : NamedDeadline
  pub expires : Expired
  pub due : next_due until s.rows ≡ Some deadline
  pub found : expired deadline.key deadline.entry s.rows ≡ Some expires
  pub is : record { rows = rows_after deadline expires s.rows; happened = s.happened ++ dated_at deadline.at (happens deadline expires s.rows) } ≡ t

pub what_is_met : (until : Moment) (s t : Dating) → next_dated until s ≡ Some t → IsMetAt until s t
what_is_met until s t h = by_due (next_due until s.rows) refl h
  where
    by_due : (o : Option NamedDeadline) → next_due until s.rows ≡ o → option_and_then (met_dated s) o ≡ Some t → IsMetAt until s t
    by_due None e k = absurd (cc k)
    by_due (Some d) e k = by_expired (expired d.key d.entry s.rows) refl k
      where
        by_expired : (o : Option Expired) → expired d.key d.entry s.rows ≡ o → option_map (dated_to s d.at) (option_map (met_as (record { rows = s.rows; happened = [] }) d) o) ≡ Some t
            → IsMetAt until s t
        by_expired None f k = absurd (cc k)
        by_expired (Some x) f k = record { deadline = d; expires = x; due = e; found = f; is = cc k }

-- ---- without moments

undated_next : (until : Moment) (s : Dating) → option_map undated (next_dated until s) ≡ next_met until (undated s)
undated_next until s = by_due (next_due until s.rows)
  where
    by_due : (o : Option NamedDeadline) → option_map undated (option_and_then (met_dated s) o) ≡ option_and_then (met (undated s)) o
    by_due None = refl
    by_due (Some d) = by_expired (expired d.key d.entry s.rows)
      where
        by_expired : (o : Option Expired) → option_map undated (option_map (dated_to s d.at) (option_map (met_as (record { rows = s.rows; happened = [] }) d) o)) ≡ option_map (met_as (undated s) d) o
        by_expired None = refl
        by_expired (Some x) =
            ap (λ (l : List Happening). Some (record { rows = rows_after d x s.rows; happened = l }))
            (undated_more s.happened (dated_at d.at (happens d x s.rows)) ∙ ap (λ l. map (λ h. h.1) s.happened ++ l) (undated_at d.at (happens d x s.rows)))

undated_settled : (until : Moment) (n : ℕ) (s : Dating) → undated (settle (next_dated until) n s) ≡ settle (next_met until) n (undated s)
undated_settled until zero s = refl
undated_settled until (suc n) s = by_next (next_dated until s) (undated_next until s) (λ t. undated_settled until n t)
  where
    by_next : (o : Option Dating) → option_map undated o ≡ next_met until (undated s) → ((t : Dating) → undated (settle (next_dated until) n t) ≡ settle (next_met until) n (undated t))
        → undated (settle_by (next_dated until) n s o) ≡ settle (next_met until) (suc n) (undated s)
    by_next None e ih = ap (settle_by (next_met until) n (undated s)) e
    by_next (Some t) e ih = ih t ∙ ap (settle_by (next_met until) n (undated s)) e

pub undated_is : (until : Moment) (s : Dating) → undated (dated_on until s) ≡ ticked_on until (undated s)
undated_is until s = undated_settled until (entries_left s.rows) s

-- ---- one deadline, and then on

pub dated_falls : (until : Moment) (s t : Dating) → next_dated until s ≡ Some t → entries_left t.rows < entries_left s.rows
dated_falls until s t h = falls until (undated s) (undated t) (sym (undated_next until s) ∙ ap (option_map undated) h)

pub dated_rests : (until : Moment) (s : Dating) → next_dated until s ≡ None → dated_on until s ≡ s
dated_rests until s none = settle-none (next_dated until) (entries_left s.rows) s none

pub dated_meets : (until : Moment) (s t : Dating) → next_dated until s ≡ Some t → dated_on until s ≡ dated_on until t
dated_meets until s t some = settle-step (next_dated until) (λ u. entries_left u.rows) (dated_falls until) s t some

pub dated_induction : (until : Moment) (P : Dating → Type 0) → ((s : Dating) → next_dated until s ≡ None → P s) → ((s t : Dating) → next_dated until s ≡ Some t → P t → P s) → (s : Dating) → P s
dated_induction until P rests meets s = by_bound (suc (entries_left s.rows)) s (omega arith)
  where
    by_bound : (n : ℕ) (s : Dating) → entries_left s.rows < n → P s
    by_bound zero s lt = absurd (omega (arith, lt))
    by_bound (suc n) s lt = by_next (next_dated until s) refl (λ t. by_bound n t)
      where
        by_next : (o : Option Dating) → next_dated until s ≡ o → ((t : Dating) → entries_left t.rows < n → P t) → P s
        by_next None e ih = rests s e
        by_next (Some t) e ih = let fall = dated_falls until s t e in meets s t e (ih t (omega (arith, fall, lt)))

-- ---- what happened before stands before

abbrev pub begun_with : List (Moment × Happening) → Dating → Dating
begun_with before s = record { rows = s.rows; happened = before ++ s.happened }

begun_next : (until : Moment) (before : List (Moment × Happening)) (s : Dating) → option_map (begun_with before) (next_dated until s) ≡ next_dated until (begun_with before s)
begun_next until before s = by_due (next_due until s.rows)
  where
    by_due : (o : Option NamedDeadline) → option_map (begun_with before) (option_and_then (met_dated s) o) ≡ option_and_then (met_dated (begun_with before s)) o
    by_due None = refl
    by_due (Some d) = by_met (met (record { rows = s.rows; happened = [] }) d)
      where
        by_met : (o : Option Ticking) → option_map (begun_with before) (option_map (dated_to s d.at) o) ≡ option_map (dated_to (begun_with before s) d.at) o
        by_met None = refl
        by_met (Some t) = ap (λ (l : List (Moment × Happening)). Some (record { rows = t.rows; happened = l })) (sym (append_assoc before s.happened (dated_at d.at t.happened)))

begun_settled : (until : Moment) (before : List (Moment × Happening)) (n : ℕ) (s : Dating) → begun_with before (settle (next_dated until) n s) ≡ settle (next_dated until) n (begun_with before s)
begun_settled until before zero s = refl
begun_settled until before (suc n) s = by_next (next_dated until s) (begun_next until before s) (λ t. begun_settled until before n t)
  where
    by_next : (o : Option Dating) → option_map (begun_with before) o ≡ next_dated until (begun_with before s)
        → ((t : Dating) → begun_with before (settle (next_dated until) n t) ≡ settle (next_dated until) n (begun_with before t))
        → begun_with before (settle_by (next_dated until) n s o) ≡ settle (next_dated until) (suc n) (begun_with before s)
    by_next None e ih = ap (settle_by (next_dated until) n (begun_with before s)) e
    by_next (Some t) e ih = ih t ∙ ap (settle_by (next_dated until) n (begun_with before s)) e

pub begun_is : (until : Moment) (before : List (Moment × Happening)) (s : Dating) → begun_with before (dated_on until s) ≡ dated_on until (begun_with before s)
begun_is until before s = begun_settled until before (entries_left s.rows) s

-- from the beginning: what the first deadline makes happen, and then all else
pub dated_first : (until : Moment) (rows : Rows) (t : Dating) → next_dated until (record { rows = rows; happened = [] }) ≡ Some t → dated until rows ≡ begun_with t.happened (dated until t.rows)
dated_first until rows t some =
    dated_meets until (record { rows = rows; happened = [] }) t some
    ∙ ap (λ (l : List (Moment × Happening)). dated_on until (record { rows = t.rows; happened = l })) (sym (append-nil t.happened))
    ∙ sym (begun_is until t.happened (record { rows = t.rows; happened = [] }))

-- ---- in order

module _ (low : Moment) where
  abbrev From : Moment → Type 0
  From m = low.0 ≤ m.0

  pub from_more : (xs ys : List (Moment × Happening)) → HappenFrom low xs → HappenFrom low ys → HappenFrom low (xs ++ ys)
  from_more [] ys some all = all
  from_more (x ∷ xs) ys some all = (some.0, from_more xs ys some.1 all)

  pub from_at : (at : Moment) (xs : List Happening) → low.0 ≤ at.0 → HappenFrom low (dated_at at xs)
  from_at at [] le = tt
  from_at at (x ∷ xs) le = (le, from_at at xs le)

  module _ (now : Moment) (le : low.0 ≤ now.0) where
    past : (ms : ℕ) → (ms == 0) ≡ false → low.0 ≤ now.0 + ms
    past ms e = omega (arith, le)

    from_abort : (aborts : Bool) (client : ℕ) (rows : Rows) → LieFrom low rows → LieFrom low (after_abort aborts client now rows)
    from_abort true client rows all = each_lost From now past client rows all
    from_abort false client rows all = all

    from_met : (d : NamedDeadline) (x : Expired) (rows : Rows) → d.at ≡ now → LieFrom low rows → LieFrom low (rows_after d x rows)
    from_met d x rows at all =
        subst (λ (m : Moment). LieFrom low (after_abort x.abort x.client m (expire_after d.key d.entry m rows))) (sym at)
        (from_abort x.abort x.client (expire_after d.key d.entry now rows) (each_expired From now past d.key d.entry rows all))

  -- the deadline that is met lies no earlier
  pub due_from : (until : Moment) (rows : Rows) (d : NamedDeadline) → next_due until rows ≡ Some d → LieFrom low rows → low.0 ≤ d.at.0
  due_from until rows d due all = each_ahead From (all_deadlines rows) all d (due_stands until rows d due)

  pub from_next : (until : Moment) (s t : Dating) → next_dated until s ≡ Some t → LieFrom low s.rows → LieFrom low t.rows
  from_next until s t some all =
      let m = what_is_met until s t some in
      let le = due_from until s.rows m.deadline m.due all in
      subst (λ (u : Dating). LieFrom low u.rows) m.is (from_met m.deadline.at le m.deadline m.expires s.rows refl all)

  happen_next : (until : Moment) (s t : Dating) → next_dated until s ≡ Some t → LieFrom low s.rows → HappenFrom low s.happened → HappenFrom low t.happened
  happen_next until s t some all before =
      let m = what_is_met until s t some in
      let le = due_from until s.rows m.deadline m.due all in
      subst (λ (u : Dating). HappenFrom low u.happened) m.is
      (from_more s.happened (dated_at m.deadline.at (happens m.deadline m.expires s.rows)) before (from_at m.deadline.at (happens m.deadline m.expires s.rows) le))

  pub happen_from : (until : Moment) (s : Dating) → LieFrom low s.rows → HappenFrom low s.happened → HappenFrom low (dated_on until s).happened
  happen_from until s = dated_induction until (λ u. LieFrom low u.rows → HappenFrom low u.happened → HappenFrom low (dated_on until u).happened)
      (λ u none all before. subst (λ (v : Dating). HappenFrom low v.happened) (sym (dated_rests until u none)) before)
      (λ u t some ih all before. subst (λ (v : Dating). HappenFrom low v.happened) (sym (dated_meets until u t some)) (ih (from_next until u t some all) (happen_next until u t some all before))) s

-- no deadline lies before the least
least_from : (until : Moment) (rows : Rows) (d : NamedDeadline) → next_due until rows ≡ Some d → LieFrom d.at rows
least_from until rows d due k e low = no_earlier _ d (next_least until rows d due k e low)

module _ (until : Moment) where
  -- nor does what happens after it
  pub later_from : (rows : Rows) (t : Dating) (d : NamedDeadline) → next_dated until (record { rows = rows; happened = [] }) ≡ Some t → next_due until rows ≡ Some d
      → HappenFrom d.at (dated until t.rows).happened
  later_from rows t d some due =
      happen_from d.at until (record { rows = t.rows; happened = [] }) (from_next d.at until (record { rows = rows; happened = [] }) t some (least_from until rows d due)) tt

  ordered_at : (at : Moment) (xs : List Happening) (ys : List (Moment × Happening)) → HappenFrom at ys → IsInOrder ys → IsInOrder (dated_at at xs ++ ys)
  ordered_at at [] ys later order = order
  ordered_at at (x ∷ xs) ys later order = (from_more at (dated_at at xs) ys (from_at at at xs (omega arith)) later, ordered_at at xs ys later order)

  pub rows_induction : (P : Rows → Type 0) → ((rows : Rows) → next_dated until (record { rows = rows; happened = [] }) ≡ None → P rows)
      → ((rows : Rows) (t : Dating) → next_dated until (record { rows = rows; happened = [] }) ≡ Some t → P t.rows → P rows) → (rows : Rows) → P rows
  rows_induction P rests meets rows = by_bound (suc (entries_left rows)) rows (omega arith)
    where
      by_bound : (n : ℕ) (rows : Rows) → entries_left rows < n → P rows
      by_bound zero rows lt = absurd (omega (arith, lt))
      by_bound (suc n) rows lt = by_next (next_dated until (record { rows = rows; happened = [] })) refl (by_bound n)
        where
          by_next : (o : Option Dating) → next_dated until (record { rows = rows; happened = [] }) ≡ o → ((left : Rows) → entries_left left < n → P left) → P rows
          by_next None e ih = rests rows e
          by_next (Some t) e ih = let fall = dated_falls until (record { rows = rows; happened = [] }) t e in meets rows t e (ih t.rows (omega (arith, fall, lt)))

  pub in_order : (rows : Rows) → IsInOrder (dated until rows).happened
  in_order = rows_induction (λ rows. IsInOrder (dated until rows).happened)
      (λ rows none. subst (λ (u : Dating). IsInOrder u.happened) (sym (dated_rests until (record { rows = rows; happened = [] }) none)) tt)
      (λ rows t some ih.
      let m = what_is_met until (record { rows = rows; happened = [] }) t some in
      let is : dated_at m.deadline.at (happens m.deadline m.expires rows) ≡ t.happened = ap (λ (u : Dating). u.happened) m.is in
      subst (λ (u : Dating). IsInOrder u.happened) (sym (dated_first until rows t some))
      (subst (λ (l : List (Moment × Happening)). IsInOrder (l ++ (dated until t.rows).happened)) is
      (ordered_at m.deadline.at (happens m.deadline m.expires rows) (dated until t.rows).happened (later_from rows t m.deadline some m.due) ih)))

  by_more : (xs ys : List (Moment × Happening)) → HappenBy until xs → HappenBy until ys → HappenBy until (xs ++ ys)
  by_more [] ys some all = all
  by_more (x ∷ xs) ys some all = (some.0, by_more xs ys some.1 all)

  by_at : (at : Moment) (xs : List Happening) → at.0 ≤ until.0 → HappenBy until (dated_at at xs)
  by_at at [] le = tt
  by_at at (x ∷ xs) le = (le, by_at at xs le)

  pub by_then : (rows : Rows) → HappenBy until (dated until rows).happened
  by_then = rows_induction (λ rows. HappenBy until (dated until rows).happened)
      (λ rows none. subst (λ (u : Dating). HappenBy until u.happened) (sym (dated_rests until (record { rows = rows; happened = [] }) none)) tt)
      (λ rows t some ih.
      let m = what_is_met until (record { rows = rows; happened = [] }) t some in
      let is : dated_at m.deadline.at (happens m.deadline m.expires rows) ≡ t.happened = ap (λ (u : Dating). u.happened) m.is in
      subst (λ (u : Dating). HappenBy until u.happened) (sym (dated_first until rows t some))
      (subst (λ (l : List (Moment × Happening)). HappenBy until (l ++ (dated until t.rows).happened)) is
      (by_more (dated_at m.deadline.at (happens m.deadline m.expires rows)) (dated until t.rows).happened
      (by_at m.deadline.at (happens m.deadline m.expires rows) (next_by_then until rows m.deadline m.due)) ih)))

-- ---- what code keeps: moments beside what happened

zipped : (at : Moment) (moments : List Moment) (before told : List Happening) → length moments ≡ length before
    → zip (moments ++ map (λ (h : Happening). at) told) (before ++ told) ≡ zip moments before ++ dated_at at told
zipped at [] [] told same = all told
  where
    all : (told : List Happening) → zip (map (λ (h : Happening). at) told) told ≡ dated_at at told
    all [] = refl
    all (h ∷ told) = ap (λ l. (at, h) ∷ l) (all told)
zipped at [] (h ∷ before) told same = absurd (omega (arith, same))
zipped at (m ∷ moments) [] told same = absurd (omega (arith, same))
zipped at (m ∷ moments) (h ∷ before) told same = ap (λ l. (m, h) ∷ l) (zipped at moments before told (omega (arith, same)))

-- each has a moment
pub record AreDated (until : Moment) (t : Ticking) (u : Dating) (moments : List Moment) : Type 0 where
  pub next : next_dated until u ≡ Some (with_moments t moments)
  pub long : length moments ≡ length t.happened

module _ (until : Moment) (s t : Ticking) (d : NamedDeadline) (moments later : List Moment) (due : next_due until s.rows ≡ Some d) (is : met s d ≡ Some t)
    (long : length moments ≡ length s.happened) (more : later ≡ moments ++ map (λ (h : Happening). d.at) (drop (length moments) t.happened)) where
  pub dated_so : AreDated until t (with_moments s moments) later
  dated_so = by_expired (expired d.key d.entry s.rows) refl is
    where
      by_expired : (o : Option Expired) → expired d.key d.entry s.rows ≡ o → option_map (met_as s d) o ≡ Some t → AreDated until t (with_moments s moments) later
      by_expired None f k = absurd (cc k)
      by_expired (Some x) f k =
          let told = happens d x s.rows in
          let one : met_as s d x ≡ t = cc k in
          let all : s.happened ++ told ≡ t.happened = ap (λ (u : Ticking). u.happened) one in
          let rest : drop (length moments) t.happened ≡ told = ap (drop (length moments)) (sym all) ∙ drop_at s.happened told (length moments) (sym long) in
          let has : later ≡ moments ++ map (λ (h : Happening). d.at) told = more ∙ ap (λ (l : List Happening). moments ++ map (λ (h : Happening). d.at) l) rest in
          let pairs : zip moments s.happened ++ dated_at d.at told ≡ zip later t.happened =
          sym (zipped d.at moments s.happened told long) ∙ ap (λ (l : List Moment). zip l (s.happened ++ told)) (sym has) ∙ ap (zip later) all in
          let met_now : met_dated (with_moments s moments) d ≡ Some (dated_to (with_moments s moments) d.at (met_as (record { rows = s.rows; happened = [] }) d x)) =
          ap (λ (o : Option Expired). option_map (dated_to (with_moments s moments) d.at) (option_map (met_as (record { rows = s.rows; happened = [] }) d) o)) f in
          record {
            next =
                ap (option_and_then (met_dated (with_moments s moments))) due ∙ met_now
                ∙ ap (λ (l : List (Moment × Happening)). Some (record { rows = rows_after d x s.rows; happened = l })) pairs
                ∙ ap (λ (rows : Rows). Some (record { rows = rows; happened = zip later t.happened })) (ap (λ (u : Ticking). u.rows) one);
            long =
                let a : length later ≡ length (moments ++ map (λ (h : Happening). d.at) told) = ap length has in
                let b : length (moments ++ map (λ (h : Happening). d.at) told) ≡ length moments + length (map (λ (h : Happening). d.at) told) = length-append moments (map (λ (h : Happening). d.at) told) in
                let c : length (map (λ (h : Happening). d.at) told) ≡ length told = length-map told (λ (h : Happening). d.at) in
                let e : length t.happened ≡ length (s.happened ++ told) = ap length (sym all) in
                let f : length (s.happened ++ told) ≡ length s.happened + length told = length-append s.happened told in
                omega (arith, a, b, c, e, f, long);
          }

-- one moment more

parted : (n : ℕ) (xs : List Happening) → n < length xs → (h : Happening) × (drop n xs ≡ h ∷ drop (suc n) xs)
parted zero [] low = absurd (omega (arith, low))
parted (suc n) [] low = absurd (omega (arith, low))
parted zero (x ∷ xs) low = (x, refl)
parted (suc n) (x ∷ xs) low = parted n xs (omega (arith, low))

pub date_more : (at : Moment) (moments new : List Moment) (happened : List Happening) → new ≡ moments ++ at ∷ [] → length moments < length happened
    → new ++ map (λ (h : Happening). at) (drop (length new) happened) ≡ moments ++ map (λ (h : Happening). at) (drop (length moments) happened)
date_more at moments new happened is low =
    let p = parted (length moments) happened low in
    let long : length new ≡ suc (length moments) = ap length is ∙ (let a = length-append moments (at ∷ []) in omega (arith, a)) in
    ap (λ (l : List Moment). l ++ map (λ (h : Happening). at) (drop (length new) happened)) is
    ∙ ap (λ (n : ℕ). (moments ++ at ∷ []) ++ map (λ (h : Happening). at) (drop n happened)) long
    ∙ append_assoc moments (at ∷ []) (map (λ (h : Happening). at) (drop (suc (length moments)) happened))
    ∙ ap (λ (l : List Happening). moments ++ map (λ (h : Happening). at) l) (sym p.1)

pub date_end : (at : Moment) (moments : List Moment) (happened : List Happening) → length happened ≤ length moments → moments ++ map (λ (h : Happening). at) (drop (length moments) happened) ≡ moments
date_end at moments happened low = ap (λ (l : List Happening). moments ++ map (λ (h : Happening). at) l) (drop_all (length moments) happened low) ∙ append-nil moments

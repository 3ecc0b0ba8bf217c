-- The rows of entries by rank and by deadline answer what the entries answer, and change as they do.
use Rattle.std.proofs.Common.{◌≡◌, ℕ, ◌<◌, ◌≤◌, inl, inr, Bool, true, false, not, cond, ◌||◌, ◌==◌, List, [], ◌∷◌, ◌++◌, map, filter, fold, filter_map, option_map, Option, None, Some, is_some, refl, sym, ◌∙◌, ap, ap₂, arith}
use Rattle.std.specs.Prelude.{nat_lt}
use Rattle.std.specs.List.{cons_option, list_any}
use Rattle.std.proofs.lemmas.Bool.Decides.{nat_tests}
use Rattle.mms_types.specs.declared.moment.Moment.{Moment}
use Rattle.token_sem.specs.declared.entry.SemEntry.{SemEntry}
use Rattle.token_sem.specs.declared.entry.Deadline.{Deadline}
use Rattle.token_sem.specs.Semaphore as s
use Rattle.token_sem.specs.Semaphore.{is_queued, deadline_with, deadlines, first_deadline, Rises, without}
use Rattle.token_sem.specs.Entries.{row_of, rows_of, is_ranked, put_entry}
use Rattle.token_sem.proofs.Keeping.{Among, rises-above, same_number, different, without-none}
use Rattle.sem_queue.specs.declared.row.Row.{Row}
use Rattle.sem_queue.specs.declared.row.Due.{Due}
use Rattle.sem_queue.specs.Rows as q
use Rattle.sem_queue.specs.Rows.{Queue, due_of, with_row}
use Rattle.sem_queue.proofs.Lists.{weight, weight-no, count-cons, find-some}

abbrev cons : {A : Type 0} → A → List A → List A
cons x xs = x ∷ xs

-- a function that keeps the order keeps the least
module _ {A B : Type 0} (f : A → B) (less : A → A → Bool) (less' : B → B → Bool) (same : (x y : A) → less' (f x) (f y) ≡ less x y) where
  one-step : (best : Option A) (x : A) → q.earlier less' (option_map f best) (f x) ≡ option_map f (s.earlier less best x)
  one-step None x = refl
  one-step (Some b) x = by_test (less' (f x) (f b)) (less x b) (same x b)
    where
      by_test : (t u : Bool) → t ≡ u → Some (cond t (f x) (f b)) ≡ Some (f (cond u x b))
      by_test true true e = refl
      by_test false false e = refl
      by_test true false e = absurd cc
      by_test false true e = absurd cc

  least-from : (xs : List A) (best : Option A) → fold (q.earlier less') (option_map f best) (map f xs) ≡ option_map f (fold (s.earlier less) best xs)
  least-from [] best = refl
  least-from (x ∷ xs) best = ap (λ (o : Option B). fold (q.earlier less') o (map f xs)) (one-step best x) ∙ least-from xs (s.earlier less best x)

  pub least-map : (xs : List A) → q.least less' (map f xs) ≡ option_map f (s.least less xs)
  least-map xs = least-from xs None

-- the rows of an entry more
rows-cons : (e : SemEntry) (es : List SemEntry) (b : Bool) → is_ranked e ≡ b → rows_of (e ∷ es) ≡ cond b (row_of e ∷ rows_of es) (rows_of es)
rows-cons e es b t = ap (λ (c : Bool). map row_of (cond c (e ∷ filter is_ranked es) (filter is_ranked es))) t ∙ turn b
  where
    turn : (b : Bool) → map row_of (cond b (e ∷ filter is_ranked es) (filter is_ranked es)) ≡ cond b (row_of e ∷ rows_of es) (rows_of es)
    turn true = refl
    turn false = refl

pub ranked-row : (e : SemEntry) (es : List SemEntry) → is_ranked e ≡ true → rows_of (e ∷ es) ≡ row_of e ∷ rows_of es
ranked-row e es t = rows-cons e es true t

pub unranked-row : (e : SemEntry) (es : List SemEntry) → is_ranked e ≡ false → rows_of (e ∷ es) ≡ rows_of es
unranked-row e es t = rows-cons e es false t

-- an entry in no order doesn't wait and has no deadline
pub unranked-is : (e : SemEntry) → is_ranked e ≡ false → (is_queued e ≡ false) × (e.deadline ≡ None)
unranked-is e t = by_test (is_queued e) e.deadline refl refl t
  where
    by_test : (b : Bool) (o : Option Moment) → is_queued e ≡ b → e.deadline ≡ o → (b || is_some o) ≡ false → (is_queued e ≡ false) × (e.deadline ≡ None)
    by_test true o p h t = absurd cc
    by_test false (Some at) p h t = absurd cc
    by_test false None p h t = (p, h)

-- rows that pass a test are those of entries that pass one, where whoever passes waits
pub chosen-rows : (p : Row → Bool) (w : SemEntry → Bool) → ((e : SemEntry) → p (row_of e) ≡ w e) → ((e : SemEntry) → is_ranked e ≡ false → w e ≡ false)
    → (es : List SemEntry) → filter p (rows_of es) ≡ map row_of (filter w es)
chosen-rows p w same none [] = refl
chosen-rows p w same none (e ∷ es) = by_test (is_ranked e) refl (chosen-rows p w same none es)
  where
    take_in : (b : Bool) → w e ≡ b → filter p (rows_of es) ≡ map row_of (filter w es)
        → cond (p (row_of e)) (row_of e ∷ filter p (rows_of es)) (filter p (rows_of es)) ≡ map row_of (filter w (e ∷ es))
    take_in true t ih =
        ap (λ (b : Bool). cond b (row_of e ∷ filter p (rows_of es)) (filter p (rows_of es))) (same e ∙ t) ∙ ap (cons (row_of e)) ih
        ∙ sym (ap (λ (b : Bool). map row_of (cond b (e ∷ filter w es) (filter w es))) t)
    take_in false t ih =
        ap (λ (b : Bool). cond b (row_of e ∷ filter p (rows_of es)) (filter p (rows_of es))) (same e ∙ t) ∙ ih
        ∙ sym (ap (λ (b : Bool). map row_of (cond b (e ∷ filter w es) (filter w es))) t)

    by_test : (b : Bool) → is_ranked e ≡ b → filter p (rows_of es) ≡ map row_of (filter w es) → filter p (rows_of (e ∷ es)) ≡ map row_of (filter w (e ∷ es))
    by_test true t ih = ap (filter p) (ranked-row e es t) ∙ take_in (w e) refl ih
    by_test false t ih =
        ap (filter p) (unranked-row e es t) ∙ ih
        ∙ sym (ap (λ (b : Bool). map row_of (cond b (e ∷ filter w es) (filter w es))) (none e t))

-- the first deadline
abbrev pub due-of : Deadline → Due
due-of d = record { at = d.at; kind = d.kind; number = d.number }

dues : (es : List SemEntry) → filter_map due_of (rows_of es) ≡ map due-of (deadlines es)
dues [] = refl
dues (e ∷ es) = by_ranked (is_ranked e) refl (dues es)
  where
    kinds : (at : Moment) (b : Bool) → ◌≡◌ {A = Due} (record { at = at; kind = q.kind_of b; number = e.number }) (record { at = at; kind = cond b 1 0; number = e.number })
    kinds at true = refl
    kinds at false = refl

    by_deadline : (o : Option Moment) → filter_map due_of (rows_of es) ≡ map due-of (deadlines es)
        → cons_option (option_map (λ (at : Moment). record { at = at; kind = q.kind_of (is_queued e); number = e.number }) o) (filter_map due_of (rows_of es))
        ≡ map due-of (cons_option (deadline_with o e) (deadlines es))
    by_deadline None ih = ih
    by_deadline (Some at) ih = ap₂ (λ (x : Due) (xs : List Due). x ∷ xs) (kinds at (is_queued e)) ih

    by_ranked : (b : Bool) → is_ranked e ≡ b → filter_map due_of (rows_of es) ≡ map due-of (deadlines es) → filter_map due_of (rows_of (e ∷ es)) ≡ map due-of (deadlines (e ∷ es))
    by_ranked true t ih = ap (filter_map due_of) (ranked-row e es t) ∙ by_deadline e.deadline ih
    by_ranked false t ih =
        ap (filter_map due_of) (unranked-row e es t) ∙ ih
        ∙ sym (ap (λ (o : Option Moment). map due-of (cons_option (deadline_with o e) (deadlines es))) (unranked-is e t).1)

pub first-due : (es : List SemEntry) → q.first_due (rows_of es) ≡ option_map due-of (first_deadline es)
first-due es = ap (λ (ds : List Due). q.least q.sooner ds) (dues es) ∙ least-map due-of s.sooner q.sooner (λ a b. refl) (deadlines es)

pub first-deadline : (es : List SemEntry) → q.first_deadline (rows_of es) ≡ option_map s.moment_and_entry (first_deadline es)
first-deadline es = ap (option_map (λ (d : Due). (d.at, d.number))) (first-due es) ∙ twice (first_deadline es)
  where
    twice : (o : Option Deadline) → option_map (λ (d : Due). (d.at, d.number)) (option_map due-of o) ≡ option_map s.moment_and_entry o
    twice None = refl
    twice (Some d) = refl

pub due-none : (es : List SemEntry) → None ≡ q.first_due (rows_of es) → None ≡ first_deadline es
due-none es e = by_first (first_deadline es) (e ∙ first-due es)
  where
    by_first : (o : Option Deadline) → None ≡ option_map due-of o → None ≡ o
    by_first None f = refl
    by_first (Some d) f = absurd cc

pub due-some : (es : List SemEntry) (due : Due) → Some due ≡ q.first_due (rows_of es) → Some (record { at = due.at; kind = due.kind; number = due.number }) ≡ first_deadline es
due-some es due e = by_first (first_deadline es) (e ∙ first-due es)
  where
    by_first : (o : Option Deadline) → Some due ≡ option_map due-of o → Some (record { at = due.at; kind = due.kind; number = due.number }) ≡ o
    by_first None f = absurd cc
    by_first (Some d) f =
        let same : due ≡ due-of d = cc f in
        ap (λ (x : Due). Some (record { at = x.at; kind = x.kind; number = x.number })) same

-- whether any waits
pub any-waits : (es : List SemEntry) → list_any (λ r. r.queued) (rows_of es) ≡ list_any is_queued es
any-waits [] = refl
any-waits (e ∷ es) = by_test (is_ranked e) refl (any-waits es)
  where
    by_test : (b : Bool) → is_ranked e ≡ b → list_any (λ r. r.queued) (rows_of es) ≡ list_any is_queued es → list_any (λ r. r.queued) (rows_of (e ∷ es)) ≡ (is_queued e || list_any is_queued es)
    by_test true t ih = ap (list_any (λ r. r.queued)) (ranked-row e es t) ∙ ap (λ (b : Bool). is_queued e || b) ih
    by_test false t ih =
        ap (list_any (λ r. r.queued)) (unranked-row e es t) ∙ ih
        ∙ sym (ap (λ (b : Bool). b || list_any is_queued es) (unranked-is e t).0)

-- the row of a number
pub numbered-row : (n : ℕ) (e : SemEntry) (es : List SemEntry) → s.numbered n es ≡ Some e → is_ranked e ≡ true → q.numbered n (rows_of es) ≡ Some (row_of e)
numbered-row n e [] f t = absurd cc
numbered-row n e (x ∷ es) f t = by_number (x.number == n) refl f (λ h. numbered-row n e es h t)
  where
    stays : (b : Bool) → is_ranked x ≡ b → (x.number == n) ≡ false → q.numbered n (rows_of es) ≡ Some (row_of e) → q.numbered n (rows_of (x ∷ es)) ≡ Some (row_of e)
    stays true k d ih = ap (q.numbered n) (ranked-row x es k) ∙ ap (λ (b : Bool). cond b (Some (row_of x)) (q.numbered n (rows_of es))) d ∙ ih
    stays false k d ih = ap (q.numbered n) (unranked-row x es k) ∙ ih

    by_number : (b : Bool) → (x.number == n) ≡ b → cond b (Some x) (s.numbered n es) ≡ Some e → (s.numbered n es ≡ Some e → q.numbered n (rows_of es) ≡ Some (row_of e)) → q.numbered n (rows_of (x ∷ es)) ≡ Some (row_of e)
    by_number true d f ih =
        let same : x ≡ e = cc f in
        ap (q.numbered n) (ranked-row x es (ap is_ranked same ∙ t)) ∙ ap (λ (b : Bool). cond b (Some (row_of x)) (q.numbered n (rows_of es))) d ∙ ap (λ (y : SemEntry). Some (row_of y)) same
    by_number false d f ih = stays (is_ranked x) refl d (ih f)

pub without-row : (n : ℕ) (es : List SemEntry) → q.without n (rows_of es) ≡ rows_of (without n es)
without-row n [] = refl
without-row n (e ∷ es) = by_ranked (is_ranked e) refl (without-row n es)
  where
    kept : (b c : Bool) → is_ranked e ≡ c → rows_of (cond (not b) (e ∷ without n es) (without n es)) ≡ cond (not b) (cond c (row_of e ∷ rows_of (without n es)) (rows_of (without n es))) (rows_of (without n es))
    kept true c t = refl
    kept false c t = rows-cons e (without n es) c t

    by_ranked : (b : Bool) → is_ranked e ≡ b → q.without n (rows_of es) ≡ rows_of (without n es) → q.without n (rows_of (e ∷ es)) ≡ rows_of (without n (e ∷ es))
    by_ranked true t ih = ap (q.without n) (ranked-row e es t) ∙ by_number (e.number == n) ∙ sym (kept (e.number == n) true t)
      where
        by_number : (b : Bool) → cond (not b) (row_of e ∷ q.without n (rows_of es)) (q.without n (rows_of es)) ≡ cond (not b) (row_of e ∷ rows_of (without n es)) (rows_of (without n es))
        by_number true = ih
        by_number false = ap (cons (row_of e)) ih
    by_ranked false t ih = ap (q.without n) (unranked-row e es t) ∙ ih ∙ sym (kept (e.number == n) false t ∙ both (e.number == n))
      where
        both : (b : Bool) → cond (not b) (rows_of (without n es)) (rows_of (without n es)) ≡ rows_of (without n es)
        both true = refl
        both false = refl

-- a row with a greater number than the first comes after it
with-later : (row r : Row) (rows : List Row) → r.number < row.number → with_row row (r ∷ rows) ≡ r ∷ with_row row rows
with-later row r rows lt =
    let below : nat_lt r.number row.number ≡ true = grind (arith, nat_tests) in
    let above : nat_lt row.number r.number ≡ false = grind (arith, nat_tests) in
    let low = filter (λ x. nat_lt x.number row.number) rows in
    let high = filter (λ x. nat_lt row.number x.number) rows in
    let join : List Row → List Row → List Row = λ a b. a ++ row ∷ b in
    ap₂ join (ap (λ b. cond b (r ∷ low) low) below) (ap (λ b. cond b (r ∷ high) high) above)

-- rows of entries with greater numbers come after a row
all-above : (row : Row) (low high : ℕ) (es : List SemEntry) → row.number ≤ low → Rises low es high → with_row row (rows_of es) ≡ row ∷ rows_of es
all-above row low high es le r = by_rows es low le r
  where
    by_rows : (xs : List SemEntry) (low : ℕ) → row.number ≤ low → Rises low xs high → with_row row (rows_of xs) ≡ row ∷ rows_of xs
    by_rows xs low le r = ap₂ (λ (a b : List Row). a ++ row ∷ b) (none xs low le r) (all xs low le r)
      where
        none : (xs : List SemEntry) (low : ℕ) → row.number ≤ low → Rises low xs high → filter (λ x. nat_lt x.number row.number) (rows_of xs) ≡ []
        none [] low le r = refl
        none (x ∷ xs) low le r =
            let up : low < x.number = r.0 in
            let t : nat_lt x.number row.number ≡ false = grind (arith, nat_tests) in
            by_ranked (is_ranked x) refl t (none xs x.number (omega arith) r.1)
          where
            by_ranked : (b : Bool) → is_ranked x ≡ b → nat_lt x.number row.number ≡ false → filter (λ (y : Row). nat_lt y.number row.number) (rows_of xs) ≡ [] → filter (λ (y : Row). nat_lt y.number row.number) (rows_of (x ∷ xs)) ≡ []
            by_ranked true k t ih =
                ap (filter (λ (y : Row). nat_lt y.number row.number)) (ranked-row x xs k)
                ∙ ap (λ b. cond b (row_of x ∷ filter (λ (y : Row). nat_lt y.number row.number) (rows_of xs)) (filter (λ (y : Row). nat_lt y.number row.number) (rows_of xs))) t ∙ ih
            by_ranked false k t ih = ap (filter (λ (y : Row). nat_lt y.number row.number)) (unranked-row x xs k) ∙ ih

        all : (xs : List SemEntry) (low : ℕ) → row.number ≤ low → Rises low xs high → filter (λ x. nat_lt row.number x.number) (rows_of xs) ≡ rows_of xs
        all [] low le r = refl
        all (x ∷ xs) low le r =
            let up : low < x.number = r.0 in
            let t : nat_lt row.number x.number ≡ true = grind (arith, nat_tests) in
            by_ranked (is_ranked x) refl t (all xs x.number (omega arith) r.1)
          where
            by_ranked : (b : Bool) → is_ranked x ≡ b → nat_lt row.number x.number ≡ true → filter (λ (y : Row). nat_lt row.number y.number) (rows_of xs) ≡ rows_of xs → filter (λ (y : Row). nat_lt row.number y.number) (rows_of (x ∷ xs)) ≡ rows_of (x ∷ xs)
            by_ranked true k t ih =
                ap (filter (λ (y : Row). nat_lt row.number y.number)) (ranked-row x xs k)
                ∙ ap (λ b. cond b (row_of x ∷ filter (λ (y : Row). nat_lt row.number y.number) (rows_of xs)) (filter (λ (y : Row). nat_lt row.number y.number) (rows_of xs))) t
                ∙ ap (cons (row_of x)) ih ∙ sym (ranked-row x xs k)
            by_ranked false k t ih = ap (filter (λ (y : Row). nat_lt row.number y.number)) (unranked-row x xs k) ∙ ih ∙ sym (unranked-row x xs k)

-- a row with a greater number than an entry's comes after it
with-first : (row : Row) (e : SemEntry) (es : List SemEntry) → e.number < row.number → (rest : List SemEntry) → with_row row (rows_of es) ≡ rows_of rest → with_row row (rows_of (e ∷ es)) ≡ rows_of (e ∷ rest)
with-first row e es lt rest ih = by_ranked (is_ranked e) refl
  where
    by_ranked : (b : Bool) → is_ranked e ≡ b → with_row row (rows_of (e ∷ es)) ≡ rows_of (e ∷ rest)
    by_ranked true t = ap (with_row row) (ranked-row e es t) ∙ with-later row (row_of e) (rows_of es) lt ∙ ap (cons (row_of e)) ih ∙ sym (ranked-row e rest t)
    by_ranked false t = ap (with_row row) (unranked-row e es t) ∙ ih ∙ sym (unranked-row e rest t)

-- a new entry has the greatest number
pub add-row : (low high : ℕ) (es : List SemEntry) (e : SemEntry) → Rises low es high → high < e.number → is_ranked e ≡ true → with_row (row_of e) (rows_of es) ≡ rows_of (es ++ e ∷ [])
add-row low high [] e r lt t = sym (ranked-row e [] t)
add-row low high (x ∷ es) e r lt t =
    let top = rises-above low high (x ∷ es) x r (inl refl) in
    with-first (row_of e) x es (omega (arith, top.1)) (es ++ e ∷ []) (add-row x.number high es e r.1 lt t)

pub add-none : (es : List SemEntry) (e : SemEntry) → is_ranked e ≡ false → rows_of (es ++ e ∷ []) ≡ rows_of es
add-none [] e t = unranked-row e [] t
add-none (x ∷ es) e t = by_ranked (is_ranked x) refl (add-none es e t)
  where
    by_ranked : (b : Bool) → is_ranked x ≡ b → rows_of (es ++ e ∷ []) ≡ rows_of es → rows_of (x ∷ es ++ e ∷ []) ≡ rows_of (x ∷ es)
    by_ranked true k ih = ranked-row x (es ++ e ∷ []) k ∙ ap (cons (row_of x)) ih ∙ sym (ranked-row x es k)
    by_ranked false k ih = unranked-row x (es ++ e ∷ []) k ∙ ih ∙ sym (unranked-row x es k)

-- an entry takes the place of another: its row goes, and where it is in an order comes again
pub put-row : (low high : ℕ) (es : List SemEntry) (new o : SemEntry) (b : Bool) → Rises low es high → Among es o → o.number ≡ new.number → is_ranked new ≡ b
    → cond b (with_row (row_of new) (q.without new.number (rows_of es))) (q.without new.number (rows_of es)) ≡ rows_of (map (put_entry new) es)
put-row low high [] new o b r a same t = absurd a
put-row low high (e ∷ es) new o b r (inl here) same t =
    let n : e.number ≡ new.number = ap (λ (x : SemEntry). x.number) here ∙ same in
    let gone : q.without new.number (rows_of (e ∷ es)) ≡ rows_of es =
    without-row new.number (e ∷ es) ∙ ap (λ c. rows_of (cond (not c) (e ∷ without new.number es) (without new.number es))) (same_number e.number new.number n)
    ∙ ap rows_of (without-none e.number high new.number es (omega arith) r.1) in
    let head : put_entry new e ≡ new = ap (λ c. cond c new e) (same_number e.number new.number n) in
    let rest : map (put_entry new) es ≡ es = later e.number es (omega arith) r.1 in
    ap (λ (rows : List Row). cond b (with_row (row_of new) rows) rows) gone
    ∙ by_ranked b t n
    ∙ sym (ap rows_of (ap₂ (λ (x : SemEntry) (xs : List SemEntry). x ∷ xs) head rest))
  where
    later : (low : ℕ) (xs : List SemEntry) → new.number ≤ low → Rises low xs high → map (put_entry new) xs ≡ xs
    later low [] le r = refl
    later low (x ∷ xs) le r =
        let up : low < x.number = r.0 in
        let d : (x.number == new.number) ≡ false = grind (arith, nat_tests) in
        ap₂ (λ (y : SemEntry) (ys : List SemEntry). y ∷ ys) (ap (λ c. cond c new x) d) (later x.number xs (omega arith) r.1)

    by_ranked : (b : Bool) → is_ranked new ≡ b → e.number ≡ new.number → cond b (with_row (row_of new) (rows_of es)) (rows_of es) ≡ rows_of (new ∷ es)
    by_ranked true k n = all-above (row_of new) e.number high es (omega arith) r.1 ∙ sym (ranked-row new es k)
    by_ranked false k n = sym (unranked-row new es k)
put-row low high (e ∷ es) new o b r (inr a) same t =
    let lt : e.number < new.number = (let up = (rises-above e.number high es o r.1 a).0 in omega arith) in
    let d : (e.number == new.number) ≡ false = different e.number new.number lt in
    let stays : q.without new.number (rows_of (e ∷ es)) ≡ rows_of (e ∷ without new.number es) =
    without-row new.number (e ∷ es) ∙ ap (λ c. rows_of (cond (not c) (e ∷ without new.number es) (without new.number es))) d in
    let head : put_entry new e ≡ e = ap (λ c. cond c new e) d in
    ap (λ (rows : List Row). cond b (with_row (row_of new) rows) rows) stays
    ∙ by_ranked b lt (ap (λ (rows : List Row). cond b (with_row (row_of new) rows) rows) (sym (without-row new.number es)) ∙ put-row e.number high es new o b r.1 a same t)
    ∙ sym (ap (λ (x : SemEntry). rows_of (x ∷ map (put_entry new) es)) head)
  where
    by_ranked : (b : Bool) → e.number < new.number → cond b (with_row (row_of new) (rows_of (without new.number es))) (rows_of (without new.number es)) ≡ rows_of (map (put_entry new) es)
        → cond b (with_row (row_of new) (rows_of (e ∷ without new.number es))) (rows_of (e ∷ without new.number es)) ≡ rows_of (e ∷ map (put_entry new) es)
    by_ranked true lt ih = with-first (row_of new) e (without new.number es) lt (map (put_entry new) es) ih
    by_ranked false lt ih = next (is_ranked e) refl
      where
        next : (c : Bool) → is_ranked e ≡ c → rows_of (e ∷ without new.number es) ≡ rows_of (e ∷ map (put_entry new) es)
        next true k = ranked-row e (without new.number es) k ∙ ap (cons (row_of e)) ih ∙ sym (ranked-row e (map (put_entry new) es) k)
        next false k = unranked-row e (without new.number es) k ∙ ih ∙ sym (unranked-row e (map (put_entry new) es) k)

-- no entry has a number above all
pub absent-row : (low high n : ℕ) (es : List SemEntry) → Rises low es high → high < n → q.count_numbered n (rows_of es) ≡ 0
absent-row low high n [] r lt = refl
absent-row low high n (e ∷ es) r lt =
    let top = rises-above low high (e ∷ es) e r (inl refl) in
    let d : (e.number == n) ≡ false = grind (arith, nat_tests) in
    by_ranked (is_ranked e) refl d (absent-row e.number high n es r.1 lt)
  where
    by_ranked : (b : Bool) → is_ranked e ≡ b → (e.number == n) ≡ false → q.count_numbered n (rows_of es) ≡ 0 → q.count_numbered n (rows_of (e ∷ es)) ≡ 0
    by_ranked true k d ih =
        let none : weight (λ (x : Row). x.number == n) (row_of e) ≡ 0 = weight-no (λ (x : Row). x.number == n) (row_of e) d in
        ap (q.count_numbered n) (ranked-row e es k) ∙ omega (arith, none, count-cons (λ (x : Row). x.number == n) (row_of e) (rows_of es), ih)
    by_ranked false k d ih = ap (q.count_numbered n) (unranked-row e es k) ∙ ih

-- a row that has gone isn't there
pub gone-row : (n : ℕ) (rows : List Row) → q.count_numbered n (q.without n rows) ≡ 0
gone-row n [] = refl
gone-row n (r ∷ rows) = by_test (r.number == n) refl (gone-row n rows)
  where
    by_test : (b : Bool) → (r.number == n) ≡ b → q.count_numbered n (q.without n rows) ≡ 0 → q.count_numbered n (cond (not b) (r ∷ q.without n rows) (q.without n rows)) ≡ 0
    by_test true t ih = ih
    by_test false t ih =
        let none : weight (λ (x : Row). x.number == n) r ≡ 0 = weight-no (λ (x : Row). x.number == n) r t in
        omega (arith, none, count-cons (λ (x : Row). x.number == n) r (q.without n rows), ih)

-- where no row has the number, none goes
stays-row : (n : ℕ) (rows : List Row) → q.numbered n rows ≡ None → q.without n rows ≡ rows
stays-row n [] e = refl
stays-row n (r ∷ rows) e = by_test (r.number == n) e (stays-row n rows)
  where
    by_test : (b : Bool) → cond b (Some r) (q.numbered n rows) ≡ None → (q.numbered n rows ≡ None → q.without n rows ≡ rows) → cond (not b) (r ∷ q.without n rows) (q.without n rows) ≡ r ∷ rows
    by_test true e ih = absurd cc
    by_test false e ih = ap (cons r) (ih e)

number-of : (n : ℕ) (rows : List Row) (r : Row) → q.numbered n rows ≡ Some r → r.number ≡ n
number-of n rows r e = let t = (find-some (λ (x : Row). x.number == n) rows r e).0 in grind (arith, nat_tests)

-- the rows without that of a number, as `remove` leaves them
pub left-rows : (n : ℕ) (k : Queue) → (q.after_remove (q.numbered n k.rows) k).rows ≡ q.without n k.rows
left-rows n k = by_row (q.numbered n k.rows) refl
  where
    by_row : (o : Option Row) → q.numbered n k.rows ≡ o → (q.after_remove o k).rows ≡ q.without n k.rows
    by_row None e = sym (stays-row n k.rows e)
    by_row (Some r) e = ap (λ (m : ℕ). q.without m k.rows) (number-of n k.rows r e)

pub left-tokens : (o : Option Row) (k : Queue) → (q.after_remove o k).tokens ≡ k.tokens
left-tokens None k = refl
left-tokens (Some r) k = refl

pub left-spare : (o : Option Row) (k : Queue) (r : Row) → o ≡ Some r → 0 < (q.after_remove o k).spare
left-spare None k r e = absurd cc
left-spare (Some x) k r e = omega arith

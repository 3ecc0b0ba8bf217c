-- Which row is served first and which deadline is met first, by the rows.
use Rattle.std.proofs.Common.{◌≡◌, ◌↔◌, inl, inr, ℕ, zero, suc, ◌<◌, ◌≤◌, Bool, true, false, cond, ◌==◌, List, [], ◌∷◌, length, get_or, find, filter, filter_map, count_by, option_map, Option, None, Some, refl, sym, ◌∙◌, ap, arith}
use Rattle.std.specs.Prelude.{Contains, IfSome}
use Rattle.std.specs.List.{cons_option}
use Rattle.std.proofs.lemmas.Bool.Decides.{nat_tests}
use Rattle.std.proofs.lemmas.List.Elements.{All-contains}
use Rattle.sem_queue.specs.declared.row.Row.{Row}
use Rattle.sem_queue.specs.declared.row.Due.{Due}
use Rattle.sem_queue.specs.Rows.{least, before, sooner, wants, due_of, first_due, least_number, numbered, AreDistinct, IsServedFirst, IsFirstDue}
use Rattle.sem_queue.proofs.Lists.{weight-yes, weight-no, count-cons}
use Rattle.sem_queue.proofs.Least.{Among, count-among, least-among, least-first, least-ties, before-order, sooner-order, tied, tied-due, moment_is, due_is, all-among}

module _ {A : Type 0} where
  pub among-contains : (xs : List A) (x : A) → Among xs x → Contains xs x
  among-contains [] x h = absurd h
  among-contains (y ∷ ys) x (inl same) = (0, omega arith, same)
  among-contains (y ∷ ys) x (inr h) = let rest = among-contains ys x h in let lt = rest.1 in (suc rest.0, omega arith, rest.2)

  at-among : (xs : List A) (x : A) (k : ℕ) → k < length xs → get_or xs k x ≡ x → Among xs x
  at-among [] x k lt e = absurd (omega arith)
  at-among (y ∷ ys) x zero lt e = inl e
  at-among (y ∷ ys) x (suc k) lt e = inr (at-among ys x k (omega arith) e)

  pub contains-among : (xs : List A) (x : A) → Contains xs x → Among xs x
  contains-among xs x h = at-among xs x h.0 h.1 h.2

  -- those of a filter
  pub among-filter : (p : A → Bool) (xs : List A) (x : A) → Among (filter p xs) x → Among xs x × (p x ≡ true)
  among-filter p [] x h = absurd h
  among-filter p (y ∷ ys) x h = by_test (p y) refl h (among-filter p ys x)
    where
      by_test : (b : Bool) → p y ≡ b → Among (cond b (y ∷ filter p ys) (filter p ys)) x → (Among (filter p ys) x → Among ys x × (p x ≡ true)) → Among (y ∷ ys) x × (p x ≡ true)
      by_test true t (inl same) ih = (inl same, ap p (sym same) ∙ t)
      by_test true t (inr h) ih = let rest = ih h in (inr rest.0, rest.1)
      by_test false t h ih = let rest = ih h in (inr rest.0, rest.1)

  pub filter-among : (p : A → Bool) (xs : List A) (x : A) → Among xs x → p x ≡ true → Among (filter p xs) x
  filter-among p [] x h t = absurd h
  filter-among p (y ∷ ys) x h t = by_test (p y) refl h (λ k. filter-among p ys x k t)
    where
      by_test : (b : Bool) → p y ≡ b → Among (y ∷ ys) x → (Among ys x → Among (filter p ys) x) → Among (cond b (y ∷ filter p ys) (filter p ys)) x
      by_test true u (inl same) ih = inl same
      by_test true u (inr h) ih = inr (ih h)
      by_test false u (inl same) ih = absurd (let v : p y ≡ true = ap p same ∙ t in cc (u, v))
      by_test false u (inr h) ih = ih h

  pub count-zero : (p : A → Bool) (xs : List A) → ((x : A) → Among xs x → p x ≡ false) → count_by p xs ≡ 0
  count-zero p [] h = refl
  count-zero p (x ∷ xs) h =
      let none = weight-no p x (h x (inl refl)) in
      let rest : count_by p xs ≡ 0 = count-zero p xs (λ y k. h y (inr k)) in
      omega (arith, count-cons p x xs)

-- of rows that no two have one number, those of one number are one
twice : (x b : Row) (rows : List Row) → AreDistinct (x ∷ rows) → Among rows b → x.number ≡ b.number → ⊥
twice x b rows distinct k e =
    let p : Row → Bool = λ r. r.number == b.number in
    let most : count_by p (x ∷ rows) ≤ 1 = distinct b.number in
    let one = weight-yes p x (grind (arith, nat_tests)) in
    let more = count-among p rows b k (grind (arith, nat_tests)) in
    omega (arith, count-cons p x rows)

distinct-rest : (x : Row) (rows : List Row) → AreDistinct (x ∷ rows) → AreDistinct rows
distinct-rest x rows distinct n =
    let p : Row → Bool = λ r. r.number == n in
    let most : count_by p (x ∷ rows) ≤ 1 = distinct n in
    omega (arith, count-cons p x rows)

pub distinct-same : (rows : List Row) (a b : Row) → AreDistinct rows → Among rows a → Among rows b → a.number ≡ b.number → a ≡ b
distinct-same [] a b distinct h k e = absurd h
distinct-same (x ∷ rows) a b distinct (inl h) (inl k) e = sym h ∙ k
distinct-same (x ∷ rows) a b distinct (inl h) (inr k) e = absurd (twice x b rows distinct k (ap (λ (r : Row). r.number) h ∙ e))
distinct-same (x ∷ rows) a b distinct (inr h) (inl k) e = absurd (twice x a rows distinct h (ap (λ (r : Row). r.number) k ∙ sym e))
distinct-same (x ∷ rows) a b distinct (inr h) (inr k) e = distinct-same rows a b (distinct-rest x rows distinct) h k e

-- of rows no two of which have one number, each is the one of its number
pub numbered-is : (rows : List Row) (q : Row) → AreDistinct rows → Among rows q → numbered q.number rows ≡ Some q
numbered-is rows q distinct h = by_found (numbered q.number rows) refl
  where
    same : (x : Row) → x ≡ q → (x.number == q.number) ≡ true
    same x e = let n : x.number ≡ q.number = ap (λ (r : Row). r.number) e in grind (arith, nat_tests)

    missed : (l : List Row) → find (λ r. r.number == q.number) l ≡ None → Among l q → ⊥
    missed [] f h = h
    missed (x ∷ l) f (inl e) =
        let t = same x e in
        let g = ap (λ b. cond b (Some x) (find (λ r. r.number == q.number) l)) t in
        absurd (cc (f, g))
    missed (x ∷ l) f (inr h) = by_test (x.number == q.number) f (λ g. missed l g h)
      where
        by_test : (b : Bool) → cond b (Some x) (find (λ r. r.number == q.number) l) ≡ None → (find (λ r. r.number == q.number) l ≡ None → ⊥) → ⊥
        by_test true g ih = absurd cc
        by_test false g ih = ih g

    there : (l : List Row) (r : Row) → find (λ x. x.number == q.number) l ≡ Some r → Among l r × (r.number ≡ q.number)
    there [] r f = absurd cc
    there (x ∷ l) r f = by_test (x.number == q.number) refl f (λ g. there l r g)
      where
        by_test : (b : Bool) → (x.number == q.number) ≡ b → cond b (Some x) (find (λ y. y.number == q.number) l) ≡ Some r
            → (find (λ y. y.number == q.number) l ≡ Some r → Among l r × (r.number ≡ q.number)) → Among (x ∷ l) r × (r.number ≡ q.number)
        by_test true t g ih =
            let e : x ≡ r = cc g in
            let n : x.number ≡ q.number = grind (arith, nat_tests) in
            (inl e, ap (λ (y : Row). y.number) (sym e) ∙ n)
        by_test false t g ih = let k = ih g in (inr k.0, k.1)

    by_found : (o : Option Row) → numbered q.number rows ≡ o → o ≡ Some q
    by_found None f = absurd (missed rows f h)
    by_found (Some r) f = let k = there rows r f in ap (λ (x : Row). Some x) (distinct-same rows r q distinct k.0 h k.1)

served : (token : ℕ) (rows : List Row) (r : Row) → least before (filter (wants token) rows) ≡ Some r → IsServedFirst token rows r
served token rows r e =
    let kept = filter (wants token) rows in
    let here = among-filter (wants token) rows r (least-among before kept r e) in
    record {
      there = among-contains rows r here.0;
      waits = here.1;
      first = all-among (λ x. wants token x ≡ true → before x r ≡ false) rows (λ x h t. least-first before before-order kept r x e (filter-among (wants token) rows x h t));
    }

-- the least ties with a row that is served first
ties : (token : ℕ) (rows : List Row) (r : Row) → IsServedFirst token rows r → (l : Row) × (least before (filter (wants token) rows) ≡ Some l) × (l.number ≡ r.number)
ties token rows r is =
    let kept = filter (wants token) rows in
    let P : Row → Type 0 = λ y. wants token y ≡ true → before y r ≡ false in
    let here : Among kept r = filter-among (wants token) rows r (contains-among rows r is.there) is.waits in
    let none : count_by (λ x. before x r) kept ≡ 0 =
    count-zero (λ x. before x r) kept (λ x h. let a = among-filter (wants token) rows x h in All-contains P rows x is.first (among-contains rows x a.0) a.1) in
    let itself : before r r ≡ false = All-contains P rows r is.first is.there is.waits in
    let found = least-ties before before-order kept r r none here itself in
    (found.0, found.1, tied found.0 r found.2 found.3)

pub exact-served : (token : ℕ) (rows : List Row) (r : Row) → AreDistinct rows → (least before (filter (wants token) rows) ≡ Some r) ↔ IsServedFirst token rows r
exact-served token rows r distinct = (served token rows r, back)
  where
    back : IsServedFirst token rows r → least before (filter (wants token) rows) ≡ Some r
    back is =
        let found = ties token rows r is in
        let kept = filter (wants token) rows in
        let there = among-filter (wants token) rows found.0 (least-among before kept found.0 found.1) in
        found.1 ∙ ap (λ (x : Row). Some x) (distinct-same rows found.0 r distinct there.0 (contains-among rows r is.there) found.2)

pub exact-number : (token : ℕ) (rows : List Row) (n : ℕ) → (least_number token rows ≡ Some n) ↔ ((r : Row) × IsServedFirst token rows r × (r.number ≡ n))
exact-number token rows n = (λ e. by_least (least before (filter (wants token) rows)) refl e, back)
  where
    by_least : (o : Option Row) → least before (filter (wants token) rows) ≡ o → option_map (λ (r : Row). r.number) o ≡ Some n → (r : Row) × IsServedFirst token rows r × (r.number ≡ n)
    by_least None f e = absurd cc
    by_least (Some r) f e = (r, served token rows r f, cc e)

    back : (r : Row) × IsServedFirst token rows r × (r.number ≡ n) → least_number token rows ≡ Some n
    back w = let found = ties token rows w.0 w.1 in ap (option_map (λ (r : Row). r.number)) found.1 ∙ ap (λ (m : ℕ). Some m) (found.2 ∙ w.2)

-- deadlines of rows
among-due : (rows : List Row) (d : Due) → Among (filter_map due_of rows) d → (r : Row) × Among rows r × (due_of r ≡ Some d)
among-due [] d h = absurd h
among-due (r ∷ rows) d h = by_due (due_of r) refl h (among-due rows d)
  where
    by_due : (o : Option Due) → due_of r ≡ o → Among (cons_option o (filter_map due_of rows)) d → (Among (filter_map due_of rows) d → (x : Row) × Among rows x × (due_of x ≡ Some d))
        → (x : Row) × Among (r ∷ rows) x × (due_of x ≡ Some d)
    by_due None f h ih = let rest = ih h in (rest.0, inr rest.1, rest.2)
    by_due (Some e) f (inl same) ih = (r, inl refl, f ∙ ap (λ (x : Due). Some x) same)
    by_due (Some e) f (inr h) ih = let rest = ih h in (rest.0, inr rest.1, rest.2)

due-among : (rows : List Row) (r : Row) (d : Due) → Among rows r → due_of r ≡ Some d → Among (filter_map due_of rows) d
due-among [] r d h e = absurd h
due-among (x ∷ rows) r d h e = by_due (due_of x) refl h (λ k. due-among rows r d k e)
  where
    by_due : (o : Option Due) → due_of x ≡ o → Among (x ∷ rows) r → (Among rows r → Among (filter_map due_of rows) d) → Among (cons_option o (filter_map due_of rows)) d
    by_due None f (inl same) ih = absurd (let g : due_of x ≡ Some d = ap due_of same ∙ e in cc (f, g))
    by_due None f (inr h) ih = ih h
    by_due (Some c) f (inl same) ih = inl (let g : due_of x ≡ Some d = ap due_of same ∙ e in cc (f, g))
    by_due (Some c) f (inr h) ih = inr (ih h)

pub exact-due : (rows : List Row) (d : Due) → (first_due rows ≡ Some d) ↔ IsFirstDue rows d
exact-due rows d = (forth, back)
  where
    not_sooner : first_due rows ≡ Some d → (x : Row) → Among rows x → (o : Option Due) → due_of x ≡ o → IfSome o (λ other. sooner other d ≡ false)
    not_sooner e x h None f = tt
    not_sooner e x h (Some other) f = least-first sooner sooner-order (filter_map due_of rows) d other e (due-among rows x other h f)

    forth : first_due rows ≡ Some d → IsFirstDue rows d
    forth e =
        let here = among-due rows d (least-among sooner (filter_map due_of rows) d e) in
        record {
          had = (here.0, among-contains rows here.0 here.1, here.2);
          first = all-among (λ x. IfSome (due_of x) (λ other. sooner other d ≡ false)) rows (λ x h. not_sooner e x h (due_of x) refl);
        }

    told : (o : Option Due) (other : Due) → o ≡ Some other → IfSome o (λ x. sooner x d ≡ false) → sooner other d ≡ false
    told None other f h = absurd cc
    told (Some x) other f h = let same : x ≡ other = cc f in ap (λ (y : Due). sooner y d) (sym same) ∙ h

    last : IsFirstDue rows d → (x : Row) (other : Due) → Among rows x → due_of x ≡ Some other → sooner other d ≡ false
    last is x other h f = told (due_of x) other f (All-contains (λ y. IfSome (due_of y) (λ z. sooner z d ≡ false)) rows x is.first (among-contains rows x h))

    back : IsFirstDue rows d → first_due rows ≡ Some d
    back is =
        let dues = filter_map due_of rows in
        let own : Among rows is.had.0 = contains-among rows is.had.0 is.had.1 in
        let here : Among dues d = due-among rows is.had.0 d own is.had.2 in
        let none : count_by (λ x. sooner x d) dues ≡ 0 = count-zero (λ x. sooner x d) dues (λ x h. let a = among-due rows x h in last is a.0 x a.1 a.2) in
        let found = least-ties sooner sooner-order dues d d none here (last is is.had.0 d own is.had.2) in
        let tie = tied-due found.0 d found.2 found.3 in
        found.1 ∙ ap (λ (x : Due). Some x) (due_is found.0 d (moment_is found.0.at d.at tie.0) tie.1 tie.2)

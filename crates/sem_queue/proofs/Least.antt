-- The least of a list, and of the rows that pass a test.
use Rattle.std.proofs.Common.{◌≡◌, ◌⊎◌, inl, inr, ℕ, ◌<◌, Bool, true, false, cond, ◌&&◌, ◌==◌, List, [], ◌∷◌, fold, filter, filter_map, count_by, option_map, Option, None, Some, refl, sym, ◌∙◌, ap, arith}
use Rattle.std.specs.Cmp.{IsStrictWeakOrder}
use Rattle.std.specs.Prelude.{All}
use Rattle.std.proofs.lemmas.List.Elements.{All-nil, All-cons}
use Rattle.std.proofs.lemmas.Bool.Decides.{nat_tests}
use Rattle.mms_types.specs.declared.moment.Moment.{Moment}
use Rattle.sem_queue.specs.declared.row.Row.{Row}
use Rattle.sem_queue.specs.declared.row.Due.{Due}
use Rattle.sem_queue.specs.Rows.{least, earlier, before, sooner, has_rank, due_of, first_due}
use Rattle.sem_queue.proofs.Lists.{weight-yes, weight-no, count-cons, count-filter, count-filter_map, passes}

-- the element stands in the list
abbrev pub Among : {A : Type 0} → List A → A → Type 0
Among [] x = ⊥
Among (y ∷ ys) x = (y ≡ x) ⊎ Among ys x

module _ {A : Type 0} where
  pub count-among : (p : A → Bool) (xs : List A) (x : A) → Among xs x → p x ≡ true → 0 < count_by p xs
  count-among p [] x h t = absurd h
  count-among p (y ∷ ys) x (inl same) t = let one = weight-yes p y (ap p same ∙ t) in omega (arith, count-cons p y ys)
  count-among p (y ∷ ys) x (inr h) t = omega (arith, count-cons p y ys, count-among p ys x h t)

  pub among-count : (p : A → Bool) (xs : List A) → 0 < count_by p xs → (x : A) × Among xs x × (p x ≡ true)
  among-count p [] some = absurd (omega arith)
  among-count p (y ∷ ys) some = by_test (p y) refl (among-count p ys)
    where
      by_test : (b : Bool) → p y ≡ b → (0 < count_by p ys → (x : A) × Among ys x × (p x ≡ true)) → (x : A) × Among (y ∷ ys) x × (p x ≡ true)
      by_test true t ih = (y, inl refl, t)
      by_test false t ih =
          let none = weight-no p y t in
          let rest = ih (omega (arith, count-cons p y ys)) in
          (rest.0, inr rest.1, rest.2)

  -- the least is there unless there is none
  some-stays : (less : A → A → Bool) (xs : List A) (b : A) → fold (earlier less) (Some b) xs ≡ None → ⊥
  some-stays less [] b e = cc e
  some-stays less (y ∷ ys) b e = some-stays less ys (cond (less y b) y b) e

  pub least-none : (less : A → A → Bool) (xs : List A) → least less xs ≡ None → xs ≡ []
  least-none less [] e = refl
  least-none less (y ∷ ys) e = absurd (some-stays less ys y e)

  -- the least is one of them
  fold-among : (less : A → A → Bool) (ys : List A) (b m : A) → fold (earlier less) (Some b) ys ≡ Some m → (b ≡ m) ⊎ Among ys m
  fold-among less [] b m e = inl cc
  fold-among less (y ∷ ys) b m e = by_test (less y b) (fold-among less ys (cond (less y b) y b) m) e
    where
      by_test : (t : Bool) → (fold (earlier less) (Some (cond t y b)) ys ≡ Some m → (cond t y b ≡ m) ⊎ Among ys m) → fold (earlier less) (Some (cond t y b)) ys ≡ Some m
          → (b ≡ m) ⊎ Among (y ∷ ys) m
      by_test true ih h = elim (ih h) [ inl same ↦ inr (inl same) | inr more ↦ inr (inr more) ]
      by_test false ih h = elim (ih h) [ inl same ↦ inl same | inr more ↦ inr (inr more) ]

  pub least-among : (less : A → A → Bool) (xs : List A) (m : A) → least less xs ≡ Some m → Among xs m
  least-among less [] m e = absurd cc
  least-among less (y ∷ ys) m e = fold-among less ys y m e

module _ {A : Type 0} (less : A → A → Bool) (order : IsStrictWeakOrder less) where
  -- nothing is less than itself
  irreflexive : (x : A) → less x x ≡ false
  irreflexive x = by_test (less x x) refl
    where
      by_test : (b : Bool) → less x x ≡ b → b ≡ false
      by_test true t = sym t ∙ order.one_way x x t
      by_test false t = refl

  fold-first : (xs : List A) (b m x : A) → fold (earlier less) (Some b) xs ≡ Some m → (less x b ≡ false) ⊎ Among xs x → less x m ≡ false
  fold-first [] b m x e (inl h) = let same : b ≡ m = cc e in ap (less x) (sym same) ∙ h
  fold-first [] b m x e (inr h) = absurd h
  fold-first (y ∷ ys) b m x e h = by_test (less y b) refl h (λ c. fold-first ys c m x) e
    where
      by_test : (t : Bool) → less y b ≡ t → (less x b ≡ false) ⊎ Among (y ∷ ys) x → ((c : A) → fold (earlier less) (Some c) ys ≡ Some m → (less x c ≡ false) ⊎ Among ys x → less x m ≡ false)
          → fold (earlier less) (Some (cond t y b)) ys ≡ Some m → less x m ≡ false
      by_test true t (inl h) ih e = ih y e (inl (order.chain x b y h (order.one_way y b t)))
      by_test true t (inr (inl same)) ih e = ih y e (inl (ap (λ z. less z y) (sym same) ∙ irreflexive y))
      by_test true t (inr (inr h)) ih e = ih y e (inr h)
      by_test false t (inl h) ih e = ih b e (inl h)
      by_test false t (inr (inl same)) ih e = ih b e (inl (ap (λ z. less z b) (sym same) ∙ t))
      by_test false t (inr (inr h)) ih e = ih b e (inr h)

  pub least-first : (xs : List A) (m x : A) → least less xs ≡ Some m → Among xs x → less x m ≡ false
  least-first [] m x e h = absurd h
  least-first (y ∷ ys) m x e (inl same) = fold-first ys y m x e (inl (ap (λ z. less z y) (sym same) ∙ irreflexive y))
  least-first (y ∷ ys) m x e (inr h) = fold-first ys y m x e (inr h)

  -- where none is less than m, and one isn't above it, the least ties with m
  pub least-ties : (xs : List A) (m x : A) → count_by (λ y. less y m) xs ≡ 0 → Among xs x → less m x ≡ false
      → (l : A) × (least less xs ≡ Some l) × (less l m ≡ false) × (less m l ≡ false)
  least-ties xs m x none h t = by_least (least less xs) refl
    where
      not_less : (l : A) → Among xs l → (b : Bool) → less l m ≡ b → less l m ≡ false
      not_less l a true u = absurd (omega (arith, count-among (λ y. less y m) xs l a u))
      not_less l a false u = u

      by_least : (o : Option A) → least less xs ≡ o → (l : A) × (least less xs ≡ Some l) × (less l m ≡ false) × (less m l ≡ false)
      by_least None e = absurd (nothing xs (least-none less xs e) h)
        where
          nothing : (ys : List A) → ys ≡ [] → Among ys x → ⊥
          nothing [] e h = h
          nothing (y ∷ ys) e h = absurd cc
      by_least (Some l) e = (l, e, not_less l (least-among less xs l e) (less l m) refl, order.chain m x l t (least-first xs l x e h))

pub before-order : IsStrictWeakOrder before
before-order = record {
  one_way = λ x y h. grind (arith, nat_tests);
  chain = λ x y z h k. grind (arith, nat_tests);
}

pub sooner-order : IsStrictWeakOrder sooner
sooner-order = record {
  one_way = λ x y h. grind (arith, nat_tests);
  chain = λ x y z h k. grind (arith, nat_tests);
}

-- two rows of which neither is served first have one number
pub tied : (a b : Row) → before a b ≡ false → before b a ≡ false → a.number ≡ b.number
tied a b p q = grind (arith, nat_tests)

ranked : (m r : Row) → has_rank m.priority m.number r ≡ true → before m r ≡ false
ranked m r t = grind (arith, nat_tests)

-- none of those that pass is served before m, and one has its rank: the least has its number
pub least-number : (w : Row → Bool) (rows : List Row) (m : Row) → count_by (λ r. w r && before r m) rows ≡ 0 → 0 < count_by (λ r. w r && has_rank m.priority m.number r) rows
    → option_map (λ r. r.number) (least before (filter w rows)) ≡ Some m.number
least-number w rows m none some =
    let kept = filter w rows in
    let first : count_by (λ r. before r m) kept ≡ 0 = count-filter w (λ r. before r m) rows ∙ none in
    let there = among-count (has_rank m.priority m.number) kept (omega (arith, count-filter w (has_rank m.priority m.number) rows)) in
    let found = least-ties before before-order kept m there.0 first there.1 (ranked m there.0 there.2) in
    ap (option_map (λ (r : Row). r.number)) found.1 ∙ ap (λ (n : ℕ). Some n) (tied found.0 m found.2 found.3)

filter-none : (w : Row → Bool) (rows : List Row) → count_by w rows ≡ 0 → filter w rows ≡ []
filter-none w [] z = refl
filter-none w (r ∷ rows) z = by_test (w r) refl (filter-none w rows)
  where
    by_test : (b : Bool) → w r ≡ b → (count_by w rows ≡ 0 → filter w rows ≡ []) → cond b (r ∷ filter w rows) (filter w rows) ≡ []
    by_test true t ih = absurd (let one = weight-yes w r t in omega (arith, count-cons w r rows))
    by_test false t ih = ih (let none = weight-no w r t in omega (arith, count-cons w r rows))

pub least-no_number : (w : Row → Bool) (rows : List Row) → count_by w rows ≡ 0 → option_map (λ r. r.number) (least before (filter w rows)) ≡ None
least-no_number w rows z = ap (λ (kept : List Row). option_map (λ (r : Row). r.number) (least before kept)) (filter-none w rows z)

-- deadlines that tie are of one moment, one kind and one entry

abbrev pub same_due : Due → Due → Bool
same_due a b = b.at.0 == a.at.0 && (b.kind == a.kind && b.number == a.number)

pub tied-due : (a b : Due) → sooner a b ≡ false → sooner b a ≡ false → (a.at.0 ≡ b.at.0) × (a.kind ≡ b.kind) × (a.number ≡ b.number)
tied-due a b p q = (grind (arith, nat_tests), grind (arith, nat_tests), grind (arith, nat_tests))

ranked-due : (m d : Due) → same_due m d ≡ true → sooner m d ≡ false
ranked-due m d t = grind (arith, nat_tests)

pub moment_is : (a b : Moment) → a.0 ≡ b.0 → a ≡ b
moment_is a b e = ap (λ (n : ℕ). record { 0 = n }) e

pub due_is : (a b : Due) → a.at ≡ b.at → a.kind ≡ b.kind → a.number ≡ b.number → a ≡ b
due_is a b at kind number =
    ap (λ m. record { at = m; kind = a.kind; number = a.number }) at ∙ ap (λ k. record { at = b.at; kind = k; number = a.number }) kind ∙ ap (λ n. record { at = b.at; kind = b.kind; number = n }) number

pub first_due-is : (rows : List Row) (m : Due) → count_by (λ r. passes (λ d. sooner d m) (due_of r)) rows ≡ 0 → 0 < count_by (λ r. passes (same_due m) (due_of r)) rows
    → first_due rows ≡ Some m
first_due-is rows m none some =
    let dues = filter_map due_of rows in
    let first : count_by (λ d. sooner d m) dues ≡ 0 = count-filter_map due_of (λ d. sooner d m) rows ∙ none in
    let there = among-count (same_due m) dues (omega (arith, count-filter_map due_of (same_due m) rows)) in
    let found = least-ties sooner sooner-order dues m there.0 first there.1 (ranked-due m there.0 there.2) in
    let tie = tied-due found.0 m found.2 found.3 in
    let at : found.0.at ≡ m.at = moment_is found.0.at m.at tie.0 in
    let kind : found.0.kind ≡ m.kind = tie.1 in
    let number : found.0.number ≡ m.number = tie.2 in
    found.1 ∙ ap (λ (d : Due). Some d) (due_is found.0 m at kind number)

filter_map-none : (rows : List Row) → count_by (λ r. passes (λ d. true) (due_of r)) rows ≡ 0 → filter_map due_of rows ≡ []
filter_map-none rows z = empty (filter_map due_of rows) (count-filter_map due_of (λ d. true) rows ∙ z)
  where
    empty : (dues : List Due) → count_by (λ d. true) dues ≡ 0 → dues ≡ []
    empty [] z = refl
    empty (d ∷ dues) z = absurd (omega (arith, count-cons (λ (d : Due). true) d dues))

pub first_due-none : (rows : List Row) → count_by (λ r. passes (λ d. true) (due_of r)) rows ≡ 0 → first_due rows ≡ None
first_due-none rows z = ap (λ (dues : List Due). least sooner dues) (filter_map-none rows z)

-- laws of the least
pub all-among : {A : Type 0} (P : A → Type 0) (xs : List A) → ((x : A) → Among xs x → P x) → All P xs
all-among P [] each = All-nil P
all-among P (x ∷ xs) each = All-cons P x xs (each x (inl refl)) (all-among P xs (λ y h. each y (inr h)))

nothing : {A B : Type 0} (f : A → B) (o : Option A) → option_map f o ≡ None → o ≡ None
nothing f None e = refl
nothing f (Some x) e = absurd cc

pub best-served : (rows : List Row) (r : Row) → least before rows ≡ Some r → All (λ x. before x r ≡ false) rows
best-served rows r e = all-among (λ x. before x r ≡ false) rows (λ x h. least-first before before-order rows r x e h)

pub none-served : (rows : List Row) → option_map (λ r. r.number) (least before rows) ≡ None → rows ≡ []
none-served rows e = least-none before rows (nothing (λ (r : Row). r.number) (least before rows) e)

pub best-due : (dues : List Due) (d : Due) → least sooner dues ≡ Some d → All (λ x. sooner x d ≡ false) dues
best-due dues d e = all-among (λ x. sooner x d ≡ false) dues (λ x h. least-first sooner sooner-order dues d x e h)

pub none-due : (dues : List Due) → least sooner dues ≡ None → dues ≡ []
none-due dues e = least-none sooner dues e

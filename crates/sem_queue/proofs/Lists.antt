-- Counts, filters and searches of a list, by what stands at each place.
use Rattle.std.proofs.Common.{◌≡◌, ℕ, zero, suc, ◌+◌, ◌<◌, ◌≤◌, Bool, true, false, not, cond, ◌&&◌, ◌||◌, ◌==◌, List, [], ◌∷◌, ◌++◌, length, get_or, take, drop, filter, find, count_by, Option, Some, None, refl, sym, ◌∙◌, ap, arith}
use Rattle.std.specs.List.{list_any, filter_map, cons_option}
use Rattle.std.proofs.lemmas.Bool.Decides.{nat_tests}
use Rattle.std.proofs.lemmas.List.Sums.{sum_by-cons, get_or-le-sum_by}

module _ {X : Type 0} where
  abbrev pub weight : (X → Bool) → X → ℕ
  weight p x = cond (p x) 1 0

  abbrev cons : X → List X → List X
  cons x xs = x ∷ xs

  pub count-cons : (p : X → Bool) (x : X) (xs : List X) → count_by p (x ∷ xs) ≡ weight p x + count_by p xs
  count-cons p x xs = sum_by-cons (λ y. cond (p y) 1 0) x xs

  pub weight-yes : (p : X → Bool) (x : X) → p x ≡ true → weight p x ≡ 1
  weight-yes p x t = ap (λ b. cond {A = ℕ} b 1 0) t

  pub weight-no : (p : X → Bool) (x : X) → p x ≡ false → weight p x ≡ 0
  weight-no p x t = ap (λ b. cond {A = ℕ} b 1 0) t

  -- those before a place pass, and those from it on don't
  pub count-parted : (p : X → Bool) (xs : List X) (n : ℕ) (d : X) → n ≤ length xs → ((j : ℕ) → j < n → p (get_or xs j d) ≡ true)
      → ((j : ℕ) → n ≤ j → j < length xs → p (get_or xs j d) ≡ false) → count_by p xs ≡ n
  count-parted p [] n d le pass fail = omega arith
  count-parted p (x ∷ xs) zero d le pass fail =
      let head = weight-no p x (fail 0 (omega arith) (omega arith)) in
      let rest : count_by p xs ≡ 0 = count-parted p xs 0 d (omega arith) (λ j lt. absurd (omega arith)) (λ j from lt. fail (suc j) (omega arith) (omega arith)) in
      omega (arith, count-cons p x xs)
  count-parted p (x ∷ xs) (suc n) d le pass fail =
      let head = weight-yes p x (pass 0 (omega arith)) in
      let rest : count_by p xs ≡ n = count-parted p xs n d (omega arith) (λ j lt. pass (suc j) (omega arith)) (λ j from lt. fail (suc j) (omega arith) (omega arith)) in
      omega (arith, count-cons p x xs)

  -- all of the list passes
  pub filter-all : (p : X → Bool) (xs : List X) (d : X) → ((j : ℕ) → j < length xs → p (get_or xs j d) ≡ true) → filter p xs ≡ xs
  filter-all p [] d pass = refl
  filter-all p (x ∷ xs) d pass =
      ap (λ b. cond b (x ∷ filter p xs) (filter p xs)) (pass 0 (omega arith)) ∙ ap (cons x) (filter-all p xs d (λ j lt. pass (suc j) (omega arith)))

  pub filter-front : (p : X → Bool) (xs : List X) (n : ℕ) (d : X) → n ≤ length xs → ((j : ℕ) → j < n → p (get_or xs j d) ≡ true)
      → ((j : ℕ) → n ≤ j → j < length xs → p (get_or xs j d) ≡ false) → filter p xs ≡ take n xs
  filter-front p [] zero d le pass fail = refl
  filter-front p [] (suc n) d le pass fail = absurd (omega arith)
  filter-front p (x ∷ xs) zero d le pass fail =
      ap (λ b. cond b (x ∷ filter p xs) (filter p xs)) (fail 0 (omega arith) (omega arith))
      ∙ filter-front p xs 0 d (omega arith) (λ j lt. absurd (omega arith)) (λ j from lt. fail (suc j) (omega arith) (omega arith))
  filter-front p (x ∷ xs) (suc n) d le pass fail =
      ap (λ b. cond b (x ∷ filter p xs) (filter p xs)) (pass 0 (omega arith))
      ∙ ap (cons x) (filter-front p xs n d (omega arith) (λ j lt. pass (suc j) (omega arith)) (λ j from lt. fail (suc j) (omega arith) (omega arith)))

  pub filter-back : (p : X → Bool) (xs : List X) (n : ℕ) (d : X) → n ≤ length xs → ((j : ℕ) → j < n → p (get_or xs j d) ≡ false)
      → ((j : ℕ) → n ≤ j → j < length xs → p (get_or xs j d) ≡ true) → filter p xs ≡ drop n xs
  filter-back p xs zero d le fail pass = filter-all p xs d (λ j lt. pass j (omega arith) lt)
  filter-back p [] (suc n) d le fail pass = absurd (omega arith)
  filter-back p (x ∷ xs) (suc n) d le fail pass =
      ap (λ b. cond b (x ∷ filter p xs) (filter p xs)) (fail 0 (omega arith))
      ∙ filter-back p xs n d (omega arith) (λ j lt. fail (suc j) (omega arith)) (λ j from lt. pass (suc j) (omega arith) (omega arith))

  -- all but the one at a place pass
  pub filter-but : (p : X → Bool) (xs : List X) (n : ℕ) (d : X) → n < length xs → p (get_or xs n d) ≡ false
      → ((j : ℕ) → j < length xs → (j ≡ n → ⊥) → p (get_or xs j d) ≡ true) → filter p xs ≡ take n xs ++ drop (suc n) xs
  filter-but p [] n d lt fail pass = absurd (omega arith)
  filter-but p (x ∷ xs) zero d lt fail pass =
      ap (λ b. cond b (x ∷ filter p xs) (filter p xs)) fail ∙ filter-all p xs d (λ j lt. pass (suc j) (omega arith) (λ e. omega arith))
  filter-but p (x ∷ xs) (suc n) d lt fail pass =
      ap (λ b. cond b (x ∷ filter p xs) (filter p xs)) (pass 0 (omega arith) (λ e. omega arith))
      ∙ ap (cons x) (filter-but p xs n d (omega arith) fail (λ j lt ne. pass (suc j) (omega arith) (λ e. ne (omega arith))))

  -- the first that passes stands at a place
  pub find-at : (p : X → Bool) (xs : List X) (n : ℕ) (d : X) → n < length xs → p (get_or xs n d) ≡ true → ((j : ℕ) → j < n → p (get_or xs j d) ≡ false)
      → find p xs ≡ Some (get_or xs n d)
  find-at p [] n d lt pass fail = absurd (omega arith)
  find-at p (x ∷ xs) zero d lt pass fail = ap (λ b. cond b (Some x) (find p xs)) pass
  find-at p (x ∷ xs) (suc n) d lt pass fail =
      ap (λ b. cond b (Some x) (find p xs)) (fail 0 (omega arith)) ∙ find-at p xs n d (omega arith) pass (λ j lt. fail (suc j) (omega arith))

  pub find-none : (p : X → Bool) (xs : List X) → count_by p xs ≡ 0 → find p xs ≡ None
  find-none p [] z = refl
  find-none p (x ∷ xs) z = by_test (p x) refl (find-none p xs)
    where
      by_test : (b : Bool) → p x ≡ b → (count_by p xs ≡ 0 → find p xs ≡ None) → cond b (Some x) (find p xs) ≡ None
      by_test true t ih = absurd (let one = weight-yes p x t in omega (arith, count-cons p x xs))
      by_test false t ih = ih (let none = weight-no p x t in omega (arith, count-cons p x xs))

  pub find-some : (p : X → Bool) (xs : List X) (x : X) → find p xs ≡ Some x → (p x ≡ true) × (0 < count_by p xs)
  find-some p [] x f = absurd cc
  find-some p (y ∷ ys) x f = by_test (p y) refl f (find-some p ys x)
    where
      by_test : (b : Bool) → p y ≡ b → cond b (Some y) (find p ys) ≡ Some x → (find p ys ≡ Some x → (p x ≡ true) × (0 < count_by p ys)) → (p x ≡ true) × (0 < count_by p (y ∷ ys))
      by_test true t e ih = let same : y ≡ x = cc e in (ap p (sym same) ∙ t, let one = weight-yes p y t in omega (arith, count-cons p y ys))
      by_test false t e ih = let rest = ih e in (rest.0, omega (arith, rest.1, count-cons p y ys))

  -- the tests of a list
  pub count-agree : (p q : X → Bool) → ((x : X) → p x ≡ q x) → (xs : List X) → count_by p xs ≡ count_by q xs
  count-agree p q same [] = refl
  count-agree p q same (x ∷ xs) =
      let head : weight p x ≡ weight q x = ap (λ b. cond {A = ℕ} b 1 0) (same x) in
      omega (arith, count-cons p x xs, count-cons q x xs, count-agree p q same xs)

  pub count-le : (p q : X → Bool) → ((x : X) → p x ≡ true → q x ≡ true) → (xs : List X) → count_by p xs ≤ count_by q xs
  count-le p q more [] = omega arith
  count-le p q more (x ∷ xs) = by_test (p x) refl (count-le p q more xs)
    where
      by_test : (b : Bool) → p x ≡ b → count_by p xs ≤ count_by q xs → count_by p (x ∷ xs) ≤ count_by q (x ∷ xs)
      by_test true t ih = let one = weight-yes p x t in let other = weight-yes q x (more x t) in omega (arith, count-cons p x xs, count-cons q x xs, ih)
      by_test false t ih = let none = weight-no p x t in omega (arith, count-cons p x xs, count-cons q x xs, ih)

  -- those of one test are those of two that exclude each other
  pub count-add : (p q r : X → Bool) → ((x : X) → weight p x ≡ weight q x + weight r x) → (xs : List X) → count_by p xs ≡ count_by q xs + count_by r xs
  count-add p q r parts [] = refl
  count-add p q r parts (x ∷ xs) = omega (arith, parts x, count-cons p x xs, count-cons q x xs, count-cons r x xs, count-add p q r parts xs)

  -- one at a place passes
  pub count-at : (p : X → Bool) (xs : List X) (j : ℕ) (d : X) → j < length xs → p (get_or xs j d) ≡ true → 0 < count_by p xs
  count-at p xs j d lt t =
      let one = weight-yes p (get_or xs j d) t in
      omega (arith, get_or-le-sum_by (λ x. cond (p x) 1 0) xs j d lt)

  -- two at different places pass
  pub count-two : (p : X → Bool) (xs : List X) (i j : ℕ) (d : X) → i < j → j < length xs → p (get_or xs i d) ≡ true → p (get_or xs j d) ≡ true → 1 < count_by p xs
  count-two p [] i j d lt in_range t u = absurd (omega arith)
  count-two p (x ∷ xs) i zero d lt in_range t u = absurd (omega arith)
  count-two p (x ∷ xs) zero (suc j) d lt in_range t u =
      let one = weight-yes p x t in
      omega (arith, count-cons p x xs, count-at p xs j d (omega arith) u)
  count-two p (x ∷ xs) (suc i) (suc j) d lt in_range t u =
      omega (arith, count-cons p x xs, count-two p xs i j d (omega arith) (omega arith) t u)

  -- none passes
  pub none-at : (p : X → Bool) (xs : List X) (j : ℕ) (d : X) → count_by p xs ≡ 0 → j < length xs → p (get_or xs j d) ≡ false
  none-at p xs j d z lt = by_test (p (get_or xs j d)) refl
    where
      by_test : (b : Bool) → p (get_or xs j d) ≡ b → p (get_or xs j d) ≡ false
      by_test true t = absurd (omega (arith, count-at p xs j d lt t))
      by_test false t = t

  pub none-from : (p : X → Bool) (xs : List X) (d : X) → ((j : ℕ) → j < length xs → p (get_or xs j d) ≡ false) → count_by p xs ≡ 0
  none-from p xs d fail = count-parted p xs 0 d (omega arith) (λ j lt. absurd (omega arith)) (λ j from lt. fail j lt)

  -- none passes but the one at a place
  pub count-one : (p : X → Bool) (xs : List X) (n : ℕ) (d : X) → n < length xs → ((j : ℕ) → j < length xs → (j ≡ n → ⊥) → p (get_or xs j d) ≡ false)
      → count_by p xs ≡ weight p (get_or xs n d)
  count-one p [] n d lt fail = absurd (omega arith)
  count-one p (x ∷ xs) zero d lt fail =
      let rest = none-from p xs d (λ j lt. fail (suc j) (omega arith) (λ e. omega arith)) in
      omega (arith, count-cons p x xs)
  count-one p (x ∷ xs) (suc n) d lt fail =
      let head = weight-no p x (fail 0 (omega arith) (λ e. omega arith)) in
      omega (arith, count-cons p x xs, count-one p xs n d (omega arith) (λ j lt differs. fail (suc j) (omega arith) (λ e. differs (omega arith))))

  -- one passes at some place
  pub some-at : (p : X → Bool) (xs : List X) (d : X) → 0 < count_by p xs → (j : ℕ) × (j < length xs) × (p (get_or xs j d) ≡ true)
  some-at p [] d some = absurd (omega arith)
  some-at p (x ∷ xs) d some = by_test (p x) refl (some-at p xs d)
    where
      by_test : (b : Bool) → p x ≡ b → (0 < count_by p xs → (j : ℕ) × (j < length xs) × (p (get_or xs j d) ≡ true)) → (j : ℕ) × (j < length (x ∷ xs)) × (p (get_or (x ∷ xs) j d) ≡ true)
      by_test true t ih = (0, omega arith, t)
      by_test false t ih =
          let none = weight-no p x t in
          let rest = ih (omega (arith, count-cons p x xs)) in
          (suc rest.0, omega (arith, rest.1), rest.2)

  -- where fail later one passes without the earlier ones, those that pass stand first
  pub passes-first : (p : X → Bool) (xs : List X) (d : X) → ((i j : ℕ) → i < j → j < length xs → p (get_or xs j d) ≡ true → p (get_or xs i d) ≡ true)
      → (j : ℕ) → j < length xs → (j < count_by p xs → p (get_or xs j d) ≡ true) × (count_by p xs ≤ j → p (get_or xs j d) ≡ false)
  passes-first p [] d down = λ j lt. absurd (omega arith)
  passes-first p (x ∷ xs) d down = by_test (p x) refl (passes-first p xs d (λ i j less lt. down (suc i) (suc j) (omega arith) (omega arith)))
    where
      fails : p x ≡ false → (i : ℕ) → i < length xs → p (get_or xs i d) ≡ false
      fails t i lt = by_pass (p (get_or xs i d)) refl
        where
          by_pass : (b : Bool) → p (get_or xs i d) ≡ b → p (get_or xs i d) ≡ false
          by_pass true u = absurd (let v : p x ≡ true = down 0 (suc i) (omega arith) (omega arith) u in cc (t, v))
          by_pass false u = u

      by_test : (b : Bool) → p x ≡ b
          → ((j : ℕ) → j < length xs → (j < count_by p xs → p (get_or xs j d) ≡ true) × (count_by p xs ≤ j → p (get_or xs j d) ≡ false))
          → (j : ℕ) → j < length (x ∷ xs) → (j < count_by p (x ∷ xs) → p (get_or (x ∷ xs) j d) ≡ true) × (count_by p (x ∷ xs) ≤ j → p (get_or (x ∷ xs) j d) ≡ false)
      by_test true t ih zero lt = let one = weight-yes p x t in (λ below. t, λ above. absurd (omega (arith, count-cons p x xs)))
      by_test true t ih (suc j) lt =
          let one = weight-yes p x t in
          let rest = ih j (omega arith) in
          (λ below. rest.0 (omega (arith, count-cons p x xs)), λ above. rest.1 (omega (arith, count-cons p x xs)))
      by_test false t ih zero lt =
          let none = weight-no p x t in
          let zeros = none-from p xs d (fails t) in
          (λ below. absurd (omega (arith, count-cons p x xs)), λ above. t)
      by_test false t ih (suc j) lt =
          let none = weight-no p x t in
          let zeros = none-from p xs d (fails t) in
          (λ below. absurd (omega (arith, count-cons p x xs)), λ above. fails t j (omega arith))

  pub count-filter : (w p : X → Bool) (xs : List X) → count_by p (filter w xs) ≡ count_by (λ x. w x && p x) xs
  count-filter w p [] = refl
  count-filter w p (x ∷ xs) = by_test (w x) refl (count-filter w p xs)
    where
      by_test : (b : Bool) → w x ≡ b → count_by p (filter w xs) ≡ count_by (λ x. w x && p x) xs → count_by p (cond b (x ∷ filter w xs) (filter w xs)) ≡ count_by (λ x. w x && p x) (x ∷ xs)
      by_test true t ih =
          let same : weight (λ x. w x && p x) x ≡ weight p x = ap (λ b. cond {A = ℕ} (b && p x) 1 0) t in
          omega (arith, count-cons p x (filter w xs), count-cons (λ x. w x && p x) x xs, ih)
      by_test false t ih =
          let none : weight (λ x. w x && p x) x ≡ 0 = ap (λ b. cond {A = ℕ} (b && p x) 1 0) t in
          omega (arith, count-cons (λ x. w x && p x) x xs, ih)

  pub any-some : (p : X → Bool) (xs : List X) → 0 < count_by p xs → list_any p xs ≡ true
  any-some p [] some = absurd (omega arith)
  any-some p (x ∷ xs) some = by_test (p x) refl (any-some p xs)
    where
      by_test : (b : Bool) → p x ≡ b → (0 < count_by p xs → list_any p xs ≡ true) → (b || list_any p xs) ≡ true
      by_test true t ih = refl
      by_test false t ih = let none = weight-no p x t in ih (omega (arith, count-cons p x xs))

  pub any-none : (p : X → Bool) (xs : List X) → count_by p xs ≡ 0 → list_any p xs ≡ false
  any-none p [] z = refl
  any-none p (x ∷ xs) z = by_test (p x) refl (any-none p xs)
    where
      by_test : (b : Bool) → p x ≡ b → (count_by p xs ≡ 0 → list_any p xs ≡ false) → (b || list_any p xs) ≡ false
      by_test true t ih = absurd (let one = weight-yes p x t in omega (arith, count-cons p x xs))
      by_test false t ih = ih (let none = weight-no p x t in omega (arith, count-cons p x xs))

-- a test of what may be there
abbrev pub passes : {Y : Type 0} → (Y → Bool) → Option Y → Bool
passes p None = false
passes p (Some y) = p y

pub count-filter_map : {X Y : Type 0} (h : X → Option Y) (p : Y → Bool) (xs : List X) → count_by p (filter_map h xs) ≡ count_by (λ x. passes p (h x)) xs
count-filter_map h p [] = refl
count-filter_map {X} {Y} h p (x ∷ xs) = by_option (h x) refl (count-filter_map h p xs)
  where
    by_option : (o : Option Y) → h x ≡ o → count_by p (filter_map h xs) ≡ count_by (λ x. passes p (h x)) xs → count_by p (cons_option o (filter_map h xs)) ≡ count_by (λ x. passes p (h x)) (x ∷ xs)
    by_option None t ih =
        let none : weight (λ x. passes p (h x)) x ≡ 0 = ap (λ o. cond {A = ℕ} (passes p o) 1 0) t in
        omega (arith, count-cons (λ x. passes p (h x)) x xs, ih)
    by_option (Some y) t ih =
        let same : weight (λ x. passes p (h x)) x ≡ weight p y = ap (λ o. cond {A = ℕ} (passes p o) 1 0) t in
        omega (arith, count-cons p y (filter_map h xs), count-cons (λ x. passes p (h x)) x xs, ih)

module _ {X : Type 0} where
  -- some element passes exactly where more than none does
  pub any-counted : (p : X → Bool) (xs : List X) → list_any p xs ≡ not (count_by p xs == 0)
  any-counted p [] = refl
  any-counted p (x ∷ xs) = by_test (p x) refl (any-counted p xs)
    where
      by_test : (b : Bool) → p x ≡ b → list_any p xs ≡ not (count_by p xs == 0) → (b || list_any p xs) ≡ not (count_by p (x ∷ xs) == 0)
      by_test true t ih =
          let some : (count_by p (x ∷ xs) == 0) ≡ false = (let one = weight-yes p x t in let all = count-cons p x xs in grind (arith, nat_tests)) in
          sym (ap not some)
      by_test false t ih =
          let same : count_by p (x ∷ xs) ≡ count_by p xs = omega (arith, weight-no p x t, count-cons p x xs) in
          ih ∙ sym (ap (λ n. not (n == 0)) same)

  pub count-all : (xs : List X) → count_by (λ x. true) xs ≡ length xs
  count-all [] = refl
  count-all (x ∷ xs) = omega (arith, count-cons (λ y. true) x xs, count-all xs)

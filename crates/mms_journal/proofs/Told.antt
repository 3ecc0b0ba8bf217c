-- The first so many of the elements that pass a test, and whether there are more.
use Rattle.std.proofs.Common.{◌≡◌, ◌∙◌, ap, sym, refl, ℕ, zero, suc, ◌+◌, ◌<◌, ◌≤◌, nat_lt, Bool, true, false, cond, List, [], ◌∷◌, ◌++◌, append_assoc, map, filter, take, drop, length, get_or, IfOk, Ok, Err, Result, Some, arith, length-append, length-take}
use Rattle.std.proofs.lemmas.Bool.Decides.{nat_tests}
use Rattle.std.proofs.lemmas.List.{drop_more, take-append-drop, length-map}
use Rattle.std.proofs.lemmas.List.Elements.{filter-append}
use Rattle.mms_types.specs.declared.journal.ReadJournalAnswer.{ReadJournalAnswer}
use Rattle.mms_journal.specs.Range.{first_counted, in_range}
use Rattle.mms_journal.specs.Selection.{most_told, told}
use Rattle.mms_journal.specs.declared.journal.Written.{Written}
use Rattle.mms_journal.specs.declared.reading.Range.{Range}

take_front : {X : Type 0} (xs ys : List X) (n : ℕ) → length xs ≡ n → take n (xs ++ ys) ≡ xs
take_front [] ys zero e = refl
take_front [] ys (suc n) e = absurd (omega arith)
take_front (x ∷ xs) ys zero e = absurd (omega arith)
take_front (x ∷ xs) ys (suc n) e = ap (λ l. x ∷ l) (take_front xs ys n (omega arith))

pub take_whole : {X : Type 0} (xs : List X) (n : ℕ) → length xs ≤ n → take n xs ≡ xs
take_whole [] zero e = refl
take_whole [] (suc n) e = refl
take_whole (x ∷ xs) zero e = absurd (omega arith)
take_whole (x ∷ xs) (suc n) e = ap (λ l. x ∷ l) (take_whole xs n (omega arith))

pub map_more : {A B : Type 0} (f : A → B) (xs : List A) (x : A) → map f (xs ++ x ∷ []) ≡ map f xs ++ f x ∷ []
map_more f [] x = refl
map_more f (y ∷ ys) x = ap (λ l. f y ∷ l) (map_more f ys x)

module _ {X Y : Type 0} (f : X → Y) (p : X → Bool) (n : ℕ) where
  split : (xs : List X) (i : ℕ) (d : X) → i < length xs → p (get_or xs i d) ≡ true
      → filter p xs ≡ filter p (take i xs) ++ get_or xs i d ∷ filter p (drop (i + 1) xs)
  split xs i d low passes =
      let front = filter p (take i xs) in
      let rest = filter p (drop (i + 1) xs) in
      let back : filter p (drop i xs) ≡ get_or xs i d ∷ rest = ap (filter p) (drop_more xs i d low) ∙ ap (λ b. cond b (get_or xs i d ∷ rest) rest) passes in
      ap (filter p) (sym (take-append-drop i xs)) ∙ filter-append p (take i xs) (drop i xs) ∙ ap (λ l. front ++ l) back

  -- where one more passes than are told, these are the first, and there are more
  pub listed_more : (xs : List X) (i : ℕ) (d : X) (found : List Y) → i < length xs → p (get_or xs i d) ≡ true → found ≡ map f (filter p (take i xs)) → length found ≡ n
      → (found ≡ map f (take n (filter p xs))) × (true ≡ nat_lt n (length (filter p xs)))
  listed_more xs i d found low passes is full =
      let front = filter p (take i xs) in
      let rest = filter p (drop (i + 1) xs) in
      let all = split xs i d low passes in
      let count : length front ≡ n = sym (length-map front f) ∙ ap length (sym is) ∙ full in
      let sum : length (filter p xs) ≡ length front + length (get_or xs i d ∷ rest) = ap length all ∙ length-append front (get_or xs i d ∷ rest) in
      (is ∙ ap (map f) (sym (ap (take n) all ∙ take_front front (get_or xs i d ∷ rest) n count)), grind (arith, nat_tests))

  -- where one more is told, and so many are told, these are the first
  pub listed_last : (xs : List X) (i : ℕ) (d : X) (found new : List Y) → i < length xs → p (get_or xs i d) ≡ true → found ≡ map f (filter p (take i xs))
      → new ≡ found ++ f (get_or xs i d) ∷ [] → length new ≡ n → new ≡ map f (take n (filter p xs))
  listed_last xs i d found new low passes is more full =
      let x = get_or xs i d in
      let front = filter p (take i xs) in
      let rest = filter p (drop (i + 1) xs) in
      let all : filter p xs ≡ (front ++ x ∷ []) ++ rest = split xs i d low passes ∙ sym (append_assoc front (x ∷ []) rest) in
      let told_all : new ≡ map f (front ++ x ∷ []) = more ∙ ap (λ (l : List Y). l ++ f x ∷ []) is ∙ sym (map_more f front x) in
      let count : length (front ++ x ∷ []) ≡ n = sym (length-map (front ++ x ∷ []) f) ∙ ap length (sym told_all) ∙ full in
      told_all ∙ ap (map f) (sym (ap (take n) all ∙ take_front (front ++ x ∷ []) rest n count))

  -- where no more pass, all are told
  pub listed_all : (xs : List X) (found : List Y) → found ≡ map f (filter p xs) → length found ≤ n
      → (found ≡ map f (take n (filter p xs))) × (false ≡ nat_lt n (length (filter p xs)))
  listed_all xs found is few =
      let count : length (filter p xs) ≤ n = omega (arith, length-map (filter p xs) f, ap length is) in
      (is ∙ ap (map f) (sym (take_whole (filter p xs) n count)), grind (arith, nat_tests))

-- ---- where it is said how many are asked for

pub take_less : {X : Type 0} (m n : ℕ) (xs : List X) → m ≤ n → take m (take n xs) ≡ take m xs
take_less zero n xs le = refl
take_less (suc m) zero xs le = absurd (omega (arith, le))
take_less (suc m) (suc n) [] le = refl
take_less (suc m) (suc n) (x ∷ xs) le = ap (λ l. x ∷ l) (take_less m n xs (omega (arith, le)))

-- more than are told at once: as if nothing were said
pub many_counted : {X : Type 0} (m n : ℕ) (xs : List X) → m < n → (take m (take n xs) ≡ take m xs) × (nat_lt m (length (take n xs)) ≡ nat_lt m (length xs))
many_counted m n xs le = (take_less m n xs (omega (arith, le)), by_test (nat_lt m (length xs)) refl)
  where
    by_test : (b : Bool) → nat_lt m (length xs) ≡ b → nat_lt m (length (take n xs)) ≡ nat_lt m (length xs)
    by_test true e = grind (arith, nat_tests, e, le, length-take n xs)
    by_test false e = grind (arith, nat_tests, e, le, length-take n xs)

-- no more than are told at once: there are no more
pub few_counted : {X : Type 0} (m n : ℕ) (xs : List X) → n ≤ m → (take m (take n xs) ≡ take n xs) × (nat_lt m (length (take n xs)) ≡ false)
few_counted m n xs le = (take_whole (take n xs) m (omega (arith, le, length-take n xs)), grind (arith, nat_tests, le, length-take n xs))

pub many_told : {E : Type 0} (r : Result ReadJournalAnswer E) (range : Range) (n : ℕ) (ws : List Written) → most_told < n
    → IfOk r (λ a. a.entries ≡ map (told range.tags) (take most_told (filter (in_range range) ws))) → IfOk r (λ a. a.more ≡ nat_lt most_told (length (filter (in_range range) ws)))
    → IfOk r (λ a. a ≡ first_counted range (Some n) ws)
many_told (Ok a) range n ws le entries more =
    let many = many_counted most_told n (filter (in_range range) ws) le in
    λ i. record { entries = (entries ∙ ap (map (told range.tags)) (sym many.0)) i; more = (more ∙ sym many.1) i }
many_told (Err e) range n ws le entries more = tt

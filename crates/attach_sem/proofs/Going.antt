-- Which pairs stay where some go, and that no entry has two.
use Rattle.std.proofs.Common.{◌≡◌, ℕ, zero, suc, ◌+◌, ◌<◌, ◌≤◌, Bool, true, false, not, cond, ◌&&◌, ◌==◌, List, [], ◌∷◌, ◌++◌, length, get_or, take, drop, filter, find, count_by, inl, inr, Option, None, Some, refl, sym, ◌∙◌, ap, subst, arith}
use Rattle.std.proofs.lemmas.Bool.{cases_eq, cases_lt}
use Rattle.std.proofs.lemmas.Bool.Decides.{nat_tests}
use Rattle.std.specs.Prelude.{nat_lt, slice_get, IfSome}
use Rattle.std.specs.List.{position, position_or_len}
use Rattle.std.proofs.lemmas.Option.{slice_get_cases}
use Rattle.std.proofs.lemmas.List.Quantifiers.{position-Some}
use Rattle.std.proofs.lemmas.List.Sums.{sum_by-append, fails_before_first}
use Rattle.mms_types.specs.declared.key.Key.{Key}
use Rattle.mms_types.specs.Order.{key_eq}
use Rattle.mms_types.proofs.Precedence.{key_eq_tells}
use Rattle.sem_queue.proofs.Lists.{weight-yes, weight-no, count-cons, count-filter, count-at, count-le, count-two, find-none, none-from}
use Rattle.attach_sem.specs.Table.{AreDistinct, is_of, found}
use Rattle.attach_sem.specs.declared.table.Pair.{Pair}

module _ {X : Type 0} where
  -- where none passes, all stay
  pub all-stay : (p : X → Bool) (xs : List X) → count_by p xs ≡ 0 → filter (λ x. not (p x)) xs ≡ xs
  all-stay p [] none = refl
  all-stay p (x ∷ xs) none = by_test (p x) refl (all-stay p xs (omega (arith, count-cons p x xs)))
    where
      by_test : (b : Bool) → p x ≡ b → filter (λ y. not (p y)) xs ≡ xs → cond (not b) (x ∷ filter (λ y. not (p y)) xs) (filter (λ y. not (p y)) xs) ≡ x ∷ xs
      by_test true t rest = absurd (let one = weight-yes p x t in omega (arith, count-cons p x xs))
      by_test false t rest = ap (λ (ys : List X). x ∷ ys) rest

  -- where none is found, none passes
  pub none-found : (p : X → Bool) (xs : List X) → find p xs ≡ None → count_by p xs ≡ 0
  none-found p [] f = refl
  none-found p (x ∷ xs) f = by_test (p x) refl f (λ g. none-found p xs g)
    where
      by_test : (b : Bool) → p x ≡ b → cond b (Some x) (find p xs) ≡ None → (find p xs ≡ None → count_by p xs ≡ 0) → count_by p (x ∷ xs) ≡ 0
      by_test true t g ih = absurd cc
      by_test false t g ih = let none = weight-no p x t in let rest = ih g in omega (arith, count-cons p x xs)

  -- where there is no place, none passes
  pub no-place : (p : X → Bool) (xs : List X) → None ≡ position p xs → count_by p xs ≡ 0
  no-place p [] f = refl
  no-place p (x ∷ xs) f = none-from p (x ∷ xs) x (λ j lt. fails_before_first p (x ∷ xs) j x (let long = by_test (nat_lt (position_or_len p (x ∷ xs)) (length (x ∷ xs))) refl f in omega (arith, long)))
    where
      by_test : (b : Bool) → nat_lt (position_or_len p (x ∷ xs)) (length (x ∷ xs)) ≡ b → None ≡ cond b (Some (position_or_len p (x ∷ xs))) None → length (x ∷ xs) ≤ position_or_len p (x ∷ xs)
      by_test true t f = absurd cc
      by_test false t f = grind (arith, nat_tests)

  -- where one passes at most, that is the first
  pub position-is : (p : X → Bool) (xs : List X) (place : ℕ) (d : X) → count_by p xs ≤ 1 → place < length xs → p (get_or xs place d) ≡ true → Some place ≡ position p xs
  position-is p xs place d few lt t = by_place (position p xs) refl
    where
      by_place : (o : Option ℕ) → position p xs ≡ o → Some place ≡ position p xs
      by_place None e = absurd (omega (arith, no-place p xs (sym e), count-at p xs place d lt t))
      by_place (Some k) e =
          let at = position-Some p xs k d e in
          elim (cases_eq k place) [
            | inl same ↦ ap (λ (n : ℕ). Some n) (sym same) ∙ sym e
            | inr differs ↦ absurd (elim (cases_lt k place) [
              | inl less ↦ omega (arith, few, count-two p xs k place d less lt at.1 t)
              | inr more ↦ omega (arith, few, count-two p xs place k d (omega arith) at.0 t at.1)
            ])
          ]

  pub position-at : (p : X → Bool) (xs : List X) (place : ℕ) → count_by p xs ≤ 1 → IfSome (slice_get xs place) (λ x. p x ≡ true) → place < length xs → Some place ≡ position p xs
  position-at p xs place few there lt = elim (slice_get_cases xs place).1 [
    | inl w ↦ position-is p xs place w.0 few lt (ap p w.3 ∙ subst (λ (o : Option X). IfSome o (λ x. p x ≡ true)) w.2 there)
    | inr w ↦ absurd (let past = w.0 in omega arith)
  ]

  -- how many stay, and how many go
  pub parted : (p : X → Bool) (xs : List X) → length (filter (λ x. not (p x)) xs) + count_by p xs ≡ length xs
  parted p [] = refl
  parted p (x ∷ xs) = by_test (p x) refl (parted p xs)
    where
      by_test : (b : Bool) → p x ≡ b → length (filter (λ y. not (p y)) xs) + count_by p xs ≡ length xs
          → length (cond (not b) (x ∷ filter (λ y. not (p y)) xs) (filter (λ y. not (p y)) xs)) + count_by p (x ∷ xs) ≡ length (x ∷ xs)
      by_test true t rest = let one = weight-yes p x t in omega (arith, count-cons p x xs, rest)
      by_test false t rest = let none = weight-no p x t in omega (arith, count-cons p x xs, rest)

  -- the one that passes goes from its place
  pub gone-at : (p : X → Bool) (xs : List X) (place : ℕ) (d : X) → count_by p xs ≤ 1 → place < length xs → p (get_or xs place d) ≡ true
      → ((k : ℕ) → k < place → p (get_or xs k d) ≡ false)
      → (take place xs ++ drop (suc place) xs ≡ filter (λ x. not (p x)) xs) × (count_by p xs ≡ 1) × (find p xs ≡ Some (get_or xs place d))
  gone-at p [] place d few lt t before = absurd (omega arith)
  gone-at p (x ∷ xs) zero d few lt t before =
      let one = weight-yes p x t in
      let none : count_by p xs ≡ 0 = omega (arith, count-cons p x xs) in (
        sym (ap (λ b. cond (not b) (x ∷ filter (λ y. not (p y)) xs) (filter (λ y. not (p y)) xs)) t ∙ all-stay p xs none),
        omega (arith, count-cons p x xs),
        ap (λ b. cond b (Some x) (find p xs)) t,
      )
  gone-at p (x ∷ xs) (suc place) d few lt t before =
      let first : p x ≡ false = before 0 (omega arith) in
      let none = weight-no p x first in
      let rest = gone-at p xs place d (omega (arith, count-cons p x xs)) (omega arith) t (λ k below. before (suc k) (omega arith)) in (
        ap (λ (ys : List X). x ∷ ys) rest.0 ∙ sym (ap (λ b. cond (not b) (x ∷ filter (λ y. not (p y)) xs) (filter (λ y. not (p y)) xs)) first),
        omega (arith, count-cons p x xs, rest.1),
        ap (λ b. cond b (Some x) (find p xs)) first ∙ rest.2,
      )

-- the request of an entry goes
module _ (key : Key) (entry : ℕ) (pairs : List Pair) (distinct : AreDistinct pairs) where
  pub none-goes : None ≡ position (is_of key entry) pairs
      → (found key entry pairs ≡ None) × (filter (λ p. not (is_of key entry p)) pairs ≡ pairs) × (count_by (is_of key entry) pairs ≡ 0)
  none-goes f = let none = no-place (is_of key entry) pairs f in (find-none (is_of key entry) pairs none, all-stay (is_of key entry) pairs none, none)

  pub one-goes : (place : ℕ) (d : Pair) → Some place ≡ position (is_of key entry) pairs
      → (place < length pairs) × (take place pairs ++ drop (place + 1) pairs ≡ filter (λ p. not (is_of key entry p)) pairs) × (count_by (is_of key entry) pairs ≡ 1) × (found key entry pairs ≡ Some (get_or pairs place d))
  one-goes place d f =
      let at = position-Some (is_of key entry) pairs place d (sym f) in
      let next : place + 1 ≡ suc place = omega arith in
      let gone = gone-at (is_of key entry) pairs place d (distinct key entry) at.0 at.1 at.2 in
      (at.0, ap (λ n. take place pairs ++ drop n pairs) next ∙ gone.0, gone.1, gone.2)

-- where some go, no entry has two
pub still-distinct : (goes : Pair → Bool) (pairs : List Pair) → AreDistinct pairs → AreDistinct (filter (λ p. not (goes p)) pairs)
still-distinct goes pairs distinct key entry =
    let most : count_by (is_of key entry) pairs ≤ 1 = distinct key entry in
    omega (arith, most, count-filter (λ p. not (goes p)) (is_of key entry) pairs, count-le (λ p. not (goes p) && is_of key entry p) (is_of key entry) (λ p t. second (not (goes p)) (is_of key entry p) t) pairs)
  where
    second : (b c : Bool) → (b && c) ≡ true → c ≡ true
    second true c t = t
    second false c t = absurd cc

-- where one comes whose entry has none, no entry has two
pub comes-distinct : (pairs : List Pair) (new : Pair) → AreDistinct pairs → found new.key new.entry pairs ≡ None → AreDistinct (pairs ++ new ∷ [])
comes-distinct pairs new distinct absent key entry = by_test (is_of key entry new) refl
  where
    sum : count_by (is_of key entry) (pairs ++ new ∷ []) ≡ count_by (is_of key entry) pairs + count_by (is_of key entry) (new ∷ [])
    sum = sum_by-append (λ (p : Pair). cond {A = ℕ} (is_of key entry p) 1 0) pairs (new ∷ [])

    same : (e n : ℕ) (b : Bool) → ((n == e) && b) ≡ true → (e ≡ n) × (b ≡ true)
    same e n true t = (grind (arith, nat_tests), refl)
    same e n false t = absurd (grind (arith, nat_tests))

    by_test : (b : Bool) → is_of key entry new ≡ b → count_by (is_of key entry) (pairs ++ new ∷ []) ≤ 1
    by_test false t =
        let none = weight-no (is_of key entry) new t in
        let most : count_by (is_of key entry) pairs ≤ 1 = distinct key entry in
        omega (arith, sum, count-cons (is_of key entry) new [], most)
    by_test true t =
        let is = same entry new.entry (key_eq new.key key) t in
        let keys : new.key ≡ key = (key_eq_tells new.key key).0 is.1 in
        let none : count_by (is_of new.key new.entry) pairs ≡ 0 = none-found (is_of new.key new.entry) pairs absent in
        let moved : count_by (is_of key entry) pairs ≡ count_by (is_of new.key new.entry) pairs = rw (is.0, ← keys) refl in
        let yes = weight-yes (is_of key entry) new t in
        omega (arith, sum, count-cons (is_of key entry) new [], none, moved)

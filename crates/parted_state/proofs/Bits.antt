-- Numbers below 256 as the bits of four words.
use Rattle.std.proofs.Common.{◌≡◌, ◌≢◌, ℕ, zero, suc, ◌+◌, ◌*◌, ◌/◌, ◌%◌, ◌^◌, ◌<◌, ◌≤◌, ◌==◌, ◌&&◌, ◌||◌, nat_lt, nat_le, not, Bool, true, false, List, [], ◌∷◌, ◌++◌, filter, length, slice_index, slice_set, if◌then◌else◌, refl, ap, ap₂, sym, ◌∙◌, subst, arith}
use Rattle.std.specs.Int.{bit_at, bit_not, trailing_zeros, w64}
use Rattle.std.specs.Int.RustNames.{bit_and, bit_or}
use Rattle.std.specs.List.{range_with_len}
use Rattle.std.specs.List.Sorted.{IsStrictlyIncreasing}
use Rattle.std.proofs.lemmas.Bool.Decides.{nat_tests}
use Rattle.std.proofs.lemmas.Grind.{common_steps}
use native.Mathlib.Decide.{ℕ_discrete}
use Rattle.std.proofs.lemmas.Map.Views.{any-filter_same}
use Rattle.std.proofs.lemmas.List.Filters.{length-filter_both}
use Rattle.std.proofs.lemmas.List.Folds.{list_any-append}
use Rattle.std.proofs.lemmas.List.FromFn.{length-range_with_len}
use Rattle.std.proofs.lemmas.Nat.Bits.{bit_at-trailing_zeros, bit_at_set_same, bit_at_set_other, bit_at_clear_same, bit_at_clear_other, bit_at-zero}
use Rattle.parted_state.specs.Cut.{is_in}
use Rattle.parted_state.specs.CutLaws.{same_number, same_itself}
use Rattle.parted_state.specs.Sets.{IsSetOf, is_bit, numbers_of}
use Rattle.parted_state.proofs.SetLaws.{IsFrom, from_lower, from_increasing, none_in, same_from, increasing_from}

in_range : (a n p : ℕ) → is_in (range_with_len a n) p ≡ (nat_le a p && nat_lt p (a + n))
in_range a zero p = grind (arith, nat_tests)
in_range a (suc n) p = ap (λ (b : Bool). (a == p) || b) (in_range (a + 1) n p) ∙ by_tests
  where
    by_tests : ((a == p) || (nat_le (a + 1) p && nat_lt p (a + 1 + n))) ≡ (nat_le a p && nat_lt p (a + suc n))
    by_tests = grind (arith, nat_tests)

range_from : (f : ℕ → Bool) (a n : ℕ) → IsFrom a (filter f (range_with_len a n))
range_from f a zero = tt
range_from f a (suc n) =
    let next : a + 1 ≡ suc a = omega arith in
    by_test (f a) (subst (λ (m : ℕ). IsFrom m (filter f (range_with_len (a + 1) n))) next (range_from f (a + 1) n))
  where
    by_test : (b : Bool) → IsFrom (suc a) (filter f (range_with_len (a + 1) n))
        → IsFrom a (if b then a ∷ filter f (range_with_len (a + 1) n) else filter f (range_with_len (a + 1) n))
    by_test true rest = (omega arith, rest)
    by_test false rest = from_lower (suc a) a (filter f (range_with_len (a + 1) n)) (omega arith) rest

-- the numbers are below 256, and their bits are 1
pub in_numbers : (words : List ℕ) (p : ℕ) → is_in (numbers_of words) p ≡ (is_bit words p && nat_lt p 256)
unfolding numbers_of
in_numbers words p =
    any-filter_same (λ q. q == p) (is_bit words) (is_bit words p) (λ q same. ap (is_bit words) (same_number q p same)) (range_with_len 0 256)
    ∙ ap (λ (b : Bool). is_bit words p && b) (in_range 0 256 p ∙ grind (arith, nat_tests))

pub numbers_from : (words : List ℕ) → IsFrom 0 (numbers_of words)
unfolding numbers_of
numbers_from words = range_from (is_bit words) 0 256

pub increasing : (words : List ℕ) → IsStrictlyIncreasing (numbers_of words)
increasing words = from_increasing 0 (numbers_of words) (numbers_from words)

-- no number
pub no_numbers : (words : List ℕ) → ((k : ℕ) → k < 256 → is_bit words k ≡ false) → numbers_of words ≡ []
no_numbers words none = none_in (numbers_of words) (λ p. in_numbers words p ∙ by_test (nat_lt p 256) p refl)
  where
    by_test : (b : Bool) (p : ℕ) → nat_lt p 256 ≡ b → (is_bit words p && b) ≡ false
    by_test true p e = let below : p < 256 = grind (arith, nat_tests) in ap (λ (b : Bool). b && true) (none p below)
    by_test false p e = grind (arith, nat_tests)

-- ---- one more number

set_here : (words : List ℕ) (i value : ℕ) → i < length words → slice_index (slice_set words i value) i ≡ value
set_here words i value within = grind (arith, common_steps)

set_else : (words : List ℕ) (i j value : ℕ) → j ≢ i → slice_index (slice_set words i value) j ≡ slice_index words j
set_else words i j value other = grind (arith, common_steps)

-- a number by its word and its bit
same_by_parts : (p k : ℕ) → p / 64 ≡ k / 64 → p % 64 ≡ k % 64 → p ≡ k
same_by_parts p k word bit = omega (arith, word, bit)

pub bit_added : (words : List ℕ) (k p : ℕ) → k / 64 < length words
    → is_bit (slice_set words (k / 64) (bit_or (slice_index words (k / 64)) (1 * 2 ^ (k % 64) % 2 ^ 64))) p ≡ (is_bit words p || (k == p))
bit_added words k p within = by_word (ℕ_discrete (p / 64) (k / 64))
  where
    new : ℕ
    new = bit_or (slice_index words (k / 64)) (1 * 2 ^ (k % 64) % 2 ^ 64)

    small : k % 64 < 64
    small = omega arith

    not_it : p ≢ k → (k == p) ≡ false
    not_it other = grind (arith, nat_tests)

    or_false : (b : Bool) → b ≡ (b || false)
    or_false true = refl
    or_false false = refl

    or_true : (b : Bool) → true ≡ (b || true)
    or_true true = refl
    or_true false = refl

    by_bit : p / 64 ≡ k / 64 → Dec (p % 64 ≡ k % 64) → is_bit (slice_set words (k / 64) new) p ≡ (is_bit words p || (k == p))
    by_bit word (yes bit) =
        ap (λ (i : ℕ). bit_at (slice_index (slice_set words (k / 64) new) i) (p % 64) == 1) word
        ∙ ap (λ (w : ℕ). bit_at w (p % 64) == 1) (set_here words (k / 64) new within)
        ∙ ap (λ (i : ℕ). bit_at new i == 1) bit
        ∙ ap (λ (b : ℕ). b == 1) (bit_at_set_same w64 (slice_index words (k / 64)) (k % 64) small)
        ∙ or_true (is_bit words p)
        ∙ ap (λ (b : Bool). is_bit words p || b) (sym (same_itself k) ∙ ap (λ (q : ℕ). k == q) (sym (same_by_parts p k word bit)))
    by_bit word (no bit) =
        ap (λ (i : ℕ). bit_at (slice_index (slice_set words (k / 64) new) i) (p % 64) == 1) word
        ∙ ap (λ (w : ℕ). bit_at w (p % 64) == 1) (set_here words (k / 64) new within)
        ∙ ap (λ (b : ℕ). b == 1) (bit_at_set_other w64 (slice_index words (k / 64)) (k % 64) small (p % 64) bit)
        ∙ ap (λ (i : ℕ). bit_at (slice_index words i) (p % 64) == 1) (sym word)
        ∙ or_false (is_bit words p)
        ∙ ap (λ (b : Bool). is_bit words p || b) (sym (not_it (λ same. bit (ap (λ (q : ℕ). q % 64) same))))

    by_word : Dec (p / 64 ≡ k / 64) → is_bit (slice_set words (k / 64) new) p ≡ (is_bit words p || (k == p))
    by_word (yes word) = by_bit word (ℕ_discrete (p % 64) (k % 64))
    by_word (no word) =
        ap (λ (w : ℕ). bit_at w (p % 64) == 1) (set_else words (k / 64) (p / 64) new word)
        ∙ or_false (is_bit words p)
        ∙ ap (λ (b : Bool). is_bit words p || b) (sym (not_it (λ same. word (ap (λ (q : ℕ). q / 64) same))))

pub number_added : (words new : List ℕ) (k : ℕ) → k < 256 → k / 64 < length words
    → new ≡ slice_set words (k / 64) (bit_or (slice_index words (k / 64)) (1 * 2 ^ (k % 64) % 2 ^ 64)) → IsSetOf (numbers_of new) (numbers_of words ++ k ∷ [])
number_added words new k small within is = record {
  increasing = increasing new;
  members = λ p.
      in_numbers new p
      ∙ ap (λ (b : Bool). b && nat_lt p 256) (ap (λ (l : List ℕ). is_bit l p) is ∙ bit_added words k p within)
      ∙ both p (is_bit words p) (nat_lt p 256) refl
      ∙ ap (λ (b : Bool). b || is_in (k ∷ []) p) (sym (in_numbers words p))
      ∙ sym (list_any-append (λ q. q == p) (numbers_of words) (k ∷ []));
}
  where
    both : (p : ℕ) (a b : Bool) → nat_lt p 256 ≡ b → ((a || (k == p)) && b) ≡ ((a && b) || ((k == p) || false))
    both p a b e = grind (arith, nat_tests)

-- ---- one number less

pub bit_removed : (words : List ℕ) (k p : ℕ) → k / 64 < length words
    → is_bit (slice_set words (k / 64) (bit_and (slice_index words (k / 64)) (bit_not w64 (1 * 2 ^ (k % 64) % 2 ^ 64)))) p ≡ (is_bit words p && not (k == p))
bit_removed words k p within = by_word (ℕ_discrete (p / 64) (k / 64))
  where
    new : ℕ
    new = bit_and (slice_index words (k / 64)) (bit_not w64 (1 * 2 ^ (k % 64) % 2 ^ 64))

    small : k % 64 < 64
    small = omega arith

    small_p : p % 64 < 64
    small_p = omega arith

    not_it : p ≢ k → not (k == p) ≡ true
    not_it other = grind (arith, nat_tests)

    it : p ≡ k → not (k == p) ≡ false
    it same = grind (arith, nat_tests)

    and_true : (b : Bool) → b ≡ (b && true)
    and_true true = refl
    and_true false = refl

    and_false : (b : Bool) → false ≡ (b && false)
    and_false true = refl
    and_false false = refl

    by_bit : p / 64 ≡ k / 64 → Dec (p % 64 ≡ k % 64) → is_bit (slice_set words (k / 64) new) p ≡ (is_bit words p && not (k == p))
    by_bit word (yes bit) =
        ap (λ (i : ℕ). bit_at (slice_index (slice_set words (k / 64) new) i) (p % 64) == 1) word
        ∙ ap (λ (w : ℕ). bit_at w (p % 64) == 1) (set_here words (k / 64) new within)
        ∙ ap (λ (i : ℕ). bit_at new i == 1) bit
        ∙ ap (λ (b : ℕ). b == 1) (bit_at_clear_same w64 (slice_index words (k / 64)) (k % 64) small)
        ∙ and_false (is_bit words p)
        ∙ ap (λ (b : Bool). is_bit words p && b) (sym (it (same_by_parts p k word bit)))
    by_bit word (no bit) =
        ap (λ (i : ℕ). bit_at (slice_index (slice_set words (k / 64) new) i) (p % 64) == 1) word
        ∙ ap (λ (w : ℕ). bit_at w (p % 64) == 1) (set_here words (k / 64) new within)
        ∙ ap (λ (b : ℕ). b == 1) (bit_at_clear_other w64 (slice_index words (k / 64)) (k % 64) small (p % 64) small_p bit)
        ∙ ap (λ (i : ℕ). bit_at (slice_index words i) (p % 64) == 1) (sym word)
        ∙ and_true (is_bit words p)
        ∙ ap (λ (b : Bool). is_bit words p && b) (sym (not_it (λ same. bit (ap (λ (q : ℕ). q % 64) same))))

    by_word : Dec (p / 64 ≡ k / 64) → is_bit (slice_set words (k / 64) new) p ≡ (is_bit words p && not (k == p))
    by_word (yes word) = by_bit word (ℕ_discrete (p % 64) (k % 64))
    by_word (no word) =
        ap (λ (w : ℕ). bit_at w (p % 64) == 1) (set_else words (k / 64) (p / 64) new word)
        ∙ and_true (is_bit words p)
        ∙ ap (λ (b : Bool). is_bit words p && b) (sym (not_it (λ same. word (ap (λ (q : ℕ). q / 64) same))))

-- the least number is the first of them
pub least_taken : (words new : List ℕ) (k : ℕ) → k < 256 → k / 64 < length words → is_bit words k ≡ true → ((other : ℕ) → other < k → is_bit words other ≡ false)
    → new ≡ slice_set words (k / 64) (bit_and (slice_index words (k / 64)) (bit_not w64 (1 * 2 ^ (k % 64) % 2 ^ 64))) → numbers_of words ≡ k ∷ numbers_of new
least_taken words new k small within on none is =
    same_from 0 (numbers_of words) (k ∷ numbers_of new) (numbers_from words) (omega arith, above (numbers_of new) (increasing new) (λ p there. later p there)) members
  where
    in_new : (p : ℕ) → is_in (numbers_of new) p ≡ ((is_bit words p && not (k == p)) && nat_lt p 256)
    in_new p = in_numbers new p ∙ ap (λ (b : Bool). b && nat_lt p 256) (ap (λ (l : List ℕ). is_bit l p) is ∙ bit_removed words k p within)

    later : (p : ℕ) → is_in (numbers_of new) p ≡ true → suc k ≤ p
    later p there = by_value (nat_lt p k) (k == p) refl refl (sym (in_new p) ∙ there)
      where
        by_value : (b c : Bool) → nat_lt p k ≡ b → (k == p) ≡ c → ((is_bit words p && not c) && nat_lt p 256) ≡ true → suc k ≤ p
        by_value true c e f h =
            let less : p < k = grind (arith, nat_tests) in
            absurd (cc (sym h ∙ ap (λ (d : Bool). (d && not c) && nat_lt p 256) (none p less)))
        by_value false true e f h = absurd (cc (sym h ∙ gone (is_bit words p)))
          where
            gone : (d : Bool) → ((d && false) && nat_lt p 256) ≡ false
            gone true = refl
            gone false = refl
        by_value false false e f h = grind (arith, nat_tests)

    above : (xs : List ℕ) → IsStrictlyIncreasing xs → ((p : ℕ) → is_in xs p ≡ true → suc k ≤ p) → IsFrom (suc k) xs
    above [] inc all = tt
    above (x ∷ xs) inc all = (all x (ap (λ (b : Bool). b || is_in xs x) (same_itself x)), (increasing_from (x ∷ xs) inc).1)

    members : (p : ℕ) → is_in (numbers_of words) p ≡ is_in (k ∷ numbers_of new) p
    members p =
        in_numbers words p ∙ by_value (k == p) (is_bit words p) (nat_lt p 256) refl refl refl ∙ ap (λ (b : Bool). (k == p) || b) (sym (in_new p))
      where
        by_value : (a b c : Bool) → (k == p) ≡ a → is_bit words p ≡ b → nat_lt p 256 ≡ c → (b && c) ≡ (a || ((b && not a) && c))
        by_value true b c e f g =
            let same = same_number k p e in
            let is_on : b ≡ true = sym f ∙ ap (is_bit words) (sym same) ∙ on in
            let is_low : c ≡ true = sym g ∙ ap (λ (q : ℕ). nat_lt q 256) (sym same) ∙ low in
            ap₂ (λ (x y : Bool). x && y) is_on is_low
          where
            low : nat_lt k 256 ≡ true
            low = grind (arith, nat_tests)
        by_value false true true e f g = refl
        by_value false true false e f g = refl
        by_value false false c e f g = refl

-- ---- what contracts say of it

zero_words : (i : ℕ) → slice_index (0 ∷ 0 ∷ 0 ∷ 0 ∷ []) i ≡ 0
zero_words zero = refl
zero_words (suc zero) = refl
zero_words (suc (suc zero)) = refl
zero_words (suc (suc (suc zero))) = refl
zero_words (suc (suc (suc (suc i)))) = refl

pub nothing_there : numbers_of (0 ∷ 0 ∷ 0 ∷ 0 ∷ []) ≡ []
nothing_there =
    no_numbers (0 ∷ 0 ∷ 0 ∷ 0 ∷ [])
    (λ k below. ap (λ (w : ℕ). bit_at w (k % 64) == 1) (zero_words (k / 64)) ∙ ap (λ (b : ℕ). b == 1) (bit_at-zero (k % 64)))

pub set_of_none : (set : List ℕ) → set ≡ [] → IsSetOf set []
set_of_none [] none = record { increasing = λ k within. absurd (omega (arith, within)); members = λ p. refl }
set_of_none (x ∷ set) none = absurd (cc none)

pub has_bit : (words : List ℕ) (p : ℕ) → p < 256 → is_bit words p ≡ is_in (numbers_of words) p
has_bit words p below = by_value (is_bit words p) ∙ ap (λ (b : Bool). is_bit words p && b) (sym low) ∙ sym (in_numbers words p)
  where
    low : nat_lt p 256 ≡ true
    low = grind (arith, nat_tests)

    by_value : (b : Bool) → b ≡ (b && true)
    by_value true = refl
    by_value false = refl

pub has_none : (words : List ℕ) (p : ℕ) → 256 ≤ p → nat_lt p 256 ≡ is_in (numbers_of words) p
has_none words p past = high ∙ by_value (is_bit words p) ∙ ap (λ (b : Bool). is_bit words p && b) (sym high) ∙ sym (in_numbers words p)
  where
    high : nat_lt p 256 ≡ false
    high = grind (arith, nat_tests)

    by_value : (b : Bool) → false ≡ (b && false)
    by_value true = refl
    by_value false = refl

pub few_numbers : (words : List ℕ) → length (numbers_of words) ≤ 256
unfolding numbers_of
few_numbers words =
    let all = length-range_with_len 0 256 in
    let both = length-filter_both (is_bit words) (λ k. not (is_bit words k)) (λ k. refl) (range_with_len 0 256) in
    omega (arith, all, both)

-- ---- the least bit of a word

module _ (words : List ℕ) (k : ℕ) (some : 0 < slice_index words k) (fits : slice_index words k < 2 ^ 64) where
  abbrev lowest : ℕ
  lowest = trailing_zeros w64 (slice_index words k)

  low : lowest < 64
  low = (bit_at-trailing_zeros w64 (slice_index words k) some fits).0

  pub least_found : is_bit words (k * 64 + lowest) ≡ true
  least_found =
      let small = low in
      let word : (k * 64 + lowest) / 64 ≡ k = omega (arith, small) in
      let bit : (k * 64 + lowest) % 64 ≡ lowest = omega (arith, small) in
      ap₂ (λ (i j : ℕ). bit_at (slice_index words i) j == 1) word bit
      ∙ ap (λ (b : ℕ). b == 1) (bit_at-trailing_zeros w64 (slice_index words k) some fits).1

  pub least_first : ((other : ℕ) → other < 64 * k → is_bit words other ≡ false) → (other : ℕ) → other < k * 64 + lowest → is_bit words other ≡ false
  least_first before other below = by_test (nat_lt other (64 * k)) refl
    where
      by_test : (b : Bool) → nat_lt other (64 * k) ≡ b → is_bit words other ≡ false
      by_test true e = let less : other < 64 * k = grind (arith, nat_tests) in before other less
      by_test false e =
          let past : 64 * k ≤ other = grind (arith, nat_tests) in
          let small = low in
          let word : other / 64 ≡ k = omega (arith, past, below, small) in
          let bit : other % 64 < lowest = omega (arith, past, below, small) in
          ap (λ (i : ℕ). bit_at (slice_index words i) (other % 64) == 1) word
          ∙ ap (λ (b : ℕ). b == 1) ((bit_at-trailing_zeros w64 (slice_index words k) some fits).2 (other % 64) bit)

-- ---- whether there is a number

pub some_numbers : (words : List ℕ) (k : ℕ) → k < 256 → is_bit words k ≡ true → false ≡ (length (numbers_of words) == 0)
some_numbers words k small on = by_value (numbers_of words) (sym (has_bit words k small) ∙ on)
  where
    by_value : (l : List ℕ) → is_in l k ≡ true → false ≡ (length l == 0)
    by_value [] there = absurd (cc there)
    by_value (x ∷ l) there = grind (arith, nat_tests)

pub added_to : (words old new : List ℕ) (k i : ℕ) → k < 256 → k / 64 < length words → i ≡ k / 64 → numbers_of words ≡ old
    → new ≡ slice_set words i (bit_or (slice_index words i) (1 * 2 ^ (k % 64) % 2 ^ 64)) → IsSetOf (numbers_of new) (old ++ k ∷ [])
added_to words old new k i small within at shown is =
    subst (λ (l : List ℕ). IsSetOf (numbers_of new) (l ++ k ∷ [])) shown
    (number_added words new k small within
    (is ∙ ap (λ (j : ℕ). slice_set words j (bit_or (slice_index words j) (1 * 2 ^ (k % 64) % 2 ^ 64))) at))

-- Bits of words: a token that is marked, one whose mark goes, and the first without a mark.
use Rattle.std.proofs.Common.{◌≡◌, ◌≢◌, ℕ, ◌+◌, ◌-◌, ◌*◌, ◌/◌, ◌%◌, ◌^◌, ◌<◌, Bool, true, false, not, ◌&&◌, ◌||◌, ◌==◌, List, length, get_or, set, refl, sym, ◌∙◌, ap, arith, get_or-set_other, get_or-set_same, bit_and, bit_or, w64}
use Rattle.std.specs.Prelude.{nat_eq}
use Rattle.std.specs.Int.{bit_at, bit_not}
use Rattle.std.proofs.Math.Decide.{dec_lt}
use Rattle.std.proofs.lemmas.Bool.Decides.{nat_tests}
use Rattle.std.proofs.lemmas.Nat.Bits.{bit_at_set_same, bit_at_set_other, bit_at_clear_same, bit_at_clear_other, bit_at_ones}

-- the bit of a token
abbrev pub bit : List ℕ → ℕ → Bool
bit words t = nat_eq (bit_at (get_or words (t / 64) 0) (t % 64)) 1

-- a word in which the bit of a token is set, and one in which it is cleared
abbrev pub word_with : ℕ → ℕ → ℕ
word_with word t = bit_or word (1 * 2 ^ (t % 64) % 2 ^ 64)

abbrev pub word_without : ℕ → ℕ → ℕ
word_without word t = bit_and word (bit_not w64 (1 * 2 ^ (t % 64) % 2 ^ 64))

abbrev is_one : ℕ → ℕ → Bool
is_one word k = nat_eq (bit_at word k) 1

other-place : (t u : ℕ) → (u / 64 == t / 64) ≡ false → (u == t) ≡ false
other-place t u e = by_test (u == t) refl
  where
    by_test : (b : Bool) → (u == t) ≡ b → b ≡ false
    by_test false f = refl
    by_test true f =
        let n : u ≡ t = grind (arith, nat_tests) in
        let m : u / 64 ≢ t / 64 = grind (arith, nat_tests) in
        absurd (m (ap (λ x. x / 64) n))

other-bit : (t u : ℕ) → (u % 64 == t % 64) ≡ false → (u == t) ≡ false
other-bit t u e = by_test (u == t) refl
  where
    by_test : (b : Bool) → (u == t) ≡ b → b ≡ false
    by_test false f = refl
    by_test true f =
        let n : u ≡ t = grind (arith, nat_tests) in
        let m : u % 64 ≢ t % 64 = grind (arith, nat_tests) in
        absurd (m (ap (λ x. x % 64) n))

same-token : (t u : ℕ) → u / 64 ≡ t / 64 → u % 64 ≡ t % 64 → (u == t) ≡ true
same-token t u p k =
    let n : u ≡ t = omega arith in
    grind (arith, nat_tests)

-- the word of a token after that of another was replaced
put-same : (words : List ℕ) (p q w : ℕ) → q < length words → p ≡ q → get_or (set words q w) p 0 ≡ w
put-same words p q w within e = ap (λ x. get_or (set words q w) x 0) e ∙ get_or-set_same words q w 0 within

put-other : (words : List ℕ) (p q w : ℕ) → (p == q) ≡ false → get_or (set words q w) p 0 ≡ get_or words p 0
put-other words p q w e = get_or-set_other words q p w 0 (let ne : p ≢ q = grind (arith, nat_tests) in ne)

-- the token is marked, and all others are as they were
pub set-bit : (words : List ℕ) (t u : ℕ) → t / 64 < length words
    → bit (set words (t / 64) (word_with (get_or words (t / 64) 0) t)) u ≡ (nat_eq u t || bit words u)
set-bit words t u within = by_place (u / 64 == t / 64) refl
  where
    old : ℕ
    old = get_or words (t / 64) 0

    within_word : t % 64 < 64
    within_word = omega arith

    by_bit : u / 64 ≡ t / 64 → (b : Bool) → (u % 64 == t % 64) ≡ b → is_one (word_with (get_or words (t / 64) 0) t) (u % 64) ≡ (nat_eq u t || bit words u)
    by_bit p true e =
        let k : u % 64 ≡ t % 64 = grind (arith, nat_tests) in
        ap (λ x. is_one (word_with (get_or words (t / 64) 0) t) x) k
        ∙ ap (λ x. nat_eq x 1) (bit_at_set_same w64 (get_or words (t / 64) 0) (t % 64) within_word)
        ∙ sym (ap (λ b. b || bit words u) (same-token t u p k))
    by_bit p false e =
        let k : u % 64 ≢ t % 64 = grind (arith, nat_tests) in
        ap (λ x. nat_eq x 1) (bit_at_set_other w64 (get_or words (t / 64) 0) (t % 64) within_word (u % 64) k)
        ∙ ap (λ x. is_one (get_or words x 0) (u % 64)) (sym p)
        ∙ sym (ap (λ b. b || bit words u) (other-bit t u e))

    by_place : (b : Bool) → (u / 64 == t / 64) ≡ b → bit (set words (t / 64) (word_with (get_or words (t / 64) 0) t)) u ≡ (nat_eq u t || bit words u)
    by_place true e =
        let p : u / 64 ≡ t / 64 = grind (arith, nat_tests) in
        ap (λ w. is_one w (u % 64)) (put-same words (u / 64) (t / 64) (word_with (get_or words (t / 64) 0) t) within p) ∙ by_bit p (u % 64 == t % 64) refl
    by_place false e =
        ap (λ w. is_one w (u % 64)) (put-other words (u / 64) (t / 64) (word_with (get_or words (t / 64) 0) t) e) ∙ sym (ap (λ b. b || bit words u) (other-place t u e))

-- the token's mark goes, and all others are as they were
pub clear-bit : (words : List ℕ) (t u : ℕ) → t / 64 < length words
    → bit (set words (t / 64) (word_without (get_or words (t / 64) 0) t)) u ≡ (not (nat_eq u t) && bit words u)
clear-bit words t u within = by_place (u / 64 == t / 64) refl
  where
    within_word : t % 64 < 64
    within_word = omega arith

    by_bit : u / 64 ≡ t / 64 → (b : Bool) → (u % 64 == t % 64) ≡ b → is_one (word_without (get_or words (t / 64) 0) t) (u % 64) ≡ (not (nat_eq u t) && bit words u)
    by_bit p true e =
        let k : u % 64 ≡ t % 64 = grind (arith, nat_tests) in
        ap (λ x. is_one (word_without (get_or words (t / 64) 0) t) x) k
        ∙ ap (λ x. nat_eq x 1) (bit_at_clear_same w64 (get_or words (t / 64) 0) (t % 64) within_word)
        ∙ sym (ap (λ b. not b && bit words u) (same-token t u p k))
    by_bit p false e =
        let k : u % 64 ≢ t % 64 = grind (arith, nat_tests) in
        let below : u % 64 < 64 = omega arith in
        ap (λ x. nat_eq x 1) (bit_at_clear_other w64 (get_or words (t / 64) 0) (t % 64) within_word (u % 64) below k)
        ∙ ap (λ x. is_one (get_or words x 0) (u % 64)) (sym p)
        ∙ sym (ap (λ b. not b && bit words u) (other-bit t u e))

    by_place : (b : Bool) → (u / 64 == t / 64) ≡ b → bit (set words (t / 64) (word_without (get_or words (t / 64) 0) t)) u ≡ (not (nat_eq u t) && bit words u)
    by_place true e =
        let p : u / 64 ≡ t / 64 = grind (arith, nat_tests) in
        ap (λ w. is_one w (u % 64)) (put-same words (u / 64) (t / 64) (word_without (get_or words (t / 64) 0) t) within p) ∙ by_bit p (u % 64 == t % 64) refl
    by_place false e =
        ap (λ w. is_one w (u % 64)) (put-other words (u / 64) (t / 64) (word_without (get_or words (t / 64) 0) t) e) ∙ sym (ap (λ b. not b && bit words u) (other-place t u e))

-- a token by its word's place and its bit
at-bit : (words : List ℕ) (p k t : ℕ) → t ≡ 64 * p + k → k < 64 → bit words t ≡ is_one (get_or words p 0) k
at-bit words p k t e lt =
    let q : t / 64 ≡ p = omega arith in
    let r : t % 64 ≡ k = omega arith in
    ap (λ x. is_one (get_or words x 0) (t % 64)) q ∙ ap (λ x. is_one (get_or words p 0) x) r

-- of a word without a place left all tokens are marked, and of one with a place all before it
pub full-more : (words : List ℕ) (p : ℕ) → get_or words p 0 ≡ 2 ^ 64 - 1 → ((t : ℕ) → t < 64 * p → bit words t ≡ true) → (t : ℕ) → t < 64 * (p + 1) → bit words t ≡ true
full-more words p full before t lt = by_test (dec_lt t (64 * p))
  where
    by_test : Dec (t < 64 * p) → bit words t ≡ true
    by_test (yes l) = before t l
    by_test (no l) =
        let below : t - 64 * p < 64 = omega arith in
        at-bit words p (t - 64 * p) t (omega arith) below
        ∙ ap (λ w. is_one w (t - 64 * p)) full
        ∙ ap (λ x. nat_eq x 1) (bit_at_ones 64 (t - 64 * p) below)

pub free-before : (words : List ℕ) (p n : ℕ) → n < 64 → ((k : ℕ) → k < n → bit_at (get_or words p 0) k ≡ 1) → ((t : ℕ) → t < 64 * p → bit words t ≡ true)
    → (t : ℕ) → t < 64 * p + n → bit words t ≡ true
free-before words p n few ones before t lt = by_test (dec_lt t (64 * p))
  where
    by_test : Dec (t < 64 * p) → bit words t ≡ true
    by_test (yes l) = before t l
    by_test (no l) =
        let front : t - 64 * p < n = omega arith in
        at-bit words p (t - 64 * p) t (omega arith) (omega arith) ∙ ap (λ x. nat_eq x 1) (ones (t - 64 * p) front)

pub free-there : (words : List ℕ) (p n : ℕ) → n < 64 → bit_at (get_or words p 0) n ≡ 0 → bit words (64 * p + n) ≡ false
free-there words p n few none = at-bit words p n (64 * p + n) refl few ∙ ap (λ x. nat_eq x 1) none

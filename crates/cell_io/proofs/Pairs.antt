-- The table of pairs of digits.
use Rattle.std.proofs.Common.{◌≡◌, ℕ, zero, suc, ◌+◌, ◌*◌, ◌/◌, ◌%◌, ◌<◌, ◌==◌, ◌&&◌, Bool, true, false, get_or, refl, arith}
use Rattle.std.proofs.lemmas.Bool.Decides.{nat_tests}
use Rattle.cell_io.specs.Hex.{upper_digit}
use Rattle.cell_io.specs.declared.hex.TheConstants.{PAIRS}

abbrev high_of : ℕ → Bool
high_of n = get_or PAIRS (2 * n) 0 == upper_digit (n / 16)

abbrev low_of : ℕ → Bool
low_of n = get_or PAIRS (2 * n + 1) 0 == upper_digit (n % 16)

-- a test holds of each of the first n octets
abbrev holds : (ℕ → Bool) → ℕ → Bool
holds test zero = true
holds test (suc n) = test n && holds test n

all_high : holds high_of 256 ≡ true
all_high = refl

all_low : holds low_of 256 ≡ true
all_low = refl

at_each : (test : ℕ → Bool) (n k : ℕ) → holds test n ≡ true → k < n → test k ≡ true
at_each test zero k h l = absurd (omega (arith, l))
at_each test (suc n) k h l = by_test (k == n) refl (test n) refl (holds test n) refl h (at_each test n k)
  where
    by_test : (t : Bool) → (k == n) ≡ t → (u : Bool) → test n ≡ u → (v : Bool) → holds test n ≡ v → (u && v) ≡ true → (holds test n ≡ true → k < n → test k ≡ true) → test k ≡ true
    by_test t e false f v g h rest = cc
    by_test t e true f false g h rest = cc
    by_test true e true f true g h rest =
        let same : k ≡ n = grind (arith, nat_tests, e) in
        rw same f
    by_test false e true f true g h rest = rest g (grind (arith, nat_tests, e, l))

pub high_is : (n : ℕ) → n < 256 → get_or PAIRS (2 * n) 0 ≡ upper_digit (n / 16)
high_is n l = let h = at_each high_of 256 n all_high l in grind (arith, nat_tests, h)

pub low_is : (n : ℕ) → n < 256 → get_or PAIRS (2 * n + 1) 0 ≡ upper_digit (n % 16)
low_is n l = let h = at_each low_of 256 n all_low l in grind (arith, nat_tests, h)

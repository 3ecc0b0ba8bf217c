-- Bounds on the numbers that octets spell.
use Rattle.std.proofs.Common.{◌≡◌, ℕ, suc, ◌+◌, ◌*◌, ◌-◌, ◌/◌, ◌%◌, zero, ap, ◌^◌, ◌<◌, ◌≤◌, [], ◌∷◌, ◌++◌, arith, lit<}
use Rattle.std.proofs.Math.Nat.{pow-le-pow_right}
use Rattle.std.proofs.lemmas.Grind.{pow_more}
use Rattle.std.proofs.lemmas.Bool.{le-ltb}
use Rattle.ber_core.specs.Spelling.{digits}

-- up to eight octets fit 64 bits
pub eight_fit : (n b i k : ℕ) → n < 256 ^ i → b < 256 → i < k → k ≤ 8 → 256 * n + b < 2 ^ 64
eight_fit n b i k lt small below few =
    let le : i ≤ 7 = omega arith in
    let most : 256 ^ i ≤ 256 ^ 7 = pow-le-pow_right (lit< tt) le in
    omega arith

-- what a number is below, one octet further
pub next_below : (n b i : ℕ) → n < 256 ^ i → b < 256 → 256 * n + b < 256 ^ (i + 1)
next_below n b i lt small = rw pow_more (omega arith)

pub next_half : (n b i : ℕ) → 2 * n + 2 ≤ 256 ^ i → b < 256 → 2 * (256 * n + b) + 2 ≤ 256 ^ (i + 1)
next_half n b i lt small = rw pow_more (omega arith)

pub half_fits : (n i : ℕ) → 2 * n + 2 ≤ 256 ^ i → i ≤ 8 → n < 2 ^ 63
half_fits n i half few =
    let most : 256 ^ i ≤ 256 ^ 8 = pow-le-pow_right (lit< tt) few in
    omega arith

-- one more digit
pub digits_step : (bound k n : ℕ) → 0 < k → bound ≤ n → digits bound k n ≡ digits bound (k - 1) (n / 256) ++ (n % 256) ∷ []
unfolding digits
digits_step bound zero n some large = absurd (omega arith)
digits_step bound (suc k) n some large = rw (le-ltb n bound large) (ap (λ (j : ℕ). digits bound j (n / 256) ++ (n % 256) ∷ []) less)
  where
    less : k ≡ suc k - 1
    less = omega arith

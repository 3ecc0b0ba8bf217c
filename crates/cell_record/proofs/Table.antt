-- The table of digits, and the octets of a text without spaces.
use Rattle.std.proofs.Common.{◌≡◌, ℕ, zero, suc, ◌<◌, ◌==◌, ◌&&◌, Bool, true, false, get_or, refl, arith}
use Rattle.std.proofs.lemmas.Bool.Decides.{nat_tests}
use Rattle.cell_record.specs.Words.{nibble_of}
use Rattle.cell_record.specs.declared.digits.TheConstants.{VALUES}

-- the table is right at each of the first n octets
abbrev is_right : ℕ → Bool
is_right zero = true
is_right (suc n) = (get_or VALUES n 0 == nibble_of n) && is_right n

all_right : is_right 256 ≡ true
all_right = refl

at_each : (n k : ℕ) → is_right n ≡ true → k < n → get_or VALUES k 0 ≡ nibble_of k
at_each zero k h l = absurd (omega (arith, l))
at_each (suc n) k h l = by_test (k == n) refl (get_or VALUES n 0 == nibble_of n) refl (is_right n) refl h (at_each n k)
  where
    by_test : (t : Bool) → (k == n) ≡ t → (u : Bool) → (get_or VALUES n 0 == nibble_of n) ≡ u → (v : Bool) → is_right n ≡ v → (u && v) ≡ true → (is_right n ≡ true → k < n → get_or VALUES k 0 ≡ nibble_of k) → get_or VALUES k 0 ≡ nibble_of k
    by_test t e false f v g h rest = cc
    by_test t e true f false g h rest = cc
    by_test true e true f true g h rest =
        let same : k ≡ n = grind (arith, nat_tests, e) in
        rw same (grind (arith, nat_tests, f))
    by_test false e true f true g h rest = rest g (grind (arith, nat_tests, e, l))

pub value_is : (k : ℕ) → k < 256 → get_or VALUES k 0 ≡ nibble_of k
value_is k l = at_each 256 k all_right l

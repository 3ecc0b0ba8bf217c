-- Named bits, and the unused bits of a bit string.
use Rattle.std.proofs.Common.{◌≡◌, ℕ, zero, suc, ◌+◌, ◌-◌, ◌*◌, ◌/◌, ◌^◌, ◌≤◌, ◌<◌, List, [], ◌∷◌, ◌++◌, length, take, drop, get_or, replicate, Ok, refl, sym, ap, ◌∙◌, arith}
use Rattle.std.specs.Prelude.{slice_set}
use Rattle.std.proofs.Math.Seq.{take-append-add}
use Rattle.std.proofs.lemmas.List.{take-append-le, take_at, drop_at, drop-replicate, take-replicate}
use Rattle.ber_core.specs.Leaf.{IsBits}
use Rattle.ber_forms.specs.Bits.{cleared}
use Rattle.ber_forms.specs.Reading.{bits_in}
use Rattle.ber_forms.proofs.Sound.{bits_in_sound}

few : (c : List ℕ) (u : ℕ) (o : List ℕ) → IsBits c u o → u ≤ 7
few [] u o h = absurd h
few (a ∷ []) u o h = omega (arith, h.1)
few (a ∷ b ∷ rest) u o h = omega (arith, h.0, h.1)

pub few_unused : (c : List ℕ) (u : ℕ) (o : List ℕ) → bits_in c ≡ Ok (u, o) → u ≤ 7
few_unused c u o e = few c u o (bits_in_sound c (u, o) e)

-- the last octet, and no other, is cleared
pub cleared_last : (octets : List ℕ) (u r i : ℕ) → length octets ≡ suc i → r ≡ get_or octets i 0 / 2 ^ u * 2 ^ u → slice_set octets i r ≡ cleared u octets
cleared_last [] u r i long is = absurd (omega (arith, long))
cleared_last (a ∷ []) u r zero long is = ap (λ (n : ℕ). n ∷ []) is
cleared_last (a ∷ []) u r (suc i) long is = absurd (omega (arith, long))
cleared_last (a ∷ b ∷ rest) u r zero long is = absurd (omega (arith, long))
cleared_last (a ∷ b ∷ rest) u r (suc i) long is = ap (λ (o : List ℕ). a ∷ o) (cleared_last (b ∷ rest) u r i (omega (arith, long)) is)

pub length-cleared : (u : ℕ) (octets : List ℕ) → length (cleared u octets) ≡ length octets
length-cleared u [] = refl
length-cleared u (a ∷ []) = refl
length-cleared u (a ∷ b ∷ rest) = ap suc (length-cleared u (b ∷ rest))

take_cleared : (n u : ℕ) (octets : List ℕ) → n < length octets → take n (cleared u octets) ≡ take n octets
take_cleared zero u octets few = refl
take_cleared (suc n) u [] few = absurd (omega (arith, few))
take_cleared (suc n) u (a ∷ []) few = absurd (omega (arith, few))
take_cleared (suc n) u (a ∷ b ∷ rest) few = ap (λ (o : List ℕ). a ∷ o) (take_cleared n u (b ∷ rest) (omega (arith, few)))

-- fewer octets were sent than are wanted, or as many
pub all_taken : (n u : ℕ) (octets : List ℕ) → length octets ≤ n
    → cleared u (take (length octets) (octets ++ drop (length octets) (replicate n 0))) ++ drop (length octets) (octets ++ drop (length octets) (replicate n 0)) ≡ take n (cleared u octets ++ replicate n 0)
all_taken n u octets few =
    let k = length octets in
    let len = length-cleared u octets in
    let n-is : n ≡ length (cleared u octets) + (n - k) = omega (arith, few, len) in
    ap (λ (o : List ℕ). cleared u o ++ drop k (octets ++ drop k (replicate n 0))) (take_at octets (drop k (replicate n 0)) k refl)
    ∙ ap (λ (o : List ℕ). cleared u octets ++ o) (drop_at octets (drop k (replicate n 0)) k refl ∙ drop-replicate k n 0)
    ∙ sym (ap (λ (m : ℕ). take m (cleared u octets ++ replicate n 0)) n-is ∙ take-append-add (cleared u octets) (replicate n 0) (n - k)
    ∙ ap (λ (o : List ℕ). cleared u octets ++ o) (take-replicate (n - k) n 0 (omega arith)))

-- more octets were sent than are wanted
pub some_taken : (n u : ℕ) (octets : List ℕ) → n < length octets → take n octets ≡ take n (cleared u octets ++ replicate n 0)
some_taken n u octets more =
    sym (take-append-le n (cleared u octets) (replicate n 0) (omega (arith, more, length-cleared u octets)) ∙ take_cleared n u octets more)

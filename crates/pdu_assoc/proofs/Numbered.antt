-- Alternatives of one form, with numbers one after the other.
use Rattle.std.proofs.Common.{◌≡◌, ◌≢◌, ◌≤◌, ◌≤ℤ◌, ◌==◌, MatchBool, ℕ, zero, suc, pos, Bool, true, false, eqb, Ok, Err, [], refl, sym, subst, arith}
use Rattle.std.proofs.lemmas.Bool.Decides.{nat_tests}
use Rattle.std.proofs.lemmas.Bool.{eqb-true, eqb-false, eq-eqb, ne_eqb}
use Rattle.ber_core.specs.declared.element.Tag.{Tag}
use Rattle.ber_core.specs.declared.element.Lengths.{Lengths}
use Rattle.ber_core.specs.Part.{Part}
use Rattle.ber_core.specs.Spelling.{element_octets}
use Rattle.ber_forms.specs.Fault as fault
use Rattle.ber_forms.specs.Value.{Value, chosen, number}
use Rattle.ber_forms.specs.Form.{Form, Alternatives, or, no_other, unsigned8}
use Rattle.ber_forms.specs.Fits.{Fits, FitsOne}
use Rattle.ber_forms.specs.Reading.{◌>>=◌, is_tag, alternatives, number_value}
use Rattle.ber_forms.specs.Spelling.{tag_of, spelling, alternative_octets}
use Rattle.mms_types.specs.declared.identifier.Edition.{Edition}
use Rattle.mms_types.specs.Errors.{error}
use Rattle.pdu_names.specs.Kinds.{IsOf}
use Rattle.pdu_assoc.specs.ServiceErrors.{IsOneOf, numbered, service_error}

pub numbered_more : (first n : ℕ) (f : Form) → numbered first (suc n) f ≡ or first f (numbered (suc first) n f)
unfolding numbered
numbered_more first n f = refl

numbered_none : (first : ℕ) (f : Form) → numbered first zero f ≡ no_other
unfolding numbered
numbered_none first f = refl

own : (n : ℕ) (t : Tag) → t.class ≡ 2 → t.constructed ≡ false → t.number ≡ n → is_tag 2 false n t ≡ true
own n t c k e = rw (eq-eqb t.class 2 c, k, eq-eqb t.number n e) refl

other : (n : ℕ) (t : Tag) → (t.class ≡ 2 → t.constructed ≡ false → t.number ≡ n → ⊥) → is_tag 2 false n t ≡ false
other n t not = by_class (eqb t.class 2) t.constructed (eqb t.number n) refl refl refl
  where
    by_class : (a b c : Bool) → eqb t.class 2 ≡ a → t.constructed ≡ b → eqb t.number n ≡ c → is_tag 2 false n t ≡ false
    by_class false b c e f g = rw e refl
    by_class true true c e f g = rw (e, f) refl
    by_class true false false e f g = rw (e, f, g) refl
    by_class true false true e f g = absurd (not (eqb-true t.class 2 e) f (eqb-true t.number n g))

-- the alternative of the tag's number
pub number_read : (l : Lengths) (p : Part) (first n : ℕ) → p.tag.class ≡ 2 → p.tag.constructed ≡ false → IsOneOf first n p.tag.number
    → alternatives l (numbered first n unsigned8) p ≡ (number_value (pos 0) (pos 255) p.contents >>= λ v. Ok (chosen p.tag.number v))
number_read l p first zero c k h = absurd (omega (arith, h.0, h.1))
number_read l p first (suc n) c k h = rw (numbered_more first n unsigned8) (by_number (eqb p.tag.number first) refl (λ h. number_read l p (suc first) n c k h))
  where
    by_number : (b : Bool) → eqb p.tag.number first ≡ b
        → (IsOneOf (suc first) n p.tag.number → alternatives l (numbered (suc first) n unsigned8) p ≡ (number_value (pos 0) (pos 255) p.contents >>= λ v. Ok (chosen p.tag.number v)))
        → alternatives l (or first unsigned8 (numbered (suc first) n unsigned8)) p ≡ (number_value (pos 0) (pos 255) p.contents >>= λ v. Ok (chosen p.tag.number v))
    by_number true e later =
        let is : p.tag.number ≡ first = eqb-true p.tag.number first e in
        rw (own first p.tag c k is, is) refl
    by_number false e later =
        let ne = eqb-false p.tag.number first e in
        rw (other first p.tag (λ a b d. ne d)) (later (omega (arith, h.0, ne), omega (arith, h.1)))

-- no alternative
pub number_refused : (l : Lengths) (p : Part) (first n : ℕ) → ((p.tag.class ≡ 2) × (p.tag.constructed ≡ false) × IsOneOf first n p.tag.number → ⊥)
    → alternatives l (numbered first n unsigned8) p ≡ Err fault.malformed
number_refused l p first zero not = rw (numbered_none first unsigned8) refl
number_refused l p first (suc n) not = rw (numbered_more first n unsigned8, other first p.tag (λ a b d. not (a, b, (omega (arith, d), omega (arith, d))))) (number_refused l p (suc first) n (λ h. not (h.0, h.1, (omega (arith, h.2.0), omega (arith, h.2.1)))))

-- the element of the alternative's number
pub number_spelled : (first n k : ℕ) (v : Value) → IsOneOf first n k → alternative_octets (numbered first n unsigned8) (chosen k v) ≡ element_octets (tag_of 2 k unsigned8) (spelling unsigned8 v)
number_spelled first zero k v h = absurd (omega (arith, h.0, h.1))
number_spelled first (suc n) k v h = rw (numbered_more first n unsigned8) (by_number (eqb k first) refl (λ h. number_spelled (suc first) n k v h))
  where
    by_number : (b : Bool) → eqb k first ≡ b
        → (IsOneOf (suc first) n k → alternative_octets (numbered (suc first) n unsigned8) (chosen k v) ≡ element_octets (tag_of 2 k unsigned8) (spelling unsigned8 v))
        → alternative_octets (or first unsigned8 (numbered (suc first) n unsigned8)) (chosen k v) ≡ element_octets (tag_of 2 k unsigned8) (spelling unsigned8 v)
    by_number true e later = rw (e, eqb-true k first e) refl
    by_number false e later = rw e (later (omega (arith, h.0, eqb-false k first e), omega (arith, h.1)))

-- nothing
pub number_unspelled : (first n k : ℕ) (v : Value) → (IsOneOf first n k → ⊥) → alternative_octets (numbered first n unsigned8) (chosen k v) ≡ []
number_unspelled first zero k v not = rw (numbered_none first unsigned8) refl
number_unspelled first (suc n) k v not = rw (numbered_more first n unsigned8, ne_eqb k first (λ d. not (omega (arith, d), omega (arith, d)))) (number_unspelled (suc first) n k v (λ h. not (omega (arith, h.0), omega (arith, h.1))))

-- a code in one of the alternatives is of their form
pub code_fits : (first n alternative code : ℕ) → IsOneOf first n alternative → code ≤ 255 → FitsOne (numbered first n unsigned8) (chosen alternative (number (pos code)))
code_fits first zero alternative code one small = absurd (omega (arith, one.0, one.1))
code_fits first (suc n) alternative code one small =
    subst (λ (a : Alternatives). FitsOne a (chosen alternative (number (pos code)))) (sym (numbered_more first n unsigned8))
    (by_test (alternative == first) refl (λ further. code_fits (suc first) n alternative code further small))
  where
    in_range : (pos 0 ≤ℤ pos code) × (pos code ≤ℤ pos 255)
    in_range = (grind arith, grind (arith, small))

    by_test : (b : Bool) → (alternative == first) ≡ b → (IsOneOf (suc first) n alternative → FitsOne (numbered (suc first) n unsigned8) (chosen alternative (number (pos code))))
        → MatchBool b (Fits unsigned8 (number (pos code))) (FitsOne (numbered (suc first) n unsigned8) (chosen alternative (number (pos code))))
    by_test true e rest = in_range
    by_test false e rest =
        let other : alternative ≢ first = grind (arith, nat_tests) in
        rest (omega (arith, one.0, other), omega (arith, one.1))

pub error_fits : (edition : Edition) (class code : ℕ) → class ≤ 12 → code ≤ 255 → IsOf service_error edition (error class code)
error_fits edition class code few small = (code_fits 0 13 class code (omega arith, omega (arith, few)) small, (tt, tt))

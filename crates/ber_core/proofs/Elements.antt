-- What is read as an element is one, and an element is read again, whatever follows it.
use Rattle.std.proofs.Common.{◌≡◌, ℕ, ◌+◌, ◌<◌, List, [], ◌∷◌, ◌++◌, length, Result, Ok, Err, refl, sym, ap, subst, ◌∙◌, arith, Bor}
use Rattle.std.proofs.lemmas.List.{length-append, append_cancel_right}
use Rattle.ber_core.specs.declared.element.Lengths.{Lengths}
use Rattle.ber_core.specs.declared.element.Lengths.TheVariants.{Definite, Either}
use Rattle.ber_core.specs.declared.fault.BerError.{BerError}
use Rattle.std.specs.Prelude.{IfOk, IsOkAnd, MatchResult}
use Rattle.ber_core.specs.declared.element.Element.{Element}
use Rattle.ber_core.specs.Part.{Part, part}
use Rattle.ber_core.specs.Element.{IsElement, IsCut}
use Rattle.ber_core.specs.Reading.{element_at}
use Rattle.ber_core.proofs.Definites.{IsBytes, Front, ok_is, definite_takes, definite_again, definite_long}
use Rattle.ber_core.proofs.Closed.{either_takes, either_again, either_long}

-- What is read as an element is one.
pub element_takes : (lengths : Lengths) (bytes : List ℕ) (p : Part) (rest : List ℕ) → IsBytes bytes → element_at lengths bytes ≡ Ok (p, rest) → Front bytes rest (λ e. IsElement lengths e p)
element_takes Definite bytes p rest fits e = definite_takes bytes p rest fits e
element_takes Either bytes p rest fits e = either_takes bytes p rest fits e

-- An element is read, whatever follows it.
pub element_again : (lengths : Lengths) (octets : List ℕ) (p : Part) (rest : List ℕ) → IsElement lengths octets p → element_at lengths (octets ++ rest) ≡ Ok (p, rest)
element_again Definite octets p rest e = definite_again octets p rest e
element_again Either octets p rest e = either_again octets p rest e

-- No element begins another, and one octet string is one element.
pub one_element : (lengths : Lengths) (a b x y : List ℕ) (p q : Part) → IsElement lengths a p → IsElement lengths b q → a ++ x ≡ b ++ y → (a ≡ b) × (p ≡ q) × (x ≡ y)
one_element lengths a b x y p q first second e =
    let same = ok_is (p, x) (q, y) (sym (element_again lengths a p x first) ∙ ap (element_at lengths) e ∙ element_again lengths b q y second) in
    let rest : x ≡ y = ap (λ (z : Part × List ℕ). z.1) same in
    (append_cancel_right a b y (subst (λ (z : List ℕ). a ++ z ≡ b ++ y) rest e), ap (λ (z : Part × List ℕ). z.0) same, rest)

-- an element has some octet
pub element_long : (lengths : Lengths) (e : List ℕ) (p : Part) → IsElement lengths e p → 0 < length e
element_long Definite e p is = definite_long e p is
element_long Either e p is = either_long e p is

-- ---- what a reader of the first element answers

abbrev pub Cuts : Lengths → List ℕ → Result (Element × Bor (List ℕ)) BerError → Type 0
Cuts lengths bytes result = MatchResult result (λ x. element_at lengths bytes ≡ Ok (part x.0, x.1.now)) (λ e. element_at lengths bytes ≡ Err e)

pub is_found : (lengths : Lengths) (bytes : List ℕ) (r : Result (Element × Bor (List ℕ)) BerError) → IsBytes bytes → Cuts lengths bytes r → IfOk r (λ x. (taken : List ℕ) × IsElement lengths taken (part x.0) × (bytes ≡ taken ++ x.1.now))
is_found lengths bytes (Ok x) fits h = let f = element_takes lengths bytes (part x.0) x.1.now fits h in (f.taken, f.holds, f.parts)
is_found lengths bytes (Err e) fits h = tt

pub is_only : (lengths : Lengths) (bytes : List ℕ) (r : Result (Element × Bor (List ℕ)) BerError) (taken rest : List ℕ) (p : Part) → IsElement lengths taken p → bytes ≡ taken ++ rest → Cuts lengths bytes r → IsOkAnd r (λ x. (part x.0 ≡ p) × (x.1.now ≡ rest))
is_only lengths bytes (Ok x) taken rest p e split h =
    let same = ok_is (part x.0, x.1.now) (p, rest) (sym h ∙ ap (element_at lengths) split ∙ element_again lengths taken p rest e) in
    (ap (λ (z : Part × List ℕ). z.0) same, ap (λ (z : Part × List ℕ). z.1) same)
is_only lengths bytes (Err d) taken rest p e split h = absurd (cc (h, ap (element_at lengths) split ∙ element_again lengths taken p rest e))

-- Octets are cut in one way.
pub one_cut : (lengths : Lengths) (octets : List ℕ) (ps qs : List Part) → IsCut lengths octets ps → IsCut lengths octets qs → ps ≡ qs
one_cut lengths octets [] [] first second = refl
one_cut lengths octets [] (q ∷ qs) first (taken, rest, is, split, more) = absurd (omega (arith, element_long lengths taken q is, ap length first, ap length split, length-append taken rest))
one_cut lengths octets (p ∷ ps) [] (taken, rest, is, split, more) second = absurd (omega (arith, element_long lengths taken p is, ap length second, ap length split, length-append taken rest))
one_cut lengths octets (p ∷ ps) (q ∷ qs) (a, x, first, split, more) (b, y, second, cut, others) =
    let same = one_element lengths a b x y p q first second (sym split ∙ cut) in
    let rest = one_cut lengths x ps qs more (subst (λ (s : List ℕ). IsCut lengths s qs) (sym same.2) others) in
    ap (λ (r : Part). r ∷ ps) same.1 ∙ ap (λ (rs : List Part). q ∷ rs) rest

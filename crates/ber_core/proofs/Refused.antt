-- Each refusal comes exactly where its condition holds.
use Rattle.std.proofs.Common.{◌≡◌, ◌≢◌, ℕ, ◌↔◌, List, [], ◌++◌, length, Result, Ok, Err, refl, sym, ap, ◌∙◌, append_assoc, arith, Bor}
use Rattle.std.specs.Prelude.{IfErr, IsErrOf}
use Rattle.std.proofs.lemmas.List.{length-append, append-nil}
use Rattle.ber_core.specs.declared.element.Lengths.{Lengths}
use Rattle.ber_core.specs.declared.element.Lengths.TheVariants.{Definite, Either}
use Rattle.ber_core.specs.declared.element.Element.{Element}
use Rattle.ber_core.specs.declared.fault.BerError.{BerError}
use Rattle.ber_core.specs.declared.fault.BerError.TheVariants.{Short, BadTag, BadLength, BadContents}
use Rattle.ber_core.specs.Part.{Part}
use Rattle.ber_core.specs.Element.{IsElement}
use Rattle.ber_core.specs.Reading.{element_at}
use Rattle.ber_core.specs.Refusal.{HasBadTag, HasBadLength, EndsEarly}
use Rattle.ber_core.proofs.Definites.{IsBytes}
use Rattle.ber_core.proofs.Elements.{element_takes, element_again, one_element, Cuts}
use Rattle.ber_core.proofs.DefiniteRefused.{IsRefused, definite_refused, tag_bad, length_bad, bad_tag_more, bad_length_more}
use Rattle.ber_core.proofs.RefusedWithin.{either_refused, tag_bad_within, length_bad_within, within_more, bad_either_length_more}

abbrev bad : {A : Type 0} → BerError → Result A BerError
bad e = Err e

-- What is refused is refused for its reason.
pub refused : (lengths : Lengths) (octets : List ℕ) (e : BerError) → IsBytes octets → element_at lengths octets ≡ Err e → IsRefused lengths octets e
refused Definite octets e fits h = definite_refused octets e fits h
refused Either octets e fits h = either_refused octets e fits h

-- ---- the octets that are there decide first

tag_refused : (lengths : Lengths) (octets : List ℕ) → HasBadTag lengths octets → element_at lengths octets ≡ Err BadTag
tag_refused Definite octets h = tag_bad octets h
tag_refused Either octets h = tag_bad_within octets h

bad_length_refused : (lengths : Lengths) (octets : List ℕ) → HasBadLength lengths octets → element_at lengths octets ≡ Err BadLength
bad_length_refused Definite octets h = length_bad octets h
bad_length_refused Either octets h = length_bad_within octets h

length_more : (lengths : Lengths) (octets more : List ℕ) → HasBadLength lengths octets → HasBadLength lengths (octets ++ more)
length_more Definite octets more h = bad_length_more octets more h
length_more Either octets more h = within_more bad_either_length_more octets more h

tag_more : (lengths : Lengths) (octets more : List ℕ) → HasBadTag lengths octets → HasBadTag lengths (octets ++ more)
tag_more Definite octets more h = bad_tag_more octets more h
tag_more Either octets more h = within_more bad_tag_more octets more h

-- an element and nothing after it
whole_element : (lengths : Lengths) (octets : List ℕ) (p : Part) → IsElement lengths octets p → element_at lengths octets ≡ Ok (p, [])
whole_element lengths octets p is = ap (element_at lengths) (sym (append-nil octets)) ∙ element_again lengths octets p [] is

early_refused : (lengths : Lengths) (octets : List ℕ) → IsBytes octets → EndsEarly lengths octets → element_at lengths octets ≡ Err Short
early_refused lengths octets fits (more, p, some, is) = by_answer (element_at lengths octets) refl
  where
    again : element_at lengths (octets ++ more) ≡ Ok (p, [])
    again = whole_element lengths (octets ++ more) p is

    by_error : (e : BerError) → IsRefused lengths octets e → e ≡ Short
    by_error Short h = refl
    by_error BadTag h = absurd (cc (again, tag_refused lengths (octets ++ more) (tag_more lengths octets more h)))
    by_error BadLength h = absurd (cc (again, bad_length_refused lengths (octets ++ more) (length_more lengths octets more h)))
    by_error BadContents h = absurd h

    by_answer : (r : Result (Part × List ℕ) BerError) → element_at lengths octets ≡ r → element_at lengths octets ≡ Err Short
    by_answer (Ok x) e =
        let f = element_takes lengths octets x.0 x.1 fits e in
        let same = one_element lengths f.taken (octets ++ more) (x.1 ++ more) [] x.0 p f.holds is (sym (append_assoc f.taken x.1 more) ∙ ap (λ (s : List ℕ). s ++ more) (sym f.parts) ∙ sym (append-nil (octets ++ more))) in
        absurd (omega (arith, some, ap length same.2, length-append x.1 more))
    by_answer (Err d) e = e ∙ ap bad (by_error d (refused lengths octets d fits e))

-- What meets the condition is refused so.
pub is_refused : (lengths : Lengths) (octets : List ℕ) (e : BerError) → IsBytes octets → IsRefused lengths octets e → element_at lengths octets ≡ Err e
is_refused lengths octets Short fits h = early_refused lengths octets fits h
is_refused lengths octets BadTag fits h = tag_refused lengths octets h
is_refused lengths octets BadLength fits h = bad_length_refused lengths octets h
is_refused lengths octets BadContents fits h = absurd h

-- ---- what a reader of the first element answers

pub refuses : (lengths : Lengths) (octets : List ℕ) (r : Result (Element × Bor (List ℕ)) BerError) (e : BerError) → IsBytes octets → Cuts lengths octets r → IsErrOf r e ↔ IsRefused lengths octets e
refuses lengths octets (Ok x) e fits h = (λ is. absurd cc, λ why. absurd (cc (h, is_refused lengths octets e fits why)))
refuses lengths octets (Err d) e fits h = (
  λ is. refused lengths octets e fits (cc (h, is)),
  λ why. cc (h, is_refused lengths octets e fits why),
)

pub no_other : (lengths : Lengths) (octets : List ℕ) (r : Result (Element × Bor (List ℕ)) BerError) → IsBytes octets → Cuts lengths octets r → IfErr r (λ e. e ≢ BadContents)
no_other lengths octets (Ok x) fits h = tt
no_other lengths octets (Err d) fits h = λ is. refused lengths octets BadContents fits (cc (h, is))

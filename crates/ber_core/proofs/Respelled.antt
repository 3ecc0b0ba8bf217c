-- What has definite lengths is read with either, and octets that are spelled anew are cut into the same elements.
use Rattle.std.proofs.Common.{◌≡◌, ℕ, zero, suc, ◌+◌, ◌-◌, ◌^◌, ◌<◌, ◌≤◌, List, [], ◌∷◌, ◌++◌, length, map, Option, Some, None, Result, Ok, Err, refl, sym, ap, subst, ◌∙◌, arith}
use Rattle.std.specs.Prelude.{option_map}
use Rattle.std.proofs.lemmas.List.{length-append}
use Rattle.ber_core.specs.declared.element.Tag.{Tag}
use Rattle.ber_core.specs.declared.element.Lengths.{Lengths}
use Rattle.ber_core.specs.declared.element.Lengths.TheVariants.{Definite, Either}
use Rattle.ber_core.specs.declared.fault.BerError.{BerError}
use Rattle.ber_core.specs.Part.{Part}
use Rattle.ber_core.specs.Element.{IsIdentifier, IsEitherElement, of_definite, of_indefinite, IsCut}
use Rattle.ber_core.specs.Reading.{either_at}
use Rattle.ber_core.specs.Spelling.{element_octets}
use Rattle.ber_core.specs.Respelling.{then_parts, parts_in, each_of, joined_by, contents_by, respelled, anew}
use Rattle.ber_core.proofs.Definites.{IsBytes, Front}
use Rattle.ber_core.proofs.Closed.{either_takes, either_again, either_long, bytes_after}
use Rattle.ber_core.proofs.Spelled.{element_spelled, contents_shorter}

-- ---- edition 1 within edition 2

pub cut_either : (octets : List ℕ) (ps : List Part) → IsCut Definite octets ps → IsCut Either octets ps
cut_either octets [] h = h
cut_either octets (p ∷ ps) (first, rest, is, split, more) = (first, rest, of_definite first p is, split, cut_either rest ps more)

-- ---- what elements have

-- an element's tag has a spelling, and its contents are octets, fewer than the element's
pub record IsPart (octets : List ℕ) (p : Part) : Type 0 where
  pub class : p.tag.class < 4
  pub number : p.tag.number < 16384
  pub bytes : IsBytes octets → IsBytes p.contents
  pub shorter : length p.contents ≤ length octets

class_of : (i : List ℕ) (t : Tag) → IsIdentifier i t → t.class < 4
class_of [] t h = absurd h
class_of (a ∷ []) t h = h.0
class_of (a ∷ b ∷ []) t h = h.0
class_of (a ∷ b ∷ c ∷ []) t h = h.0
class_of (a ∷ b ∷ c ∷ d ∷ more) t h = absurd h

number_of_tag : (i : List ℕ) (t : Tag) → IsIdentifier i t → t.number < 16384
number_of_tag [] t h = absurd h
number_of_tag (a ∷ []) t h = omega (arith, h.1)
number_of_tag (a ∷ b ∷ []) t h = omega (arith, h.3, h.4)
number_of_tag (a ∷ b ∷ c ∷ []) t h = omega (arith, h.2, h.3, h.4, h.5)
number_of_tag (a ∷ b ∷ c ∷ d ∷ more) t h = absurd h

pub bytes_before : (xs ys : List ℕ) → IsBytes (xs ++ ys) → IsBytes xs
bytes_before [] ys fits i = omega arith
bytes_before (x ∷ xs) ys fits zero = fits 0
bytes_before (x ∷ xs) ys fits (suc i) = bytes_before xs ys (λ j. fits (suc j)) i

pub is_part : (octets : List ℕ) (p : Part) → IsEitherElement octets p → IsPart octets p
is_part octets p (of_definite _ _ is) = record {
  class = class_of is.identifier p.tag is.tag;
  number = number_of_tag is.identifier p.tag is.tag;
  bytes = λ fits. bytes_after (is.identifier ++ is.announced) p.contents (subst IsBytes is.whole fits);
  shorter = omega (arith, ap length is.whole, length-append (is.identifier ++ is.announced) p.contents);
}
is_part octets p (of_indefinite _ i _ is constructed are whole) = record {
  class = class_of i p.tag is;
  number = number_of_tag i p.tag is;
  bytes = λ fits. bytes_before p.contents (0 ∷ 0 ∷ []) (λ j. bytes_after i (128 ∷ (p.contents ++ 0 ∷ 0 ∷ [])) (subst IsBytes whole fits) (suc j));
  shorter = omega (arith, ap length whole, length-append i (128 ∷ (p.contents ++ 0 ∷ 0 ∷ [])), length-append p.contents (0 ∷ 0 ∷ []));
}

-- ---- joinings of elements

some_is : {A : Type 0} (x y : A) → Some x ≡ Some y → x ≡ y
some_is x y e = cc

no_some : {A P : Type 0} (x : A) → Some x ≡ None → P
no_some x e = absurd cc

pub parts_cut : (steps : ℕ) (octets : List ℕ) (ps : List Part) → IsBytes octets → parts_in steps octets ≡ Some ps → IsCut Either octets ps
unfolding parts_in
parts_cut zero [] ps fits e = subst (IsCut Either []) (some_is [] ps e) refl
parts_cut zero (a ∷ rest) ps fits e = no_some ps (sym e)
parts_cut (suc steps) [] ps fits e = subst (IsCut Either []) (some_is [] ps e) refl
parts_cut (suc steps) (a ∷ rest) ps fits e = by_first (either_at (a ∷ rest)) refl e (λ left fits qs h. parts_cut steps left qs fits h)
  where
    by_rest : (p : Part) (left : List ℕ) (f : Front (a ∷ rest) left (λ s. IsEitherElement s p)) (o : Option (List Part)) → parts_in steps left ≡ o → option_map (λ (qs : List Part). p ∷ qs) o ≡ Some ps
        → ((qs : List Part) → parts_in steps left ≡ Some qs → IsCut Either left qs) → IsCut Either (a ∷ rest) ps
    by_rest p left f None is h again = no_some ps (sym h)
    by_rest p left f (Some qs) is h again = subst (IsCut Either (a ∷ rest)) (some_is (p ∷ qs) ps h) (f.taken, left, f.holds, f.parts, again qs is)

    by_first : (r : Result (Part × List ℕ) BerError) → either_at (a ∷ rest) ≡ r → then_parts r (parts_in steps) ≡ Some ps
        → ((left : List ℕ) → IsBytes left → (qs : List Part) → parts_in steps left ≡ Some qs → IsCut Either left qs) → IsCut Either (a ∷ rest) ps
    by_first (Err d) is h again = no_some ps (sym h)
    by_first (Ok x) is h again =
        let f = either_takes (a ∷ rest) x.0 x.1 fits is in
        by_rest x.0 x.1 f (parts_in steps x.1) refl h (again x.1 (bytes_after f.taken x.1 (subst IsBytes f.parts fits)))

pub cut_parts : (steps : ℕ) (octets : List ℕ) (ps : List Part) → IsCut Either octets ps → length octets ≤ steps → parts_in steps octets ≡ Some ps
unfolding parts_in
cut_parts zero [] [] h le = refl
cut_parts (suc steps) [] [] h le = refl
cut_parts steps (a ∷ rest) [] h le = absurd cc
cut_parts steps [] (p ∷ ps) (first, left, is, split, more) le = absurd (omega (arith, either_long first p is, ap length split, length-append first left))
cut_parts zero (a ∷ rest) (p ∷ ps) h le = absurd (omega (arith, le))
cut_parts (suc steps) (a ∷ rest) (p ∷ ps) (first, left, is, split, more) le =
    let read : either_at (a ∷ rest) ≡ Ok (p, left) = ap either_at split ∙ either_again first p left is in
    let again = cut_parts steps left ps more (omega (arith, le, either_long first p is, ap length split, length-append first left)) in
    rw (read, again) refl

abbrev pub spelled_anew : ℕ → Part → List ℕ
spelled_anew depth p = element_octets p.tag (contents_by p.tag.constructed (respelled depth) p.contents)

pub anew_cut : (lengths : Lengths) (depth : ℕ) (octets : List ℕ) (ps : List Part) → IsCut Either octets ps → length (each_of (spelled_anew depth) ps) < 2 ^ 64
    → IsCut lengths (each_of (spelled_anew depth) ps) (map (anew depth) ps)
anew_cut lengths depth octets [] h short = refl
anew_cut lengths depth octets (p ∷ ps) (first, rest, is, split, more) short =
    let part = is_part first p is in
    let c = (anew depth p).contents in
    let sum = length-append (spelled_anew depth p) (each_of (spelled_anew depth) ps) in (
      spelled_anew depth p,
      each_of (spelled_anew depth) ps,
      element_spelled lengths p.tag c part.class part.number (omega (arith, short, sum, contents_shorter p.tag c)),
      refl,
      anew_cut lengths depth rest ps more (omega (arith, short, sum)),
    )

pub respelled_cut : (depth : ℕ) (octets : List ℕ) (ps : List Part) → IsCut Either octets ps → respelled (suc depth) octets ≡ each_of (spelled_anew depth) ps
unfolding respelled
respelled_cut depth octets ps cut = ap (joined_by (spelled_anew depth) octets) (cut_parts (length octets) octets ps cut (omega arith))

pub respelled_itself : (octets : List ℕ) → respelled zero octets ≡ octets
unfolding respelled
respelled_itself octets = refl

pub respelled_other : (depth : ℕ) (octets : List ℕ) → parts_in (length octets) octets ≡ None → respelled (suc depth) octets ≡ octets
unfolding respelled
respelled_other depth octets none = ap (joined_by (spelled_anew depth) octets) none

pub anew_law : (lengths : Lengths) (depth : ℕ) (octets : List ℕ) (ps : List Part) → IsCut Either octets ps → length (respelled (suc depth) octets) < 2 ^ 64
    → IsCut lengths (respelled (suc depth) octets) (map (anew depth) ps)
anew_law lengths depth octets ps cut short =
    let is = respelled_cut depth octets ps cut in
    subst (λ (s : List ℕ). IsCut lengths s (map (anew depth) ps)) (sym is) (anew_cut lengths depth octets ps cut (subst (λ (s : List ℕ). length s < 2 ^ 64) is short))

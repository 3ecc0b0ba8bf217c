-- The tag in front of octets: an element has the one that its identifier says.
use Rattle.std.proofs.Common.{◌≡◌, ℕ, inl, inr, Bool, false, ltb, eqb, List, [], ◌∷◌, length, Option, Some, None, Result, Ok, Err, refl, ap, ◌∙◌}
use Rattle.ber_core.specs.declared.element.Tag.{Tag}
use Rattle.ber_core.specs.declared.element.Lengths.{Lengths}
use Rattle.ber_core.specs.declared.element.Lengths.TheVariants.{Definite, Either}
use Rattle.ber_core.specs.declared.fault.BerError.{BerError}
use Rattle.ber_core.specs.Part.{Part}
use Rattle.ber_core.specs.Reading.{identifier_at, length_at, definite_at, opening_of, opening_by, opening_at, closing, ended, either_by, either_at, element_at}
use Rattle.ber_core.proofs.Definites.{ok_is, chosen, bind_ok}
use Rattle.ber_forms.specs.Reading.{◌>>=◌, well, passes, is_ahead, next_at}

some_is : {A : Type 0} (x y : A) → Some x ≡ Some y → x ≡ y
some_is x y e = cc

definite_tag : (octets : List ℕ) (p : Part) (rest : List ℕ) → definite_at octets ≡ Ok (p, rest) → (more : List ℕ) × (identifier_at octets ≡ Ok (p.tag, more))
unfolding definite_at
definite_tag octets p rest e =
    let t = bind_ok (identifier_at octets) _ (p, rest) e in
    let n = bind_ok (length_at t.0.1) _ (p, rest) t.2 in
    elim (chosen (ltb (length n.0.1) n.0.0) _ _ (Ok (p, rest)) n.2) [
      | inl w ↦ absurd (cc w.1)
      | inr w ↦ (t.0.1, t.1 ∙ ap (λ (q : Part × List ℕ). Ok (q.0.tag, t.0.1)) (ok_is _ (p, rest) w.1))
    ]

opening_tag : (octets : List ℕ) (x : Tag × List ℕ) → opening_at octets ≡ Some x → (more : List ℕ) × (identifier_at octets ≡ Ok (x.0, more))
unfolding opening_at
opening_tag octets x e = by_tag (identifier_at octets) refl e
  where
    by_rest : (t : Tag) (left : List ℕ) → opening_of t left ≡ Some x → t ≡ x.0
    by_rest t [] h = absurd (cc h)
    by_rest t (a ∷ rest) h =
        elim (chosen (eqb a 128) (Some (t, rest)) None (Some x) h) [
          | inl w ↦ ap (λ (y : Tag × List ℕ). y.0) (some_is (t, rest) x w.1)
          | inr w ↦ absurd (cc w.1)
        ]

    by_tag : (r : Result (Tag × List ℕ) BerError) → identifier_at octets ≡ r → opening_by r ≡ Some x → (more : List ℕ) × (identifier_at octets ≡ Ok (x.0, more))
    by_tag (Ok y) is h = (y.1, is ∙ ap (λ (t : Tag). Ok (t, y.1)) (by_rest y.0 y.1 h))
    by_tag (Err d) is h = absurd (cc h)

either_tag : (octets : List ℕ) (p : Part) (rest : List ℕ) → either_at octets ≡ Ok (p, rest) → (more : List ℕ) × (identifier_at octets ≡ Ok (p.tag, more))
unfolding either_at
either_tag octets p rest e = by_opening (opening_at octets) refl e
  where
    by_opening : (o : Option (Tag × List ℕ)) → opening_at octets ≡ o → either_by octets o ≡ Ok (p, rest) → (more : List ℕ) × (identifier_at octets ≡ Ok (p.tag, more))
    by_opening None is h = definite_tag octets p rest h
    by_opening (Some x) is h =
        elim (chosen x.0.constructed _ _ (Ok (p, rest)) h) [
          | inl w ↦
              let y = bind_ok (closing (length x.1) 1 x.1) _ (p, rest) w.1 in
              let t = opening_tag octets x is in
              (t.0, t.1 ∙ ap (λ (q : Part × List ℕ). Ok (q.0.tag, t.0)) (ok_is (ended x.0 x.1 y.0) (p, rest) y.2))
          | inr w ↦ absurd (cc w.1)
        ]

element_tag : (lengths : Lengths) (octets : List ℕ) (p : Part) (rest : List ℕ) → element_at lengths octets ≡ Ok (p, rest) → (more : List ℕ) × (identifier_at octets ≡ Ok (p.tag, more))
element_tag Definite octets p rest e = definite_tag octets p rest e
element_tag Either octets p rest e = either_tag octets p rest e

-- no tag is in front of nothing
pub none_ahead : (test : Tag → Bool) → is_ahead test [] ≡ false
unfolding identifier_at
none_ahead test = refl

-- the tag in front is that of the element in front
pub ahead_is : (lengths : Lengths) (test : Tag → Bool) (octets : List ℕ) (p : Part) (rest : List ℕ) → next_at lengths octets ≡ Ok (Some (p, rest)) → is_ahead test octets ≡ test p.tag
unfolding next_at
ahead_is lengths test [] p rest e = absurd cc
ahead_is lengths test (a ∷ more) p rest e = by_element (element_at lengths (a ∷ more)) refl e
  where
    by_element : (r : Result (Part × List ℕ) BerError) → element_at lengths (a ∷ more) ≡ r → (well r >>= λ x. Ok (Some x)) ≡ Ok (Some (p, rest)) → is_ahead test (a ∷ more) ≡ test p.tag
    by_element (Ok x) is h =
        let same : x ≡ (p, rest) = cc h in
        ap (passes test) (element_tag lengths (a ∷ more) p rest (is ∙ ap (λ (y : Part × List ℕ). Ok y) same)).1
    by_element (Err d) is h = absurd (cc h)

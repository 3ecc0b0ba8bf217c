-- What is read of a confirmed-Request, and of one alternative, is what the octets are.
use Rattle.std.proofs.Common.{◌≡◌, ℕ, pos, ◌⊎◌, inl, inr, Bool, true, false, List, [], ◌∷◌, ◌++◌, Option, Some, None, Result, Ok, Err, refl, sym, ap, subst, ◌∙◌, cond, eqb}
use Rattle.std.specs.Prelude.{IsTrue}
use Rattle.std.proofs.lemmas.List.{append-nil}
use Rattle.std.proofs.lemmas.Bool.{eqb-true, eq-eqb}
use Rattle.ber_core.specs.declared.element.Tag.{Tag}
use Rattle.ber_core.specs.declared.element.Lengths.{Lengths}
use Rattle.ber_core.specs.Part.{Part}
use Rattle.ber_core.specs.Element.{IsElement, IsCut}
use Rattle.ber_core.proofs.Definites.{IsBytes}
use Rattle.ber_core.proofs.Elements.{one_element}
use Rattle.ber_forms.specs.Fault.{Fault}
use Rattle.ber_forms.specs.Fault as fault
use Rattle.ber_forms.specs.Value.{Value, number}
use Rattle.ber_forms.specs.Form.{Alternatives, choice, universal, unsigned32}
use Rattle.ber_forms.specs.Reading.{◌>>=◌, is_tag, next_at, part_at, optional_part, at_end, chosen_by, reading, alternatives, required_at}
use Rattle.ber_forms.specs.InForm.{IsMember, IsAlternative}
use Rattle.ber_forms.specs.TooDeep.{IsAlternativeTooDeep}
use Rattle.ber_forms.proofs.Sound.{fine_is, bound, end_is, Cut, part_sound, optional_found, member_sound}
use Rattle.ber_forms.proofs.Complete.{next_again, part_again, end_again, member_complete, reading_complete}
use Rattle.ber_forms.proofs.NotWhole.{as_cut}
use Rattle.ber_forms.proofs.Deep.{reading_deep}
use Rattle.ber_forms.proofs.DeepAgain.{deep_again}
use Rattle.pdu_names.specs.Said.{natural_of}
use Rattle.mms_pdu.specs.Hearing.{Asked, asking, sole_part, service_of, asked_at}
use Rattle.mms_pdu.specs.Refused.{AreAsked, Asks}
use Rattle.mms_pdu.proofs.Whole.{invoke_is}

service_is : (p s : Part) → service_of p ≡ Ok s → (p ≡ s) × (p.tag.class ≡ 2)
service_is p s e = by_class (eqb p.tag.class 2) refl e
  where
    by_class : (b : Bool) → eqb p.tag.class 2 ≡ b → cond b (Ok p) (Err fault.malformed) ≡ Ok s → (p ≡ s) × (p.tag.class ≡ 2)
    by_class true k f = (fine_is p s f, eqb-true p.tag.class 2 k)
    by_class false k f = absurd cc

abbrev at_the_end : Value → Result (Value × List ℕ) Fault
at_the_end v = Ok (v, [])

abbrev some : Part → Option Part
some p = Some p

some_is : (p q : Part) → some p ≡ some q → p ≡ q
some_is p q e = cc e

module _ (lengths : Lengths) where
  same_part : (octets : List ℕ) (p q : Part) → IsElement lengths octets p → IsElement lengths octets q → p ≡ q
  same_part octets p q is also = (one_element lengths octets octets [] [] p q is also refl).1

  -- ---- one element

  pub sole_is : (c : List ℕ) (p : Part) → IsBytes c → sole_part lengths c ≡ Ok p → IsElement lengths c p × IsBytes p.contents
  unfolding sole_part
  sole_is c p fits e =
      let b = bound (part_at lengths c) (λ x. at_end x.1 >>= λ _. Ok x.0) p e in
      let d = bound (at_end b.0.1) (λ _. Ok b.0.0) p b.2 in
      let cut = part_sound lengths c b.0 fits b.1 in
      let whole : c ≡ cut.first = cut.parts ∙ ap (λ (r : List ℕ). cut.first ++ r) (end_is b.0.1 d.0 d.1) ∙ append-nil cut.first in
      let is : b.0.0 ≡ p = fine_is b.0.0 p d.2 in
      subst (λ (q : Part). IsElement lengths c q × IsBytes q.contents) is (subst (λ (o : List ℕ). IsElement lengths o b.0.0) (sym whole) cut.is, cut.inner_fits)

  whole_at : (c : List ℕ) (p : Part) → IsElement lengths c p → part_at lengths c ≡ Ok (p, [])
  whole_at c p is = part_again lengths c c [] p is (sym (append-nil c))

  pub sole_only : (c : List ℕ) (p : Part) → IsElement lengths c p → sole_part lengths c ≡ Ok p
  unfolding sole_part
  sole_only c p is = rw (whole_at c p is, end_again) refl

  -- ---- one alternative

  reading_one : (others : Alternatives) (c : List ℕ) (p : Part) → IsElement lengths c p → reading lengths (choice others) c ≡ alternatives lengths others p
  unfolding chosen_by
  reading_one others c p is = rw (whole_at c p is) (by_result (alternatives lengths others p))
    where
      by_result : (r : Result Value Fault) → ((r >>= at_the_end) >>= λ x. at_end x.1 >>= λ _. Ok x.0) ≡ r
      by_result (Ok v) = rw end_again refl
      by_result (Err e) = refl

  pub one_only : (others : Alternatives) (c : List ℕ) (p : Part) (v : Value) → IsElement lengths c p → IsAlternative lengths others p v → alternatives lengths others p ≡ Ok v
  one_only others c p v is h = sym (reading_one others c p is) ∙ reading_complete lengths (choice others) c v (p, is, h)

  pub one_deep : (others : Alternatives) (c : List ℕ) (p : Part) → IsBytes c → IsElement lengths c p → alternatives lengths others p ≡ Err fault.too_deep → IsAlternativeTooDeep lengths others p
  one_deep others c p fits is e =
      let d = reading_deep lengths (choice others) c fits (reading_one others c p is ∙ e) in
      let same = (one_element lengths d.2.0 c d.1 [] d.0 p d.2.1 is (sym d.2.2 ∙ sym (append-nil c))).1 in
      subst (λ (q : Part). IsAlternativeTooDeep lengths others q) same d.3

  pub one_deep_only : (others : Alternatives) (c : List ℕ) (p : Part) → IsElement lengths c p → IsAlternativeTooDeep lengths others p → alternatives lengths others p ≡ Err fault.too_deep
  one_deep_only others c p is h =
      sym (reading_one others c p is) ∙ deep_again lengths (choice others) c (p, [], (c, is, sym (append-nil c)), h)

  -- ---- a confirmed-Request

  -- the list of modifiers, where there is one
  modifiers_are : (test : Tag → Bool) (c : List ℕ) (m : Option Part × List ℕ) → IsBytes c → optional_part lengths test c ≡ Ok m
      → (m ≡ (None, c)) ⊎ ((q : Part) × (rest : List ℕ) × Cut lengths c q rest × (test q.tag ≡ true) × (m ≡ (Some q, rest)))
  modifiers_are test c m fits e = elim (optional_found lengths test c m fits e) [ inl w ↦ inl w.0 | inr w ↦ inr w ]

  -- what a confirmed-Request is, and the octets of its service
  pub record AskedSo (c : List ℕ) (a : Asked) : Type 0 where
    pub list : List Part
    pub cut : IsCut lengths c list
    pub are : AreAsked lengths list a
    pub service : List ℕ
    pub service_is : IsElement lengths service a.service
    pub fits : IsBytes service
    pub inner_fits : IsBytes a.service.contents
    pub list_fits : (m : Part) → a.modifiers ≡ Some m → IsBytes m.contents

  pub asked_is : (c : List ℕ) (a : Asked) → IsBytes c → asked_at lengths c ≡ Ok a → AskedSo c a
  unfolding asked_at
  asked_is c a fits e =
      let test = is_tag 0 true 16 in
      let i = bound (required_at lengths (universal 2 unsigned32) c) (λ i. optional_part lengths test i.1 >>= λ m. sole_part lengths m.1 >>= λ p. service_of p >>= λ s. Ok (asking (natural_of i.0) m.0 s)) a e in
      let m = bound (optional_part lengths test i.0.1) (λ m. sole_part lengths m.1 >>= λ p. service_of p >>= λ s. Ok (asking (natural_of i.0.0) m.0 s)) a i.2 in
      let p = bound (sole_part lengths m.0.1) (λ p. service_of p >>= λ s. Ok (asking (natural_of i.0.0) m.0.0 s)) a m.2 in
      let s = bound (service_of p.0) (λ s. Ok (asking (natural_of i.0.0) m.0.0 s)) a p.2 in
      let k = service_is p.0 s.0 s.1 in
      let is : asking (natural_of i.0.0) m.0.0 p.0 ≡ a = ap (λ (q : Part). asking (natural_of i.0.0) m.0.0 q) k.0 ∙ fine_is (asking (natural_of i.0.0) m.0.0 s.0) a s.2 in
      let t = member_sound lengths (universal 2 unsigned32) c i.0 fits i.1 in
      let invoke = subst (λ (v : Value). IsMember lengths (universal 2 unsigned32) t.part v) (invoke_is lengths c i.0 i.1) t.holds in
      subst (λ (b : Asked). AskedSo c b) is
      (by_modifiers i.0.1 (natural_of i.0.0) t.part t.cut invoke m.0 p.0 p.1 k.1 (modifiers_are test i.0.1 m.0 t.cut.rest_fits m.1))
    where
      by_modifiers : (rest : List ℕ) (n : ℕ) (i : Part) → Cut lengths c i rest → IsMember lengths (universal 2 unsigned32) i (number (pos n))
          → (m : Option Part × List ℕ) (p : Part) → sole_part lengths m.1 ≡ Ok p → p.tag.class ≡ 2
          → (m ≡ (None, rest)) ⊎ ((q : Part) × (after : List ℕ) × Cut lengths rest q after × (is_tag 0 true 16 q.tag ≡ true) × (m ≡ (Some q, after)))
          → AskedSo c (asking n m.0 p)
      by_modifiers rest n i cut invoke m p sole class (inl none) =
          let x = sole_is rest p cut.rest_fits (ap (λ (y : Option Part × List ℕ). sole_part lengths y.1) (sym none) ∙ sole) in
          subst (λ (y : Option Part × List ℕ). AskedSo c (asking n y.0 p)) (sym none)
          (record {
            list = i ∷ p ∷ [];
            cut = (cut.first, rest, cut.is, cut.parts, (rest, [], x.0, sym (append-nil rest), refl));
            are = (invoke, refl, refl, class);
            service = rest;
            service_is = x.0;
            fits = cut.rest_fits;
            inner_fits = x.1;
            list_fits = λ q e. absurd (cc e);
          })
      by_modifiers rest n i cut invoke m p sole class (inr found) =
          let after = found.1 in
          let x = sole_is after p found.2.rest_fits (ap (λ (y : Option Part × List ℕ). sole_part lengths y.1) (sym found.4) ∙ sole) in
          subst (λ (y : Option Part × List ℕ). AskedSo c (asking n y.0 p)) (sym found.4)
          (record {
            list = i ∷ found.0 ∷ p ∷ [];
            cut = (cut.first, rest, cut.is, cut.parts, (found.2.first, after, found.2.is, found.2.parts, (after, [], x.0, sym (append-nil after), refl)));
            are = (invoke, found.3, refl, refl, class);
            service = after;
            service_is = x.0;
            fits = found.2.rest_fits;
            inner_fits = x.1;
            list_fits = λ q e. subst (λ (p : Part). IsBytes p.contents) (some_is found.0 q e) found.2.inner_fits;
          })

  not_modifiers : (t : Tag) → t.class ≡ 2 → is_tag 0 true 16 t ≡ false
  not_modifiers t k = rw k refl

  plain_read : (c rest : List ℕ) (n : ℕ) (s : Part) → required_at lengths (universal 2 unsigned32) c ≡ Ok (number (pos n), rest) → IsElement lengths rest s → s.tag.class ≡ 2 → asked_at lengths c ≡ Ok (asking n None s)
  unfolding asked_at
  plain_read c rest n s e is class =
      rw (e, as_cut lengths (is_tag 0 true 16) rest (Some (s, [])) (next_again lengths rest rest [] s is (sym (append-nil rest))), not_modifiers s.tag class, sole_only rest s is, eq-eqb s.tag.class 2 class) refl

  modified_read : (c rest after : List ℕ) (n : ℕ) (m s : Part) → required_at lengths (universal 2 unsigned32) c ≡ Ok (number (pos n), rest) → next_at lengths rest ≡ Ok (Some (m, after))
      → is_tag 0 true 16 m.tag ≡ true → IsElement lengths after s → s.tag.class ≡ 2 → asked_at lengths c ≡ Ok (asking n (Some m) s)
  unfolding asked_at
  modified_read c rest after n m s e got t is class = rw (e, as_cut lengths (is_tag 0 true 16) rest (Some (m, after)) got, t, sole_only after s is, eq-eqb s.tag.class 2 class) refl

  pub asked_only : (ps : List Part) (c : List ℕ) (a : Asked) → IsCut lengths c ps → AreAsked lengths ps a → asked_at lengths c ≡ Ok a
  asked_only [] c a cut are = absurd are
  asked_only (i ∷ []) c a cut are = absurd are
  asked_only (i ∷ s ∷ []) c a cut are =
      let rest = cut.1 in
      let later = cut.4 in
      let read = member_complete lengths (universal 2 unsigned32) c cut.0 rest i (number (pos a.invoke)) cut.2 cut.3 are.0 in
      let whole : rest ≡ later.0 = later.3 ∙ ap (λ (r : List ℕ). later.0 ++ r) later.4 ∙ append-nil later.0 in
      let is : IsElement lengths rest s = subst (λ (o : List ℕ). IsElement lengths o s) (sym whole) later.2 in
      plain_read c rest a.invoke s read is are.3
      ∙ ap (λ (o : Option Part). Ok (asking a.invoke o s)) (sym are.1) ∙ ap (λ (q : Part). Ok (asking a.invoke a.modifiers q)) (sym are.2)
  asked_only (i ∷ m ∷ s ∷ []) c a cut are =
      let rest = cut.1 in
      let later = cut.4 in
      let last = later.4 in
      let after = later.1 in
      let read = member_complete lengths (universal 2 unsigned32) c cut.0 rest i (number (pos a.invoke)) cut.2 cut.3 are.0 in
      let got = next_again lengths rest later.0 after m later.2 later.3 in
      let whole : after ≡ last.0 = last.3 ∙ ap (λ (r : List ℕ). last.0 ++ r) last.4 ∙ append-nil last.0 in
      let is : IsElement lengths after s = subst (λ (o : List ℕ). IsElement lengths o s) (sym whole) last.2 in
      modified_read c rest after a.invoke m s read got are.1 is are.4
      ∙ ap (λ (o : Option Part). Ok (asking a.invoke o s)) (sym are.2) ∙ ap (λ (q : Part). Ok (asking a.invoke a.modifiers q)) (sym are.3)
  asked_only (i ∷ m ∷ s ∷ t ∷ more) c a cut are = absurd are

  -- the octets that ask are the element that was read
  pub asks_part : (octets : List ℕ) (a : Asked) (p : Part) → IsElement lengths octets p → Asks lengths octets a → (IsTrue (is_tag 2 true 0 p.tag)) × (asked_at lengths p.contents ≡ Ok a)
  asks_part octets a p is k =
      subst (λ (q : Part). IsTrue (is_tag 2 true 0 q.tag) × (asked_at lengths q.contents ≡ Ok a)) (same_part octets k.part p k.whole is)
      (k.tag, asked_only k.components k.part.contents a k.cut k.are)

-- An element is kept as the same with definite lengths alone.
use Rattle.std.proofs.Common.{◌≡◌, ◌^◌, ◌<◌, ℕ, suc, inl, inr, Bool, true, false, ◌&&◌, List, [], ◌∷◌, ◌++◌, length, Option, Some, None, refl, sym, ap, subst, ◌∙◌, arith}
use Rattle.std.specs.Prelude.{◌↔◌, ◌==◌, IsTrue, MatchBool}
use Rattle.std.proofs.lemmas.List.{append-nil}
use Rattle.ber_core.specs.declared.element.Tag.{Tag}
use Rattle.ber_core.specs.declared.element.Lengths.TheVariants.{Either}
use Rattle.ber_core.specs.Part.{Part}
use Rattle.ber_core.specs.Element.{IsElement}
use Rattle.ber_core.specs.Respelling.{contents_by, respelled, anew, definite}
use Rattle.ber_core.proofs.Definites.{IsBytes}
use Rattle.ber_core.proofs.Elements.{one_element}
use Rattle.ber_core.proofs.Spelled.{element_spelled, contents_shorter}
use Rattle.ber_core.proofs.Respelled.{is_part, spelled_anew, respelled_cut}
use Rattle.ber_forms.specs.Value.{Value, nothing, text, chosen}
use Rattle.ber_forms.specs.Form.{Form, choice}
use Rattle.ber_forms.specs.Reading.{same_form, is_constructed, is_tag}
use Rattle.ber_forms.specs.InForm.{InForm, IsAlternative}
use Rattle.ber_forms.specs.Kept.{is_looked_into}
use Rattle.ber_forms.proofs.EitherForms.{there, back}
use Rattle.mms_types.specs.declared.identifier.Edition.{Edition}
use Rattle.mms_types.specs.declared.identifier.Edition.TheVariants.{One, Two}
use Rattle.pdu_assoc.specs.Heard.{heard_error, heard_reject_form}
use Rattle.mms_pdu.specs.Hearing.{whole_pdus, noted_pdus}
use Rattle.mms_pdu.specs.ClientPdus.{modified_pdu, IsInvokeOf, IsReject, IsNoted, IsModified, IsKeptAs}
use Rattle.mms_pdu.proofs.LookedInto.{whole_looked, modified_looked}

-- ---- tags

-- what has the tag of a constructed element has its bit
has_bit : (n : ℕ) (t : Tag) → is_tag 2 true n t ≡ true → t.constructed ≡ true
has_bit n t e = middle (t.class == 2) t.constructed (t.number == n) e
  where
    middle : (x y z : Bool) → x && y && z ≡ true → y ≡ true
    middle true true z h = refl
    middle true false true h = absurd cc
    middle true false false h = absurd cc
    middle false y true h = absurd cc
    middle false y false h = absurd cc

-- a PDU of which nothing is kept, by its tag
abbrev Noted : Bool → Bool → Bool → List ℕ → Value → Type 0
Noted x y z c w =
    MatchBool x ((v : Value) × (v ≡ text c) × (w ≡ chosen 3 v))
    (MatchBool y ((v : Value) × (v ≡ text c) × (w ≡ chosen 6 v)) (MatchBool z ((v : Value) × (v ≡ text c) × (w ≡ chosen 7 v)) ⊥))

-- whatever its contents
noted_other : (x y z : Bool) (c d : List ℕ) (w : Value) → Noted x y z c w → (u : Value) × Noted x y z d u
noted_other true y z c d w h = (chosen 3 (text d), (text d, refl, refl))
noted_other false true z c d w h = (chosen 6 (text d), (text d, refl, refl))
noted_other false false true c d w h = (chosen 7 (text d), (text d, refl, refl))
noted_other false false false c d w h = absurd h

noted_by_tag : (a b : Part) (w : Value) → a.tag ≡ b.tag → IsAlternative Either noted_pdus a w → (u : Value) × IsAlternative Either noted_pdus b u
noted_by_tag a b w same h =
    let tags = λ (t : Tag). (u : Value) × Noted (is_tag 2 true 3 t) (is_tag 2 false 6 t) (is_tag 2 true 7 t) b.contents u in
    subst tags same (noted_other (is_tag 2 true 3 a.tag) (is_tag 2 false 6 a.tag) (is_tag 2 true 7 a.tag) a.contents b.contents w h)

-- ---- one element

module _ (edition : Edition) (octets : List ℕ) (p : Part) (fits : IsBytes octets) (is : IsElement Either octets p) (short : length (definite octets) < 2 ^ 64) where
  -- the element anew
  abbrev again : Part
  again = anew (length octets) p

  spelled : definite octets ≡ spelled_anew (length octets) p
  spelled = respelled_cut (length octets) octets (p ∷ []) (octets, [], is, sym (append-nil octets), refl) ∙ append-nil (spelled_anew (length octets) p)

  contents_short : length again.contents < 2 ^ 64
  contents_short = omega (arith, short, ap length spelled, contents_shorter p.tag again.contents)

  again_is : IsElement Either (definite octets) again
  again_is =
      let part = is_part octets p is in
      subst (λ (s : List ℕ). IsElement Either s again) (sym spelled) (element_spelled Either p.tag again.contents part.class part.number contents_short)

  one_part : (r : Part) → IsElement Either octets r → r ≡ p
  one_part r element = (one_element Either octets octets [] [] r p element is refl).1

  one_again : (r : Part) → IsElement Either (definite octets) r → r ≡ again
  one_again r element = (one_element Either (definite octets) (definite octets) [] [] r again element again_is refl).1

  -- ---- its contents

  module _ (constructed : p.tag.constructed ≡ true) where
    deep : again.contents ≡ respelled (length octets) p.contents
    deep = ap (λ (b : Bool). contents_by b (respelled (length octets)) p.contents) constructed

    inner_short : length (respelled (length octets) p.contents) < 2 ^ 64
    inner_short = subst (λ (s : List ℕ). length s < 2 ^ 64) deep contents_short

    inner : IsBytes p.contents
    inner = (is_part octets p is).bytes fits

    form_there : (f : Form) → IsTrue (is_looked_into f) → is_constructed f ≡ true → (v : Value) → InForm Either f p.contents v → InForm Either f again.contents v
    form_there f looked bit v h = subst (λ (s : List ℕ). InForm Either f s v) (sym deep) (there (length octets) f looked bit p.contents inner inner_short v h)

    form_back : (f : Form) → IsTrue (is_looked_into f) → is_constructed f ≡ true → (v : Value) → InForm Either f again.contents v → InForm Either f p.contents v
    form_back f looked bit v h = back (length octets) f looked bit p.contents inner inner_short v (subst (λ (s : List ℕ). InForm Either f s v) deep h)

    invoke_there : (o : Option ℕ) → IsInvokeOf Either edition p.contents o → IsInvokeOf Either edition again.contents o
    invoke_there (Some n) h = (h.0, form_there (heard_error.form edition) refl refl h.0 h.1, h.2)
    invoke_there None h = λ v k. h v (form_back (heard_error.form edition) refl refl v k)

    invoke_back : (o : Option ℕ) → IsInvokeOf Either edition again.contents o → IsInvokeOf Either edition p.contents o
    invoke_back (Some n) h = (h.0, form_back (heard_error.form edition) refl refl h.0 h.1, h.2)
    invoke_back None h = λ v k. h v (form_there (heard_error.form edition) refl refl v k)

  -- ---- a reject

  reject_there : (o : Option ℕ) → IsReject Either edition octets o → IsReject Either edition (definite octets) o
  reject_there o r =
      let same = one_part r.part r.whole in
      let tag = subst (λ (s : Part). is_tag 2 true 4 s.tag ≡ true) same r.tag in
      let bit = has_bit 4 p.tag tag in record {
        part = again;
        whole = again_is;
        tag = tag;
        elements = form_there bit heard_reject_form refl refl nothing (subst (λ (s : Part). InForm Either heard_reject_form s.contents nothing) same r.elements);
        invoke_is = invoke_there bit o (subst (λ (s : Part). IsInvokeOf Either edition s.contents o) same r.invoke_is);
      }

  reject_back : (o : Option ℕ) → IsReject Either edition (definite octets) o → IsReject Either edition octets o
  reject_back o r =
      let same = one_again r.part r.whole in
      let tag = subst (λ (s : Part). is_tag 2 true 4 s.tag ≡ true) same r.tag in
      let bit = has_bit 4 p.tag tag in record {
        part = p;
        whole = is;
        tag = tag;
        elements = form_back bit heard_reject_form refl refl nothing (subst (λ (s : Part). InForm Either heard_reject_form s.contents nothing) same r.elements);
        invoke_is = invoke_back bit o (subst (λ (s : Part). IsInvokeOf Either edition s.contents o) same r.invoke_is);
      }

  -- ---- a PDU of which nothing is kept

  noted_there : IsNoted Either edition octets → IsNoted Either edition (definite octets)
  noted_there (w, (r, element, h)) =
      let u = noted_by_tag r again w (ap (λ (s : Part). s.tag) (one_part r element)) h in
      (u.0, (again, again_is, u.1))

  noted_back : IsNoted Either edition (definite octets) → IsNoted Either edition octets
  noted_back (w, (r, element, h)) =
      let u = noted_by_tag r p w (ap (λ (s : Part). s.tag) (one_again r element)) h in
      (u.0, (p, is, u.1))

  -- ---- a confirmed-Request with a modifier

  modified_there : (e : Edition) (v : Value) → IsModified Either e octets v → IsModified Either e (definite octets) v
  modified_there One v h = absurd h
  modified_there Two v (h, waits) = (there (suc (length octets)) modified_pdu modified_looked refl octets fits short (chosen 0 v) h, waits)

  modified_back : (e : Edition) (v : Value) → IsModified Either e (definite octets) v → IsModified Either e octets v
  modified_back One v h = absurd h
  modified_back Two v (h, waits) = (back (suc (length octets)) modified_pdu modified_looked refl octets fits short (chosen 0 v) h, waits)

  -- ---- the law

  kept_there : (v : Value) → IsKeptAs Either edition octets v → IsKeptAs Either edition (definite octets) v
  kept_there v (inl h) = inl (there (suc (length octets)) (choice (whole_pdus edition)) (whole_looked edition) refl octets fits short v h)
  kept_there v (inr (inl h)) = inr (inl (modified_there edition v h))
  kept_there v (inr (inr (inl (o, r, e)))) = inr (inr (inl (o, reject_there o r, e)))
  kept_there v (inr (inr (inr (h, e)))) = inr (inr (inr (noted_there h, e)))

  kept_back : (v : Value) → IsKeptAs Either edition (definite octets) v → IsKeptAs Either edition octets v
  kept_back v (inl h) = inl (back (suc (length octets)) (choice (whole_pdus edition)) (whole_looked edition) refl octets fits short v h)
  kept_back v (inr (inl h)) = inr (inl (modified_back edition v h))
  kept_back v (inr (inr (inl (o, r, e)))) = inr (inr (inl (o, reject_back o r, e)))
  kept_back v (inr (inr (inr (h, e)))) = inr (inr (inr (noted_back h, e)))

  pub kept_anew : (v : Value) → IsKeptAs Either edition octets v ↔ IsKeptAs Either edition (definite octets) v
  kept_anew v = (kept_there v, kept_back v)

-- What octets are heard as is what is kept of the PDU that they are.
use Rattle.std.proofs.Common.{◌≡◌, ◌⊎◌, ℕ, inl, inr, Bool, true, false, cond, List, Option, Some, None, Result, Ok, Err, refl, sym, ap, subst, ◌∙◌, arith}
use Rattle.std.specs.Prelude.{◌↔◌, nat_le}
use Rattle.std.proofs.lemmas.Bool.{eq-eqb}
use Rattle.ber_core.specs.declared.element.Tag.{Tag}
use Rattle.ber_core.specs.declared.element.Lengths.{Lengths}
use Rattle.ber_core.specs.Part.{Part}
use Rattle.ber_core.specs.Element.{IsElement}
use Rattle.ber_core.proofs.Definites.{IsBytes}
use Rattle.ber_forms.specs.Fault.{Fault}
use Rattle.ber_forms.specs.Value.{Value, nothing, text, chosen}
use Rattle.ber_forms.specs.Form.{Form, Alternatives, no_other, or, choice}
use Rattle.ber_forms.specs.Reading.{◌>>=◌, is_constructed, is_tag, has_tag, reading, alternatives}
use Rattle.ber_forms.specs.InForm.{InForm}
use Rattle.ber_forms.proofs.Sound.{reading_sound, alternatives_sound}
use Rattle.ber_forms.proofs.Complete.{reading_complete}
use Rattle.ber_forms.proofs.Numbered.{tag_class, other_number}
use Rattle.mms_types.specs.declared.identifier.Edition.{Edition}
use Rattle.mms_types.specs.declared.identifier.Edition.TheVariants.{One, Two}
use Rattle.pdu_assoc.specs.Heard.{heard_error, heard_reject_form, answered}
use Rattle.mms_pdu.specs.declared.refusal.Refusal.{Refusal}
use Rattle.mms_pdu.specs.declared.refusal.Refusal.TheVariants as refusal
use Rattle.mms_pdu.specs.Pdus.{heard_reject}
use Rattle.mms_pdu.specs.Hearing.{is_pdu, kept_pdus, whole_pdus, noted_pdus, valid, and_then, sole_part, asked_at, request_told, reject_told, part_told, heard}
use Rattle.mms_pdu.specs.ClientPdus.{IsInvokeOf, IsReject, IsNoted, IsModified, IsKeptAs}
use Rattle.mms_pdu.proofs.Whole.{heard_again}
use Rattle.mms_pdu.proofs.FormOf.{heard_as, told_is, stepped, valid_is, request_of}
use Rattle.mms_pdu.proofs.Causes.{sole_is, sole_only, one_only}
use Rattle.mms_pdu.proofs.ModifiedAs.{is_modified, modified_read}

-- what is kept of a PDU of which nothing is kept, by its tag
module _ (t : Tag) where
  pub noted_number : has_tag noted_pdus t ≡ true → (is_pdu t ≡ true) × (is_tag 2 true 0 t ≡ false) × (is_tag 2 true 4 t ≡ false)
  noted_number e = by_tags (is_tag 2 true 3 t) (is_tag 2 false 6 t) (is_tag 2 true 7 t) refl refl refl
    where
      at : (n : ℕ) → nat_le n 13 ≡ true → (n ≡ 0 → ⊥) → (n ≡ 4 → ⊥) → (t.class ≡ 2) × (t.number ≡ n) → (is_pdu t ≡ true) × (is_tag 2 true 0 t ≡ false) × (is_tag 2 true 4 t ≡ false)
      at n le zero four is = (
        rw (eq-eqb t.class 2 is.0, is.1) le,
        other_number true 0 t (λ h. zero (sym is.1 ∙ h)),
        other_number true 4 t (λ h. four (sym is.1 ∙ h)),
      )

      by_tags : (x y z : Bool) → is_tag 2 true 3 t ≡ x → is_tag 2 false 6 t ≡ y → is_tag 2 true 7 t ≡ z → (is_pdu t ≡ true) × (is_tag 2 true 0 t ≡ false) × (is_tag 2 true 4 t ≡ false)
      by_tags true y z f g h = at 3 refl (λ k. omega (arith, k)) (λ k. omega (arith, k)) (tag_class true 3 t f)
      by_tags false true z f g h = at 6 refl (λ k. omega (arith, k)) (λ k. omega (arith, k)) (tag_class false 6 t g)
      by_tags false false true f g h = at 7 refl (λ k. omega (arith, k)) (λ k. omega (arith, k)) (tag_class true 7 t h)
      by_tags false false false f g h =
          let none : has_tag noted_pdus t ≡ false = rw (f, g, h) refl in
          absurd (cc (e, none))

module _ (lengths : Lengths) where
  -- an element that is read as an alternative has the tag of one
  tag_of : (others : Alternatives) (p : Part) (w : Value) → alternatives lengths others p ≡ Ok w → has_tag others p.tag ≡ true
  tag_of no_other p w e = absurd cc
  tag_of (or n f others) p w e = by_tag (is_tag 2 (is_constructed f) n p.tag) e (tag_of others p w)
    where
      by_tag : (b : Bool) → cond b (reading lengths f p.contents >>= λ v. Ok (chosen n v)) (alternatives lengths others p) ≡ Ok w → (alternatives lengths others p ≡ Ok w → has_tag others p.tag ≡ true)
          → cond b true (has_tag others p.tag) ≡ true
      by_tag true h later = refl
      by_tag false h later = later h

  noted_is : (p : Part) → has_tag noted_pdus p.tag ≡ true → (w : Value) × (alternatives lengths noted_pdus p ≡ Ok w)
  noted_is p e = by_tags (is_tag 2 true 3 p.tag) (is_tag 2 false 6 p.tag) (is_tag 2 true 7 p.tag) refl refl refl
    where
      by_tags : (x y z : Bool) → is_tag 2 true 3 p.tag ≡ x → is_tag 2 false 6 p.tag ≡ y → is_tag 2 true 7 p.tag ≡ z → (w : Value) × (alternatives lengths noted_pdus p ≡ Ok w)
      by_tags true y z f g h = (chosen 3 (text p.contents), rw f refl)
      by_tags false true z f g h = (chosen 6 (text p.contents), rw (f, g) refl)
      by_tags false false true f g h = (chosen 7 (text p.contents), rw (f, g, h) refl)
      by_tags false false false f g h =
          let none : has_tag noted_pdus p.tag ≡ false = rw (f, g, h) refl in
          absurd (cc (e, none))

-- what of this depends on the edition
module _ (lengths : Lengths) (edition : Edition) where
  -- ---- the invokeID of a reject

  invoke_of : (c : List ℕ) → IsBytes c → IsInvokeOf lengths edition c (answered (reading lengths (heard_error.form edition) c))
  invoke_of c fits = by_read (reading lengths (heard_error.form edition) c) refl
    where
      by_read : (r : Result Value Fault) → reading lengths (heard_error.form edition) c ≡ r → IsInvokeOf lengths edition c (answered r)
      by_read (Ok v) e = (v, reading_sound lengths (heard_error.form edition) c v fits e, refl)
      by_read (Err d) e = λ v h. absurd (cc (e, reading_complete lengths (heard_error.form edition) c v h))

  invoke_only : (c : List ℕ) (o : Option ℕ) → IsBytes c → IsInvokeOf lengths edition c o → answered (reading lengths (heard_error.form edition) c) ≡ o
  invoke_only c (Some n) fits h =
      ap answered (reading_complete lengths (heard_error.form edition) c h.0 h.1) ∙ ap (λ (k : ℕ). Some k) h.2
  invoke_only c None fits h = by_read (reading lengths (heard_error.form edition) c) refl
    where
      by_read : (r : Result Value Fault) → reading lengths (heard_error.form edition) c ≡ r → answered r ≡ None
      by_read (Ok v) e = absurd (h v (reading_sound lengths (heard_error.form edition) c v fits e))
      by_read (Err d) e = refl

  -- ---- one element

  abbrev reject_value : List ℕ → Value
  reject_value contents = chosen 4 (heard_reject.value (answered (reading lengths (heard_error.form edition) contents)))

  reject_read : (c : List ℕ) (v : Value) → reject_told lengths edition c ≡ Ok v → (w : Value) × (reading lengths heard_reject_form c ≡ Ok w) × (reject_value c ≡ v)
  unfolding reject_told
  reject_read c v e =
      let s = stepped (valid (reading lengths heard_reject_form c)) (λ _. Ok (reject_value c)) v e in
      (s.0, valid_is (reading lengths heard_reject_form c) s.0 s.1, told_is (reject_value c) v s.2)

  reject_again : (c : List ℕ) → reading lengths heard_reject_form c ≡ Ok nothing → reject_told lengths edition c ≡ Ok (reject_value c)
  unfolding reject_told
  reject_again c e = ap (λ (r : Result Value Fault). and_then (valid r) (λ _. Ok (reject_value c))) e

  module _ (c : List ℕ) (p : Part) (is : IsElement lengths c p) (fits : IsBytes p.contents) where
    part_kept : (v : Value) → part_told lengths edition p ≡ Ok v → IsKeptAs lengths edition c v
    unfolding part_told
    part_kept v e = by_tags (is_pdu p.tag) (is_tag 2 true 0 p.tag) (is_tag 2 true 4 p.tag) (has_tag noted_pdus p.tag) refl refl refl e
      where
        whole : alternatives lengths (whole_pdus edition) p ≡ Ok v → IsKeptAs lengths edition c v
        whole f = inl (p, is, alternatives_sound lengths (whole_pdus edition) p v fits f)

        requested : is_tag 2 true 0 p.tag ≡ true → and_then (valid (asked_at lengths p.contents)) (request_told lengths edition) ≡ Ok v → IsKeptAs lengths edition c v
        requested t f = elim (request_of lengths edition p.contents v f) [ inl read ↦ whole (rw t read) | inr m ↦ inr (inl (is_modified lengths edition c p v is fits t m)) ]

        rejected : is_tag 2 true 4 p.tag ≡ true → reject_told lengths edition p.contents ≡ Ok v → IsKeptAs lengths edition c v
        rejected t f =
            let r = reject_read p.contents v f in
            let h = reading_sound lengths heard_reject_form p.contents r.0 fits r.1 in
            inr (inr (inl (
              answered (reading lengths (heard_error.form edition) p.contents),
              record {
                part = p;
                whole = is;
                tag = t;
                elements = (h.0, h.1, refl);
                invoke_is = invoke_of p.contents fits;
              },
              sym r.2,
            )))

        noted : has_tag noted_pdus p.tag ≡ true → heard_as nothing ≡ Ok v → IsKeptAs lengths edition c v
        noted t f =
            let w = noted_is lengths p t in
            inr (inr (inr ((w.0, (p, is, alternatives_sound lengths noted_pdus p w.0 fits w.1)), sym (told_is nothing v f))))

        by_tags : (a b d n : Bool) → is_tag 2 true 0 p.tag ≡ b → is_tag 2 true 4 p.tag ≡ d → has_tag noted_pdus p.tag ≡ n
            → cond a (cond b (and_then (valid (asked_at lengths p.contents)) (request_told lengths edition)) (cond d (reject_told lengths edition p.contents) (cond n (Ok nothing) (valid (alternatives lengths (kept_pdus edition) p))))) (Err refusal.UnknownType) ≡ Ok v
            → IsKeptAs lengths edition c v
        by_tags false b d n f g h e = absurd cc
        by_tags true true d n f g h e = requested f e
        by_tags true false true n f g h e = rejected g e
        by_tags true false false true f g h e = noted h e
        by_tags true false false false f g h e = whole (rw f (valid_is (alternatives lengths (kept_pdus edition) p) v e))

    noted_told : has_tag noted_pdus p.tag ≡ true → part_told lengths edition p ≡ Ok nothing
    unfolding part_told
    noted_told t = let k = noted_number p.tag t in rw (k.0, k.1, k.2, t) refl

    reject_tag : is_tag 2 true 4 p.tag ≡ true → (is_pdu p.tag ≡ true) × (is_tag 2 true 0 p.tag ≡ false)
    reject_tag t =
        let k = tag_class true 4 p.tag t in
        (rw (eq-eqb p.tag.class 2 k.0, k.1) refl, other_number true 0 p.tag (λ h. omega (arith, k.1, h)))

    rejected_told : is_tag 2 true 4 p.tag ≡ true → reading lengths heard_reject_form p.contents ≡ Ok nothing → part_told lengths edition p ≡ Ok (reject_value p.contents)
    unfolding part_told
    rejected_told t e = let k = reject_tag t in rw (k.0, k.1, t) (reject_again p.contents e)

  -- ---- all octets

  whole_told : (c : List ℕ) (p : Part) (v : Value) → IsElement lengths c p → part_told lengths edition p ≡ Ok v → heard lengths edition c ≡ Ok v
  unfolding heard
  whole_told c p v is e = ap (λ (r : Result Part Fault). and_then (valid r) (part_told lengths edition)) (sole_only lengths c p is) ∙ e

  pub heard_kept : (c : List ℕ) (v : Value) → IsBytes c → heard lengths edition c ≡ Ok v → IsKeptAs lengths edition c v
  unfolding heard
  heard_kept c v fits e =
      let s = stepped (valid (sole_part lengths c)) (part_told lengths edition) v e in
      let x = sole_is lengths c s.0 fits (valid_is (sole_part lengths c) s.0 s.1) in
      part_kept c s.0 x.0 x.1 v s.2

  -- the octets of an element are those of its contents too
  contents_fit : (c : List ℕ) (p : Part) → IsBytes c → IsElement lengths c p → IsBytes p.contents
  contents_fit c p fits is = (sole_is lengths c p fits (sole_only lengths c p is)).1

  request_part : (p : Part) (v : Value) → is_tag 2 true 0 p.tag ≡ true → and_then (valid (asked_at lengths p.contents)) (request_told lengths edition) ≡ Ok v → part_told lengths edition p ≡ Ok v
  unfolding part_told
  request_part p v t e =
      let k = tag_class true 0 p.tag t in
      let pdu : is_pdu p.tag ≡ true = rw (eq-eqb p.tag.class 2 k.0, k.1) refl in
      rw (pdu, t) e

  modified_heard : (c : List ℕ) (v : Value) → IsModified lengths edition c v → heard lengths edition c ≡ Ok v
  modified_heard c v h = by_edition edition refl h
    where
      by_edition : (e : Edition) → e ≡ edition → IsModified lengths e c v → heard lengths edition c ≡ Ok v
      by_edition One is k = absurd k
      by_edition Two is k =
          let r = modified_read lengths c v k.0 k.1 in
          whole_told c r.0 v r.1 (request_part r.0 v r.2 (ap (λ (e : Edition). and_then (valid (asked_at lengths r.0.contents)) (request_told lengths e)) (sym is) ∙ r.3))

  pub kept_heard : (c : List ℕ) (v : Value) → IsBytes c → IsKeptAs lengths edition c v → heard lengths edition c ≡ Ok v
  kept_heard c v fits (inl h) = heard_again lengths edition c v h
  kept_heard c v fits (inr (inl h)) = modified_heard c v h
  kept_heard c v fits (inr (inr (inl h))) =
      let r = h.1 in
      let inner = contents_fit c r.part fits r.whole in
      let e = rejected_told c r.part r.whole inner r.tag (reading_complete lengths heard_reject_form r.part.contents nothing r.elements) in
      whole_told c r.part (reject_value r.part.contents) r.whole e
      ∙ ap (λ (o : Option ℕ). Ok (chosen 4 (heard_reject.value o))) (invoke_only r.part.contents h.0 inner r.invoke_is)
      ∙ ap (λ (w : Value). Ok w) (sym h.2)
  kept_heard c v fits (inr (inr (inr h))) =
      let p = h.0.1.0 in
      let inner = contents_fit c p fits h.0.1.1 in
      let e = noted_told c p h.0.1.1 inner (tag_of lengths noted_pdus p h.0.0 (one_only lengths noted_pdus c p h.0.0 h.0.1.1 h.0.1.2)) in
      whole_told c p nothing h.0.1.1 e ∙ ap (λ (w : Value). Ok w) (sym h.1)

  pub heard_is_kept : (c : List ℕ) (v : Value) → IsBytes c → (heard lengths edition c ≡ Ok v) ↔ IsKeptAs lengths edition c v
  heard_is_kept c v fits = (heard_kept c v fits, kept_heard c v fits)

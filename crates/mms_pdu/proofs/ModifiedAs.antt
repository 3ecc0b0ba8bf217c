-- A confirmed-Request with a modifier is heard as its parts, exactly where the octets are one.
use Rattle.std.proofs.Common.{◌≡◌, ℕ, ℤ, pos, ◌≤ℤ◌, Bool, true, false, cond, List, [], ◌∷◌, ◌++◌, Option, Some, None, Result, Ok, Err, refl, sym, ap, subst, ◌∙◌}
use Rattle.std.specs.Prelude.{IsTrue, MatchBool}
use Rattle.std.proofs.lemmas.List.{append-nil}
use Rattle.ber_core.specs.declared.element.Lengths.{Lengths}
use Rattle.ber_core.specs.Part.{Part}
use Rattle.ber_core.specs.Element.{IsElement, IsCut}
use Rattle.ber_core.specs.Leaf.{IsInteger}
use Rattle.ber_core.proofs.Definites.{IsBytes}
use Rattle.ber_forms.specs.Fault.{Fault}
use Rattle.ber_forms.specs.Fault as fault
use Rattle.ber_forms.specs.Value.{Value, Slots, number, chosen, parts, missing, given, done, slot}
use Rattle.ber_forms.specs.Form.{Form, Components, choice, or, no_other, one_of, required, no_more, universal, unsigned32}
use Rattle.ber_forms.specs.ByNumber.{form_at, read_as}
use Rattle.ber_forms.specs.Reading.{◌>>=◌, is_tag, is_constructed, reading, alternatives}
use Rattle.ber_forms.specs.InForm.{InForm, IsMember, IsAlternative, AreComponents}
use Rattle.ber_forms.proofs.Sound.{fine_is, bound, reading_sound, alternatives_sound}
use Rattle.ber_forms.proofs.Complete.{reading_complete}
use Rattle.ber_forms.proofs.Numbered.{sound_distinct, by_number}
use Rattle.mms_types.specs.declared.identifier.Edition.{Edition}
use Rattle.mms_types.specs.declared.identifier.Edition.TheVariants.{One, Two}
use Rattle.pdu_names.specs.Said.{natural_of}
use Rattle.pdu_sems.specs.Control.{modifiers}
use Rattle.mms_pdu.specs.declared.refusal.Refusal.{Refusal}
use Rattle.mms_pdu.specs.Services.{requests, requests_sound}
use Rattle.mms_pdu.specs.Pdus.{modified, may_wait}
use Rattle.mms_pdu.specs.Hearing.{Asked, asking, valid, and_then, asked_at, modifier_at, modified_value, listed, service_told, told_with, request_told}
use Rattle.mms_pdu.specs.Refused.{AreAsked}
use Rattle.mms_pdu.specs.ClientPdus.{waits, modified_pdu, IsModified}
use Rattle.mms_pdu.proofs.Whole.{alternative_tag, natural, served_ok}
use Rattle.mms_pdu.proofs.FormOf.{Modified, GrantedWith}
use Rattle.mms_pdu.proofs.Causes.{AskedSo, asked_is, asked_only, one_only}

abbrev some : Part → Option Part
some p = Some p

some_is : (p q : Part) → some p ≡ some q → p ≡ q
some_is p q e = cc e

same_chosen : (n : ℕ) (v w : Value) → chosen n v ≡ chosen n w → v ≡ w
same_chosen n v w e = cc e

module _ (lengths : Lengths) where
  -- what is read as an alternative has its number
  numbered : (p : Part) (o : Option Form) (v : Value) → read_as lengths p o ≡ Ok v → (w : Value) × (chosen p.tag.number w ≡ v)
  numbered p None v e = absurd cc
  numbered p (Some f) v e = by_tag (is_tag 2 (is_constructed f) p.tag.number p.tag) e
    where
      by_tag : (b : Bool) → cond b (reading lengths f p.contents >>= λ w. Ok (chosen p.tag.number w)) (Err fault.malformed) ≡ Ok v → (w : Value) × (chosen p.tag.number w ≡ v)
      by_tag false e = absurd cc
      by_tag true e =
          let b = bound (reading lengths f p.contents) (λ w. Ok (chosen p.tag.number w)) v e in
          (b.0, fine_is (chosen p.tag.number b.0) v b.2)

  read_by : (edition : Edition) (p : Part) → alternatives lengths (requests.alternatives edition) p ≡ read_as lengths p (form_at p.tag.number (requests.alternatives edition))
  read_by edition p = by_number lengths p (requests.alternatives edition) (sound_distinct (requests.alternatives edition) (requests_sound edition))

  service_number : (edition : Edition) (p : Part) (v : Value) → alternatives lengths (requests.alternatives edition) p ≡ Ok v → (w : Value) × (chosen p.tag.number w ≡ v)
  service_number edition p v e = numbered p (form_at p.tag.number (requests.alternatives edition)) v (sym (read_by edition p) ∙ e)

  -- ---- what is read is of the form

  in_form : (c : List ℕ) (a : Asked) (list : Part) (m w : Value) (ps : List Part) → IsCut lengths c ps → AreAsked lengths ps a → a.modifiers ≡ Some list
      → InForm lengths (modifiers.form Two) list.contents m → IsAlternative lengths (requests.alternatives Two) a.service w
      → InForm lengths (modified.form Two) c (modified_value a.invoke m w)
  in_form c a list m w [] cut are e inner h = absurd are
  in_form c a list m w (i ∷ []) cut are e inner h = absurd are
  in_form c a list m w (i ∷ s ∷ []) cut are e inner h = absurd (cc (are.1, e))
  in_form c a list m w (i ∷ l ∷ s ∷ []) cut are e inner h =
      let same : list ≡ l = some_is list l (sym e ∙ are.2) in (
        i ∷ l ∷ s ∷ [],
        slot (given (number (pos a.invoke))) (slot (given m) (slot (given w) done)),
        cut,
        (
          are.0,
          (
            (are.1, subst (λ (q : Part). InForm lengths (modifiers.form Two) q.contents m) same inner),
            (subst (λ (q : Part). IsAlternative lengths (requests.alternatives Two) q w) are.3 h, tt),
          ),
        ),
        refl,
      )
  in_form c a list m w (i ∷ l ∷ s ∷ t ∷ more) cut are e inner h = absurd are

  -- the list is read, and the service may wait
  list_read : (list service : Part) (m : Value) → modifier_at lengths Two list service ≡ Ok m → (may_wait service.tag.number ≡ true) × (reading lengths (modifiers.form Two) list.contents ≡ Ok m)
  list_read list service m e = by_number (may_wait service.tag.number) refl e
    where
      by_number : (b : Bool) → may_wait service.tag.number ≡ b → cond b (reading lengths (modifiers.form Two) list.contents) (Err fault.malformed) ≡ Ok m
          → (may_wait service.tag.number ≡ true) × (reading lengths (modifiers.form Two) list.contents ≡ Ok m)
      by_number false n e = absurd cc
      by_number true n e = (n, e)

  is_modified_two : (c : List ℕ) (p : Part) (v : Value) → IsElement lengths c p → IsBytes p.contents → is_tag 2 true 0 p.tag ≡ true → Modified lengths Two p.contents v → IsModified lengths Two c v
  is_modified_two c p v is fits tag h =
      let a = h.asked in
      let g = h.granted_so in
      let so = asked_is lengths p.contents a fits h.read_so in
      let read = list_read g.list a.service g.modifier g.modifier_is in
      let inner = reading_sound lengths (modifiers.form Two) g.list.contents g.modifier (so.list_fits g.list g.listed_is) read.1 in
      let service = alternatives_sound lengths (requests.alternatives Two) a.service g.argument so.inner_fits g.read_so in
      let form = in_form p.contents a g.list g.modifier g.argument so.list so.cut so.are g.listed_is inner service in
      let n = service_number Two a.service g.argument g.read_so in
      let wait : waits (modified_value a.invoke g.modifier g.argument) ≡ true = ap (λ (w : Value). waits (modified_value a.invoke g.modifier w)) (sym n.1) ∙ read.0 in
      subst (λ (w : Value). IsModified lengths Two c w) g.is
      ((p, is, rw tag (modified_value a.invoke g.modifier g.argument, form, refl)), wait)

  none_in_one : (c : List ℕ) (v : Value) → Modified lengths One c v → ⊥
  none_in_one c v h = absurd (cc h.granted_so.modifier_is)

  pub is_modified : (edition : Edition) (c : List ℕ) (p : Part) (v : Value) → IsElement lengths c p → IsBytes p.contents → is_tag 2 true 0 p.tag ≡ true → Modified lengths edition p.contents v → IsModified lengths edition c v
  is_modified One c p v is fits tag h = absurd (none_in_one p.contents v h)
  is_modified Two c p v is fits tag h = is_modified_two c p v is fits tag h

  -- ---- what is of the form is read

  request_told_so : (n : ℕ) (l s : Part) (m w : Value) → modifier_at lengths Two l s ≡ Ok m → alternatives lengths (requests.alternatives Two) s ≡ Ok w
      → request_told lengths Two (asking n (Some l) s) ≡ Ok (modified_value n m w)
  unfolding request_told
  request_told_so n l s m w e f =
      rw (e, served_ok lengths n s (form_at s.tag.number (requests.alternatives Two)) w (sym (read_by Two s) ∙ f)) refl

  list_again : (l s : Part) (m : Value) → may_wait s.tag.number ≡ true → InForm lengths (modifiers.form Two) l.contents m → modifier_at lengths Two l s ≡ Ok m
  list_again l s m n h = rw n (reading_complete lengths (modifiers.form Two) l.contents m h)

  natural_is : (c : List ℕ) (v : Value) → InForm lengths unsigned32 c v → v ≡ number (pos (natural_of v))
  natural_is c v h =
      let is = natural lengths h.0 h.2 in
      subst (λ (w : Value). w ≡ number (pos (natural_of w))) (sym h.4) is

  parts_told : (c : List ℕ) (i l s : Part) (n m w : Value) → IsCut lengths c (i ∷ l ∷ s ∷ []) → IsMember lengths (universal 2 unsigned32) i n → IsTrue (is_tag 0 true 16 l.tag) → InForm lengths (modifiers.form Two) l.contents m
      → IsAlternative lengths (requests.alternatives Two) s w → waits (parts (slot (given n) (slot (given m) (slot (given w) done)))) ≡ true
      → and_then (valid (asked_at lengths c)) (request_told lengths Two) ≡ Ok (parts (slot (given n) (slot (given m) (slot (given w) done))))
  parts_told c i l s n m w cut invoke tag inner service wait =
      let number_is = natural_is i.contents n invoke.1 in
      let k = natural_of n in
      let last = cut.4.4 in
      let read = one_only lengths (requests.alternatives Two) last.0 s w last.2 service in
      let class = (alternative_tag lengths (requests.alternatives Two) s w read).0 in
      let its = service_number Two s w read in
      let may : may_wait s.tag.number ≡ true = subst (λ (u : Value). waits (parts (slot (given n) (slot (given m) (slot (given u) done)))) ≡ true) (sym its.1) wait in
      let asked = asked_only lengths (i ∷ l ∷ s ∷ []) c (asking k (Some l) s) cut
      (subst (λ (u : Value). IsMember lengths (universal 2 unsigned32) i u) number_is invoke, tag, refl, refl, class) in
      ap (λ (r : Result Asked Fault). and_then (valid r) (request_told lengths Two)) asked
      ∙ request_told_so k l s m w (list_again l s m may inner) read
      ∙ ap (λ (u : Value). Ok (parts (slot (given u) (slot (given m) (slot (given w) done))))) (sym number_is)

  form_told : (c : List ℕ) (v : Value) (ps : List Part) (vs : Slots) → IsCut lengths c ps
      → AreComponents lengths (required (universal 2 unsigned32) (required (universal 16 (modifiers.form Two)) (required (one_of (requests.alternatives Two)) no_more))) ps vs
      → waits (parts vs) ≡ true → and_then (valid (asked_at lengths c)) (request_told lengths Two) ≡ Ok (parts vs)
  form_told c v [] vs cut are wait = absurd are
  form_told c v (i ∷ ps) done cut are wait = absurd are
  form_told c v (i ∷ ps) (slot missing vs) cut are wait = absurd are
  form_told c v (i ∷ []) (slot (given n) vs) cut are wait = absurd are.1
  form_told c v (i ∷ l ∷ ps) (slot (given n) done) cut are wait = absurd are.1
  form_told c v (i ∷ l ∷ ps) (slot (given n) (slot missing vs)) cut are wait = absurd are.1
  form_told c v (i ∷ l ∷ []) (slot (given n) (slot (given m) vs)) cut are wait = absurd are.1.1
  form_told c v (i ∷ l ∷ s ∷ ps) (slot (given n) (slot (given m) done)) cut are wait = absurd are.1.1
  form_told c v (i ∷ l ∷ s ∷ ps) (slot (given n) (slot (given m) (slot missing vs))) cut are wait = absurd are.1.1
  form_told c v (i ∷ l ∷ s ∷ t ∷ ps) (slot (given n) (slot (given m) (slot (given w) vs))) cut are wait = absurd are.1.1.1
  form_told c v (i ∷ l ∷ s ∷ []) (slot (given n) (slot (given m) (slot (given w) (slot x vs)))) cut are wait = absurd are.1.1.1
  form_told c v (i ∷ l ∷ s ∷ []) (slot (given n) (slot (given m) (slot (given w) done))) cut are wait = parts_told c i l s n m w cut are.0 are.1.0.0 are.1.0.1 are.1.1.0 wait

  pub told_of_form : (c : List ℕ) (v : Value) → InForm lengths (modified.form Two) c v → waits v ≡ true → and_then (valid (asked_at lengths c)) (request_told lengths Two) ≡ Ok v
  told_of_form c v h wait =
      let is : v ≡ parts h.1 = h.4 in
      form_told c v h.0 h.1 h.2 h.3 (ap waits (sym is) ∙ wait) ∙ ap (λ (w : Value). Ok w) (sym is)

  -- the element of the octets, and what its contents are told as
  pub modified_read : (c : List ℕ) (v : Value) → InForm lengths modified_pdu c (chosen 0 v) → waits v ≡ true
      → (p : Part) × IsElement lengths c p × (is_tag 2 true 0 p.tag ≡ true) × (and_then (valid (asked_at lengths p.contents)) (request_told lengths Two) ≡ Ok v)
  modified_read c v (p, is, h) wait = by_tag (is_tag 2 true 0 p.tag) refl h
    where
      by_tag : (b : Bool) → is_tag 2 true 0 p.tag ≡ b → MatchBool b ((w : Value) × InForm lengths (modified.form Two) p.contents w × (chosen 0 v ≡ chosen 0 w)) ⊥
          → (q : Part) × IsElement lengths c q × (is_tag 2 true 0 q.tag ≡ true) × (and_then (valid (asked_at lengths q.contents)) (request_told lengths Two) ≡ Ok v)
      by_tag false t k = absurd k
      by_tag true t (w, form, e) =
          let same : w ≡ v = sym (same_chosen 0 v w e) in
          (p, is, t, told_of_form p.contents v (subst (λ (u : Value). InForm lengths (modified.form Two) p.contents u) same form) wait)

-- What edition 1 keeps of octets, edition 2 keeps too.
use Rattle.std.proofs.Common.{◌≡◌, ℕ, inl, inr, List, [], ◌∷◌, Option, Some, None, subst}
use Rattle.ber_core.specs.declared.element.Lengths.TheVariants.{Definite, Either}
use Rattle.ber_core.specs.Part.{Part}
use Rattle.ber_core.specs.Element.{of_definite}
use Rattle.ber_core.proofs.Elements.{one_cut}
use Rattle.ber_core.proofs.Respelled.{cut_either}
use Rattle.ber_forms.specs.Value.{Value, Slots, nothing, missing, given, done, slot}
use Rattle.ber_forms.specs.Form.{Components, choice, context, unsigned32, required, any_more}
use Rattle.ber_forms.specs.InForm.{InForm, AreComponents}
use Rattle.ber_forms.proofs.EitherForms.{read_by_either}
use Rattle.ber_forms.proofs.Wider.{choice_wider}
use Rattle.mms_types.specs.declared.identifier.Edition.TheVariants.{One, Two}
use Rattle.pdu_assoc.specs.Heard.{heard_error, heard_reject_form}
use Rattle.mms_pdu.specs.Pdus.{whole_arms}
use Rattle.mms_pdu.specs.Hearing.{whole_pdus, noted_pdus}
use Rattle.mms_pdu.specs.ClientPdus.{IsInvokeOf, IsKeptAs}

-- ---- a reject that says no invokeID still says none

abbrev error_parts : Components
error_parts = required (context 0 unsigned32) any_more

-- the invokeID is primitive
invoke_definite : (ps : List Part) (vs : Slots) → AreComponents Either error_parts ps vs → AreComponents Definite error_parts ps vs
invoke_definite [] vs are = absurd are
invoke_definite (p ∷ ps) done are = absurd are
invoke_definite (p ∷ ps) (slot missing vs) are = absurd are
invoke_definite (p ∷ ps) (slot (given v) vs) are = are

none_either : (c : List ℕ) → InForm Definite heard_reject_form c nothing → ((v : Value) → InForm Definite (heard_error.form One) c v → ⊥) → (v : Value) → InForm Either (heard_error.form Two) c v → ⊥
none_either c (ps, cut, is) none v (qs, vs, other, are, says) =
    let same : qs ≡ ps = one_cut Either c qs ps other (cut_either c ps cut) in
    none v (ps, vs, cut, invoke_definite ps vs (subst (λ (rs : List Part). AreComponents Either error_parts rs vs) same are), says)

invoke_either : (c : List ℕ) (o : Option ℕ) → InForm Definite heard_reject_form c nothing → IsInvokeOf Definite One c o → IsInvokeOf Either Two c o
invoke_either c (Some n) elements h = (h.0, read_by_either (heard_error.form One) c h.0 h.1, h.2)
invoke_either c None elements h = none_either c elements h

-- ---- the law

pub kept_by_two : (octets : List ℕ) (v : Value) → IsKeptAs Definite One octets v → IsKeptAs Either Two octets v
kept_by_two octets v (inl h) =
    let wider = choice_wider (whole_pdus One) (whole_pdus Two) (whole_arms.wider One) in
    inl (wider.takes Either octets v (read_by_either (choice (whole_pdus One)) octets v h))
kept_by_two octets v (inr (inl h)) = absurd h
kept_by_two octets v (inr (inr (inl (invoke, r, is)))) = inr (inr (inl (
  invoke,
  record {
    part = r.part;
    whole = of_definite octets r.part r.whole;
    tag = r.tag;
    elements = read_by_either heard_reject_form r.part.contents nothing r.elements;
    invoke_is = invoke_either r.part.contents invoke r.elements r.invoke_is;
  },
  is,
)))
kept_by_two octets v (inr (inr (inr (h, is)))) = inr (inr (inr ((h.0, read_by_either (choice noted_pdus) octets h.0 h.1), is)))

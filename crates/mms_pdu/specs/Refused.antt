-- Why octets are refused that a client sends: the causes in their order, each a condition on the whole octets (ISO 9506-2, RejectPDU; the
-- order is this profile's choice).
use Rattle.std.specs.Prelude.{◌≡◌, ◌≢◌, ◌⊎◌, ℕ, pos, true, false, IsTrue, List, [], ◌∷◌, Option, Some, None, Result, Err}
use Rattle.ber_core.specs.declared.element.Lengths.{Lengths}
use Rattle.ber_core.specs.Part.{Part}
use Rattle.ber_core.specs.Element.{IsElement, IsCut}
use Rattle.ber_forms.specs.Value.{Value, number}
use Rattle.ber_forms.specs.Form.{Alternatives, choice, or, universal, unsigned32}
use Rattle.ber_forms.specs.ByNumber.{has_number}
use Rattle.ber_forms.specs.Reading.{is_tag}
use Rattle.ber_forms.specs.InForm.{InForm, IsMember, IsAlternative}
use Rattle.ber_forms.specs.TooDeep.{IsAlternativeTooDeep}
use Rattle.mms_types.specs.declared.identifier.Edition.{Edition}
use Rattle.mms_types.specs.declared.identifier.Edition.TheVariants.{One, Two}
use Rattle.mms_types.specs.FirstCause.{◌else◌, told}
use Rattle.pdu_sems.specs.Control.{modifiers}
use Rattle.pdu_assoc.specs.Heard.{heard_reject_form}
use Rattle.mms_pdu.specs.declared.refusal.Refusal.{Refusal}
use Rattle.mms_pdu.specs.declared.refusal.Refusal.TheVariants as refusal
use Rattle.mms_pdu.specs.Services.{requests}
use Rattle.mms_pdu.specs.Pdus.{may_wait}
use Rattle.mms_pdu.specs.Hearing.{Asked, is_pdu, kept_pdus, noted_and}

-- the PDUs that a client may send, but for confirmed-Request: those that are kept, a reject, and those of which nothing is kept
abbrev pub other_pdus : Edition → Alternatives
other_pdus edition = or 4 heard_reject_form (noted_and (kept_pdus edition))

-- ---- what octets are

module _ (lengths : Lengths) where
  -- an invokeID, a list of modifiers (whatever they are) or none, and a service: a context tag, whatever its number and its contents
  abbrev pub AreAsked : List Part → Asked → Type 0
  AreAsked (i ∷ s ∷ []) a =
      IsMember lengths (universal 2 unsigned32) i (number (pos a.invoke)) × (a.modifiers ≡ None) × (a.service ≡ s) × (s.tag.class ≡ 2)
  AreAsked (i ∷ m ∷ s ∷ []) a =
      IsMember lengths (universal 2 unsigned32) i (number (pos a.invoke)) × IsTrue (is_tag 0 true 16 m.tag) × (a.modifiers ≡ Some m)
      × (a.service ≡ s) × (s.tag.class ≡ 2)
  AreAsked ps a = ⊥

  -- the octets are a confirmed-Request
  pub record Asks (octets : List ℕ) (a : Asked) : Type 0 where
    pub part : Part
    pub whole : IsElement lengths octets part
    pub tag : IsTrue (is_tag 2 true 0 part.tag)
    pub components : List Part
    pub cut : IsCut lengths part.contents components
    pub are : AreAsked components a

  -- a list of modifiers is refused before a service: in edition 1 any; in edition 2 one that is not of its form, of exactly one modifier, or
  -- before a service that may not wait
  abbrev pub IsBadList : Edition → Part → Part → Type 0
  IsBadList One list service = Unit {0}
  IsBadList Two list service = (may_wait service.tag.number ≡ false) ⊎ ((v : Value) → InForm lengths (modifiers.form Two) list.contents v → ⊥)

module _ (lengths : Lengths) (edition : Edition) where
  -- ---- the causes

  -- the octets are not one whole element
  abbrev pub IsNoElement : List ℕ → Type 0
  IsNoElement octets = (p : Part) → IsElement lengths octets p → ⊥

  -- the element's tag is none of a PDU
  abbrev pub HasUnknownTag : List ℕ → Type 0
  HasUnknownTag octets = (p : Part) × IsElement lengths octets p × (is_pdu p.tag ≡ false)

  -- the octets are no PDU of its form that a client may send
  pub record IsNoPdu (octets : List ℕ) : Type 0 where
    pub asked : (a : Asked) → Asks lengths octets a → ⊥
    pub other : (v : Value) → InForm lengths (choice (other_pdus edition)) octets v → ⊥

  -- a confirmed-Request has a list of modifiers that is refused
  abbrev pub HasBadList : Asked → Type 0
  HasBadList a = (list : Part) × (a.modifiers ≡ Some list) × IsBadList lengths edition list a.service

  -- its service is none of those that are offered
  abbrev pub IsNotOffered : Asked → Type 0
  IsNotOffered a = has_number (requests.alternatives edition) a.service.tag.number ≡ false

  -- its argument's data or type nests too deep, and all before it is of its form
  abbrev pub NestsTooDeep : Asked → Type 0
  NestsTooDeep a = IsAlternativeTooDeep lengths (requests.alternatives edition) a.service

  -- its argument is not of its form
  abbrev pub HasBadArgument : Asked → Type 0
  HasBadArgument a = (v : Value) → IsAlternative lengths (requests.alternatives edition) a.service v → ⊥

-- ---- the first of them

-- the refusal of the confirmed-Request that the octets are, with its invokeID
abbrev pub of_request : Lengths → List ℕ → (ℕ → Refusal) → (Asked → Type 0) → Refusal → Type 0
of_request lengths octets refusal_of Cause r = (a : Asked) × Asks lengths octets a × Cause a × (r ≡ refusal_of a.invoke)

-- the refusal is that of the first cause that holds of the octets
abbrev pub IsRefused : Lengths → Edition → List ℕ → Refusal → Type 0
IsRefused lengths edition octets =
    told refusal.InvalidPdu (IsNoElement lengths edition octets)
    else told refusal.UnknownType (HasUnknownTag lengths edition octets)
    else told refusal.InvalidPdu (IsNoPdu lengths edition octets)
    else of_request lengths octets refusal.Modifier (HasBadList lengths edition)
    else of_request lengths octets refusal.Service (IsNotOffered lengths edition)
    else of_request lengths octets refusal.Recursion (NestsTooDeep lengths edition)
    else of_request lengths octets refusal.Argument (HasBadArgument lengths edition)

-- A call refuses the octets by the first cause that holds, and where one holds, unless it is want of memory.
pub record RefusesFirst {X : Type 0} (lengths : Lengths) (edition : Edition) (octets : List ℕ) (result : Result X Refusal) : Type 0 where
  pub first : (r : Refusal) → r ≢ refusal.Memory → result ≡ Err r → IsRefused lengths edition octets r
  pub only : (r : Refusal) → IsRefused lengths edition octets r → (result ≡ Err r) ⊎ (result ≡ Err refusal.Memory)

-- What octets are that a client sends, each kind of PDU a condition on the whole octets (ISO 9506-2, MMSpdu; what is kept of each is this
-- profile's choice).
use Rattle.std.specs.Prelude.{◌≡◌, ◌⊎◌, ℕ, Bool, true, false, IsTrue, List, Option, Some, None}
use Rattle.ber_core.specs.declared.element.Lengths.{Lengths}
use Rattle.ber_core.specs.Part.{Part}
use Rattle.ber_core.specs.Element.{IsElement}
use Rattle.ber_forms.specs.Value.{Value, nothing, chosen, parts, given, done, slot}
use Rattle.ber_forms.specs.Form.{Form, choice, or, no_other}
use Rattle.ber_forms.specs.Reading.{is_tag}
use Rattle.ber_forms.specs.InForm.{InForm}
use Rattle.mms_types.specs.declared.identifier.Edition.{Edition}
use Rattle.mms_types.specs.declared.identifier.Edition.TheVariants.{One, Two}
use Rattle.pdu_assoc.specs.Heard.{heard_error, heard_reject_form}
use Rattle.mms_pdu.specs.Pdus.{modified, may_wait, heard_reject}
use Rattle.mms_pdu.specs.Hearing.{whole_pdus, noted_pdus}

-- the service of a request with a modifier may wait
abbrev pub waits : Value → Bool
waits (parts (slot invoke (slot modifier (slot (given (chosen n v)) done)))) = may_wait n
waits v = false

-- a confirmed-Request with a modifier, in edition 2
abbrev pub modified_pdu : Form
modified_pdu = choice (or 0 (modified.form Two) no_other)

module _ (lengths : Lengths) where
  -- the octets are a confirmed-Request with a modifier, and its parts are these: there is none in edition 1
  abbrev pub IsModified : Edition → List ℕ → Value → Type 0
  IsModified One octets v = ⊥
  IsModified Two octets v = InForm lengths modified_pdu octets (chosen 0 v) × IsTrue (waits v)

module _ (lengths : Lengths) (edition : Edition) where
  -- the invokeID that a reject's contents say where they are of the form of a confirmed-Error's, and none where they are not
  abbrev pub IsInvokeOf : List ℕ → Option ℕ → Type 0
  IsInvokeOf contents (Some n) = (v : Value) × InForm lengths (heard_error.form edition) contents v × (heard_error.said v ≡ n)
  IsInvokeOf contents None = (v : Value) → InForm lengths (heard_error.form edition) contents v → ⊥

  -- the octets are a reject, of any elements
  pub record IsReject (octets : List ℕ) (invoke : Option ℕ) : Type 0 where
    pub part : Part
    pub whole : IsElement lengths octets part
    pub tag : is_tag 2 true 4 part.tag ≡ true
    pub elements : InForm lengths heard_reject_form part.contents nothing
    pub invoke_is : IsInvokeOf part.contents invoke

  -- the octets are a PDU of which nothing is kept
  abbrev pub IsNoted : List ℕ → Type 0
  IsNoted octets = (w : Value) × InForm lengths (choice noted_pdus) octets w

  -- the octets are a PDU that a client may send, and this is what is kept of it: the whole, of a request with a modifier its parts, a reject's
  -- invokeID, or nothing
  abbrev pub IsKeptAs : List ℕ → Value → Type 0
  IsKeptAs octets v =
      InForm lengths (choice (whole_pdus edition)) octets v
      ⊎ (IsModified lengths edition octets v
      ⊎ (((invoke : Option ℕ) × IsReject octets invoke × (v ≡ chosen 4 (heard_reject.value invoke)))
      ⊎ (IsNoted octets × (v ≡ nothing))))

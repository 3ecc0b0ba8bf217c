-- What octets are that a client sends: a PDU, or a refusal, as they are read from left to right (ISO 9506-2, RejectPDU).
use Rattle.std.specs.Prelude.{◌≡◌, ℕ, pos, Bool, true, ◌==◌, ◌&&◌, nat_le, List, Option, Some, None, Result, Ok, Err, if◌then◌else◌}
use Rattle.ber_core.specs.declared.element.Tag.{Tag}
use Rattle.ber_core.specs.declared.element.Lengths.{Lengths}
use Rattle.ber_core.specs.Part.{Part}
use Rattle.ber_forms.specs.declared.unread.Unread.{Unread}
use Rattle.ber_forms.specs.declared.unread.Unread.TheVariants as unread
use Rattle.ber_forms.specs.Fault.{Fault}
use Rattle.ber_forms.specs.Fault as fault
use Rattle.ber_forms.specs.Value.{Value, nothing, number, chosen, parts, given, done, slot}
use Rattle.ber_forms.specs.Form.{Form, Alternatives, unsigned32, universal, or, no_other}
use Rattle.ber_forms.specs.ByNumber.{form_at, read_as}
use Rattle.ber_forms.specs.Reading.{◌>>=◌, is_tag, has_tag, at_end, part_at, optional_part, required_at, reading, alternatives}
use Rattle.mms_types.specs.declared.identifier.Edition.{Edition}
use Rattle.mms_types.specs.declared.identifier.Edition.TheVariants.{One, Two}
use Rattle.mms_types.specs.declared.pdu.Request.{Request}
use Rattle.mms_types.specs.declared.pdu.Request.TheVariants as request
use Rattle.mms_types.specs.declared.pdu.Pdu.{Pdu}
use Rattle.mms_types.specs.declared.pdu.Pdu.TheVariants as pdu
use Rattle.mms_types.specs.Depths.{write_depth, definition_depth, journal_depth}
use Rattle.pdu_names.specs.Said.{natural_of}
use Rattle.pdu_sems.specs.Control.{modifiers}
use Rattle.pdu_assoc.specs.Heard.{unconfirmed_form, heard_cancel_form, heard_cancel_error_form, heard_error, heard_reject_form, answered}
use Rattle.mms_pdu.specs.declared.refusal.Refusal.{Refusal}
use Rattle.mms_pdu.specs.declared.refusal.Refusal.TheVariants as refusal
use Rattle.mms_pdu.specs.Services.{requests}
use Rattle.mms_pdu.specs.Pdus.{heard_reject, may_wait, kept_arms, whole_arms}

-- a confirmed-Request: its invokeID, its list of modifiers, where it has one, and the service that it asks for
pub record Asked : Type 0 where
  pub invoke : ℕ
  pub modifiers : Option Part
  pub service : Part

abbrev pub asking : ℕ → Option Part → Part → Asked
asking invoke modifiers service = record { invoke = invoke; modifiers = modifiers; service = service }

-- a service: an element of context class, whatever its number
abbrev pub service_of : Part → Result Part Fault
service_of p = if p.tag.class == 2 then Ok p else Err fault.malformed

-- the tag is one of a PDU's: context 0 to 13
abbrev pub is_pdu : Tag → Bool
is_pdu t = (t.class == 2) && nat_le t.number 13

-- the PDUs that a client may send and that are kept, but for confirmed-Request and reject
abbrev pub kept_pdus : Edition → Alternatives
kept_pdus edition = kept_arms.alternatives edition

-- and with a confirmed-Request without modifiers
abbrev pub whole_pdus : Edition → Alternatives
whole_pdus edition = whole_arms.alternatives edition

-- unconfirmed, cancel-Response and cancel-Error, whatever their contents, and further PDUs
abbrev pub noted_and : Alternatives → Alternatives
noted_and others = or 3 unconfirmed_form (or 6 heard_cancel_form (or 7 heard_cancel_error_form others))

-- those of which nothing is kept
abbrev pub noted_pdus : Alternatives
noted_pdus = noted_and no_other

-- whatever is wrong, the PDU is invalid
abbrev pub valid : {A : Type 0} → Result A Fault → Result A Refusal
valid (Ok x) = Ok x
valid (Err e) = Err refusal.InvalidPdu

-- the refusal of a PDU that could not be read
abbrev pub invalid_of : Unread → Refusal
invalid_of unread.Memory = refusal.Memory
invalid_of unread.Malformed = refusal.InvalidPdu
invalid_of unread.TooDeep = refusal.InvalidPdu

-- the refusal of a request whose argument could not be read
abbrev pub refusal_of_argument : ℕ → Unread → Refusal
refusal_of_argument invoke unread.Memory = refusal.Memory
refusal_of_argument invoke unread.Malformed = refusal.Argument invoke
refusal_of_argument invoke unread.TooDeep = refusal.Recursion invoke

-- go on, or stop at the first refusal
abbrev pub and_then : {A B : Type 0} → Result A Refusal → (A → Result B Refusal) → Result B Refusal
and_then (Ok x) f = f x
and_then (Err e) f = Err e

-- an argument, whose data may nest too deep
abbrev pub argued : ℕ → Result Value Fault → Result Value Refusal
argued invoke (Ok v) = Ok v
argued invoke (Err fault.too_deep) = Err (refusal.Recursion invoke)
argued invoke (Err fault.malformed) = Err (refusal.Argument invoke)

-- any list of modifiers that can't be read is refused in the same way
abbrev pub listed : {A : Type 0} → ℕ → Result A Fault → Result A Refusal
listed invoke (Ok x) = Ok x
listed invoke (Err e) = Err (refusal.Modifier invoke)

-- the refusal of a request whose list of modifiers could not be read
abbrev pub refusal_of_list : ℕ → Unread → Refusal
refusal_of_list invoke unread.Memory = refusal.Memory
refusal_of_list invoke unread.Malformed = refusal.Modifier invoke
refusal_of_list invoke unread.TooDeep = refusal.Modifier invoke

-- a confirmed-Request with its service
abbrev pub asked_value : ℕ → Value → Value
asked_value invoke service = chosen 0 (parts (slot (given (number (pos invoke))) (slot (given service) done)))

-- and with a modifier
abbrev pub modified_value : ℕ → Value → Value → Value
modified_value invoke modifier service = parts (slot (given (number (pos invoke))) (slot (given modifier) (slot (given service) done)))

-- Each of these takes which forms of lengths are read first.
module _ (lengths : Lengths) where
  -- the service by the form under its number, which is not offered where there is none
  abbrev pub served : ℕ → Part → Option Form → Result Value Refusal
  served invoke p None = Err (refusal.Service invoke)
  served invoke p (Some f) = argued invoke (read_as lengths p (Some f))

  -- one element, and nothing after it
  unfoldable pub sole_part : List ℕ → Result Part Fault
  sole_part octets = part_at lengths octets >>= λ x. at_end x.1 >>= λ _. Ok x.0

  -- the modifier of a list: edition 1 takes none, and edition 2 one before a service that may wait
  abbrev pub modifier_at : Edition → Part → Part → Result Value Fault
  modifier_at One list service = Err fault.malformed
  modifier_at Two list service = if may_wait service.tag.number then reading lengths (modifiers.form Two) list.contents else Err fault.malformed

  -- confirmed-Request: { INTEGER invokeID, SEQUENCE OF modifiers OPTIONAL, service }, and whatever the modifiers are
  unfoldable pub asked_at : List ℕ → Result Asked Fault
  asked_at octets =
      required_at lengths (universal 2 unsigned32) octets >>= λ i.
      optional_part lengths (is_tag 0 true 16) i.1 >>= λ m.
      sole_part m.1 >>= λ p.
      service_of p >>= λ s.
      Ok (asking (natural_of i.0) m.0 s)

-- Each of these takes the edition as well.
module _ (lengths : Lengths) (edition : Edition) where
  -- a reject: elements, of which the first may say the invokeID
  unfoldable pub reject_told : List ℕ → Result Value Refusal
  reject_told octets =
      and_then (valid (reading lengths heard_reject_form octets)) (λ _.
      Ok (chosen 4 (heard_reject.value (answered (reading lengths (heard_error.form edition) octets)))))

  -- the service that is asked for: one that is not offered is refused, and then its argument
  abbrev pub service_told : ℕ → Part → Result Value Refusal
  service_told invoke service = served lengths invoke service (form_at service.tag.number (requests.alternatives edition))

  -- a list of modifiers is refused before the service
  abbrev pub told_with : ℕ → Option Part → Part → Result Value Refusal
  told_with invoke None service = and_then (service_told invoke service) (λ v. Ok (asked_value invoke v))
  told_with invoke (Some list) service =
      and_then (listed invoke (modifier_at lengths edition list service)) (λ m. and_then (service_told invoke service) (λ v. Ok (modified_value invoke m v)))

  unfoldable pub request_told : Asked → Result Value Refusal
  request_told asked = told_with asked.invoke asked.modifiers asked.service

  -- an element of no PDU's tag is refused, then one that is not of its PDU's form, also one that only the server sends
  unfoldable pub part_told : Part → Result Value Refusal
  part_told p =
      if is_pdu p.tag then
      (if is_tag 2 true 0 p.tag then and_then (valid (asked_at lengths p.contents)) request_told
      else if is_tag 2 true 4 p.tag then reject_told p.contents
      else if has_tag noted_pdus p.tag then Ok nothing
      else valid (alternatives lengths (kept_pdus edition) p))
      else Err refusal.UnknownType

  -- what the octets are: what is not one whole element is refused first
  unfoldable pub heard : List ℕ → Result Value Refusal
  heard octets = and_then (valid (sole_part lengths octets)) part_told

-- How deep the data and the type of a request nest (ISO 9506-2, nestingLevel): the data that is written, also into a journal, and the type
-- of a variable that is defined. The other requests have none.
abbrev pub request_depth : Request → ℕ
request_depth (request.Write x) = write_depth x
request_depth (request.DefineNamedVariable x) = definition_depth x
request_depth (request.WriteJournal x) = journal_depth x
request_depth other = 0

-- and those of a PDU
abbrev pub depth_of : Pdu → ℕ
depth_of (pdu.ConfirmedRequest invoke request) = request_depth request
depth_of (pdu.ModifiedRequest invoke modifier request) = request_depth request
depth_of p = 0

-- The refusal is the one that was told, unless it is want of memory.
abbrev pub Refuses : {Y : Type 0} → Refusal → Result Y Refusal → Type 0
Refuses refusal.Memory told = Unit {0}
Refuses refusal.InvalidPdu told = told ≡ Err refusal.InvalidPdu
Refuses refusal.UnknownType told = told ≡ Err refusal.UnknownType
Refuses (refusal.Modifier invoke) told = told ≡ Err (refusal.Modifier invoke)
Refuses (refusal.Service invoke) told = told ≡ Err (refusal.Service invoke)
Refuses (refusal.Recursion invoke) told = told ≡ Err (refusal.Recursion invoke)
Refuses (refusal.Argument invoke) told = told ≡ Err (refusal.Argument invoke)

-- What a function answered, seen by view, is what was told, unless memory ran out.
abbrev pub Hears : {X Y : Type 0} → (X → Y) → Result X Refusal → Result Y Refusal → Type 0
Hears view (Ok x) told = told ≡ Ok (view x)
Hears view (Err e) told = Refuses e told

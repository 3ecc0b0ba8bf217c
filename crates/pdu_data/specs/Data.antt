-- Data (ISO 9506-2).
use Rattle.std.specs.Prelude.{◌≡◌, ℕ, zero, suc, ℤ, pos, negsuc, true, false, List, [], ◌∷◌, ◌++◌, ◌==◌, if◌then◌else◌}
use Rattle.std.proofs.Common.{refl, ap, ap₂}
use Rattle.ber_core.specs.Spelling.{element_octets}
use Rattle.ber_forms.specs.Value.{Value, Slots, chosen, parts, truth, number, text, missing, given, done, slot, all_of}
use Rattle.ber_forms.specs.Value as value
use Rattle.ber_forms.specs.Form.{Alternatives, octet_string, any_octets, visible_string, list_of, any_number, context, one_of, or, no_other, too_deep}
use Rattle.ber_forms.specs.Form as form
use Rattle.ber_forms.specs.Fits.{sound_alternatives}
use Rattle.ber_forms.specs.Spelling.{tag_of, member_octets}
use Rattle.mms_types.specs.declared.identifier.Edition.{Edition}
use Rattle.mms_types.specs.Datum.{Datum, Row, array, structure, boolean, bits, integer, unsigned, floating, octets, visible, time, no_part, part}
use Rattle.pdu_names.specs.Kinds.{Choice}

-- boolean 3, bit-string 4, integer 5, unsigned 6, floating-point 7, octet-string 9, visible-string 10, binary-time 12
abbrev pub simple_data : Alternatives
simple_data =
    or 3 form.boolean (
    or 4 form.bit_string (
    or 5 form.int64 (
    or 6 form.unsigned32 (
    or 7 (octet_string any_octets) (
    or 9 (octet_string any_octets) (
    or 10 visible_string (
    or 12 (octet_string any_octets) no_other)))))))

-- Those, and array 1 and structure 2, which nest no deeper than the number.
unfoldable pub data_alternatives : ℕ → Alternatives
data_alternatives zero = or 1 too_deep (or 2 too_deep simple_data)
data_alternatives (suc d) =
    or 1 (list_of any_number (one_of (data_alternatives d))) (
    or 2 (list_of any_number (one_of (data_alternatives d))) simple_data)

abbrev mutual
  pub data_value : Datum → Value
  data_value (array r) = chosen 1 (parts (all_of (row_values r)))
  data_value (structure r) = chosen 2 (parts (all_of (row_values r)))
  data_value (boolean b) = chosen 3 (truth b)
  data_value (bits u o) = chosen 4 (value.bits u o)
  data_value (integer n) = chosen 5 (number n)
  data_value (unsigned n) = chosen 6 (number (pos n))
  data_value (floating o) = chosen 7 (text o)
  data_value (octets o) = chosen 9 (text o)
  data_value (visible o) = chosen 10 (text o)
  data_value (time o) = chosen 12 (text o)

  pub row_values : Row → List Value
  row_values no_part = []
  row_values (part x r) = data_value x ∷ row_values r

-- The element in which a value is spelled, whatever its depth.
abbrev mutual
  pub data_octets : Datum → List ℕ
  data_octets (array r) = element_octets (tag_of 2 1 form.elements) (row_octets r)
  data_octets (structure r) = element_octets (tag_of 2 2 form.elements) (row_octets r)
  data_octets (boolean b) = member_octets (context 3 form.boolean) (truth b)
  data_octets (bits u o) = member_octets (context 4 form.bit_string) (value.bits u o)
  data_octets (integer n) = member_octets (context 5 form.int64) (number n)
  data_octets (unsigned n) = member_octets (context 6 form.int64) (number (pos n))
  data_octets (floating o) = member_octets (context 7 (octet_string any_octets)) (text o)
  data_octets (octets o) = member_octets (context 9 (octet_string any_octets)) (text o)
  data_octets (visible o) = member_octets (context 10 (octet_string any_octets)) (text o)
  data_octets (time o) = member_octets (context 12 (octet_string any_octets)) (text o)

  pub row_octets : Row → List ℕ
  row_octets no_part = []
  row_octets (part x r) = data_octets x ++ row_octets r

-- ---- what a value says, and nothing in particular where it is of another form

abbrev pub natural_said : ℤ → ℕ
natural_said (pos n) = n
natural_said (negsuc n) = 0

abbrev mutual
  pub data_of : Value → Datum
  data_of (chosen k (parts vs)) = if k == 1 then array (row_of vs) else structure (row_of vs)
  data_of (chosen k (truth b)) = boolean b
  data_of (chosen k (value.bits u o)) = bits u o
  data_of (chosen k (number n)) = if k == 5 then integer n else unsigned (natural_said n)
  data_of (chosen k (text o)) = if k == 7 then floating o else if k == 9 then octets o else if k == 10 then visible o else time o
  data_of v = boolean false

  pub row_of : Slots → Row
  row_of done = no_part
  row_of (slot missing vs) = row_of vs
  row_of (slot (given v) vs) = part (data_of v) (row_of vs)

mutual
  pub data_again : (x : Datum) → data_of (data_value x) ≡ x
  data_again (array r) = ap (λ (s : Row). array s) (row_again r)
  data_again (structure r) = ap (λ (s : Row). structure s) (row_again r)
  data_again (boolean b) = refl
  data_again (bits u o) = refl
  data_again (integer n) = refl
  data_again (unsigned n) = refl
  data_again (floating o) = refl
  data_again (octets o) = refl
  data_again (visible o) = refl
  data_again (time o) = refl

  row_again : (r : Row) → row_of (all_of (row_values r)) ≡ r
  row_again no_part = refl
  row_again (part x r) = ap₂ (λ (y : Datum) (s : Row). part y s) (data_again x) (row_again r)

-- ---- the choice

-- data that nests no deeper than 10 (this profile's choice), the same in each edition
unfoldable pub data_choice : Choice Datum
data_choice = record { alternatives = λ _. data_alternatives 10; value = data_value; said = data_of; again = data_again; alike = λ _ v. refl; wider = λ _ lengths p v h. h }

alternatives_sound : (d : ℕ) → sound_alternatives (data_alternatives d) ≡ true
unfolding data_alternatives
alternatives_sound zero = refl
alternatives_sound (suc d) = rw (alternatives_sound d) refl

pub data_sound : (e : Edition) → sound_alternatives (data_choice.alternatives e) ≡ true
unfolding data_choice
data_sound e = alternatives_sound 10

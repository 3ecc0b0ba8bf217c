-- TypeSpecification (ISO 9506-2).
use Rattle.std.specs.Prelude.{◌≡◌, ℕ, zero, suc, ◌||◌, ◌&&◌, pos, negsuc, Bool, true, false, List, [], ◌∷◌, ◌++◌, ◌==◌, if◌then◌else◌, Option}
use Rattle.std.proofs.Common.{refl, ap, ap₂, ◌∙◌}
use Rattle.ber_core.specs.Spelling.{element_octets}
use Rattle.ber_forms.specs.Value.{Value, Slots, nothing, truth, number, chosen, parts, given, done, slot, optionally, all_of}
use Rattle.ber_forms.specs.Form.{Form, Member, Components, Alternatives, sequence, choice, list_of, such_that, too_deep, any_number, context, universal, or, no_other, required, optional, defaulted, left_out, no_more, unsigned8}
use Rattle.ber_forms.specs.Form as form
use Rattle.ber_forms.specs.Fits.{sound_alternatives}
use Rattle.ber_forms.specs.Spelling.{tag_of, member_octets, optional_octets, defaulted_octets}
use Rattle.ber_forms.specs.Wider.{Widens, ChoiceWidens}
use Rattle.ber_forms.proofs.Wider.{tagged_begin, tagged_wider, no_more_wider, required_wider, optional_wider, defaulted_wider, sequence_wider, list_wider, or_wider, choice_wider}
use Rattle.mms_types.specs.declared.identifier.Edition.{Edition}
use Rattle.mms_types.specs.Spelling.{widest}
use Rattle.mms_types.specs.Shape.{Shape, Fields, array, structure, boolean, bits, integer, unsigned, floating, octets, visible, time, no_field, field}
use Rattle.pdu_names.specs.Names.{identifier}
use Rattle.pdu_names.specs.Said.{truth_of, natural_of, text_of, if_given}
use Rattle.pdu_names.specs.AgainLaws.{if_given_again}
use Rattle.pdu_names.specs.Alike.{SpellAlike, ChoicesAlike, tagged_alike, required_alike, optional_alike, defaulted_alike, sequence_alike, list_alike, or_alike, choice_alike}
use Rattle.pdu_names.specs.Kinds.{Choice}

-- a length, or the greatest one as a number below 0 (up to 60,000: this profile's choice)
abbrev pub length_form : Form
length_form = form.integer (negsuc 59999) (pos 60000)

-- the widths of this profile
abbrev pub is_signed_width : ℕ → Bool
is_signed_width n = (n == 8) || (n == 16) || (n == 32) || (n == 64)

abbrev pub is_unsigned_width : ℕ → Bool
is_unsigned_width n = (n == 8) || (n == 16) || (n == 32)

abbrev pub is_format : ℕ → ℕ → Bool
is_format width exponent = ((width == 32) && (exponent == 8)) || ((width == 64) && (exponent == 11))

abbrev pub says_signed_width : Value → Bool
says_signed_width v = is_signed_width (natural_of v)

abbrev pub says_unsigned_width : Value → Bool
says_unsigned_width v = is_unsigned_width (natural_of v)

abbrev pub says_format : Value → Bool
says_format (parts (slot (given width) (slot (given exponent) done))) = is_format (natural_of width) (natural_of exponent)
says_format v = false

-- the widths of the format and of the exponent
abbrev pub floating_form : Form
floating_form = sequence (
    required (universal 2 unsigned8) (
    required (universal 2 unsigned8) no_more))

abbrev pub floating_value : ℕ → ℕ → Value
floating_value width exponent = parts (
    slot (given (number (pos width))) (
    slot (given (number (pos exponent))) done))

-- boolean 3, bit-string 4, integer 5, unsigned 6, floating-point 7, octet-string 9, visible-string 10, binary-time 12
abbrev pub simple_types : Alternatives
simple_types =
    or 3 form.null (
    or 4 length_form (
    or 5 (such_that says_signed_width unsigned8) (
    or 6 (such_that says_unsigned_width unsigned8) (
    or 7 (such_that says_format floating_form) (
    or 9 length_form (
    or 10 length_form (
    or 12 form.boolean no_other)))))))

-- packed, numberOfElements, elementType
abbrev pub array_form : Alternatives → Form
array_form inner = sequence (
    defaulted left_out (context 0 form.boolean) (truth false) (
    required (context 1 (form.integer (pos 0) (pos 4096))) (
    required (context 2 (choice inner)) no_more)))

abbrev pub array_value : Bool → ℕ → Value → Value
array_value packed n inner = parts (
    slot (given (truth packed)) (
    slot (given (number (pos n))) (
    slot (given inner) done)))

-- componentName, componentType
abbrev pub component_form : Edition → Alternatives → Form
component_form edition inner = sequence (
    optional (context 0 (identifier.form edition)) (
    required (context 1 (choice inner)) no_more))

abbrev pub component_value : Option (List ℕ) → Value → Value
component_value name inner = parts (
    slot (optionally identifier.value name) (
    slot (given inner) done))

-- the universal tag of SEQUENCE (ITU-T X.680, 8.4)
abbrev pub component_member : Edition → Alternatives → Member
component_member edition inner = universal 16 (component_form edition inner)

-- packed, components
abbrev pub structure_form : Edition → Alternatives → Form
structure_form edition inner = sequence (
    defaulted left_out (context 0 form.boolean) (truth false) (
    required (context 1 (list_of any_number (component_member edition inner))) no_more))

abbrev pub structure_value : Bool → List Value → Value
structure_value packed components = parts (
    slot (given (truth packed)) (
    slot (given (parts (all_of components))) done))

-- The simple types, and array 1 and structure 2, which nest no deeper than the number.
unfoldable pub type_alternatives : Edition → ℕ → Alternatives
type_alternatives edition zero = or 1 too_deep (or 2 too_deep simple_types)
type_alternatives edition (suc d) =
    or 1 (array_form (type_alternatives edition d)) (
    or 2 (structure_form edition (type_alternatives edition d)) simple_types)

abbrev mutual
  pub type_value : Shape → Value
  type_value (array packed n s) = chosen 1 (array_value packed n (type_value s))
  type_value (structure packed fs) = chosen 2 (structure_value packed (field_values fs))
  type_value boolean = chosen 3 nothing
  type_value (bits n) = chosen 4 (number n)
  type_value (integer w) = chosen 5 (number (pos w))
  type_value (unsigned w) = chosen 6 (number (pos w))
  type_value (floating w e) = chosen 7 (floating_value w e)
  type_value (octets n) = chosen 9 (number n)
  type_value (visible n) = chosen 10 (number n)
  type_value (time dated) = chosen 12 (truth dated)

  pub field_values : Fields → List Value
  field_values no_field = []
  field_values (field name s fs) = component_value name (type_value s) ∷ field_values fs

-- ---- the element in which a type is spelled, whatever its depth, after what stands before

abbrev pub packed_octets : Bool → List ℕ
packed_octets packed = defaulted_octets (context 0 form.boolean) (truth false) (given (truth packed))

abbrev pub array_octets : Bool → ℕ → List ℕ → List ℕ → List ℕ
array_octets packed n inner before = ((before ++ packed_octets packed) ++ member_octets (context 1 form.int64) (number (pos n))) ++ element_octets (tag_of 2 2 form.elements) inner

abbrev pub structure_octets : Bool → List ℕ → List ℕ → List ℕ
structure_octets packed inner before = (before ++ packed_octets packed) ++ element_octets (tag_of 2 1 form.elements) inner

abbrev pub floating_octets : ℕ → ℕ → List ℕ → List ℕ
floating_octets w e before = (before ++ member_octets (universal 2 form.int64) (number (pos w))) ++ member_octets (universal 2 form.int64) (number (pos e))

abbrev pub named_octets : Option (List ℕ) → List ℕ → List ℕ → List ℕ
named_octets name inner before = (before ++ optional_octets (context 0 (identifier.form widest)) (optionally identifier.value name)) ++ element_octets (tag_of 2 1 form.elements) inner

abbrev mutual
  pub type_octets : Shape → List ℕ
  type_octets (array packed n s) = element_octets (tag_of 2 1 form.elements) (array_octets packed n (type_octets s) [])
  type_octets (structure packed fs) = element_octets (tag_of 2 2 form.elements) (structure_octets packed (field_octets fs) [])
  type_octets boolean = member_octets (context 3 form.null) nothing
  type_octets (bits n) = member_octets (context 4 form.int64) (number n)
  type_octets (integer w) = member_octets (context 5 form.int64) (number (pos w))
  type_octets (unsigned w) = member_octets (context 6 form.int64) (number (pos w))
  type_octets (floating w e) = element_octets (tag_of 2 7 form.elements) (floating_octets w e [])
  type_octets (octets n) = member_octets (context 9 form.int64) (number n)
  type_octets (visible n) = member_octets (context 10 form.int64) (number n)
  type_octets (time dated) = member_octets (context 12 form.boolean) (truth dated)

  pub field_octets : Fields → List ℕ
  field_octets no_field = []
  field_octets (field name s fs) = element_octets (tag_of 0 16 form.elements) (named_octets name (type_octets s) []) ++ field_octets fs

-- ---- what a value says, and nothing in particular where it is of another form

abbrev mutual
  pub type_of : Value → Shape
  type_of (chosen k (parts (slot (given packed) (slot (given n) (slot (given inner) done))))) = array (truth_of packed) (natural_of n) (type_of inner)
  type_of (chosen k (parts (slot (given first) (slot (given second) done)))) = if k == 7 then floating (natural_of first) (natural_of second) else structure (truth_of first) (fields_of second)
  type_of (chosen k (number n)) =
      if k == 4 then bits n else if k == 5 then integer (natural_of (number n)) else if k == 6 then unsigned (natural_of (number n))
      else if k == 9 then octets n else visible n
  type_of (chosen k (truth dated)) = time dated
  type_of v = boolean

  pub fields_of : Value → Fields
  fields_of (parts vs) = fields_said vs
  fields_of v = no_field

  pub fields_said : Slots → Fields
  fields_said (slot (given (parts (slot name (slot (given s) done)))) vs) = field (if_given text_of name) (type_of s) (fields_said vs)
  fields_said vs = no_field

mutual
  pub type_again : (s : Shape) → type_of (type_value s) ≡ s
  type_again (array packed n s) = ap (λ (t : Shape). array packed n t) (type_again s)
  type_again (structure packed fs) = ap (λ (gs : Fields). structure packed gs) (fields_again fs)
  type_again boolean = refl
  type_again (bits n) = refl
  type_again (integer w) = refl
  type_again (unsigned w) = refl
  type_again (floating w e) = refl
  type_again (octets n) = refl
  type_again (visible n) = refl
  type_again (time dated) = refl

  fields_again : (fs : Fields) → fields_said (all_of (field_values fs)) ≡ fs
  fields_again no_field = refl
  fields_again (field name s fs) =
      ap (λ (o : Option (List ℕ)). field o (type_of (type_value s)) (fields_said (all_of (field_values fs)))) (if_given_again identifier.value text_of (λ n. refl) name)
      ∙ ap₂ (λ (t : Shape) (gs : Fields). field name t gs) (type_again s) (fields_again fs)

-- ---- types are spelled alike in each edition

abbrev array_element : Alternatives → Components
array_element c = required (context 2 (choice c)) no_more

abbrev array_count : Alternatives → Components
array_count c = required (context 1 (form.integer (pos 0) (pos 4096))) (array_element c)

abbrev array_parts : Alternatives → Components
array_parts c = defaulted left_out (context 0 form.boolean) (truth false) (array_count c)

arrays_alike : (a b : Alternatives) → ChoicesAlike a b → SpellAlike (array_form a) (array_form b)
arrays_alike a b h = sequence_alike (array_parts a) (array_parts b) (
    defaulted_alike left_out (context 0 form.boolean) (context 0 form.boolean) (truth false) (array_count a) (array_count b) (λ v. refl) (
    required_alike (context 1 (form.integer (pos 0) (pos 4096))) (context 1 (form.integer (pos 0) (pos 4096))) (array_element a) (array_element b) (λ v. refl) (
    required_alike (context 2 (choice a)) (context 2 (choice b)) no_more no_more (tagged_alike 2 2 (choice a) (choice b) (choice_alike a b h)) (λ vs before. refl))))

abbrev component_type : Alternatives → Components
component_type c = required (context 1 (choice c)) no_more

abbrev component_parts : Edition → Alternatives → Components
component_parts edition c = optional (context 0 (identifier.form edition)) (component_type c)

components_alike : (e : Edition) (a b : Alternatives) → ChoicesAlike a b → SpellAlike (component_form e a) (component_form widest b)
components_alike e a b h = sequence_alike (component_parts e a) (component_parts widest b) (
    optional_alike (context 0 (identifier.form e)) (context 0 (identifier.form widest)) (component_type a) (component_type b) (tagged_alike 2 0 (identifier.form e) (identifier.form widest) (identifier.alike e)) (
    required_alike (context 1 (choice a)) (context 1 (choice b)) no_more no_more (tagged_alike 2 1 (choice a) (choice b) (choice_alike a b h)) (λ vs before. refl)))

abbrev component_list : Edition → Alternatives → Form
component_list edition c = list_of any_number (component_member edition c)

abbrev structure_list : Edition → Alternatives → Components
structure_list edition c = required (context 1 (component_list edition c)) no_more

abbrev structure_parts : Edition → Alternatives → Components
structure_parts edition c = defaulted left_out (context 0 form.boolean) (truth false) (structure_list edition c)

structures_alike : (e : Edition) (a b : Alternatives) → ChoicesAlike a b → SpellAlike (structure_form e a) (structure_form widest b)
structures_alike e a b h = sequence_alike (structure_parts e a) (structure_parts widest b) (
    defaulted_alike left_out (context 0 form.boolean) (context 0 form.boolean) (truth false) (structure_list e a) (structure_list widest b) (λ v. refl) (
    required_alike (context 1 (component_list e a)) (context 1 (component_list widest b)) no_more no_more (
    tagged_alike 2 1 (component_list e a) (component_list widest b) (
    list_alike any_number (component_member e a) (component_member widest b) (
    tagged_alike 0 16 (component_form e a) (component_form widest b) (components_alike e a b h)))) (λ vs before. refl)))

pub types_alike : (e : Edition) (d : ℕ) → ChoicesAlike (type_alternatives e d) (type_alternatives widest d)
unfolding type_alternatives
types_alike e zero v = refl
types_alike e (suc d) v =
    or_alike 1 (array_form (type_alternatives e d)) (array_form (type_alternatives widest d))
    (or 2 (structure_form e (type_alternatives e d)) simple_types) (or 2 (structure_form widest (type_alternatives widest d)) simple_types)
    (arrays_alike (type_alternatives e d) (type_alternatives widest d) (types_alike e d)) (
    or_alike 2 (structure_form e (type_alternatives e d)) (structure_form widest (type_alternatives widest d)) simple_types simple_types
    (structures_alike e (type_alternatives e d) (type_alternatives widest d) (types_alike e d)) (λ w. refl)) v

-- ---- and a type of an edition is one of the widest

arrays_wider : (a b : Alternatives) → ChoiceWidens a b → Widens (array_form a) (array_form b)
arrays_wider a b h = sequence_wider (array_parts a) (array_parts b) (
    defaulted_wider left_out (context 0 form.boolean) (context 0 form.boolean) (truth false) (array_count a) (array_count b) (λ t. refl) (λ lengths p v k. k) (
    required_wider (context 1 (form.integer (pos 0) (pos 4096))) (context 1 (form.integer (pos 0) (pos 4096))) (array_element a) (array_element b) (λ lengths p v k. k) (
    required_wider (context 2 (choice a)) (context 2 (choice b)) no_more no_more (tagged_wider 2 2 (choice a) (choice b) (choice_wider a b h)) no_more_wider)))

components_wider : (e : Edition) (a b : Alternatives) → ChoiceWidens a b → Widens (component_form e a) (component_form widest b)
components_wider e a b h = sequence_wider (component_parts e a) (component_parts widest b) (
    optional_wider (context 0 (identifier.form e)) (context 0 (identifier.form widest)) (component_type a) (component_type b)
    (tagged_begin 2 0 (identifier.form e) (identifier.form widest) (identifier.wider e)) (tagged_wider 2 0 (identifier.form e) (identifier.form widest) (identifier.wider e)) (
    required_wider (context 1 (choice a)) (context 1 (choice b)) no_more no_more (tagged_wider 2 1 (choice a) (choice b) (choice_wider a b h)) no_more_wider))

structures_wider : (e : Edition) (a b : Alternatives) → ChoiceWidens a b → Widens (structure_form e a) (structure_form widest b)
structures_wider e a b h = sequence_wider (structure_parts e a) (structure_parts widest b) (
    defaulted_wider left_out (context 0 form.boolean) (context 0 form.boolean) (truth false) (structure_list e a) (structure_list widest b) (λ t. refl) (λ lengths p v k. k) (
    required_wider (context 1 (component_list e a)) (context 1 (component_list widest b)) no_more no_more (
    tagged_wider 2 1 (component_list e a) (component_list widest b) (
    list_wider any_number (component_member e a) (component_member widest b) (
    tagged_wider 0 16 (component_form e a) (component_form widest b) (components_wider e a b h)))) no_more_wider))

pub types_wider : (e : Edition) (d : ℕ) → ChoiceWidens (type_alternatives e d) (type_alternatives widest d)
unfolding type_alternatives
types_wider e zero = λ lengths p v h. h
types_wider e (suc d) =
    or_wider 1 (array_form (type_alternatives e d)) (array_form (type_alternatives widest d))
    (or 2 (structure_form e (type_alternatives e d)) simple_types) (or 2 (structure_form widest (type_alternatives widest d)) simple_types)
    (arrays_wider (type_alternatives e d) (type_alternatives widest d) (types_wider e d)) (
    or_wider 2 (structure_form e (type_alternatives e d)) (structure_form widest (type_alternatives widest d)) simple_types simple_types
    (structures_wider e (type_alternatives e d) (type_alternatives widest d) (types_wider e d)) (λ lengths p v h. h))

-- ---- the choice

-- a type that nests no deeper than 10 (this profile's choice)
unfoldable pub type_choice : Choice Shape
type_choice = record {
  alternatives = λ e. type_alternatives e 10;
  value = type_value;
  said = type_of;
  again = type_again;
  alike = λ e. types_alike e 10;
  wider = λ e. types_wider e 10;
}

alternatives_sound : (e : Edition) (d : ℕ) → sound_alternatives (type_alternatives e d) ≡ true
unfolding type_alternatives
alternatives_sound e zero = refl
alternatives_sound e (suc d) = rw (alternatives_sound e d) refl

pub type_sound : (e : Edition) → sound_alternatives (type_choice.alternatives e) ≡ true
unfolding type_choice
type_sound e = alternatives_sound e 10

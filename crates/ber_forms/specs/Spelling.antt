-- The one output spelling of a value of a form.
use Rattle.std.specs.Prelude.{◌≡◌, ℕ, length, take, Bool, true, false, List, [], ◌∷◌, ◌++◌, if◌then◌else◌, ◌==◌}
use Rattle.std.specs.Ordering.{int_eq}
use Rattle.ber_core.specs.declared.element.Tag.{Tag}
use Rattle.ber_core.specs.Spelling.{integer_octets, element_octets}
use Rattle.ber_forms.specs.Value.{Value, Slot, Slots, truth, number, bits, text, chosen, parts, missing, given, done, slot}
use Rattle.ber_forms.specs.Form.{Form, Member, Alternatives, Components, AtDefault, left_out, written, null, boolean, integer, bit_string, named_bits, octet_string, sequence, choice, list_of, such_that, opaque, tagged, one_of, no_other, or, required, optional, defaulted, skipped}
use Rattle.ber_forms.specs.Reading.{is_constructed}

-- the tag of an element of the form
abbrev pub tag_of : ℕ → ℕ → Form → Tag
tag_of class n f = record { class = class; constructed = is_constructed f; number = n }

abbrev pub same_bool : Bool → Bool → Bool
same_bool true b = b
same_bool false true = false
same_bool false false = true

-- the value is the one that a component's absence means; numbers and truth values are defaults
abbrev pub is_default : Value → Value → Bool
is_default (number n) (number m) = int_eq n m
is_default (truth b) (truth d) = same_bool b d
is_default v w = false

-- TRUE is FF (ITU-T X.690, 11.1)
abbrev pub truth_octet : Bool → ℕ
truth_octet true = 255
truth_octet false = 0

abbrev pub slot_octets : (Value → List ℕ) → Slot → List ℕ
slot_octets spell missing = []
slot_octets spell (given v) = spell v

-- a component equal to its default is left out (ITU-T X.690, 11.5)
abbrev pub unless_default : (Value → List ℕ) → Value → Slot → List ℕ
unless_default spell d missing = []
unless_default spell d (given v) = if is_default v d then [] else spell v

abbrev pub default_octets : AtDefault → (Value → List ℕ) → Value → Slot → List ℕ
default_octets left_out spell d s = unless_default spell d s
default_octets written spell d s = slot_octets spell s

abbrev pub each_octets : (Value → List ℕ) → Slots → List ℕ
each_octets spell done = []
each_octets spell (slot s more) = slot_octets spell s ++ each_octets spell more

abbrev mutual
  -- the contents (ITU-T X.690, 8.2, 8.3, 8.6 to 8.14; shortest numbers and TRUE as FF: 8.3.2, 11.1)
  pub spelling : Form → Value → List ℕ
  spelling null v = []
  spelling boolean (truth b) = truth_octet b ∷ []
  spelling (integer low high) (number n) = integer_octets n
  spelling bit_string (bits unused octets) = unused ∷ octets
  spelling (named_bits n) (bits unused octets) = unused ∷ octets
  spelling (octet_string test) (text octets) = octets
  spelling (sequence cs) (parts vs) = component_octets cs vs []
  spelling (choice others) v = alternative_octets others v
  spelling (list_of test m) (parts vs) = each_octets (member_octets m) vs
  spelling (such_that test f) v = spelling f v
  spelling (opaque constructed) (text octets) = octets
  spelling f v = []

  pub member_octets : Member → Value → List ℕ
  member_octets (tagged class n f) v = element_octets (tag_of class n f) (spelling f v)
  member_octets (one_of others) v = alternative_octets others v

  pub alternative_octets : Alternatives → Value → List ℕ
  alternative_octets no_other v = []
  alternative_octets (or n f others) (chosen k v) = if k == n then element_octets (tag_of 2 n f) (spelling f v) else alternative_octets others (chosen k v)
  alternative_octets (or n f others) v = []

  -- what stands before, and then the components
  pub component_octets : Components → Slots → List ℕ → List ℕ
  component_octets (required m cs) (slot s more) before = component_octets cs more (before ++ slot_octets (member_octets m) s)
  component_octets (optional m cs) (slot s more) before = component_octets cs more (before ++ slot_octets (member_octets m) s)
  component_octets (defaulted w m d cs) (slot s more) before = component_octets cs more (before ++ default_octets w (member_octets m) d s)
  component_octets (skipped m cs) vs before = component_octets cs vs before
  component_octets cs vs before = before

-- a component that may be missing
abbrev pub optional_octets : Member → Slot → List ℕ
optional_octets m s = slot_octets (member_octets m) s

-- a component with a default that is left out
abbrev pub defaulted_octets : Member → Value → Slot → List ℕ
defaulted_octets m d s = unless_default (member_octets m) d s

-- what stands before, and then the contents
unfoldable pub appended : Form → Value → List ℕ → List ℕ
appended (sequence cs) (parts vs) before = component_octets cs vs before
appended f v before = before ++ spelling f v

-- what stood before still begins what is there
unfoldable pub Begins : List ℕ → List ℕ → Type 0
Begins before after = take (length before) after ≡ before

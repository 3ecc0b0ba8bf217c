-- The forms of contents, as ASN.1 writes them.
use Rattle.std.specs.Prelude.{ℕ, ℤ, pos, negsuc, Bool, true, ◌&&◌, List, nat_le}
use Rattle.std.specs.List.{list_all}
use Rattle.ber_forms.specs.Value.{Value}

-- what is written of a component that is equal to its default: nothing (ITU-T X.690, 11.5), or the component all the same
-- (this profile's choice, where a form says so)
pub data AtDefault : Type 0 where
  left_out : AtDefault
  written : AtDefault

mutual
  -- a form of contents (ITU-T X.680, clauses 18, 19, 22 to 29)
  pub data Form : Type 0 where
    null : Form
    boolean : Form
    -- from the first number to the second
    integer : ℤ → ℤ → Form
    bit_string : Form
    -- a bit string of so many named bits (ITU-T X.680, 22.7)
    named_bits : ℕ → Form
    -- octets that pass the test
    octet_string : (List ℕ → Bool) → Form
    sequence : Components → Form
    choice : Alternatives → Form
    -- so many that pass the test
    list_of : (ℕ → Bool) → Member → Form
    -- of the form, with a value that passes the test
    such_that : (Value → Bool) → Form → Form
    -- octets that aren't looked at, in an element with or without the constructed bit
    opaque : Bool → Form
    -- any elements, none of which is kept
    elements : Form
    -- what nests too deep
    too_deep : Form

  -- an element
  pub data Member : Type 0 where
    -- class, number and form
    tagged : ℕ → ℕ → Form → Member
    one_of : Alternatives → Member

  -- what a choice is of: the numbers of context tags, and forms
  pub data Alternatives : Type 0 where
    no_other : Alternatives
    or : ℕ → Form → Alternatives → Alternatives

  -- what a sequence is of
  pub data Components : Type 0 where
    no_more : Components
    -- any elements, none of which is kept
    any_more : Components
    required : Member → Components → Components
    optional : Member → Components → Components
    -- with the value that its absence means
    defaulted : AtDefault → Member → Value → Components → Components
    -- one that may be missing, and isn't kept
    skipped : Member → Components → Components

abbrev pub context : ℕ → Form → Member
context n f = tagged 2 n f

abbrev pub universal : ℕ → Form → Member
universal n f = tagged 0 n f

abbrev pub int8 : Form
int8 = integer (negsuc 127) (pos 127)

abbrev pub int16 : Form
int16 = integer (negsuc 32767) (pos 32767)

abbrev pub int32 : Form
int32 = integer (negsuc 2147483647) (pos 2147483647)

abbrev pub int64 : Form
int64 = integer (negsuc 9223372036854775807) (pos 9223372036854775807)

abbrev pub unsigned8 : Form
unsigned8 = integer (pos 0) (pos 255)

abbrev pub unsigned16 : Form
unsigned16 = integer (pos 0) (pos 65535)

abbrev pub unsigned32 : Form
unsigned32 = integer (pos 0) (pos 4294967295)

abbrev pub any_octets : List ℕ → Bool
any_octets octets = true

-- octets of VisibleString (ITU-T X.680, 41.4)
abbrev pub is_visible : ℕ → Bool
is_visible a = nat_le 32 a && nat_le a 126

abbrev pub are_visible : List ℕ → Bool
are_visible octets = list_all is_visible octets

abbrev pub visible_string : Form
visible_string = octet_string are_visible

-- how many members a list may have
abbrev pub any_number : ℕ → Bool
any_number n = true

abbrev pub up_to : ℕ → ℕ → Bool
up_to most n = nat_le n most

abbrev pub from_to : ℕ → ℕ → ℕ → Bool
from_to least most n = nat_le least n && nat_le n most

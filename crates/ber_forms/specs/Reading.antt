-- Reading from left to right, with the first fault that is met.
use Rattle.std.specs.Prelude.{◌≡◌, ℕ, zero, suc, ℤ, Bool, true, false, not, ◌&&◌, List, [], ◌∷◌, length, take, Option, Some, None, Result, Ok, Err, ◌==◌, if◌then◌else◌, int_le}
use Rattle.ber_core.specs.declared.element.Tag.{Tag}
use Rattle.ber_core.specs.declared.element.Lengths.{Lengths}
use Rattle.ber_core.specs.declared.fault.BerError.{BerError}
use Rattle.ber_core.specs.Part.{Part}
use Rattle.ber_core.specs.Reading.{identifier_at, element_at}
use Rattle.ber_core.specs.Leaf.{integer_at, boolean_at, bits_at}
use Rattle.ber_forms.specs.declared.unread.Unread.{Unread}
use Rattle.ber_forms.specs.declared.unread.Unread.TheVariants as unread
use Rattle.ber_forms.specs.Fault.{Fault}
use Rattle.ber_forms.specs.Fault as fault
use Rattle.ber_forms.specs.Value.{Value, Slot, Slots, nothing, truth, number, bits, text, chosen, parts, missing, given, done, slot, all_of}
use Rattle.ber_forms.specs.Bits.{cleared, first_bits, unused_for}
use Rattle.ber_forms.specs.Form.{Form, Member, Alternatives, Components, null, boolean, integer, bit_string, named_bits, octet_string, sequence, choice, list_of, such_that, opaque, elements, too_deep, tagged, one_of, no_other, or, no_more, any_more, required, optional, defaulted, skipped}

-- go on with what was read, or stop at the first fault
infixl 10 ◌>>=◌
abbrev pub ◌>>=◌ : {A B : Type 0} → Result A Fault → (A → Result B Fault) → Result B Fault
(Ok x) >>= f = f x
(Err e) >>= f = Err e

-- The fault is the one that reading gives, unless it is want of memory.
abbrev pub Fails : {Y : Type 0} → Unread → Result Y Fault → Type 0
Fails unread.Memory read = Unit {0}
Fails unread.Malformed read = read ≡ Err fault.malformed
Fails unread.TooDeep read = read ≡ Err fault.too_deep

-- What a function returned, seen by view, is what reading gives, unless memory ran out.
abbrev pub Gives : {X Y : Type 0} → (X → Y) → Result X Unread → Result Y Fault → Type 0
Gives view (Ok x) read = read ≡ Ok (view x)
Gives view (Err e) read = Fails e read

-- a fault of the octets is a fault of the contents
abbrev pub well : {A : Type 0} → Result A BerError → Result A Fault
well (Ok x) = Ok x
well (Err e) = Err fault.malformed

-- whether an element of the form has the constructed bit (ITU-T X.690, 8.1.2.5; strings are primitive: this profile's choice)
abbrev pub is_constructed : Form → Bool
is_constructed (sequence cs) = true
is_constructed (choice others) = true
is_constructed (list_of test m) = true
is_constructed elements = true
is_constructed too_deep = true
is_constructed (such_that test f) = is_constructed f
is_constructed (opaque constructed) = constructed
is_constructed _ = false

abbrev pub same_form : Bool → Bool → Bool
same_form true b = b
same_form false b = not b

-- the tag has this class, this constructed bit and this number
abbrev pub is_tag : ℕ → Bool → ℕ → Tag → Bool
is_tag class constructed n t = (t.class == class) && same_form constructed t.constructed && (t.number == n)

abbrev pub has_tag : Alternatives → Tag → Bool
has_tag no_other t = false
has_tag (or n f others) t = if is_tag 2 (is_constructed f) n t then true else has_tag others t

-- ---- contents that are no elements

unfoldable pub at_end : List ℕ → Result (Unit {0}) Fault
at_end [] = Ok tt
at_end (a ∷ rest) = Err fault.malformed

unfoldable pub integer_in : ℤ → ℤ → List ℕ → Result ℤ Fault
integer_in low high octets = well (integer_at octets) >>= λ n. if int_le low n && int_le n high then Ok n else Err fault.malformed

-- how many bits are unused, and the octets as they were sent
unfoldable pub bits_in : List ℕ → Result (ℕ × List ℕ) Fault
bits_in octets = well (bits_at octets)

abbrev pub null_value : List ℕ → Result Value Fault
null_value octets = at_end octets >>= λ _. Ok nothing

abbrev pub truth_value : List ℕ → Result Value Fault
truth_value octets = well (boolean_at octets) >>= λ b. Ok (truth b)

abbrev pub number_value : ℤ → ℤ → List ℕ → Result Value Fault
number_value low high octets = integer_in low high octets >>= λ n. Ok (number n)

abbrev pub bits_value : List ℕ → Result Value Fault
bits_value octets = bits_in octets >>= λ b. Ok (bits b.0 (cleared b.0 b.1))

abbrev pub named_bits_value : ℕ → List ℕ → Result Value Fault
named_bits_value n octets = bits_in octets >>= λ b. Ok (bits (unused_for n) (first_bits n b.0 b.1))

abbrev pub text_value : (List ℕ → Bool) → List ℕ → Result Value Fault
text_value test octets = if test octets then Ok (text octets) else Err fault.malformed

-- ---- steps from element to element

abbrev pub must : Option (Part × List ℕ) → Result (Part × List ℕ) Fault
must None = Err fault.malformed
must (Some x) = Ok x

abbrev pub passes : (Tag → Bool) → Result (Tag × List ℕ) BerError → Bool
passes test (Ok x) = test x.0
passes test (Err e) = false

-- an identifier is in front, and its tag passes the test
abbrev pub is_ahead : (Tag → Bool) → List ℕ → Bool
is_ahead test octets = passes test (identifier_at octets)

abbrev pub read_slot : (Part → Result Value Fault) → Option Part → Result Slot Fault
read_slot f None = Ok missing
read_slot f (Some p) = f p >>= λ v. Ok (given v)

-- with the default in place of a missing component
abbrev pub or_else : Value → Slot → Slot
or_else d missing = given d
or_else d (given v) = given v

-- a component that was looked for, where its absence means the value
unfoldable pub defaulting : Value → Result (Slot × List ℕ) Fault → Result (Slot × List ℕ) Fault
defaulting d found = found >>= λ x. Ok (or_else d x.0, x.1)

-- the members to the end, of which there are no more than the number
unfoldable pub members_by : (List ℕ → Result (Value × List ℕ) Fault) → ℕ → List ℕ → Result (List Value) Fault
members_by take zero octets = at_end octets >>= λ _. Ok []
members_by take (suc k) [] = Ok []
members_by take (suc k) (a ∷ rest) = take (a ∷ rest) >>= λ x. members_by take k x.1 >>= λ vs. Ok (x.0 ∷ vs)

abbrev pub counted : (ℕ → Bool) → List Value → Result Value Fault
counted test vs = if test (length vs) then Ok (parts (all_of vs)) else Err fault.malformed

-- Each of these takes which forms of lengths are read first.
module _ (lengths : Lengths) where
  -- the next element, or none at the end
  unfoldable pub next_at : List ℕ → Result (Option (Part × List ℕ)) Fault
  next_at [] = Ok None
  next_at (a ∷ rest) = well (element_at lengths (a ∷ rest)) >>= λ x. Ok (Some x)

  -- the next element, which is there, and what is left
  unfoldable pub part_at : List ℕ → Result (Part × List ℕ) Fault
  part_at octets = next_at octets >>= must

  -- the same, where its tag is to pass the test
  unfoldable pub required_part : (Tag → Bool) → List ℕ → Result (Part × List ℕ) Fault
  required_part test octets = part_at octets >>= λ x. if test x.0.tag then Ok x else Err fault.malformed

  -- the next element where such a tag is in front, and what is left; where none is, nothing, and no element is looked for
  unfoldable pub optional_part : (Tag → Bool) → List ℕ → Result (Option Part × List ℕ) Fault
  optional_part test octets = if is_ahead test octets then (part_at octets >>= λ x. Ok (Some x.0, x.1)) else Ok (None, octets)

  -- the next element, of such a tag and with contents that are read so, and what is left
  unfoldable pub required_by : (Tag → Bool) → (List ℕ → Result Value Fault) → List ℕ → Result (Value × List ℕ) Fault
  required_by test read octets = required_part test octets >>= λ x. read x.0.contents >>= λ v. Ok (v, x.1)

  -- the next element, whatever its tag, read so, and what is left
  unfoldable pub chosen_by : (Part → Result Value Fault) → List ℕ → Result (Value × List ℕ) Fault
  chosen_by read octets = part_at octets >>= λ x. read x.0 >>= λ v. Ok (v, x.1)

  -- a component that may be absent
  unfoldable pub optional_by : (Tag → Bool) → (Part → Result Value Fault) → List ℕ → Result (Slot × List ℕ) Fault
  optional_by test read octets = optional_part test octets >>= λ x. read_slot read x.0 >>= λ v. Ok (v, x.1)

  -- the elements to the end
  unfoldable pub elements_at : List ℕ → Result (Unit {0}) Fault
  elements_at octets = members_by (chosen_by (λ _. Ok nothing)) (length octets) octets >>= λ _. Ok tt

  abbrev mutual
    -- contents of the form
    pub reading : Form → List ℕ → Result Value Fault
    reading null octets = null_value octets
    reading boolean octets = truth_value octets
    reading (integer low high) octets = number_value low high octets
    reading bit_string octets = bits_value octets
    reading (named_bits n) octets = named_bits_value n octets
    reading (octet_string test) octets = text_value test octets
    reading (sequence cs) octets = components cs octets >>= λ vs. Ok (parts vs)
    reading (choice others) octets = chosen_by (alternatives others) octets >>= λ x. at_end x.1 >>= λ _. Ok x.0
    reading (list_of test m) octets = members_by (required_at m) (length octets) octets >>= counted test
    reading (such_that test f) octets = reading f octets >>= λ v. if test v then Ok v else Err fault.malformed
    reading (opaque constructed) octets = Ok (text octets)
    reading elements octets = elements_at octets >>= λ _. Ok nothing
    reading too_deep octets = Err fault.too_deep

    -- the element, as the alternative that its tag says
    pub alternatives : Alternatives → Part → Result Value Fault
    alternatives no_other p = Err fault.malformed
    alternatives (or n f others) p = if is_tag 2 (is_constructed f) n p.tag then (reading f p.contents >>= λ v. Ok (chosen n v)) else alternatives others p

    -- the first element, which is of the member, and what is left
    pub required_at : Member → List ℕ → Result (Value × List ℕ) Fault
    required_at (tagged class n f) octets = required_by (is_tag class (is_constructed f) n) (reading f) octets
    required_at (one_of others) octets = chosen_by (alternatives others) octets

    -- the first element where it has the member's tag, and what is left
    pub optional_at : Member → List ℕ → Result (Slot × List ℕ) Fault
    optional_at (tagged class n f) octets = optional_by (is_tag class (is_constructed f) n) (λ p. reading f p.contents) octets
    optional_at (one_of others) octets = optional_by (has_tag others) (alternatives others) octets

    -- the components, and nothing after them
    pub components : Components → List ℕ → Result Slots Fault
    components no_more octets = at_end octets >>= λ _. Ok done
    components any_more octets = elements_at octets >>= λ _. Ok done
    components (required m cs) octets = required_at m octets >>= λ x. components cs x.1 >>= λ vs. Ok (slot (given x.0) vs)
    components (optional m cs) octets = optional_at m octets >>= λ x. components cs x.1 >>= λ vs. Ok (slot x.0 vs)
    components (defaulted w m d cs) octets = defaulting d (optional_at m octets) >>= λ x. components cs x.1 >>= λ vs. Ok (slot x.0 vs)
    components (skipped m cs) octets = optional_at m octets >>= λ x. components cs x.1

  -- the first element where it has the member's tag, else the value, and what is left
  abbrev pub defaulted_at : Member → Value → List ℕ → Result (Slot × List ℕ) Fault
  defaulted_at m d octets = defaulting d (optional_at m octets)

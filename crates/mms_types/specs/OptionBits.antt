-- The bits of options: ITU-T X.690, 8.6.2, the first bit is the most significant one of the first octet.
use Rattle.std.specs.Prelude.{ℕ, zero, suc, ◌+◌, ◌-◌, ◌/◌, ◌%◌, ◌^◌, Bool, false, ◌||◌, ◌==◌, if◌then◌else◌, List, [], ◌∷◌, slice_index, IsBitSet}

-- the bit of that number is set
abbrev pub IsOptionSet : List ℕ → ℕ → Type 0
IsOptionSet octets bit = IsBitSet (slice_index octets (bit / 8)) (7 - bit % 8)

-- the bit of that number is one of these
abbrev is_among : List ℕ → ℕ → Bool
is_among [] bit = false
is_among (b ∷ bits) bit = bit == b || is_among bits bit

-- the bit of that number, at its place in the octet
abbrev bit_at : List ℕ → ℕ → ℕ → ℕ
bit_at bits bit place = if is_among bits bit then 2 ^ place else 0

-- the octet whose first bit has that number
abbrev octet_from : List ℕ → ℕ → ℕ
octet_from bits first =
    bit_at bits first 7 + bit_at bits (first + 1) 6 + bit_at bits (first + 2) 5 + bit_at bits (first + 3) 4
    + bit_at bits (first + 4) 3 + bit_at bits (first + 5) 2 + bit_at bits (first + 6) 1 + bit_at bits (first + 7) 0

abbrev octets_from : ℕ → List ℕ → ℕ → List ℕ
octets_from zero bits first = []
octets_from (suc n) bits first = octet_from bits first ∷ octets_from n bits (first + 8)

-- so many octets, in which the bits of these numbers are set and no others
abbrev pub option_octets : ℕ → List ℕ → List ℕ
option_octets n bits = octets_from n bits 0

-- ParameterSupportOptions: the number of each bit
abbrev pub str1 : ℕ
str1 = 0

abbrev pub str2 : ℕ
str2 = 1

abbrev pub vnam : ℕ
vnam = 2

abbrev pub valt : ℕ
valt = 3

abbrev pub vadr : ℕ
vadr = 4

abbrev pub vsca : ℕ
vsca = 5

abbrev pub tpy : ℕ
tpy = 6

abbrev pub vlis : ℕ
vlis = 7

abbrev pub real : ℕ
real = 8

abbrev pub cei : ℕ
cei = 10

-- ServiceSupportOptions: the number of each bit that is no service's (this profile's choice)
abbrev pub unsolicited_status : ℕ
unsolicited_status = 78

abbrev pub information_report : ℕ
information_report = 79

abbrev pub event_notification : ℕ
event_notification = 80

abbrev pub attach_to_event_condition : ℕ
attach_to_event_condition = 81

abbrev pub attach_to_semaphore : ℕ
attach_to_semaphore = 82

abbrev pub conclude : ℕ
conclude = 83

abbrev pub cancel : ℕ
cancel = 84

-- What a value says, and a default for a value of another form: by these the views of typed values are turned round.
use Rattle.std.specs.Prelude.{ℕ, ℤ, pos, Bool, false, List, [], ◌∷◌, Option, Some, None}
use Rattle.ber_forms.specs.Value.{Value, Slot, Slots, truth, number, bits, text, parts, missing, given, done, slot}

abbrev pub truth_of : Value → Bool
truth_of (truth b) = b
truth_of v = false

abbrev pub number_of : Value → ℤ
number_of (number n) = n
number_of v = pos 0

-- a number without a sign
abbrev pub natural_of : Value → ℕ
natural_of (number (pos n)) = n
natural_of v = 0

-- the octets of a bit string
abbrev pub bits_of : Value → List ℕ
bits_of (bits unused octets) = octets
bits_of v = []

abbrev pub text_of : Value → List ℕ
text_of (text octets) = octets
text_of v = []

-- what a component that may be missing says
abbrev pub if_given : {X : Type 0} → (Value → X) → Slot → Option X
if_given back missing = None
if_given back (given v) = Some (back v)

-- what each member of a list says
abbrev pub each_given : {X : Type 0} → (Value → X) → Slots → List X
each_given back done = []
each_given back (slot missing more) = each_given back more
each_given back (slot (given v) more) = back v ∷ each_given back more

abbrev pub members_of : {X : Type 0} → (Value → X) → Value → List X
members_of back (parts vs) = each_given back vs
members_of back v = []

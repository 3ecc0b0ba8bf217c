-- Which forms can be told apart, and which values have a spelling.
use Rattle.std.specs.Prelude.{◌≡◌, ℕ, ◌≤◌, pos, negsuc, ◌≤ℤ◌, int_le, Bool, true, false, not, ◌&&◌, IsTrue, MatchBool, List, [], ◌∷◌, ◌++◌, length, nat_lt, ◌==◌}
use Rattle.ber_core.specs.declared.element.Tag.{Tag}
use Rattle.ber_forms.specs.Value.{Value, Slot, Slots, nothing, truth, number, bits, text, chosen, parts, missing, given, done, slot, all_of}
use Rattle.ber_forms.specs.Form.{Form, Member, Alternatives, Components, AtDefault, left_out, written, null, boolean, integer, bit_string, named_bits, octet_string, sequence, choice, list_of, such_that, opaque, elements, tagged, one_of, no_other, or, no_more, any_more, required, optional, defaulted, skipped}
use Rattle.ber_forms.specs.Bits.{cleared, octets_for, unused_for}
use Rattle.ber_forms.specs.Spelling.{tag_of}
use Rattle.ber_forms.specs.InForm.{begins}
use Rattle.ber_forms.specs.ByNumber.{has_number}

abbrev pub alternative_tags : Alternatives → List Tag
alternative_tags no_other = []
alternative_tags (or n f others) = tag_of 2 n f ∷ alternative_tags others

abbrev pub tags_of : Member → List Tag
tags_of (tagged class n f) = tag_of class n f ∷ []
tags_of (one_of others) = alternative_tags others

-- the tags with which components may begin
abbrev pub first_tags : Components → List Tag
first_tags no_more = []
first_tags any_more = []
first_tags (required m cs) = tags_of m
first_tags (optional m cs) = tags_of m ++ first_tags cs
first_tags (defaulted w m d cs) = tags_of m ++ first_tags cs
first_tags (skipped m cs) = tags_of m ++ first_tags cs

abbrev pub apart : Member → List Tag → Bool
apart m [] = true
apart m (t ∷ ts) = not (begins m t) && apart m ts

-- the default can be told from other values: it is a number or a truth value, or the component is always written
abbrev pub can_be_default : AtDefault → Value → Bool
can_be_default written d = true
can_be_default left_out (number n) = true
can_be_default left_out (truth b) = true
can_be_default left_out d = false

-- numbers fit 64 bits, tags fit two octets, no alternative has another's number, and what may be missing is told from what follows it
abbrev mutual
  pub is_sound : Form → Bool
  is_sound (integer low high) = int_le (negsuc 9223372036854775807) low && int_le high (pos 9223372036854775807)
  is_sound (sequence cs) = sound_components cs
  is_sound (choice others) = sound_alternatives others
  is_sound (list_of test m) = sound_member m
  is_sound (such_that test f) = is_sound f
  is_sound f = true

  pub sound_member : Member → Bool
  sound_member (tagged class n f) = nat_lt class 4 && nat_lt n 16384 && is_sound f
  sound_member (one_of others) = sound_alternatives others

  pub sound_alternatives : Alternatives → Bool
  sound_alternatives no_other = true
  sound_alternatives (or n f others) = nat_lt n 16384 && is_sound f && sound_alternatives others && not (has_number others n)

  pub sound_components : Components → Bool
  sound_components no_more = true
  sound_components any_more = true
  sound_components (required m cs) = sound_member m && sound_components cs
  sound_components (optional m cs) = sound_member m && apart m (first_tags cs) && sound_components cs
  sound_components (defaulted w m d cs) = sound_member m && apart m (first_tags cs) && sound_components cs && can_be_default w d
  sound_components (skipped m cs) = sound_member m && apart m (first_tags cs) && sound_components cs

abbrev pub Every : (Value → Type 0) → List Value → Type 0
Every R [] = Unit {0}
Every R (v ∷ vs) = R v × Every R vs

abbrev pub AreUnused : ℕ → List ℕ → Type 0
AreUnused u [] = u ≡ 0
AreUnused u (a ∷ rest) = u ≤ 7

abbrev pub IfGiven : (Value → Type 0) → Slot → Type 0
IfGiven F missing = Unit {0}
IfGiven F (given v) = F v

-- the values of a form
abbrev mutual
  pub Fits : Form → Value → Type 0
  Fits null nothing = Unit {0}
  Fits boolean (truth b) = Unit {0}
  Fits (integer low high) (number n) = (low ≤ℤ n) × (n ≤ℤ high)
  Fits bit_string (bits u octets) = AreUnused u octets × (cleared u octets ≡ octets)
  Fits (named_bits n) (bits u octets) = (u ≡ unused_for n) × (length octets ≡ octets_for n) × (cleared u octets ≡ octets)
  Fits (octet_string test) (text octets) = IsTrue (test octets)
  Fits (sequence cs) (parts vs) = FitsAll cs vs
  Fits (choice others) v = FitsOne others v
  Fits (list_of test m) (parts vs) = (ws : List Value) × (vs ≡ all_of ws) × Every (FitsMember m) ws × IsTrue (test (length ws))
  Fits (such_that test f) v = Fits f v × IsTrue (test v)
  Fits (opaque constructed) (text octets) = Unit {0}
  Fits elements nothing = Unit {0}
  Fits f v = ⊥

  pub FitsMember : Member → Value → Type 0
  FitsMember (tagged class n f) v = Fits f v
  FitsMember (one_of others) v = FitsOne others v

  pub FitsOne : Alternatives → Value → Type 0
  FitsOne (or n f others) (chosen k v) = MatchBool (k == n) (Fits f v) (FitsOne others (chosen k v))
  FitsOne others v = ⊥

  pub FitsAll : Components → Slots → Type 0
  FitsAll no_more done = Unit {0}
  FitsAll any_more done = Unit {0}
  FitsAll (required m cs) (slot (given v) vs) = FitsMember m v × FitsAll cs vs
  FitsAll (optional m cs) (slot s vs) = IfGiven (FitsMember m) s × FitsAll cs vs
  FitsAll (defaulted w m d cs) (slot (given v) vs) = FitsMember m v × FitsAll cs vs
  FitsAll (skipped m cs) vs = FitsAll cs vs
  FitsAll cs vs = ⊥

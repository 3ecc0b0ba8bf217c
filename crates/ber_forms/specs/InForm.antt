-- Which contents are of a form, and which value they say.
use Rattle.std.specs.Prelude.{◌≡◌, ℕ, ℤ, ◌≤ℤ◌, Bool, true, false, IsTrue, MatchBool, List, [], ◌∷◌, length}
use Rattle.ber_core.specs.declared.element.Tag.{Tag}
use Rattle.ber_core.specs.declared.element.Lengths.{Lengths}
use Rattle.ber_core.specs.Part.{Part}
use Rattle.ber_core.specs.Element.{IsElement, IsCut}
use Rattle.ber_core.specs.Leaf.{IsInteger, IsBoolean, IsBits}
use Rattle.ber_forms.specs.Value.{Value, Slots, nothing, truth, number, bits, text, chosen, parts, missing, given, done, slot, all_of}
use Rattle.ber_forms.specs.Bits.{cleared, first_bits, unused_for}
use Rattle.ber_forms.specs.Form.{Form, Member, Alternatives, Components, null, boolean, integer, bit_string, named_bits, octet_string, sequence, choice, list_of, such_that, opaque, elements, too_deep, tagged, one_of, no_other, or, no_more, any_more, required, optional, defaulted, skipped}
use Rattle.ber_forms.specs.Reading.{is_constructed, is_tag, has_tag}

-- the tag is one of the member's
abbrev pub begins : Member → Tag → Bool
begins (tagged class n f) t = is_tag class (is_constructed f) n t
begins (one_of others) t = has_tag others t

-- one value for each of the elements
abbrev pub AreMembers : (Part → Value → Type 0) → List Part → List Value → Type 0
AreMembers R [] [] = Unit {0}
AreMembers R (p ∷ ps) (v ∷ vs) = R p v × AreMembers R ps vs
AreMembers R ps vs = ⊥

-- Each of these takes which forms of lengths elements have first.
module _ (lengths : Lengths) where
  abbrev mutual
    -- contents of the form (ITU-T X.690, 8.2, 8.3, 8.6 to 8.14)
    pub InForm : Form → List ℕ → Value → Type 0
    InForm null c v = (c ≡ []) × (v ≡ nothing)
    InForm boolean c v = (b : Bool) × IsBoolean c b × (v ≡ truth b)
    InForm (integer low high) c v = (n : ℤ) × IsInteger c n × (low ≤ℤ n) × (n ≤ℤ high) × (v ≡ number n)
    InForm bit_string c v = (unused : ℕ) × (octets : List ℕ) × IsBits c unused octets × (v ≡ bits unused (cleared unused octets))
    InForm (named_bits n) c v = (unused : ℕ) × (octets : List ℕ) × IsBits c unused octets × (v ≡ bits (unused_for n) (first_bits n unused octets))
    InForm (octet_string test) c v = IsTrue (test c) × (v ≡ text c)
    InForm (sequence cs) c v = (ps : List Part) × (vs : Slots) × IsCut lengths c ps × AreComponents cs ps vs × (v ≡ parts vs)
    InForm (choice others) c v = (p : Part) × IsElement lengths c p × IsAlternative others p v
    InForm (list_of test m) c v = (ps : List Part) × (vs : List Value) × IsCut lengths c ps × AreMembers (IsMember m) ps vs × IsTrue (test (length vs)) × (v ≡ parts (all_of vs))
    InForm (such_that test f) c v = InForm f c v × IsTrue (test v)
    InForm (opaque constructed) c v = v ≡ text c
    InForm elements c v = (ps : List Part) × IsCut lengths c ps × (v ≡ nothing)
    InForm too_deep c v = ⊥

    -- an element of the member's tag and form
    pub IsMember : Member → Part → Value → Type 0
    IsMember (tagged class n f) p v = IsTrue (is_tag class (is_constructed f) n p.tag) × InForm f p.contents v
    IsMember (one_of others) p v = IsAlternative others p v

    -- the alternative that the tag says
    pub IsAlternative : Alternatives → Part → Value → Type 0
    IsAlternative no_other p v = ⊥
    IsAlternative (or n f others) p v = MatchBool (is_tag 2 (is_constructed f) n p.tag) ((w : Value) × InForm f p.contents w × (v ≡ chosen n w)) (IsAlternative others p v)

    -- The components in order, none twice and no others. One that may be missing is there where the next element has its tag.
    pub AreComponents : Components → List Part → Slots → Type 0
    AreComponents no_more [] done = Unit {0}
    AreComponents any_more ps done = Unit {0}
    AreComponents (required m cs) (p ∷ ps) (slot (given v) vs) = IsMember m p v × AreComponents cs ps vs
    AreComponents (optional m cs) [] (slot missing vs) = AreComponents cs [] vs
    AreComponents (optional m cs) (p ∷ ps) (slot missing vs) = (begins m p.tag ≡ false) × AreComponents cs (p ∷ ps) vs
    AreComponents (optional m cs) (p ∷ ps) (slot (given v) vs) = (begins m p.tag ≡ true) × IsMember m p v × AreComponents cs ps vs
    AreComponents (defaulted w m d cs) [] (slot (given v) vs) = (v ≡ d) × AreComponents cs [] vs
    AreComponents (defaulted w m d cs) (p ∷ ps) (slot (given v) vs) = MatchBool (begins m p.tag) (IsMember m p v × AreComponents cs ps vs) ((v ≡ d) × AreComponents cs (p ∷ ps) vs)
    AreComponents (skipped m cs) [] vs = AreComponents cs [] vs
    AreComponents (skipped m cs) (p ∷ ps) vs = MatchBool (begins m p.tag) ((v : Value) × IsMember m p v × AreComponents cs ps vs) (AreComponents cs (p ∷ ps) vs)
    AreComponents cs ps vs = ⊥

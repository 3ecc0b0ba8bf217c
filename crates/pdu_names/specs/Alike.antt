-- Forms that spell each value alike.
use Rattle.std.proofs.Common.{◌≡◌, ℕ, Bool, List, [], ◌++◌, refl, ap, ap₂, ◌∙◌}
use Rattle.std.specs.Prelude.{if◌then◌else◌, ◌==◌}
use Rattle.ber_core.specs.Spelling.{element_octets}
use Rattle.ber_forms.specs.Value.{Value, Slot, Slots, text, chosen, parts, missing, given, done, slot}
use Rattle.ber_forms.specs.Form.{Form, Member, Components, Alternatives, AtDefault, left_out, written, tagged, required, optional, defaulted, skipped, octet_string, sequence, choice, list_of, such_that, or}
use Rattle.ber_forms.specs.Reading.{is_constructed}
use Rattle.ber_forms.specs.Spelling.{tag_of, spelling, member_octets, slot_octets, unless_default, default_octets, each_octets, is_default, component_octets, alternative_octets}

-- two forms, two members, the components or the alternatives of two
abbrev pub SpellAlike : Form → Form → Type 0
SpellAlike f g = (is_constructed f ≡ is_constructed g) × ((v : Value) → spelling f v ≡ spelling g v)

abbrev pub MembersAlike : Member → Member → Type 0
MembersAlike m n = (v : Value) → member_octets m v ≡ member_octets n v

abbrev pub ComponentsAlike : Components → Components → Type 0
ComponentsAlike cs ds = (vs : Slots) (before : List ℕ) → component_octets cs vs before ≡ component_octets ds vs before

abbrev pub ChoicesAlike : Alternatives → Alternatives → Type 0
ChoicesAlike others more = (v : Value) → alternative_octets others v ≡ alternative_octets more v

tags_alike : (class n : ℕ) (f g : Form) → is_constructed f ≡ is_constructed g → (o : List ℕ) → element_octets (tag_of class n f) o ≡ element_octets (tag_of class n g) o
tags_alike class n f g e o = ap (λ (b : Bool). element_octets (record { class = class; constructed = b; number = n }) o) e

elements_alike : (class n : ℕ) (f g : Form) → SpellAlike f g → (v : Value) → element_octets (tag_of class n f) (spelling f v) ≡ element_octets (tag_of class n g) (spelling g v)
elements_alike class n f g h v = ap (λ (o : List ℕ). element_octets (tag_of class n f) o) (h.1 v) ∙ tags_alike class n f g h.0 (spelling g v)

pub tagged_alike : (class n : ℕ) (f g : Form) → SpellAlike f g → MembersAlike (tagged class n f) (tagged class n g)
tagged_alike class n f g h v = elements_alike class n f g h v

slots_alike : (m n : Member) → MembersAlike m n → (s : Slot) → slot_octets (member_octets m) s ≡ slot_octets (member_octets n) s
slots_alike m n h missing = refl
slots_alike m n h (given v) = h v

unless_alike : (m n : Member) → MembersAlike m n → (d : Value) (s : Slot) → unless_default (member_octets m) d s ≡ unless_default (member_octets n) d s
unless_alike m n h d missing = refl
unless_alike m n h d (given v) = ap (λ (o : List ℕ). if is_default v d then [] else o) (h v)

default_alike : (w : AtDefault) (m n : Member) → MembersAlike m n → (d : Value) (s : Slot) → default_octets w (member_octets m) d s ≡ default_octets w (member_octets n) d s
default_alike left_out m n h d s = unless_alike m n h d s
default_alike written m n h d s = slots_alike m n h s

pub required_alike : (m n : Member) (cs ds : Components) → MembersAlike m n → ComponentsAlike cs ds → ComponentsAlike (required m cs) (required n ds)
required_alike m n cs ds h k done before = refl
required_alike m n cs ds h k (slot s vs) before = ap (λ (o : List ℕ). component_octets cs vs (before ++ o)) (slots_alike m n h s) ∙ k vs (before ++ slot_octets (member_octets n) s)

pub optional_alike : (m n : Member) (cs ds : Components) → MembersAlike m n → ComponentsAlike cs ds → ComponentsAlike (optional m cs) (optional n ds)
optional_alike m n cs ds h k done before = refl
optional_alike m n cs ds h k (slot s vs) before = ap (λ (o : List ℕ). component_octets cs vs (before ++ o)) (slots_alike m n h s) ∙ k vs (before ++ slot_octets (member_octets n) s)

pub defaulted_alike : (w : AtDefault) (m n : Member) (d : Value) (cs ds : Components) → MembersAlike m n → ComponentsAlike cs ds → ComponentsAlike (defaulted w m d cs) (defaulted w n d ds)
defaulted_alike w m n d cs ds h k done before = refl
defaulted_alike w m n d cs ds h k (slot s vs) before = ap (λ (o : List ℕ). component_octets cs vs (before ++ o)) (default_alike w m n h d s) ∙ k vs (before ++ default_octets w (member_octets n) d s)

pub skipped_alike : (m n : Member) (cs ds : Components) → ComponentsAlike cs ds → ComponentsAlike (skipped m cs) (skipped n ds)
skipped_alike m n cs ds k vs before = k vs before

pub sequence_alike : (cs ds : Components) → ComponentsAlike cs ds → SpellAlike (sequence cs) (sequence ds)
sequence_alike cs ds h = (refl, spelled)
  where
    spelled : (v : Value) → spelling (sequence cs) v ≡ spelling (sequence ds) v
    spelled (parts vs) = h vs []
    spelled v = refl

each_alike : (m n : Member) → MembersAlike m n → (vs : Slots) → each_octets (member_octets m) vs ≡ each_octets (member_octets n) vs
each_alike m n h done = refl
each_alike m n h (slot s vs) = ap₂ (λ (a b : List ℕ). a ++ b) (slots_alike m n h s) (each_alike m n h vs)

pub list_alike : (test : ℕ → Bool) (m n : Member) → MembersAlike m n → SpellAlike (list_of test m) (list_of test n)
list_alike test m n h = (refl, spelled)
  where
    spelled : (v : Value) → spelling (list_of test m) v ≡ spelling (list_of test n) v
    spelled (parts vs) = each_alike m n h vs
    spelled v = refl

pub or_alike : (n : ℕ) (f g : Form) (others more : Alternatives) → SpellAlike f g → ChoicesAlike others more → ChoicesAlike (or n f others) (or n g more)
or_alike n f g others more h k (chosen i v) = ap₂ (λ (a b : List ℕ). if i == n then a else b) (elements_alike 2 n f g h v) (k (chosen i v))
or_alike n f g others more h k v = refl

pub choice_alike : (others more : Alternatives) → ChoicesAlike others more → SpellAlike (choice others) (choice more)
choice_alike others more h = (refl, h)

pub such_alike : (test : Value → Bool) (f g : Form) → SpellAlike f g → SpellAlike (such_that test f) (such_that test g)
such_alike test f g h = (h.0, h.1)

pub alike_itself : (f : Form) → SpellAlike f f
alike_itself f = (refl, λ v. refl)

-- the tests of octets don't count
pub texts_alike : (test other : List ℕ → Bool) → SpellAlike (octet_string test) (octet_string other)
texts_alike test other = (refl, spelled)
  where
    spelled : (v : Value) → spelling (octet_string test) v ≡ spelling (octet_string other) v
    spelled (text o) = refl
    spelled v = refl

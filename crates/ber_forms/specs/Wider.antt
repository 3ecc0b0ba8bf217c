-- Forms of which one takes all that the other takes, and says the same of it.
use Rattle.std.specs.Prelude.{◌≡◌, ℕ, List}
use Rattle.ber_core.specs.declared.element.Tag.{Tag}
use Rattle.ber_core.specs.declared.element.Lengths.{Lengths}
use Rattle.ber_core.specs.Part.{Part}
use Rattle.ber_forms.specs.Value.{Value, Slots}
use Rattle.ber_forms.specs.Form.{Form, Member, Components, Alternatives}
use Rattle.ber_forms.specs.Reading.{is_constructed}
use Rattle.ber_forms.specs.InForm.{begins, InForm, IsMember, IsAlternative, AreComponents}

-- two forms, two members, the components or the alternatives of two
pub record Widens (f g : Form) : Type 0 where
  pub bit : is_constructed f ≡ is_constructed g
  pub takes : (lengths : Lengths) (c : List ℕ) (v : Value) → InForm lengths f c v → InForm lengths g c v

abbrev pub MemberWidens : Member → Member → Type 0
MemberWidens m n = (lengths : Lengths) (p : Part) (v : Value) → IsMember lengths m p v → IsMember lengths n p v

abbrev pub ComponentsWiden : Components → Components → Type 0
ComponentsWiden cs ds = (lengths : Lengths) (ps : List Part) (vs : Slots) → AreComponents lengths cs ps vs → AreComponents lengths ds ps vs

-- the wider choice may have further alternatives
abbrev pub ChoiceWidens : Alternatives → Alternatives → Type 0
ChoiceWidens others more = (lengths : Lengths) (p : Part) (v : Value) → IsAlternative lengths others p v → IsAlternative lengths more p v

-- two members of which each begins with the tags of the other
abbrev pub BeginAlike : Member → Member → Type 0
BeginAlike m n = (t : Tag) → begins m t ≡ begins n t

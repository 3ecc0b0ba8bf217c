-- Which elements nest too deep: an array or a structure for which no depth is left, or one whose first parts are of their form and
-- whose next part nests too deep by one level less.
use Rattle.std.specs.Prelude.{◌≡◌, ◌⊎◌, ℕ, zero, suc, Bool, true, ◌||◌, IsTrue, MatchBool, List, ◌++◌, pos}
use Rattle.ber_core.specs.declared.element.Tag.{Tag}
use Rattle.ber_core.specs.declared.element.Lengths.{Lengths}
use Rattle.ber_core.specs.Part.{Part}
use Rattle.ber_core.specs.Element.{IsCut}
use Rattle.ber_forms.specs.Value.{Value}
use Rattle.ber_forms.specs.Reading.{is_tag}
use Rattle.ber_forms.specs.Form.{Member, one_of, context}
use Rattle.ber_forms.specs.Form as form
use Rattle.ber_forms.specs.InForm.{AreMembers, IsMember}
use Rattle.ber_forms.specs.TooDeep.{IsAlternativeTooDeep, BeginsWith, BeginsOtherwise}
use Rattle.mms_types.specs.declared.identifier.Edition.{Edition}
use Rattle.pdu_names.specs.Names.{identifier}
use Rattle.pdu_data.specs.Data.{data_alternatives}
use Rattle.pdu_data.specs.Types.{type_alternatives, component_member}

-- an array or a structure
abbrev pub is_nested : Tag → Bool
is_nested t = is_tag 2 true 1 t || is_tag 2 true 2 t

abbrev pub IsDeepData : Lengths → ℕ → Part → Type 0
IsDeepData lengths zero p = IsTrue (is_nested p.tag)
IsDeepData lengths (suc d) p =
    IsTrue (is_nested p.tag)
    × ((front : List ℕ) × (ps : List Part) × (vs : List Value) × (more : List ℕ) × (next : Part) × (rest : List ℕ)
    × (p.contents ≡ front ++ more) × IsCut lengths front ps × AreMembers (IsMember lengths (one_of (data_alternatives d))) ps vs × BeginsWith lengths more next rest × IsDeepData lengths d next)

-- the form of data that nests no deeper than the number reads the element as too deep
abbrev pub IsTooDeepData : Lengths → ℕ → Part → Type 0
IsTooDeepData lengths d p = IsAlternativeTooDeep lengths (data_alternatives d) p

-- ---- types

-- the octets begin with an element of the member, and what is left is so
abbrev pub IsBehind : Lengths → Member → (List ℕ → Type 0) → List ℕ → Type 0
IsBehind lengths m IsSo c = (p : Part) × (rest : List ℕ) × BeginsWith lengths c p rest × ((v : Value) × IsMember lengths m p v × IsSo rest)

-- the same, where the element may be missing
abbrev pub IsBehindOptional : Lengths → Member → (List ℕ → Type 0) → List ℕ → Type 0
IsBehindOptional lengths m IsSo c = IsBehind lengths m IsSo c ⊎ (BeginsOtherwise lengths m c × IsSo c)

-- the octets begin with an element of this number whose contents begin with such a type
abbrev pub BeginsWithType : Lengths → ℕ → (Part → Type 0) → List ℕ → Type 0
BeginsWithType lengths n IsSuch c =
    (p : Part) × (rest : List ℕ) × BeginsWith lengths c p rest
    × (IsTrue (is_tag 2 true n p.tag) × ((inner : Part) × (later : List ℕ) × BeginsWith lengths p.contents inner later × IsSuch inner))

-- packed, numberOfElements, and an elementType that nests too deep
abbrev pub IsDeepArray : Lengths → (Part → Type 0) → List ℕ → Type 0
IsDeepArray lengths IsDeep =
    IsBehindOptional lengths (context 0 form.boolean) (
    IsBehind lengths (context 1 (form.integer (pos 0) (pos 4096))) (
    BeginsWithType lengths 2 IsDeep))

-- a component: its name, where it has one, and a componentType that nests too deep
abbrev pub IsDeepComponent : Lengths → Edition → (Part → Type 0) → Part → Type 0
IsDeepComponent lengths edition IsDeep p =
    IsTrue (is_tag 0 true 16 p.tag) × IsBehindOptional lengths (context 0 (identifier.form edition)) (BeginsWithType lengths 1 IsDeep) p.contents

-- components of which the first ones nest one level less deep, and the next one too deep
abbrev pub BeginsWithComponents : Lengths → Edition → ℕ → (Part → Type 0) → List ℕ → Type 0
BeginsWithComponents lengths edition d IsDeep c =
    (p : Part) × (rest : List ℕ) × BeginsWith lengths c p rest × (IsTrue (is_tag 2 true 1 p.tag)
    × ((front : List ℕ) × (ps : List Part) × (vs : List Value) × (more : List ℕ) × (next : Part) × (later : List ℕ)
    × (p.contents ≡ front ++ more) × IsCut lengths front ps × AreMembers (IsMember lengths (component_member edition (type_alternatives edition d))) ps vs
    × BeginsWith lengths more next later × IsDeepComponent lengths edition IsDeep next))

-- packed, and such components
abbrev pub IsDeepStructure : Lengths → Edition → ℕ → (Part → Type 0) → List ℕ → Type 0
IsDeepStructure lengths edition d IsDeep = IsBehindOptional lengths (context 0 form.boolean) (BeginsWithComponents lengths edition d IsDeep)

abbrev pub IsDeepType : Lengths → Edition → ℕ → Part → Type 0
IsDeepType lengths edition zero p = IsTrue (is_nested p.tag)
IsDeepType lengths edition (suc d) p =
    MatchBool (is_tag 2 true 1 p.tag) (IsDeepArray lengths (IsDeepType lengths edition d) p.contents) (
    IsTrue (is_tag 2 true 2 p.tag) × IsDeepStructure lengths edition d (IsDeepType lengths edition d) p.contents)

-- the form of types that nest no deeper than the number reads the element as too deep
abbrev pub IsTooDeepType : Lengths → Edition → ℕ → Part → Type 0
IsTooDeepType lengths edition d p = IsAlternativeTooDeep lengths (type_alternatives edition d) p

-- How types are spelled, whatever depth is left.
use Rattle.std.proofs.Common.{◌≡◌, ℕ, zero, suc, ◌+◌, ◌≤◌, ◌<◌, max, Bool, true, false, List, [], ◌∷◌, ◌++◌, length, take, get_or, Option, None, Some, Result, Ok, Err, refl, sym, ap, ap₂, ◌∙◌, append_assoc, arith}
use Rattle.std.proofs.lemmas.List.{append-nil}
use Rattle.std.proofs.lemmas.Grind.{take_at_read}
use Rattle.std.specs.Prelude.{OnOk}
use Rattle.ber_core.specs.Part.{Part}
use Rattle.ber_core.specs.Spelling.{element_octets}
use Rattle.ber_core.specs.declared.fault.Memory.{Memory as Full}
use Rattle.ber_forms.specs.Value.{Value, chosen, all_of}
use Rattle.ber_forms.specs.Form as form
use Rattle.ber_forms.specs.Reading.{is_tag, reading, alternatives}
use Rattle.pdu_names.specs.Editions.{lengths_of}
use Rattle.ber_forms.specs.Spelling.{tag_of, each_octets, member_octets, alternative_octets}
use Rattle.mms_types.specs.declared.identifier.Edition.{Edition}
use Rattle.mms_types.specs.declared.type_spec.Component.{Component}
use Rattle.mms_types.specs.SeenType.{fields}
use Rattle.mms_types.specs.Shape.{Shape, Fields, array, structure, boolean, bits, integer, unsigned, floating, octets, visible, time, no_field, field, shape_depth, fields_depth}
use Rattle.pdu_data.specs.Types.{array_form, simple_types, type_alternatives, component_member, component_value, type_value, field_values, array_octets, structure_octets, floating_octets, named_octets, type_octets, field_octets}

-- ---- how it is spelled, in each edition

mutual
  unfolding type_alternatives

  pub type_spelled : (edition : Edition) (d : ℕ) (s : Shape) → shape_depth s ≤ d → alternative_octets (type_alternatives edition d) (type_value s) ≡ type_octets s
  type_spelled edition zero (array packed n s) deep = absurd (omega (arith, deep))
  type_spelled edition (suc d) (array packed n s) deep =
      ap (λ (o : List ℕ). element_octets (tag_of 2 1 form.elements) (array_octets packed n o [])) (type_spelled edition d s (omega (arith, deep)))
  type_spelled edition zero (structure packed fs) deep = absurd (omega (arith, deep))
  type_spelled edition (suc d) (structure packed fs) deep =
      ap (λ (o : List ℕ). element_octets (tag_of 2 2 form.elements) (structure_octets packed o [])) (fields_spelled edition d fs (omega (arith, deep)))
  type_spelled edition zero boolean deep = refl
  type_spelled edition (suc d) boolean deep = refl
  type_spelled edition zero (bits n) deep = refl
  type_spelled edition (suc d) (bits n) deep = refl
  type_spelled edition zero (integer w) deep = refl
  type_spelled edition (suc d) (integer w) deep = refl
  type_spelled edition zero (unsigned w) deep = refl
  type_spelled edition (suc d) (unsigned w) deep = refl
  type_spelled edition zero (floating w e) deep = refl
  type_spelled edition (suc d) (floating w e) deep = refl
  type_spelled edition zero (octets n) deep = refl
  type_spelled edition (suc d) (octets n) deep = refl
  type_spelled edition zero (visible n) deep = refl
  type_spelled edition (suc d) (visible n) deep = refl
  type_spelled edition zero (time dated) deep = refl
  type_spelled edition (suc d) (time dated) deep = refl

  fields_spelled : (edition : Edition) (d : ℕ) (fs : Fields) → fields_depth fs ≤ d
      → each_octets (member_octets (component_member edition (type_alternatives edition d))) (all_of (field_values fs)) ≡ field_octets fs
  fields_spelled edition d no_field deep = refl
  fields_spelled edition d (field None s fs) deep =
      ap₂ (λ (a b : List ℕ). element_octets (tag_of 0 16 form.elements) (named_octets None a []) ++ b) (type_spelled edition d s (omega (arith, deep))) (fields_spelled edition d fs (omega (arith, deep)))
  fields_spelled edition d (field (Some name) s fs) deep =
      ap₂ (λ (a b : List ℕ). element_octets (tag_of 0 16 form.elements) (named_octets (Some name) a []) ++ b) (type_spelled edition d s (omega (arith, deep))) (fields_spelled edition d fs (omega (arith, deep)))

-- what was written is the spelling
pub type_written : (edition : Edition) (d : ℕ) (s : Shape) (before after : List ℕ) (result : Result (Unit {0}) Full) → shape_depth s ≤ d
    → OnOk result (after ≡ before ++ type_octets s) → OnOk result (after ≡ before ++ alternative_octets (type_alternatives edition d) (type_value s))
type_written edition d s before after (Ok u) deep is = is ∙ ap (λ (o : List ℕ). before ++ o) (sym (type_spelled edition d s deep))
type_written edition d s before after (Err e) deep is = tt

-- ---- contents that were written after what stood before, and made an element

pub array_after : (packed : Bool) (n : ℕ) (inner before : List ℕ) → array_octets packed n inner before ≡ before ++ array_octets packed n inner []
array_after packed n inner before = simp append_assoc

pub structure_after : (packed : Bool) (inner before : List ℕ) → structure_octets packed inner before ≡ before ++ structure_octets packed inner []
structure_after packed inner before = simp append_assoc

pub floating_after : (w e : ℕ) (before : List ℕ) → floating_octets w e before ≡ before ++ floating_octets w e []
floating_after w e before = simp append_assoc

pub named_after : (name : Option (List ℕ)) (inner before : List ℕ) → named_octets name inner before ≡ before ++ named_octets name inner []
named_after name inner before = simp append_assoc

-- ---- components, as a list and as fields

pub values_push : (cs : List Component) (c : Component) → field_values (fields (cs ++ c ∷ [])) ≡ field_values (fields cs) ++ component_value c.name (type_value c.spec) ∷ []
values_push [] c = refl
values_push (d ∷ cs) c = ap (λ (vs : List Value). component_value d.name (type_value d.spec) ∷ vs) (values_push cs c)

pub depth_push : (cs : List Component) (c : Component) → fields_depth (fields (cs ++ c ∷ [])) ≡ max (fields_depth (fields cs)) (shape_depth c.spec)
depth_push [] c = omega arith
depth_push (d ∷ cs) c = omega (arith, depth_push cs c)

-- the octets of one component
abbrev pub component_octets : Component → List ℕ
component_octets c = element_octets (tag_of 0 16 form.elements) (named_octets c.name (type_octets c.spec) [])

pub octets_push : (cs : List Component) (c : Component) → field_octets (fields (cs ++ c ∷ [])) ≡ field_octets (fields cs) ++ component_octets c
octets_push [] c = append-nil (component_octets c)
octets_push (d ∷ cs) c = ap (λ (o : List ℕ). component_octets d ++ o) (octets_push cs c) ∙ sym (append_assoc (component_octets d) (field_octets (fields cs)) (component_octets c))

-- the components before the next one, and it
pub octets_next : (cs : List Component) (i : ℕ) (c : Component) → i < length cs → c ≡ get_or cs i c → field_octets (fields (take (i + 1) cs)) ≡ field_octets (fields (take i cs)) ++ component_octets c
octets_next cs i c lt is =
    ap (λ ds. field_octets (fields ds)) ((take_at_read cs i c lt).1 ∙ ap (λ d. take i cs ++ d ∷ []) (sym is)) ∙ octets_push (take i cs) c

-- ---- how an array is read

pub array_read : (edition : Edition) (most d : ℕ) (p : Part) (v : Value) → most ≡ suc d → is_tag 2 true 1 p.tag ≡ true → reading (lengths_of edition) (array_form (type_alternatives edition d)) p.contents ≡ Ok v
    → alternatives (lengths_of edition) (type_alternatives edition most) p ≡ Ok (chosen 1 v)
unfolding type_alternatives
array_read edition most d p v is tag read = rw (is, tag, read) refl

-- an element that is neither an array nor a structure is read as a simple type, whatever depth is left
pub type_simple : (edition : Edition) (d : ℕ) (p : Part) → is_tag 2 true 1 p.tag ≡ false → is_tag 2 true 2 p.tag ≡ false
    → alternatives (lengths_of edition) (type_alternatives edition d) p ≡ alternatives (lengths_of edition) simple_types p
unfolding type_alternatives
type_simple edition zero p a s = rw (a, s) refl
type_simple edition (suc d) p a s = rw (a, s) refl

-- Each part of a type nests less deep than the type.
use Rattle.std.specs.Prelude.{◌≡◌, ◌≤◌, ◌+◌, ◌*◌, max, List, [], ◌∷◌}
use Rattle.std.proofs.Common.{refl, arith}
use denote.Param.Weighed.{most}
use Rattle.mms_types.specs.declared.type_spec.TypeKind.{TypeKind}
use Rattle.mms_types.specs.declared.type_spec.TypeKind.TheVariants as kind
use Rattle.mms_types.specs.declared.type_spec.Component.{Component}
use Rattle.mms_types.specs.declared.type_spec.TypeSpec.TheDeep.{deep-TypeKind, deep-Component, size-Component}
use Rattle.mms_types.specs.Shape.{shape_depth, fields_depth}
use Rattle.mms_types.specs.SeenType.{seen_type, fields}

pub most_le-fields_depth : (cs : List Component) → most (λ c. deep-Component c) cs ≤ fields_depth (fields cs) + 1
most_le-fields_depth [] = omega arith
most_le-fields_depth (c ∷ cs) = omega (arith, most_le-fields_depth cs)

pub deep_le-shape_depth : (k : TypeKind) → max (deep-TypeKind k) 0 ≤ shape_depth (seen_type k)
deep_le-shape_depth (kind.Array packed count element) = omega arith
deep_le-shape_depth (kind.Structure packed components) = omega (arith, most_le-fields_depth components.items)
deep_le-shape_depth kind.Boolean = omega arith
deep_le-shape_depth (kind.Bits n) = omega arith
deep_le-shape_depth (kind.Integer w) = omega arith
deep_le-shape_depth (kind.Unsigned w) = omega arith
deep_le-shape_depth (kind.Floating w e) = omega arith
deep_le-shape_depth (kind.Octets n) = omega arith
deep_le-shape_depth (kind.Visible n) = omega arith
deep_le-shape_depth (kind.Time dated) = omega arith

size_is : (c : Component) → size-Component c ≡ 3 * max (shape_depth c.spec + 1) 0 + 1
size_is c = refl

-- the greatest size of a list of components, as a recursion over them falls by it
pub component_sizes_below : (cs : List Component) → most (λ c. size-Component c) cs ≤ 3 * (fields_depth (fields cs) + 1) + 2
component_sizes_below [] = omega arith
component_sizes_below (c ∷ cs) = omega (arith, size_is c, component_sizes_below cs)

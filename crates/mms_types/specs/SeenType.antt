-- What the parts of a type are seen as.
use Rattle.std.specs.Prelude.{List, [], ◌∷◌}
use Rattle.mms_types.specs.declared.type_spec.TypeKind.{TypeKind}
use Rattle.mms_types.specs.declared.type_spec.TypeKind.TheVariants as kind
use Rattle.mms_types.specs.declared.type_spec.Component.{Component}
use Rattle.mms_types.specs.Shape.{Shape, Fields, array, structure, boolean, bits, integer, unsigned, floating, octets, visible, time, no_field, field}

abbrev pub fields : List Component → Fields
fields [] = no_field
fields (c ∷ cs) = field c.name c.spec (fields cs)

abbrev pub seen_type : TypeKind → Shape
seen_type (kind.Array packed count element) = array packed count element.value
seen_type (kind.Structure packed components) = structure packed (fields components.items)
seen_type kind.Boolean = boolean
seen_type (kind.Bits n) = bits n
seen_type (kind.Integer w) = integer w
seen_type (kind.Unsigned w) = unsigned w
seen_type (kind.Floating w e) = floating w e
seen_type (kind.Octets n) = octets n
seen_type (kind.Visible n) = visible n
seen_type (kind.Time dated) = time dated

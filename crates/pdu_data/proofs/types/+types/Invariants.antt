use Rattle.std.proofs.Common.{length, ◌+◌, ◌*◌, ◌≤◌}
use Rattle.ber_forms.proofs.Loop.{ReadSoFar}
use Rattle.mms_types.specs.Shape.{fields_depth}
use Rattle.mms_types.specs.SeenType.{fields}
use Rattle.pdu_names.specs.Editions.{lengths_of}
use Rattle.pdu_data.specs.Types.{type_alternatives, component_member, field_values}
use Rattle.pdu_data.proofs.types.+types.Given as goal

abbrev pub decreases-one : goal.decreases-one
decreases-one l = 8 * l.most

abbrev pub decreases-whole : goal.decreases-whole
decreases-whole l = 8 * l.most + 1

abbrev pub decreases-required_type : goal.decreases-required_type
decreases-required_type l = 8 * l.most + 2

abbrev pub decreases-component : goal.decreases-component
decreases-component l = 8 * l.most + 3

abbrev pub decreases-next : goal.decreases-next
decreases-next l = 8 * l.most + 4

abbrev pub decreases-components : goal.decreases-components
decreases-components l = 8 * l.most + 5

abbrev pub decreases-required_components : goal.decreases-required_components
decreases-required_components l = 8 * l.most + 6

abbrev pub decreases-structure : goal.decreases-structure
decreases-structure l = 8 * l.most + 7

abbrev pub decreases-array : goal.decreases-array
decreases-array l = 8 * l.most + 7

abbrev pub invariant-components-loop-parts : goal.invariant-components-loop-parts
invariant-components-loop-parts l =
    ReadSoFar (lengths_of l.edition) (component_member l.edition (type_alternatives l.edition l.most)) (field_values (fields l.found.items)) l.parts l.contents
    × (fields_depth (fields l.found.items) ≤ l.most)

abbrev pub decreases-components-loop-parts : goal.decreases-components-loop-parts
decreases-components-loop-parts l = length l.parts.octets

use Rattle.std.proofs.Common.{◌≡◌, ◌++◌, take}
use Rattle.mms_types.specs.SeenType.{fields}
use Rattle.pdu_data.specs.Types.{field_octets}
use Rattle.pdu_data.proofs.type_writing.+put_types.Given as goal

abbrev pub invariant-put_components-loop-component : goal.invariant-put_components-loop-component
invariant-put_components-loop-component l = l.out ≡ l.fn.out ++ field_octets (fields (take l.component-index l.components))

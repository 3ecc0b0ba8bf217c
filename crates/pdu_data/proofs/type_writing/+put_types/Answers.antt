use Rattle.std.proofs.Common.{◌≡◌, ◌+◌, ℕ, List, ◌++◌, take, refl, sym, ap, ◌∙◌, append_assoc, arith}
use Rattle.mms_types.specs.TypeFallsLaws.{component_sizes_below}
use Rattle.mms_types.specs.Shape.{shape_depth, fields_depth}
use Rattle.mms_types.specs.SeenType.{fields}
use Rattle.pdu_data.specs.Types.{field_octets}
use Rattle.pdu_data.proofs.TypeLaws.{component_octets, octets_next}
use Rattle.pdu_data.proofs.type_writing.+put_types.Goals as goal

pub put_components-loop-component-preserved : goal.put_components-loop-component-preserved
put_components-loop-component-preserved t c =
    let before = field_octets (fields (take c.loop-component.component-index c.args.components.now)) in
    c.in_ok-put_component_part.ensures.ok ∙ ap (λ (o : List ℕ). o ++ component_octets c.component-item.result) c.loop-component.invariant
    ∙ append_assoc c.args.out.now before (component_octets c.component-item.result)
    ∙ ap (λ (o : List ℕ). c.args.out.now ++ o)
    (sym (octets_next c.args.components.now c.loop-component.component-index c.component-item.result c.loop-component-test.true c.component-item.is))

pub put_one-put_structure_part-requires : goal.put_one-put_structure_part-requires
put_one-put_structure_part-requires t c =
    let e : shape_depth c.args.of.now ≡ fields_depth (fields c.deref-in-Structure.result.now) + 1 = rw (sym c.of.view_is, c.in-Structure.is, c.deref-in-Structure.ensures.value) refl in
    (omega (arith, component_sizes_below c.deref-in-Structure.result.now, e), tt)

use Rattle.std.proofs.Common.{◌≡◌, ◌+◌, refl, sym, arith}
use Rattle.mms_types.specs.Shape.{shape_depth, fields_depth}
use Rattle.mms_types.specs.SeenType.{fields}
use Rattle.mms_types.specs.TypeFallsLaws.{component_sizes_below}
use Rattle.mms_types.proofs.DataParts.{fields_next}
use Rattle.mms_types.proofs.depth.+type_depth.Goals as goal

pub deepest_component-loop-component-preserved : goal.deepest_component-loop-component-preserved
deepest_component-loop-component-preserved t c =
    let next = fields_next c.args.components.now c.loop-component.component-index c.component-item.result c.loop-component-test.true c.component-item.is in
    omega (arith, next, c.greater-found.ensures, c.loop-component.invariant, c.type_depth.ensures.depth)

pub type_depth-deepest_component-requires : goal.type_depth-deepest_component-requires
type_depth-deepest_component-requires t c =
    let e : shape_depth c.args.of.now ≡ fields_depth (fields c.deref-in-Structure.result.now) + 1 = rw (sym c.of.view_is, c.in-Structure.is, c.deref-in-Structure.ensures.value) refl in
    (omega (arith, component_sizes_below c.deref-in-Structure.result.now, e), tt)

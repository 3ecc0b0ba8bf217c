use Rattle.std.proofs.Common.{◌≡◌, ◌≢◌, ◌+◌, true, false, length, refl, sym, ◌∙◌, rules, arith}
use Rattle.mms_types.specs.Shape.{shape_depth, fields_depth}
use Rattle.mms_types.specs.SeenType.{fields}
use Rattle.mms_types.specs.TypeFallsLaws.{component_sizes_below}
use Rattle.mms_types.specs.Equal.{component_eq}
use Rattle.mms_types.proofs.EqualParts.{fields_from, uneven_fields}
use Rattle.mms_types.proofs.equal.+same_type.Goals as goal

pub same_components-returns-then-components-others : goal.same_components-returns-then-components-others
same_components-returns-then-components-others t c =
    let ne : length c.args.components.now ≢ length c.args.others.now = search rules in
    sym (uneven_fields c.args.components.now c.args.others.now ne)

pub same_components-returns-then-not-same_component : goal.same_components-returns-then-not-same_component
same_components-returns-then-not-same_component t c =
    let one = c.index-components-i.result in
    let next = fields_from c.args.components.now c.args.others.now c.loop-i.i one c.index-others-i.result c.loop-i-test.true c.loop-i.invariant.0 c.index-components-i.is c.index-others-i.is in
    let differ : component_eq one c.index-others-i.result ≡ false = search rules in
    sym (c.loop-i.invariant.1 ∙ next ∙ rw differ refl)

pub same_components-loop-i-preserved : goal.same_components-loop-i-preserved
same_components-loop-i-preserved t c =
    let one = c.index-components-i.result in
    let next = fields_from c.args.components.now c.args.others.now c.loop-i.i one c.index-others-i.result c.loop-i-test.true c.loop-i.invariant.0 c.index-components-i.is c.index-others-i.is in
    let same : component_eq one c.index-others-i.result ≡ true = search rules in
    (c.loop-i.invariant.0, c.loop-i.invariant.1 ∙ next ∙ rw same refl)

pub same_type-is_same_structure-requires : goal.same_type-is_same_structure-requires
same_type-is_same_structure-requires t c =
    let e : shape_depth c.args.of.now ≡ fields_depth (fields c.deref-in-Structure.result.now) + 1 = rw (sym c.of.view_is, c.in-Structure.is, c.deref-in-Structure.ensures.value) refl in
    (omega (arith, component_sizes_below c.deref-in-Structure.result.now, e), tt)

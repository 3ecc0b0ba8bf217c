use Rattle.std.proofs.Common.{◌≡◌, ◌+◌, refl, sym, arith}
use Rattle.mms_types.specs.Shape.{shape_depth, fields_depth}
use Rattle.mms_types.specs.SeenType.{fields}
use Rattle.mms_types.specs.TypeFallsLaws.{component_sizes_below}
use Rattle.mms_types.proofs.copying.+copy_type.Goals as goal

pub copied_type-copied_components-requires : goal.copied_type-copied_components-requires
copied_type-copied_components-requires t c =
    let e : shape_depth c.args.from.now ≡ fields_depth (fields c.deref-in-Structure.result.now) + 1 = rw (sym c.from.view_is, c.in-Structure.is, c.deref-in-Structure.ensures.value) refl in
    (omega (arith, component_sizes_below c.deref-in-Structure.result.now, e), tt)

use Rattle.std.proofs.Common.{◌≡◌, ◌+◌, refl, sym, arith}
use Rattle.mms_types.specs.Datum.{row, depth, deepest}
use Rattle.mms_types.specs.DataFallsLaws.{sizes_below}
use Rattle.mms_types.proofs.DataParts.{deepest_next}
use Rattle.mms_types.proofs.depth.+depth.Goals as goal

pub deepest_of-loop-item-preserved : goal.deepest_of-loop-item-preserved
deepest_of-loop-item-preserved t c =
    let next = deepest_next c.args.items.now c.loop-item.item-index c.item-item.result c.loop-item-test.true c.item-item.is in
    (omega (arith, next, c.greater-found.ensures, c.loop-item.invariant.0, c.depth_of.ensures.depth), omega (arith, c.greater-found.ensures, c.loop-item.invariant.1, c.depth_of.ensures.most))

pub depth_of-deepest_of-requires : goal.depth_of-deepest_of-requires
depth_of-deepest_of-requires t c =
    let e : depth c.args.item.now ≡ deepest (row c.deref.result.now) + 1 = rw (sym c.item.view_is, c.in-Array.is, c.deref.ensures.value) refl in
    (omega (arith, sizes_below c.deref.result.now, e), tt)

pub depth_of-deepest_of-requires-in-Structure : goal.depth_of-deepest_of-requires-in-Structure
depth_of-deepest_of-requires-in-Structure t c =
    let e : depth c.args.item.now ≡ deepest (row c.deref-in-Structure.result.now) + 1 = rw (sym c.item.view_is, c.in-Structure.is, c.deref-in-Structure.ensures.value) refl in
    (omega (arith, sizes_below c.deref-in-Structure.result.now, e), tt)

use Rattle.std.proofs.Common.{◌≡◌, ◌+◌, refl, sym, arith}
use Rattle.mms_types.specs.Datum.{row, depth, deepest}
use Rattle.mms_types.specs.DataFallsLaws.{sizes_below}
use Rattle.mms_types.proofs.copying.+copy.Goals as goal

pub copied-copied_all-requires : goal.copied-copied_all-requires
copied-copied_all-requires t c =
    let e : depth c.args.from.now ≡ deepest (row c.deref.result.now) + 1 = rw (sym c.from.view_is, c.in-Array.is, c.deref.ensures.value) refl in
    (omega (arith, sizes_below c.deref.result.now, e), tt)

pub copied-copied_all-requires-in-Structure : goal.copied-copied_all-requires-in-Structure
copied-copied_all-requires-in-Structure t c =
    let e : depth c.args.from.now ≡ deepest (row c.deref-in-Structure.result.now) + 1 = rw (sym c.from.view_is, c.in-Structure.is, c.deref-in-Structure.ensures.value) refl in
    (omega (arith, sizes_below c.deref-in-Structure.result.now, e), tt)

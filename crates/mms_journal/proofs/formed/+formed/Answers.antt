use Rattle.std.proofs.Common.{◌≡◌, ◌+◌, IsTrue, refl, subst, sym, arith}
use Rattle.mms_types.specs.Datum.{row, depth, deepest}
use Rattle.mms_types.specs.DataFallsLaws.{sizes_below}
use Rattle.mms_journal.proofs.Fitting.{formed_at, formed_next}
use Rattle.mms_journal.proofs.formed.+formed.Goals as goal

pub is_formed_data-are_formed_data-requires : goal.is_formed_data-are_formed_data-requires
is_formed_data-are_formed_data-requires t c =
    let e : depth c.args.item.now ≡ deepest (row c.deref.result.now) + 1 = rw (sym c.item.view_is, c.in-Array.is, c.deref.ensures.value) refl in
    (omega (arith, sizes_below c.deref.result.now, e), tt)

pub is_formed_data-are_formed_data-requires-in-Structure : goal.is_formed_data-are_formed_data-requires-in-Structure
is_formed_data-are_formed_data-requires-in-Structure t c =
    let e : depth c.args.item.now ≡ deepest (row c.deref-in-Structure.result.now) + 1 = rw (sym c.item.view_is, c.in-Structure.is, c.deref-in-Structure.ensures.value) refl in
    (omega (arith, sizes_below c.deref-in-Structure.result.now, e), tt)

pub are_formed_data-loop-item-preserved : goal.are_formed_data-loop-item-preserved
are_formed_data-loop-item-preserved t c =
    formed_next c.args.items.now c.loop-item.item-index c.item-item.result c.loop-item-test.true c.item-item.is c.loop-item.invariant (c.is_formed_data.ensures.formed c.if-not-is_formed_data.false)

pub are_formed_data-returns-then-not-is_formed_data-clause-all : goal.are_formed_data-returns-then-not-is_formed_data-clause-all
are_formed_data-returns-then-not-is_formed_data-clause-all t c = λ h.
    subst IsTrue c.if-not-is_formed_data.true
    (c.is_formed_data.ensures.all (formed_at c.args.items.now c.loop-item.item-index c.item-item.result c.loop-item-test.true c.item-item.is h))

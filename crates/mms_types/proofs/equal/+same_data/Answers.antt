use Rattle.std.proofs.Common.{◌≡◌, ◌≢◌, ◌+◌, true, false, length, refl, sym, ◌∙◌, rules, arith}
use Rattle.mms_types.specs.Datum.{row, depth, deepest}
use Rattle.mms_types.specs.DataFallsLaws.{sizes_below}
use Rattle.mms_types.specs.Equal.{datum_eq}
use Rattle.mms_types.proofs.EqualParts.{rows_from, uneven_rows}
use Rattle.mms_types.proofs.equal.+same_data.Goals as goal

pub same_data-same_parts-requires : goal.same_data-same_parts-requires
same_data-same_parts-requires t c =
    let e : depth c.args.item.now ≡ deepest (row c.deref.result.now) + 1 = rw (sym c.item.view_is, c.in-Array.is, c.deref.ensures.value) refl in
    (omega (arith, sizes_below c.deref.result.now, e), tt)

pub same_data-same_parts-requires-in-Structure : goal.same_data-same_parts-requires-in-Structure
same_data-same_parts-requires-in-Structure t c =
    let e : depth c.args.item.now ≡ deepest (row c.deref-in-Structure.result.now) + 1 = rw (sym c.item.view_is, c.in-Structure.is, c.deref-in-Structure.ensures.value) refl in
    (omega (arith, sizes_below c.deref-in-Structure.result.now, e), tt)

pub same_parts-returns-then-items-others : goal.same_parts-returns-then-items-others
same_parts-returns-then-items-others t c =
    let ne : length c.args.items.now ≢ length c.args.others.now = search rules in
    sym (uneven_rows c.args.items.now c.args.others.now ne)

pub same_parts-returns-then-not-same_data : goal.same_parts-returns-then-not-same_data
same_parts-returns-then-not-same_data t c =
    let next = rows_from c.args.items.now c.args.others.now c.loop-i.i c.index-items-i.result c.index-others-i.result c.loop-i-test.true c.loop-i.invariant.0 c.index-items-i.is c.index-others-i.is in
    let differ : datum_eq c.index-items-i.result c.index-others-i.result ≡ false = search rules in
    sym (c.loop-i.invariant.1 ∙ next ∙ rw differ refl)

pub same_parts-loop-i-preserved : goal.same_parts-loop-i-preserved
same_parts-loop-i-preserved t c =
    let next = rows_from c.args.items.now c.args.others.now c.loop-i.i c.index-items-i.result c.index-others-i.result c.loop-i-test.true c.loop-i.invariant.0 c.index-items-i.is c.index-others-i.is in
    let same : datum_eq c.index-items-i.result c.index-others-i.result ≡ true = search rules in
    (c.loop-i.invariant.0, c.loop-i.invariant.1 ∙ next ∙ rw same refl)

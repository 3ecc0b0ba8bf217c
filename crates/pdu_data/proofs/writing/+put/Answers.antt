use Rattle.std.proofs.Common.{◌≡◌, ◌+◌, ℕ, List, ◌++◌, take, refl, sym, ap, ◌∙◌, append_assoc, arith, lit<}
use Rattle.mms_types.specs.DataFallsLaws.{sizes_below}
use Rattle.mms_types.specs.Datum.{row, depth, deepest}
use Rattle.pdu_data.specs.Data.{data_octets, row_octets}
use Rattle.pdu_data.proofs.Rows.{octets_next}
use Rattle.pdu_data.proofs.writing.+put.Goals as goal

pub put_all-loop-item-preserved : goal.put_all-loop-item-preserved
put_all-loop-item-preserved t c =
    let before = row_octets (row (take c.loop-item.item-index c.args.items.now)) in
    c.in_ok-put_one.ensures.ok ∙ ap (λ (o : List ℕ). o ++ data_octets c.item-item.result) c.loop-item.invariant
    ∙ append_assoc c.args.out.now before (data_octets c.item-item.result)
    ∙ ap (λ (o : List ℕ). c.args.out.now ++ o) (sym (octets_next c.args.items.now c.loop-item.item-index c.item-item.result c.loop-item-test.true c.item-item.is))

pub put_one-put_nested-requires : goal.put_one-put_nested-requires
put_one-put_nested-requires t c =
    let e : depth c.args.item.now ≡ deepest (row c.deref.result.now) + 1 = rw (sym c.item.view_is, c.in-Array.is, c.deref.ensures.value) refl in
    (omega (arith, sizes_below c.deref.result.now, e), lit< tt)

pub put_one-put_nested-requires-in-Structure : goal.put_one-put_nested-requires-in-Structure
put_one-put_nested-requires-in-Structure t c =
    let e : depth c.args.item.now ≡ deepest (row c.deref-in-Structure.result.now) + 1 = rw (sym c.item.view_is, c.in-Structure.is, c.deref-in-Structure.ensures.value) refl in
    (omega (arith, sizes_below c.deref-in-Structure.result.now, e), lit< tt)

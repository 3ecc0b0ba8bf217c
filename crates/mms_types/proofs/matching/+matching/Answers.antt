use Rattle.std.proofs.Common.{◌≡◌, ◌≢◌, ◌+◌, length, refl, sym, rules, arith}
use Rattle.std.proofs.lemmas.Bool.{eq-eqb, ne_eqb}
use Rattle.mms_types.specs.Datum.{row, depth, deepest}
use Rattle.mms_types.specs.DataFallsLaws.{sizes_below}
use Rattle.mms_types.specs.Shape as shape
use Rattle.mms_types.proofs.DataParts.{array_then, array_else, uneven}
use Rattle.mms_types.proofs.matching.+matching.Goals as goal

pub each_matches-returns-then-items-components : goal.each_matches-returns-then-items-components
each_matches-returns-then-items-components t c =
    let ne : length c.args.items.now ≢ length c.args.components.now = search rules in
    sym (uneven c.args.items.now c.args.components.now ne)

pub is_array-returns-then-items-count : goal.is_array-returns-then-items-count
is_array-returns-then-items-count t c =
    let is : c.args.of.now ≡ shape.array c.in-Array.packed c.in-Array.count c.in-Array.element.value = rw (sym c.of.view_is, c.in-Array.is) refl in
    array_then c.args.items.now c.args.of.now c.in-Array.packed c.in-Array.count c.in-Array.element.value c.all_match.result is (eq-eqb (length c.args.items.now) c.in-Array.count c.if-items-count.true) (rw (sym c.deref.ensures) c.all_match.ensures)

pub is_array-returns-else-items-count : goal.is_array-returns-else-items-count
is_array-returns-else-items-count t c =
    let is : c.args.of.now ≡ shape.array c.in-Array.packed c.in-Array.count c.in-Array.element.value = rw (sym c.of.view_is, c.in-Array.is) refl in
    array_else c.args.items.now c.args.of.now c.in-Array.packed c.in-Array.count c.in-Array.element.value is (ne_eqb (length c.args.items.now) c.in-Array.count c.if-items-count.false)

pub is_of-is_array-requires : goal.is_of-is_array-requires
is_of-is_array-requires t c =
    let e : depth c.args.item.now ≡ deepest (row c.deref.result.now) + 1 = rw (sym c.item.view_is, c.in-Array.is, c.deref.ensures.value) refl in
    (omega (arith, sizes_below c.deref.result.now, e), tt)

pub is_of-is_structure-requires : goal.is_of-is_structure-requires
is_of-is_structure-requires t c =
    let e : depth c.args.item.now ≡ deepest (row c.deref-in-Structure.result.now) + 1 = rw (sym c.item.view_is, c.in-Structure.is, c.deref-in-Structure.ensures.value) refl in
    (omega (arith, sizes_below c.deref-in-Structure.result.now, e), tt)

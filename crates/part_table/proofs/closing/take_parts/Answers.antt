use Rattle.std.proofs.Common.{◌+◌, rules, arith, sym, ◌∙◌, ap, subst}
use mathlib.Core.Option.{some}
use lib.ListN.{get_elem?}
use Rattle.std.specs.Mem.Slots.{slots_items}
use Rattle.part_table.specs.Closing.{AreOfSlots}
use Rattle.part_table.specs.Lines.{slot_of}
use Rattle.part_table.proofs.Ending.{not_none, one_taken}
use Rattle.part_table.proofs.closing.take_parts.Goals as goal

pub unreachable-requires : goal.unreachable-requires
unreachable-requires g c =
    let t = c.requires.full c.loop-place.place c.loop-place-test.true in
    let at = ap (λ k. get_elem? (slots_items c.loop-place.closed.slots) k) (sym c.slot_at-slot.ensures) ∙ c.take.ensures.value in
    not_none (get_elem? (slots_items c.args.closed.slots) (slot_of c.loop-place.place)) t.0
    (ap (λ l. get_elem? l (slot_of c.loop-place.place)) (sym c.loop-place.invariant.same) ∙ at ∙ ap some c.in_default.is) t.1

pub loop-place-preserved : goal.loop-place-preserved
loop-place-preserved g c =
    let at = ap (λ k. get_elem? (slots_items c.loop-place.closed.slots) k) (sym c.slot_at-slot.ensures) ∙ c.take.ensures.value in
    let e = c.empty_slots.ensures in
    let t = c.take.ensures.others in
    let same = e.same.0 ∙ t.0 in
    record {
      filled = λ k low high. e.filled k (omega (arith, low, c.slot_at-slot.ensures)) (omega (arith, high, e.same.1));
      emptied = λ k low. e.emptied k (omega (arith, low, c.slot_at-slot.ensures));
      same = same ∙ c.loop-place.invariant.same;
      size = e.same.1 ∙ t.2 ∙ c.loop-place.invariant.size;
      taken =
          subst (λ l. AreOfSlots (c.loop-place.place + 1) l c.push_reserved.new.self.items) (sym same)
          (one_taken c.loop-place.place _ _ _ c.in-Some.part c.loop-place.invariant.taken c.push_reserved.ensures.items (at ∙ ap some c.in-Some.is));
      many = search rules;
      room = search rules;
    }

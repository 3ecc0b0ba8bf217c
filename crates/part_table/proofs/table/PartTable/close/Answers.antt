use Rattle.std.proofs.Common.{◌≡◌, ◌/◌, arith, ap, length, subst, sym}
use Rattle.std.specs.Box.{box_value}
use Rattle.std.specs.Mem.Slots.{slots_items}
use Rattle.part_table.specs.declared.lines.TheConstants.{SLOTS_APART}
use Rattle.part_table.specs.Closing.{AreFull, AreOfSlots}
use Rattle.part_table.specs.Rule.{setting_of}
use Rattle.part_table.proofs.Ending.{closes, closes_as}
use Rattle.part_table.proofs.table.PartTable.close.Goals as goal

pub take_parts-requires-clause-full : goal.take_parts-requires-clause-full
take_parts-requires-clause-full g c =
    let o = g.O.Object in
    let many : c.slot_count-count.result / SLOTS_APART ≡ length (setting_of c.self.inside.table.shared.key).opening = omega (arith, c.slot_count-count.ensures, c.self.invariant.slots) in
    let same = ap (λ t. t.callers) c.self.view_is in
    let v = c.close_with.ensures.values in
    let t = closes box_value o.step o.may_make (setting_of c.self.inside.table.shared.key) _ c.join_all-seat.result.me _ _ c.args.passes.items v.2 (λ n lt. c.requires.all.all n (omega (arith, same, lt))) c.join_all-seat.ensures.joined in
    subst (λ n. AreFull n (slots_items c.close_with.result.slots)) (sym many) t.full

pub returns-clause-parts : goal.returns-clause-parts
returns-clause-parts g c =
    let o = g.O.Object in
    let many : c.slot_count-count.result / SLOTS_APART ≡ length (setting_of c.self.inside.table.shared.key).opening = omega (arith, c.slot_count-count.ensures, c.self.invariant.slots) in
    let same = ap (λ t. t.callers) c.self.view_is in
    let v = c.close_with.ensures.values in
    let t = closes box_value o.step o.may_make (setting_of c.self.inside.table.shared.key) _ c.join_all-seat.result.me _ _ c.args.passes.items v.2 (λ n lt. c.requires.all.all n (omega (arith, same, lt))) c.join_all-seat.ensures.joined in
    closes_as box_value o.step o.may_make (setting_of c.self.inside.table.shared.key) _ c.args.self c.args.passes.items same (ap (λ t. t.opening) c.self.view_is) t c.take_parts.result.items (subst (λ n. AreOfSlots n (slots_items c.close_with.result.slots) c.take_parts.result.items) many c.take_parts.ensures)

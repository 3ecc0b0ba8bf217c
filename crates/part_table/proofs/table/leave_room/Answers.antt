use Rattle.std.proofs.Common.{◌≡◌, ◌-◌, ◌++◌, ◌∙◌, None, ap, arith, replicate}
use Rattle.part_table.specs.declared.lines.TheConstants.{SLOTS_APART}
use Rattle.part_table.proofs.table.leave_room.Goals as goal

pub returns-clause-slots : goal.returns-clause-slots
returns-clause-slots g c =
    let last : c.loop-slot._slot ≡ SLOTS_APART = omega (arith, c.loop-slot-test.false, c.loop-slot.auto._slot-end) in
    c.loop-slot.invariant.slots ∙ ap (λ n. c.args.slots.now.items ++ replicate (n - 1) None) last

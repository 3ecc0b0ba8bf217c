use Rattle.std.proofs.Common.{◌≡◌}
use Rattle.part_table.specs.Passes.{held_count}
use Rattle.mms_device.proofs.giving.give_all.Given as goal

abbrev pub invariant-loop-part : goal.invariant-loop-part
invariant-loop-part l = record {
  kept : l.pass ≡ record l.fn.pass { taken = l.pass.taken; hand = l.pass.hand; order = l.pass.order };
  hand : l.pass.hand ≡ l.pass.taken;
}

abbrev pub decreases-loop-part : goal.decreases-loop-part
decreases-loop-part l = held_count l.pass.taken

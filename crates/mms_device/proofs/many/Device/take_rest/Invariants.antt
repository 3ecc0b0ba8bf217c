use Rattle.std.proofs.Common.{◌≡◌}
use Rattle.mms_device.specs.Taken.{CanTake, IsTaking, free_count}
use Rattle.mms_device.proofs.many.Device.take_rest.Given as goal

abbrev pub invariant-loop : goal.invariant-loop
invariant-loop g l = record {
  taking : IsTaking l.event l.fn.pass l.pass;
  lost : l.pass.lost ≡ l.fn.pass.lost;
  can : CanTake l.self l.event l.found l.pass;
}

abbrev pub decreases-loop : goal.decreases-loop
decreases-loop g l = free_count l.pass.taken

use Rattle.std.proofs.Common.{◌∙◌}
use Rattle.mms_device.proofs.Outcomes.{taken_on}
use Rattle.mms_device.proofs.many.Device.take_rest.Goals as goal

pub loop-preserved : goal.loop-preserved
loop-preserved g c = record {
  taking = taken_on c.args.event.now c.args.pass.now c.loop.pass c.take_more.new.pass c.loop.invariant.taking c.take_more.ensures.taking;
  lost = c.in_ok-take_more.ensures.lost ∙ c.loop.invariant.lost;
  can = c.take_more.ensures.can;
}

pub returns-in_err-take_more-clause-taking : goal.returns-in_err-take_more-clause-taking
returns-in_err-take_more-clause-taking g c = taken_on c.args.event.now c.args.pass.now c.loop.pass c.take_more.new.pass c.loop.invariant.taking c.take_more.ensures.taking

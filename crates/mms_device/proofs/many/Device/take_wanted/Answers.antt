use Rattle.mms_device.proofs.Outcomes.{taken_on}
use Rattle.mms_device.proofs.many.Device.take_wanted.Goals as goal

pub returns-clause-taking : goal.returns-clause-taking
returns-clause-taking g c = taken_on c.args.event.now c.args.pass.now c.take_told.new.pass c.take_rest.new.pass c.take_told.ensures.taking c.take_rest.ensures.taking

pub returns-in_err-take_rest-clause-taking : goal.returns-in_err-take_rest-clause-taking
returns-in_err-take_rest-clause-taking g c = taken_on c.args.event.now c.args.pass.now c.take_told.new.pass c.take_rest.new.pass c.take_told.ensures.taking c.take_rest.ensures.taking

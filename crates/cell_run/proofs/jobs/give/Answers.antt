use Rattle.cell_run.proofs.Given.{give_job}
use Rattle.cell_run.proofs.jobs.give.Goals as goal

pub returns-clause-given : goal.returns-clause-given
returns-clause-given c given passes are =
    let e = c.leave.ensures in
    give_job given passes c.args.jobs.now c.actor-place.result c.index-jobs-place.result c.leave.new.job c.args.event c.leave.result c.requires c.actor-place.ensures e.pass e.rest e.log e.room are

use Rattle.std.proofs.Common.{◌∙◌, ◌<◌, arith, length}
use Rattle.sem_ticks.proofs.Dated.{date_more}
use Rattle.sem_ticks.proofs.ticks.date.Goals as goal

pub loop-at-preserved : goal.loop-at-preserved
loop-at-preserved c =
    let low : length c.loop-at.moments.items < length c.args.happened.now = omega arith in
    date_more c.args.at c.loop-at.moments.items c.push.new.self.items c.args.happened.now c.in_ok-push.ensures.items low ∙ c.loop-at.invariant

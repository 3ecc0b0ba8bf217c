use Rattle.event_cond.proofs.ByName.{stays}
use Rattle.event_cond.proofs.evaluating.sooner_of.Goals as goal

pub returns-in-Some-first : goal.returns-in-Some-first
returns-in-Some-first c =
    stays c.args.first c.args.next c.args.key.now c.in-Some.at c.in-Some-first.first_at c.in-Some-first.first_key c.in-Some-first.is c.in-Some.is c.requires c.if-first_at-at.true

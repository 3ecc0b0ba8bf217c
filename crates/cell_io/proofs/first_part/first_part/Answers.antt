use Rattle.std.proofs.Common.{sym, ◌∙◌}
use Rattle.std.proofs.Math.Seq.{take-length, drop-length}
use Rattle.cell_io.proofs.Texts.{without_feed, feed_at, front_at, back_at, first_all, after_none}
use Rattle.cell_io.proofs.first_part.first_part.Goals as goal

pub returns-in-Some-clause-first : goal.returns-in-Some-clause-first
returns-in-Some-clause-first c = front_at c.args.bytes.now c.in-Some.place c.in-Some.ensures.0 c.in-Some.ensures.1

pub returns-in-Some-clause-after : goal.returns-in-Some-clause-after
returns-in-Some-clause-after c = back_at c.args.bytes.now c.in-Some.place c.in-Some.ensures.0 c.in-Some.ensures.1

pub returns-in-Some-clause-ended : goal.returns-in-Some-clause-ended
returns-in-Some-clause-ended c = feed_at c.args.bytes.now c.in-Some.place c.in-Some.ensures.0 c.in-Some.ensures.1

pub returns-in-None-clause-first : goal.returns-in-None-clause-first
returns-in-None-clause-first c = take-length c.args.bytes.now ∙ sym (first_all c.args.bytes.now (without_feed c.args.bytes.now c.in-None.ensures))

pub returns-in-None-clause-after : goal.returns-in-None-clause-after
returns-in-None-clause-after c = drop-length c.args.bytes.now ∙ sym (after_none c.args.bytes.now (without_feed c.args.bytes.now c.in-None.ensures))

pub returns-in-None-clause-ended : goal.returns-in-None-clause-ended
returns-in-None-clause-ended c = without_feed c.args.bytes.now c.in-None.ensures

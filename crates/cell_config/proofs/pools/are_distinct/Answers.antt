use Rattle.cell_config.proofs.Walks.{text_twice, text_step}
use Rattle.cell_config.proofs.pools.are_distinct.Goals as goal

pub returns-then-not-branch : goal.returns-then-not-branch
returns-then-not-branch c =
    text_twice c.args.texts.now c.loop-text.text-index _ c.loop-text.names.keys _ c.loop-text-test.true c.in_ok-insert.ensures.added c.if-not-branch.true c.loop-text.invariant

pub loop-text-preserved : goal.loop-text-preserved
loop-text-preserved c =
    text_step c.args.texts.now c.loop-text.text-index _ c.loop-text.names.keys c.insert.new.self.keys _ c.loop-text-test.true
    c.in_ok-insert.ensures.added c.if-not-branch.false c.in_ok-insert.ensures.keys c.loop-text.invariant

use Rattle.std.proofs.Common.{sym, ◌∙◌}
use Rattle.cell_config.proofs.Walks.{name_twice, name_step}
use Rattle.cell_config.proofs.variables.are_variables.Goals as goal

pub returns-then-not-branch : goal.returns-then-not-branch
returns-then-not-branch c =
    name_twice c.args.variables.now c.args.numbers.now.keys c.loop-variable.variable-index _ c.loop-variable.names.keys _ c.loop-variable-test.true
    c.in_ok-insert.ensures.added c.if-not-branch.true c.loop-variable.invariant

pub loop-variable-preserved : goal.loop-variable-preserved
loop-variable-preserved c =
    name_step c.args.variables.now c.args.numbers.now.keys c.loop-variable.variable-index _ c.loop-variable.names.keys c.insert.new.self.keys _ c.loop-variable-test.true
    (sym c.is_among.ensures ∙ c.if-not-is_among.false) c.in_ok-insert.ensures.added c.if-not-branch.false c.in_ok-insert.ensures.keys c.loop-variable.invariant

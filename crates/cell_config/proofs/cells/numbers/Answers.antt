use Rattle.cell_config.proofs.Walks.{number_twice, number_step}
use Rattle.cell_config.proofs.cells.numbers.Goals as goal

pub returns-then-not-branch-clause-numbered : goal.returns-then-not-branch-clause-numbered
returns-then-not-branch-clause-numbered c =
    number_twice c.args.cells.now c.loop-cell.cell-index _ c.loop-cell.numbers.keys c.in-Some.number _ c.loop-cell-test.true c.in-Some.ensures.value
    c.in_ok-insert.ensures.added c.if-not-branch.true c.loop-cell.invariant

pub loop-cell-preserved : goal.loop-cell-preserved
loop-cell-preserved c =
    number_step c.args.cells.now c.loop-cell.cell-index _ c.loop-cell.numbers.keys c.insert.new.self.keys c.in-Some.number _ c.loop-cell-test.true c.in-Some.ensures.value
    c.in-Some.ensures.found c.in_ok-insert.ensures.added c.if-not-branch.false c.in_ok-insert.ensures.keys c.loop-cell.invariant

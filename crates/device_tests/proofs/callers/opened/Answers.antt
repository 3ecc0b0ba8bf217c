use Rattle.device_tests.proofs.Passes.{three_newcomers, opened_in_order, opened_commit}
use Rattle.device_tests.proofs.callers.opened.Goals as goal

pub taken_apart-requires : goal.taken_apart-requires
taken_apart-requires c = three_newcomers c.in-Ok.device.table c.args.config.now.clients c.in-Ok.passes.items c.requires.config.1 c.in-Ok.ensures.passes

pub returns-clause-passes : goal.returns-clause-passes
returns-clause-passes c =
    opened_in_order c.in-Ok.device.table c.args.config.now.clients c.in-Ok.passes.items c.in_ok-cell.cell c.in_ok-cell.first c.in_ok-cell.second c.in_ok-cell.ensures c.in-Ok.ensures.passes

pub returns-clause-left : goal.returns-clause-left
returns-clause-left c =
    opened_commit c.in-Ok.device.table c.args.config.now.clients c.in-Ok.passes.items c.in_ok-cell.cell c.in_ok-cell.first c.in_ok-cell.second c.in-Ok.ensures.table.quota c.in_ok-cell.ensures
    c.in-Ok.ensures.passes

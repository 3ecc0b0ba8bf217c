use Rattle.device_tests.proofs.Passes.{three_taken}
use Rattle.device_tests.proofs.callers.taken_apart.Goals as goal

pub returns : goal.returns
returns c =
    three_taken c.args.passes.items c.pop.new.self.items c.pop-2.new.self.items c.pop-3.new.self.items c.in_ok-cell.cell c.in_ok-first.first c.in_ok-second.second
    c.in_ok-second.ensures.items c.in_ok-first.ensures.items c.in_ok-cell.ensures.items c.requires

use Rattle.std.proofs.Common.{refl}
use Rattle.cell_run.proofs.Begun.{begun}
use Rattle.cell_run.proofs.crew.Crew.new.Goals as goal

pub returns-clause-run : goal.returns-clause-run
returns-clause-run c = let e = c.in_ok-device.ensures in begun _ c.args.config.now e.config e.table e.passes refl c.requires.workers

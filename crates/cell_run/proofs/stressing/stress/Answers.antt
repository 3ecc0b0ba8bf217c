use Rattle.cell_run.proofs.Endings.{wanting_stress}
use Rattle.cell_run.proofs.stressing.stress.Goals as goal

pub returns-in-Err : goal.returns-in-Err
returns-in-Err g c = record { ends = wanting_stress c.args.seed c.args.clients c.args.rounds _ }

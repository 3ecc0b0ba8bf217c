use Rattle.std.proofs.Common.{length}
use Rattle.cell_run.proofs.Tried.{Tries}
use Rattle.cell_run.proofs.stressing.serve_made.Given as goal

abbrev pub invariant-loop-crew : goal.invariant-loop-crew
invariant-loop-crew g l = record {
  tries : Tries l.fn.seed l.fn.clients l.fn.rounds l.crew l.phases l.numbers;
}

abbrev pub decreases-loop-crew : goal.decreases-loop-crew
decreases-loop-crew g l = length l.phases

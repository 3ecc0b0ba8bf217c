use Rattle.cell_stress.proofs.Made.{HaveAsked}
use Rattle.cell_stress.proofs.phases.round_of.Given as goal

abbrev pub invariant-loop-client : goal.invariant-loop-client
invariant-loop-client l = record {
  asked : HaveAsked l.fn.random l.fn.round l.fn.clients l.random l.client l.events;
}

use Rattle.part_table.specs.History.{StartsWith}
use Rattle.step_parts.specs.Step.{said}
use Rattle.mms_device.specs.Shared.{History}
use Rattle.cell_run.specs.Drained.{HaveDrained}
use Rattle.cell_run.proofs.draining.drain_each.Given as goal

abbrev pub invariant-loop-client : goal.invariant-loop-client
invariant-loop-client g l = (common : History) → StartsWith l.initial.cell.seen common
    → HaveDrained (said l.device.config) common l.initial.cell l.cell l.fn.clients l.clients l.client-index l.outputs

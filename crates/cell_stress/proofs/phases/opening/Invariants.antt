use Rattle.std.proofs.Common.{◌≡◌}
use Rattle.mms_types.specs.declared.pdu.Pdu.TheVariants.{InitiateRequest}
use Rattle.cell_stress.specs.Requests.{proposal}
use Rattle.cell_stress.proofs.Made.{opened}
use Rattle.cell_stress.proofs.phases.opening.Given as goal

abbrev pub invariant-loop-client : goal.invariant-loop-client
invariant-loop-client l = record {
  pdu : l.pdu ≡ InitiateRequest proposal;
  made : l.events ≡ opened l.client;
}

use Rattle.std.proofs.Common.{take}
use Rattle.parted_state.specs.Sets.{IsSetOf}
use Rattle.step_parts.specs.Needs.{client_parts}
use Rattle.step_needs.proofs.heard.client_parts.Given as goal

abbrev pub invariant-loop-client : goal.invariant-loop-client
invariant-loop-client l = IsSetOf l.parts (client_parts l.clients (take l.client-index l.told))

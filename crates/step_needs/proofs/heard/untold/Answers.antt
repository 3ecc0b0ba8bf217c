use Rattle.parted_state.proofs.SetLaws.{missing_set}
use Rattle.step_parts.specs.Needs.{client_parts}
use Rattle.step_needs.proofs.heard.untold.Goals as goal

pub returns : goal.returns
returns c = missing_set c.args.held.now c.client_parts.result (client_parts c.args.clients c.args.told.now) c.missing.result c.client_parts.ensures c.missing.ensures

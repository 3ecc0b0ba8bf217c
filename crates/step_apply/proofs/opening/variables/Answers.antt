use Rattle.step_parts.proofs.Configured.{apart_as}
use Rattle.step_apply.proofs.opening.variables.Goals as goal

pub new-requires : goal.new-requires
new-requires c = apart_as c.args.config.now c.in_ok-cells.cells c.in_ok-copy.field-0 c.requires.config c.in_ok-cells.ensures c.in_ok-copy.ensures

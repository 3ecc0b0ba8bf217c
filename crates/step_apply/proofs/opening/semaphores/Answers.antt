use Rattle.step_parts.proofs.Configured.{pools_apart_as}
use Rattle.step_apply.proofs.opening.semaphores.Goals as goal

pub configured-requires : goal.configured-requires
configured-requires c = pools_apart_as c.args.config.now c.in_ok-copy.field-0 c.requires.config c.in_ok-copy.ensures

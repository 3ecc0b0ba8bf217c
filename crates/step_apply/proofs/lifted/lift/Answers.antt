use Rattle.std.proofs.Common.{ap, ◌∙◌}
use Rattle.cell_services.specs.Tables.{Tables}
use Rattle.step_apply.specs.Lifting.{tabled}
use Rattle.step_apply.proofs.lifted.lift.Goals as goal

pub returns-clause-left : goal.returns-clause-left
returns-clause-left c = c.exchange_all.ensures.parts ∙ ap (λ (t : Tables). tabled t c.args.held.now) c.empty-tables.ensures

use Rattle.std.proofs.Common.{◌∙◌}
use Rattle.indexmap.proofs.CallerLemmas.{insert_entry-new}
use Rattle.variables.proofs.opening.add.Goals as goal

-- a number that is not there goes to the end
pub returns-in-Ok-None-clause-cells : goal.returns-in-Ok-None-clause-cells
returns-in-Ok-None-clause-cells c = c.in-Ok-None.ensures.entries ∙ insert_entry-new _ c.args.cells.now _ _ c.requires

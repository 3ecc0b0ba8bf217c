use Rattle.std.proofs.Common.{◌∙◌}
use Rattle.indexmap.proofs.CallerLemmas.{insert_entry-new}
use Rattle.program_inv.proofs.create.put_row.Goals as goal

-- a name that is not there goes to the end
pub returns-in-Ok-clause-placed : goal.returns-in-Ok-clause-placed
returns-in-Ok-clause-placed c = c.in-Ok.ensures.entries ∙ insert_entry-new _ c.args.rows.now _ _ c.requires

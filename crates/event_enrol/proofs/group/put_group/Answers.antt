use Rattle.std.proofs.Common.{◌∙◌}
use Rattle.indexmap.proofs.CallerLemmas.{insert_entry-new}
use Rattle.event_enrol.proofs.group.put_group.Goals as goal

-- a condition that has no group gets it at the end
pub returns-in-Ok-clause-placed : goal.returns-in-Ok-clause-placed
returns-in-Ok-clause-placed c = c.in-Ok.ensures.entries ∙ insert_entry-new _ c.args.groups.now _ _ c.requires

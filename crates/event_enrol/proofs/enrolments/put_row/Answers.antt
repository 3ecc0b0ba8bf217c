use Rattle.std.proofs.Common.{◌∙◌}
use Rattle.indexmap.proofs.CallerLemmas.{insert_entry-new}
use Rattle.event_enrol.proofs.enrolments.put_row.Goals as goal

pub returns : goal.returns
returns c = c.in-Ok.ensures.entries ∙ insert_entry-new _ c.args.rows.now _ _ c.requires.new

use Rattle.std.proofs.Common.{rules}
use Rattle.indexmap.proofs.CallerLemmas.{filter-RetainsPairs}
use Rattle.event_enrol.specs.Going.{stays}
use Rattle.event_enrol.proofs.enrolments.drop_rows.Goals as goal

pub returns : goal.returns
returns c = filter-RetainsPairs _ (stays c.args.by.now) _ (λ k v b w h call. search rules) _ _ c.retain.ensures.filtered

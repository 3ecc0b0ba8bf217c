use Rattle.std.proofs.Common.{◌∙◌, ◌++◌, List, ap, map, true}
use Rattle.mms_time.specs.Loss.{lost}
use Rattle.mms_time.specs.Semaphores.{Rows}
use Rattle.sem_ticks.specs.Losing.{drafts_told}
use Rattle.sem_ticks.specs.Ticks.{abort_told}
use Rattle.sem_ticks.specs.declared.ticks.Happening.{Happening}
use Rattle.sem_ticks.specs.declared.ticks.Happening.TheVariants.{Grants}
use Rattle.sem_ticks.proofs.AllLost.{drafts_lost, on_ok, rows_lost, told_lost}
use Rattle.sem_ticks.proofs.losing.abort_in.Goals as goal

pub returns-clause-drafts : goal.returns-clause-drafts
returns-clause-drafts c =
    let ds = c.draft_those_of.new.drafts.items in
    let those = c.in_ok-draft_those_of.ensures in
    on_ok c.lose_drafts.result c.lose_drafts.ensures.lost
    (drafts_lost c.args.client c.args.now c.args.until c.args.semaphores.now ds c.lose_drafts.new.drafts.items c.len-rows.ensures.distinct those.drafts those.none)

pub returns-clause-lost : goal.returns-clause-lost
returns-clause-lost c =
    let rows = c.args.semaphores.now in
    let ds = c.draft_those_of.new.drafts.items in
    let those = c.in_ok-draft_those_of.ensures in
    on_ok c.lose_drafts.result c.lose_drafts.ensures.lost
    (λ is.
    rows_lost c.args.client c.args.now c.args.until rows ds c.lose_drafts.new.drafts.items c.len-rows.ensures.distinct those.drafts those.none is c.requires.scope
    ∙ ap (lost c.args.client c.args.now) those.same)

pub returns-clause-told : goal.returns-clause-told
returns-clause-told c =
    let rows = c.args.semaphores.now in
    let before = c.args.happened.now.items in
    let ds = c.draft_those_of.new.drafts.items in
    let those = c.in_ok-draft_those_of.ensures in
    on_ok c.lose_drafts.result c.lose_drafts.ensures.told
    (λ told.
    told_lost c.args.client c.args.now c.args.until rows ds ds c.len-rows.ensures.distinct those.drafts those.none before c.lose_drafts.new.happened.items
    (told ∙ ap (λ (l : List Happening). l ++ map Grants (drafts_told c.args.client c.args.now ds)) c.in_ok-push.ensures.items)
    ∙ ap (λ (r : Rows). before ++ abort_told true c.args.client c.args.now r) those.same)

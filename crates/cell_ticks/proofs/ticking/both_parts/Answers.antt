use Rattle.std.proofs.Common.{◌∙◌, List, ap, map, subst, sym}
use Rattle.event_ticks.specs.Ticks as events
use Rattle.event_ticks.specs.declared.ticks.Loss.{Loss}
use Rattle.cell_ticks.specs.Meant.{AreInOrder}
use Rattle.cell_ticks.specs.Parts.{merged}
use Rattle.cell_ticks.specs.declared.happening.DatedHappening.{DatedHappening}
use Rattle.cell_ticks.proofs.Coded.{losses_so, ordered, ticked_so}
use Rattle.cell_ticks.proofs.ticking.both_parts.Goals as goal

pub merged-requires : goal.merged-requires
merged-requires g c = subst AreInOrder (sym c.in_ok-part.ensures.happened) (ordered c.args.until c.args.semaphores.now)

pub returns-clause-met : goal.returns-clause-met
returns-clause-met g c =
    let cells = g.C.Cells.says c.args.cells.now in
    let part = c.in_ok-part.part in
    ticked_so cells c.args.until c.args.semaphores.now c.args.conditions.now c.args.enrolments.now c.len-names.ensures.distinct c.each_semaphore_is_sound.ensures c.len-distinct.ensures.distinct
    c.each_condition_is_sound.ensures (record { changed = part.changed; losses = part.losses; happened = c.in_ok-happened.happened }) c.in_ok-part.ensures.rows c.in_ok-part.ensures.losses c.in_ok-told.told.items
    (c.in_ok-told.ensures.told
    ∙ ap (λ (l : List Loss). (events.ticked cells c.args.until (events.begun c.args.conditions.now c.args.enrolments.now l)).told) c.deref.ensures.value)
    part.happened.items c.in_ok-part.ensures.happened
    (c.in_ok-happened.ensures ∙ ap (λ (l : List DatedHappening). merged part.happened.items l) c.in_ok-turning.ensures)

pub returns-clause-losses : goal.returns-clause-losses
returns-clause-losses g c =
    let part = c.in_ok-part.part in
    losses_so c.args.until c.args.semaphores.now part.losses.items c.in_ok-told.told.items part.happened.items c.in_ok-happened.happened.items c.in_ok-part.ensures.losses
    c.in_ok-part.ensures.happened (c.in_ok-happened.ensures ∙ ap (λ (l : List DatedHappening). merged part.happened.items l) c.in_ok-turning.ensures)

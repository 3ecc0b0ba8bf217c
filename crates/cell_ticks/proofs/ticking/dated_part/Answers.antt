use Rattle.std.proofs.Common.{◌∙◌, List, ap, filter_map, map, zip}
use Rattle.mms_types.specs.declared.moment.Moment.{Moment}
use Rattle.cell_ticks.specs.Meant.{loss_in}
use Rattle.cell_ticks.specs.Parts.{in_semaphores}
use Rattle.cell_ticks.proofs.Coded.{losses_are}
use Rattle.cell_ticks.proofs.ticking.dated_part.Goals as goal

pub returns-clause-losses : goal.returns-clause-losses
returns-clause-losses c =
    let happened = c.args.dated.ticked.happened.items in
    c.in_ok-losses.ensures
    ∙ ap (filter_map loss_in)
    (c.deref-2.ensures.value ∙ c.in_ok-happened.ensures ∙ ap (λ (l : List Moment). map in_semaphores (zip l happened)) c.deref.ensures.value)
    ∙ losses_are (zip c.args.dated.moments.items happened)

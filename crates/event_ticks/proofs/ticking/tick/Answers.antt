use Rattle.std.proofs.Common.{◌∙◌, ap}
use Rattle.event_ticks.specs.Skipping.{conditions_left}
use Rattle.event_ticks.proofs.Ticked.{conditions_are, enrolments_are}
use Rattle.event_ticks.proofs.ticking.tick.Goals as goal

pub returns : goal.returns
returns g c =
    let cells = g.C.Cells.says c.args.cells.now in
    let names = c.len-distinct.ensures.distinct in
    let all = c.each_condition_is_sound.ensures in
    record {
      conditions = c.lose_conditions.ensures ∙ ap (conditions_left c.args.until c.args.losses.now) c.skip.ensures
          ∙ conditions_are cells c.args.until c.args.conditions.now c.args.enrolments.now c.args.losses.now names all;
      enrolments = c.lose_enrolments.ensures ∙ enrolments_are cells c.args.until c.args.conditions.now c.args.enrolments.now c.args.losses.now names all;
    }

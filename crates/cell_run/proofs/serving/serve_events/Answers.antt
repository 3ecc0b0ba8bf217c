use Rattle.std.proofs.Common.{length, take, ap, sym, ◌∙◌, arith}
use Rattle.mms_types.specs.declared.event.CellEvent.{CellEvent}
use Rattle.mms_device.specs.Served.{Served, served}
use Rattle.cell_record.specs.Recording.{ms_in}
use Rattle.cell_run.specs.Along.{along}
use Rattle.cell_run.proofs.Alongside.{may_come, one_more, ms_more, step_sized, step_now}
use Rattle.cell_run.proofs.serving.serve_events.Goals as goal

pub serve-requires-clause-may : goal.serve-requires-clause-may
serve-requires-clause-may c =
    may_come c.loop-event.device (length c.args.device.now.state.clients) c.args.device.now.state.now c.args.events.now c.loop-event.event-index c.event-item.result
    c.requires.recorded c.loop-event-test.true c.event-item.is c.loop-event.invariant.sized c.loop-event.invariant.now c.requires.time

pub loop-event-preserved : goal.loop-event-preserved
loop-event-preserved c =
    let i = c.loop-event.event-index in
    let es = c.args.events.now in
    let e = c.event-item.result in
    let before = along c.args.device.now (take i es) in
    let more = ms_more es i e c.loop-event-test.true in
    let takes = step_now c.loop-event.device.state e in
    let one = ap (λ (x : CellEvent). ms_in x) c.event-item.is in
    let moved = ap (λ (d : Served). d.state.now) c.in_ok-serve.ensures.step in
    let counted = ap (λ (d : Served). d.count) c.in_ok-serve.ensures.step in
    let start = c.loop-event.invariant.now in
    let before_count = c.loop-event.invariant.count in
    record {
      device = c.in_ok-serve.ensures.step ∙ ap (λ (d : Served). served d e) c.loop-event.invariant.device ∙ ap (λ (x : CellEvent). served before x) c.event-item.is
          ∙ sym (one_more c.args.device.now es i e c.loop-event-test.true);
      sized = ap (λ (d : Served). length d.state.clients) c.in_ok-serve.ensures.step ∙ step_sized c.loop-event.device.state e ∙ c.loop-event.invariant.sized;
      now = omega (arith, more, takes, one, moved, start);
      count = omega (arith, counted, before_count);
    }

use Rattle.std.proofs.Common.{◌++◌, ◌∷◌, [], length, ap, sym, refl, ◌∙◌, append_assoc, rules, arith}
use Rattle.cell_run.proofs.Given.{below_at}
use Rattle.cell_run.proofs.jobs.give_out.Goals as goal

pub loop-event-init : goal.loop-event-init
loop-event-init c = record { events = search rules; jobs = λ passes are. are; count = refl }

pub give-requires : goal.give-requires
give-requires c =
    let i = c.loop-event.invariant in
    let s = c.in-Some.ensures.steps in
    let lt = below_at (length c.args.jobs.now) c.args.events.items c.loop-event.yielded _ c.in-Some.event (i.events ∙ ap (λ l. c.loop-event.yielded ++ l) s.0) c.requires in
    omega (arith, lt, i.count)

pub loop-event-preserved : goal.loop-event-preserved
loop-event-preserved c =
    let i = c.loop-event.invariant in
    let s = c.in-Some.ensures.steps in
    record {
      events = i.events ∙ ap (λ l. c.loop-event.yielded ++ l) s.0 ∙ sym (append_assoc c.loop-event.yielded (c.in-Some.event ∷ []) _);
      jobs = λ passes are. c.in_ok-give.ensures.given c.loop-event.yielded passes (i.jobs passes are);
      count = c.give.ensures.count ∙ i.count;
    }

use Rattle.std.proofs.Common.{arith}
use Rattle.cell_stress.specs.Stress.{stress_config}
use Rattle.cell_run.proofs.Tried.{goes_on, may_run_next, outputs_few, phases_few}
use Rattle.cell_run.proofs.stressing.serve_made.Goals as goal

pub overflow_add-phase : goal.overflow_add-phase
overflow_add-phase g c =
    let r = c.requires in
    let l = c.loop-crew in
    let next = rw c.in-Some.is at c.in_ok-events.ensures.made in
    let few = phases_few c.args.seed c.args.clients c.args.rounds r.clients.0 r.clients.1 r.rounds l.crew l.phases c.next_phase.new.self c.in-Some.events l.numbers l.invariant.tries next in
    omega (arith, few)

pub serve-requires-clause-next : goal.serve-requires-clause-next
serve-requires-clause-next g c κs within =
    let r = c.requires in
    let l = c.loop-crew in
    let next = rw c.in-Some.is at c.in_ok-events.ensures.made in
    may_run_next c.args.seed c.args.clients c.args.rounds r.clients.0 r.clients.1 r.rounds l.crew l.phases c.next_phase.new.self c.in-Some.events l.numbers l.invariant.tries next

pub with-numbers-requires-clause-phases : goal.with-numbers-requires-clause-phases
with-numbers-requires-clause-phases g c =
    let r = c.requires in
    let l = c.loop-crew in
    let next = rw c.in-Some.is at c.in_ok-events.ensures.made in
    let few = phases_few c.args.seed c.args.clients c.args.rounds r.clients.0 r.clients.1 r.rounds l.crew l.phases c.next_phase.new.self c.in-Some.events l.numbers l.invariant.tries next in
    omega (arith, few)

pub with-numbers-requires-clause-clients : goal.with-numbers-requires-clause-clients
with-numbers-requires-clause-clients g c =
    let r = c.requires in
    let l = c.loop-crew in
    let t = l.invariant.tries in
    let next = rw c.in-Some.is at c.in_ok-events.ensures.made in
    outputs_few c.args.seed c.args.clients c.args.rounds r.clients.0 r.clients.1 r.rounds l.crew l.phases c.next_phase.new.self c.in-Some.events l.numbers t next _ c.in_ok-told.told c.serve.new.self
    (c.in_ok-told.ensures.told (stress_config c.args.clients) t.done t.bodies t.run)

pub loop-crew-preserved : goal.loop-crew-preserved
loop-crew-preserved g c =
    let r = c.requires in
    let l = c.loop-crew in
    let t = l.invariant.tries in
    let next = rw c.in-Some.is at c.in_ok-events.ensures.made in
    let w = c.with-numbers.ensures in
    record {
      tries = goes_on c.args.seed c.args.clients c.args.rounds r.clients.0 r.clients.1 r.rounds l.crew l.phases c.next_phase.new.self c.in-Some.events l.numbers t next _ c.in_ok-told.told c.serve.new.self
          (c.in_ok-told.ensures.told (stress_config c.args.clients) t.done t.bodies t.run) c.with-numbers.result w.phases w.events w.requests w.replies w.few;
    }

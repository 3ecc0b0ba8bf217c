use Rattle.std.proofs.Common.{◌≡◌, refl, sym, ◌∙◌, subst}
use Rattle.mms_types.specs.declared.event.CellEvent.{CellEvent}
use Rattle.mms_device.specs.Shared.{IsServed}
use Rattle.mms_device.proofs.Turning.{fit_served, made_refused, made_served}
use Rattle.mms_device.proofs.turns.serve_next.Goals as goal

pub returns-in-Some-take_first-clause-fit : goal.returns-in-Some-take_first-clause-fit
returns-in-Some-take_first-clause-fit g c =
    let next = c.in-Some.ensures in
    let taken = c.in-Some-take_first.ensures in
    let same : c.in-Some.event.now ≡ c.in-Some-take_first.event = cc (sym next.1 ∙ taken) in
    let made = c.in-Ok.ensures.served in
    let served = subst (λ (e : CellEvent). IsServed e c.args.job.now.pass c.try_serve.new.pass c.in-Ok.served.ticket made.0) same made.1 in
    fit_served c.args.device.now c.args.job.now c.in-Some-take_first.event c.take_first.new.self c.requires.fit taken
    (record { pass = c.try_serve.new.pass; rest = c.take_first.new.self; log = c.push_reserved.new.self }) c.in-Ok.served.ticket made.0 served refl c.push_reserved.ensures.items c.push_reserved.ensures.capacity

pub returns-in-Some-take_first-clause-made : goal.returns-in-Some-take_first-clause-made
returns-in-Some-take_first-clause-made g c =
    let next = c.in-Some.ensures in
    let taken = c.in-Some-take_first.ensures in
    let same : c.in-Some.event.now ≡ c.in-Some-take_first.event = cc (sym next.1 ∙ taken) in
    let made = c.in-Ok.ensures.served in
    let served = subst (λ (e : CellEvent). IsServed e c.args.job.now.pass c.try_serve.new.pass c.in-Ok.served.ticket made.0) same made.1 in
    made_served c.args.device.now c.args.job.now c.in-Some-take_first.event c.take_first.new.self c.requires.fit taken
    (record { pass = c.try_serve.new.pass; rest = c.take_first.new.self; log = c.push_reserved.new.self }) c.in-Ok.served.ticket made.0 served refl c.push_reserved.ensures.items

pub returns-in-Err-Busy-clause-made : goal.returns-in-Err-Busy-clause-made
returns-in-Err-Busy-clause-made g c =
    made_refused c.args.device.now.config c.in-Some.event.now c.args.job.now (record { pass = c.try_serve.new.pass; rest = c.args.job.now.rest; log = c.args.job.now.log }) _ refl refl c.in-Err-Busy.ensures.refused

pub returns-in-Err-Memory-clause-made : goal.returns-in-Err-Memory-clause-made
returns-in-Err-Memory-clause-made g c =
    made_refused c.args.device.now.config c.in-Some.event.now c.args.job.now (record { pass = c.try_serve.new.pass; rest = c.args.job.now.rest; log = c.args.job.now.log }) _ refl refl c.in-Err-Memory.ensures.refused

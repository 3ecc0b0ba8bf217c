use Rattle.std.proofs.Common.{List, Option, sym, ap, ◌∙◌, subst, refl}
use Rattle.part_table.specs.Held.{IsHandOf}
use Rattle.step_parts.specs.declared.part.Part.{Part}
use Rattle.step_parts.specs.Needs.{need}
use Rattle.step_parts.specs.Partition.{parts_of}
use Rattle.step_parts.specs.Found.{IsFoundOf}
use Rattle.mms_device.specs.Refusals.{IsRefused}
use Rattle.mms_device.specs.Shared.{IsOf, IsTimely, Caller, Shared, led_to}
use Rattle.mms_device.proofs.Outcomes.{hand_led, served, refuses, kept}
use Rattle.mms_device.proofs.Between.{state_held, among_held, time_held}
use Rattle.mms_device.proofs.many.Device.try_read.Goals as goal

pub returns-in-Err-clause-refused : goal.returns-in-Err-clause-refused
returns-in-Err-clause-refused g c =
    let config = c.self.inside.config.value in
    let table = c.requires.may.table ∙ sym (ap (λ (d : Shared). d.table) c.self.view_is) in
    let taking = c.take_wanted.ensures.taking in
    let saw_table = ap (λ (x : Caller). x.table) c.see.ensures.kept ∙ ap (λ (x : Caller). x.table) taking.pass ∙ table in
    let led = hand_led config c.see.new.pass (subst (λ t. IsOf t config) (sym saw_table) c.self.invariant.0) c.see.ensures.parts in
    subst (λ (d : Shared). IsRefused d.config c.args.event.now c.args.pass.now c.give_all.new.pass c.in-Err.refused) c.self.view_is
    (refuses c.args.event.now c.args.pass.now c.take_wanted.new.pass taking c.requires.idle c.a_pass_knows_its_own_places.ensures c.see.new.pass c.give_all.new.pass c.see.ensures.kept c.see.ensures.seen
    c.a_pass_knows_its_own_places-in-Err.ensures c.give_all.ensures config c.in-Err.refused led c.in-Err.ensures.stopped)

pub on_hand-requires : goal.on_hand-requires
on_hand-requires g c =
    let config = c.self.inside.config.value in
    let p = c.take_wanted.new.pass in
    let taking = c.take_wanted.ensures.taking in
    let of_table = subst (λ t. IsOf t config) (sym (c.requires.may.table ∙ sym (ap (λ (d : Shared). d.table) c.self.view_is))) c.self.invariant.0 in
    let knew = c.a_pass_knows_its_own_places.ensures in
    let knows = c.a_pass_knows_its_own_places-2.ensures in
    let of = subst (λ (d : Shared). IsHandOf p.taken (parts_of (led_to d.config p.seen))) (sym c.self.view_is) c.in-Ok.ensures.all.0.of in
    let time = subst (λ (d : Shared). IsTimely d.config c.args.pass.now c.args.event.now) (sym c.self.view_is) c.requires.may.time in record {
      may = record {
        of = state_held config c.self.invariant.1 c.args.event.now c.args.pass.now p taking of_table knew knows of p.hand refl;
        found_of = subst (λ (h : List (Option Part)). IsFoundOf c.in-Ok.found c.args.event.now h) (sym taking.hand) c.in-Ok.ensures.found;
        among = among_held config c.self.invariant.1 c.args.event.now c.args.pass.now p taking of_table knew knows of p.hand refl c.requires.may.actor;
        held = ap (λ (h : List (Option Part)). need c.args.event.now h) taking.hand ∙ c.in-Ok.ensures.all.0.enough;
        time = time_held config c.self.invariant.1 c.args.event.now c.args.pass.now p taking of_table knew knows of p.hand refl c.requires.may.actor.0 time;
      };
    }

pub returns-in_default-clause-refused : goal.returns-in_default-clause-refused
returns-in_default-clause-refused g c =
    let p = c.take_wanted.new.pass in
    kept c.args.event.now c.args.pass.now p c.take_wanted.ensures.taking c.requires.idle c.a_pass_knows_its_own_places.ensures c.on_hand.new.pass c.give_all-in_default.new.pass
    c.a_pass_knows_its_own_places-2.ensures c.in-Ok.ensures.all.1 c.in_default.ensures.kept c.give_all-in_default.ensures

pub returns-clause-served : goal.returns-clause-served
returns-clause-served g c =
    let p = c.take_wanted.new.pass in
    let added = c.commit-ticket.ensures.added in (
      added.0,
      served c.args.event.now c.args.pass.now p c.take_wanted.ensures.taking c.requires.idle c.a_pass_knows_its_own_places.ensures c.on_hand.new.pass c.commit-ticket.new.pass c.give_all-2.new.pass
          c.commit-ticket.result added.0 c.in-Ok.ensures.all.1 c.on_hand.ensures.pass added.1 added.2 c.commit-ticket.ensures.place c.commit-ticket.ensures.places c.give_all-2.ensures,
    )

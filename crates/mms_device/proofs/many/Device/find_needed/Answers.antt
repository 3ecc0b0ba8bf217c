use Rattle.std.proofs.Common.{List, Option, sym, ap, ◌∙◌, subst}
use Rattle.std.proofs.lemmas.Result.{IfOk-weaker}
use Rattle.part_table.specs.Held.{IsHandOf}
use Rattle.parted_state.specs.Sets.{IsSetOf}
use Rattle.step_parts.specs.declared.part.Part.{Part}
use Rattle.step_parts.specs.Found.{IsFoundOf}
use Rattle.step_parts.specs.Needs.{need}
use Rattle.step_parts.specs.Partition.{parts_of}
use Rattle.mms_device.specs.Shared.{IsOf, IsTimely, Caller, Shared, led_to}
use Rattle.mms_device.proofs.Between.{state_held, among_held, time_held}
use Rattle.mms_device.proofs.Outcomes.{can_seen, hand_led, looked}
use Rattle.mms_device.proofs.many.Device.find_needed.Goals as goal

pub need_by-requires : goal.need_by-requires
need_by-requires c =
    let config = c.self.inside.config.value in
    let old = c.args.pass.now in
    let saw = c.see.new.pass in
    let can = c.requires.can in
    let of_old = subst (λ t. IsOf t config) (sym (can.may.table ∙ sym (ap (λ (d : Shared). d.table) c.self.view_is))) c.self.invariant.0 in
    let of_saw = subst (λ t. IsOf t config) (sym (ap (λ (p : Caller). p.table) c.see.ensures.kept)) of_old in
    let taking = looked c.args.event.now old saw c.see.ensures.kept c.see.ensures.seen can.wanted can.hand in
    let knew = c.a_pass_knows_its_own_places.ensures in
    let knows = c.a_pass_knows_its_own_places-2.ensures in
    let of = hand_led config saw of_saw c.see.ensures.parts in
    let time = subst (λ (d : Shared). IsTimely d.config old c.args.event.now) (sym c.self.view_is) can.may.time in record {
      of = state_held config c.self.invariant.1 c.args.event.now old saw taking of_old knew knows of c.hand.result.now c.hand.ensures;
      found = subst (λ (h : List (Option Part)). IsFoundOf c.args.found.now c.args.event.now h) (sym (c.hand.ensures ∙ ap (λ (p : Caller). p.hand) c.see.ensures.kept ∙ can.hand)) can.found_of;
      among = among_held config c.self.invariant.1 c.args.event.now old saw taking of_old knew knows of c.hand.result.now c.hand.ensures can.may.actor;
      time = time_held config c.self.invariant.1 c.args.event.now old saw taking of_old knew knows of c.hand.result.now c.hand.ensures can.may.actor.0 time;
    }

pub returns-clause-can : goal.returns-clause-can
returns-clause-can c =
    can_seen c.args.event.now c.args.self.now c.args.found.now c.args.pass.now c.see.new.pass c.see.ensures.kept c.see.ensures.seen c.a_pass_knows_its_own_places.ensures
    c.a_pass_knows_its_own_places-2.ensures c.requires.can

pub returns-clause-needed : goal.returns-clause-needed
returns-clause-needed c =
    let config = c.self.inside.config.value in
    let saw = c.see.new.pass in
    let can = c.requires.can in
    let taking = looked c.args.event.now c.args.pass.now saw c.see.ensures.kept c.see.ensures.seen can.wanted can.hand in
    let table = ap (λ (p : Caller). p.table) c.see.ensures.kept ∙ can.may.table ∙ sym (ap (λ (d : Shared). d.table) c.self.view_is) in
    IfOk-weaker c.need_by.result _ _
    (λ parts set. record {
      set = subst (λ (h : List (Option Part)). IsSetOf parts (need c.args.event.now h)) (c.hand.ensures ∙ taking.hand) set;
      of = subst (λ (d : Shared). IsHandOf saw.taken (parts_of (led_to d.config saw.seen))) c.self.view_is (hand_led config saw (subst (λ t. IsOf t config) (sym table) c.self.invariant.0) c.see.ensures.parts);
    }) c.need_by.ensures

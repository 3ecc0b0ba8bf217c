use Rattle.std.proofs.Common.{◌≡◌, ◌<◌, [], List, Option, length, sym, ap, subst, eqb-true}
use Rattle.std.proofs.lemmas.Bool.{eqb-false}
use Rattle.std.proofs.lemmas.List.{nil_from_length}
use Rattle.parted_state.proofs.SetLaws.{empty_set}
use Rattle.step_parts.specs.declared.part.Part.{Part}
use Rattle.step_parts.specs.Needs.{need}
use Rattle.mms_device.specs.Shared.{Caller}
use Rattle.mms_device.specs.Taken.{free_count}
use Rattle.mms_device.proofs.Outcomes.{can_more, looked, lost_more, more_taken}
use Rattle.mms_device.proofs.many.Device.take_more.Goals as goal

pub returns-in_default-clause-taking : goal.returns-in_default-clause-taking
returns-in_default-clause-taking g c =
    looked c.args.event.now c.args.pass.now c.find_needed.new.pass c.find_needed.ensures.seen.pass c.find_needed.ensures.seen.seen c.requires.can.wanted c.requires.can.hand

pub returns-then-is_empty-clause-taking : goal.returns-then-is_empty-clause-taking
returns-then-is_empty-clause-taking g c =
    looked c.args.event.now c.args.pass.now c.find_needed.new.pass c.find_needed.ensures.seen.pass c.find_needed.ensures.seen.seen c.requires.can.wanted c.requires.can.hand

pub returns-then-is_empty-clause-all : goal.returns-then-is_empty-clause-all
returns-then-is_empty-clause-all g c same =
    let none : c.in-Ok.needed ≡ [] = nil_from_length c.in-Ok.needed (eqb-true (length c.in-Ok.needed) 0 (sym c.if-is_empty.ensures)) in record {
      enough = (empty_set c.in-Ok.needed (need c.args.event.now c.find_needed.new.pass.taken) c.in-Ok.ensures.needed.set).0 none;
      of = c.in-Ok.ensures.needed.of;
    }

pub returns-in-Ok-take_needed-clause-taking : goal.returns-in-Ok-take_needed-clause-taking
returns-in-Ok-take_needed-clause-taking g c =
    more_taken c.args.event.now c.args.pass.now c.find_needed.new.pass c.take_needed.new.pass c.in-Ok.needed c.find_needed.ensures.seen.pass c.find_needed.ensures.seen.seen c.requires.can.wanted
    c.take_needed.ensures.taken c.take_needed.ensures.shown

pub returns-in-Ok-take_needed-clause-can : goal.returns-in-Ok-take_needed-clause-can
returns-in-Ok-take_needed-clause-can g c =
    can_more c.args.event.now c.args.self.now c.args.found.now c.args.pass.now c.find_needed.new.pass c.take_needed.new.pass c.in-Ok.needed c.find_needed.ensures.can c.take_needed.ensures.taken
    (returns-in-Ok-take_needed-clause-taking g c)

pub returns-in-Ok-take_needed-clause-more : goal.returns-in-Ok-take_needed-clause-more
returns-in-Ok-take_needed-clause-more g c same =
    subst (λ (h : List (Option Part)). free_count c.take_needed.new.pass.taken < free_count h) (ap (λ (p : Caller). p.taken) c.find_needed.ensures.seen.pass)
    (c.in-Ok-take_needed.ensures.fewer (λ none. eqb-false (length c.in-Ok.needed) 0 (sym c.if-is_empty.ensures) (ap length none)))

pub returns-in-Err-clause-taking : goal.returns-in-Err-clause-taking
returns-in-Err-clause-taking g c =
    more_taken c.args.event.now c.args.pass.now c.find_needed.new.pass c.take_needed.new.pass c.in-Ok.needed c.find_needed.ensures.seen.pass c.find_needed.ensures.seen.seen c.requires.can.wanted
    c.take_needed.ensures.taken c.take_needed.ensures.shown

pub returns-in-Err-clause-can : goal.returns-in-Err-clause-can
returns-in-Err-clause-can g c =
    can_more c.args.event.now c.args.self.now c.args.found.now c.args.pass.now c.find_needed.new.pass c.take_needed.new.pass c.in-Ok.needed c.find_needed.ensures.can c.take_needed.ensures.taken
    (returns-in-Err-clause-taking g c)

pub returns-in-Err-clause-stopped : goal.returns-in-Err-clause-stopped
returns-in-Err-clause-stopped g c =
    let lost = c.in-Err.ensures.lost in
    lost_more c.args.event.now c.args.pass.now c.find_needed.new.pass c.take_needed.new.pass c.in-Ok.needed c.in-Err.busy.part c.in-Err.busy.by c.find_needed.ensures.seen.pass
    c.take_needed.ensures.taken (c.take_needed.ensures.shown c.in-Err.busy.part lost.0) lost.1 lost.2

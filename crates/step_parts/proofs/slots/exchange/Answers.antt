use Rattle.std.proofs.Common.{ap, ◌∙◌}
use Rattle.step_parts.specs.Slots.{over}
use Rattle.step_parts.proofs.Changed.{free_changed, part_changed, place_left}
use Rattle.step_parts.proofs.slots.exchange.Goals as goal

pub returns-in_default-clause-part : goal.returns-in_default-clause-part
returns-in_default-clause-part g c =
    free_changed (over (g.T.InPart.slot.wrap c.args.own.now)) c.args.held.now c.take.new.self c.args.place c.in_default.ensures.part c.in_default.ensures.left

pub put-requires : goal.put-requires
put-requires g c = record { place = place_left c.args.held.now c.take.new.self c.args.place c.in-Some.part.value c.in-Some.ensures.part c.in-Some.ensures.left }

pub returns-clause-part : goal.returns-clause-part
returns-clause-part g c =
    part_changed (over (g.T.InPart.slot.wrap c.args.own.now)) c.args.held.now c.take.new.self c.put.new.self c.args.place c.in-Some.part.value c.exchange.new.part
    c.in-Some.ensures.part c.in-Some.ensures.left (c.exchange.ensures.part ∙ ap (over (g.T.InPart.slot.wrap c.args.own.now)) c.deref_mut.ensures.value) c.put.ensures

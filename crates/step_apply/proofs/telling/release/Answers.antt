use Rattle.std.proofs.Common.{◌+◌, ap}
use Rattle.step_parts.specs.declared.part.Part.TheVariants.{Client}
use Rattle.step_apply.specs.Rooms.{no_room, with_room}
use Rattle.step_parts.proofs.Changed.{free_changed, place_left}
use Rattle.step_apply.proofs.Changed.{client_arm, other_arm}
use Rattle.step_apply.proofs.ToldLaws.{with_room_other}
use Rattle.step_apply.proofs.telling.release.Goals as goal

pub returns-in_default : goal.returns-in_default
returns-in_default c = free_changed (with_room no_room) c.args.held.now c.take.new.self (5 + c.args.client) c.in_default.ensures.part c.in_default.ensures.left

pub put-requires : goal.put-requires
put-requires c = record { place = place_left c.args.held.now c.take.new.self (5 + c.args.client) c.in-Some.part.value c.in-Some.ensures.part c.in-Some.ensures.left }

pub put-requires-in_default-deref_mut : goal.put-requires-in_default-deref_mut
put-requires-in_default-deref_mut c = record { place = place_left c.args.held.now c.take.new.self (5 + c.args.client) c.in-Some.part.value c.in-Some.ensures.part c.in-Some.ensures.left }

pub returns-in-Client : goal.returns-in-Client
returns-in-Client c =
    client_arm (with_room no_room) c.args.held.now c.take.new.self c.put.new.self (5 + c.args.client) c.in-Some.part.value
    c.deref_mut.result.now c.in-Client.client c.release.new.self c.in-Some.ensures.part c.in-Some.ensures.left c.deref_mut.ensures.value c.in-Client.is
    (ap Client c.release.ensures) c.put.ensures

pub returns-in_default-deref_mut : goal.returns-in_default-deref_mut
returns-in_default-deref_mut c =
    other_arm (with_room no_room) c.args.held.now c.take.new.self c.put-in_default-deref_mut.new.self (5 + c.args.client) c.in-Some.part.value
    c.deref_mut.result.now c.in-Some.ensures.part c.in-Some.ensures.left c.deref_mut.ensures.value
    (with_room_other no_room c.deref_mut.result.now c.in_default-deref_mut.not-Client) c.put-in_default-deref_mut.ensures

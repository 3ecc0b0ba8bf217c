use Rattle.std.proofs.Common.{◌+◌, ap}
use Rattle.std.proofs.lemmas.Result.{on_ok_weaker, on_err_weaker}
use Rattle.step_parts.specs.declared.part.Part.TheVariants.{Client}
use Rattle.step_apply.specs.Rooms.{with_room}
use Rattle.step_parts.proofs.Changed.{free_changed, place_left}
use Rattle.step_apply.proofs.Changed.{client_arm, other_arm, client_kept}
use Rattle.step_apply.proofs.ToldLaws.{with_room_other}
use Rattle.step_apply.proofs.telling.make_room.Goals as goal

pub returns-in_default-clause-made : goal.returns-in_default-clause-made
returns-in_default-clause-made c = free_changed (with_room c.args.room) c.args.held.now c.take.new.self (5 + c.args.client) c.in_default.ensures.part c.in_default.ensures.left

pub put-requires : goal.put-requires
put-requires c = record { place = place_left c.args.held.now c.take.new.self (5 + c.args.client) c.in-Some.part.value c.in-Some.ensures.part c.in-Some.ensures.left }

pub put-requires-in_default-deref_mut : goal.put-requires-in_default-deref_mut
put-requires-in_default-deref_mut c = record { place = place_left c.args.held.now c.take.new.self (5 + c.args.client) c.in-Some.part.value c.in-Some.ensures.part c.in-Some.ensures.left }

pub returns-in-Client-clause-made : goal.returns-in-Client-clause-made
returns-in-Client-clause-made c =
    on_ok_weaker c.reserve-made.result
    (λ done. client_arm (with_room c.args.room) c.args.held.now c.take.new.self c.put.new.self (5 + c.args.client) c.in-Some.part.value
    c.deref_mut.result.now c.in-Client.client c.reserve-made.new.self c.in-Some.ensures.part c.in-Some.ensures.left c.deref_mut.ensures.value c.in-Client.is
    (ap Client done) c.put.ensures)
    c.reserve-made.ensures.made

pub returns-in-Client-clause-kept : goal.returns-in-Client-clause-kept
returns-in-Client-clause-kept c =
    on_err_weaker c.reserve-made.result
    (λ kept. client_kept c.args.held.now c.take.new.self c.put.new.self (5 + c.args.client) c.in-Some.part.value c.deref_mut.result.now c.in-Client.client
    c.reserve-made.new.self c.in-Some.ensures.part c.in-Some.ensures.left c.deref_mut.ensures.value c.in-Client.is kept c.put.ensures)
    c.reserve-made.ensures.kept

pub returns-in_default-deref_mut : goal.returns-in_default-deref_mut
returns-in_default-deref_mut c = record {
  made = other_arm (with_room c.args.room) c.args.held.now c.take.new.self c.put-in_default-deref_mut.new.self (5 + c.args.client) c.in-Some.part.value
      c.deref_mut.result.now c.in-Some.ensures.part c.in-Some.ensures.left c.deref_mut.ensures.value
      (with_room_other c.args.room c.deref_mut.result.now c.in_default-deref_mut.not-Client) c.put-in_default-deref_mut.ensures;
  kept = tt;
}

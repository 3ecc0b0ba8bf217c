use Rattle.std.proofs.Common.{sym, ◌∙◌, ap, List, Option, ◌+◌, arith}
use Rattle.std.specs.Option.{option_map}
use Rattle.parted_state.specs.Served.{change}
use Rattle.step_parts.specs.declared.part.Part.{Part}
use Rattle.step_parts.specs.Partition.{client_place}
use Rattle.step_apply.specs.declared.telling.Room.{Room}
use Rattle.step_apply.specs.Rooms.{with_room, without_rooms, room_to}
use Rattle.step_apply.proofs.ToldLaws.{no_rooms_yet, room_made, room_needless, rooms_gone, untold_room}
use Rattle.step_apply.proofs.telling.make_rooms.Goals as goal
use Rattle.step_apply.proofs.telling.make_rooms.Goals.{then-is_told+in_default, else-is_told}

pub loop-client-init : goal.loop-client-init
loop-client-init c = record { some = omega arith; made = sym (no_rooms_yet (room_to c.args.told.now) c.args.held.now) }

pub returns-in-Err-clause-kept : goal.returns-in-Err-clause-kept
returns-in-Err-clause-kept c =
    let below = c.loop-client-test.true in
    c.release_all.ensures
    ∙ ap (without_rooms _) (c.in-Err.ensures.kept ∙ c.loop-client.invariant.made)
    ∙ rooms_gone c.loop-client.client _ (room_to c.args.told.now) c.args.held.now (omega (arith, below))
    ∙ c.requires.settled

pub loop-client-preserved : goal.loop-client-preserved
loop-client-preserved c =
    let some = c.loop-client.invariant.some in
    record {
      some = omega (arith, some);
      made = elim c.if-is_told.branch [
        | then-is_told+in_default w ↦
            w.held-is ∙ w.in_default.ensures.made
            ∙ ap (λ (r : Room). change (option_map (with_room r)) c.loop-client.held (client_place c.loop-client.client)) w.room_to.ensures
            ∙ ap (λ (l : List (Option Part)). change (option_map (with_room (room_to c.args.told.now c.loop-client.client))) l (client_place c.loop-client.client))
            c.loop-client.invariant.made
            ∙ room_made c.loop-client.client (room_to c.args.told.now) c.args.held.now some
        | else-is_told w ↦
            let below = c.loop-client-test.true in
            w.held-is ∙ c.loop-client.invariant.made
            ∙ room_needless c.loop-client.client (c.args.clients + 1) (room_to c.args.told.now) c.args.held.now some below c.requires.settled
            (untold_room c.loop-client.client c.args.told.now (sym c.is_told.ensures ∙ w.if-is_told.false))
      ];
    }

use Rattle.std.proofs.Common.{sym, ◌∙◌, ap, List, Option, arith}
use Rattle.std.specs.Option.{option_map}
use Rattle.parted_state.specs.Served.{change}
use Rattle.step_parts.specs.declared.part.Part.{Part}
use Rattle.step_parts.specs.Partition.{client_place}
use Rattle.step_apply.specs.Rooms.{no_room, with_room}
use Rattle.step_apply.proofs.ToldLaws.{no_rooms_yet, room_made}
use Rattle.step_apply.proofs.telling.release_all.Goals as goal

pub loop-client-init : goal.loop-client-init
loop-client-init c = record { some = omega arith; released = sym (no_rooms_yet (λ client. no_room) c.args.held.now) }

pub loop-client-preserved : goal.loop-client-preserved
loop-client-preserved c =
    let some = c.loop-client.invariant.some in
    record {
      some = omega (arith, some);
      released =
          c.release.ensures
          ∙ ap (λ (l : List (Option Part)). change (option_map (with_room no_room)) l (client_place c.loop-client.client)) c.loop-client.invariant.released
          ∙ room_made c.loop-client.client (λ client. no_room) c.args.held.now some;
    }

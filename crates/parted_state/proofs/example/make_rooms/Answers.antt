use Rattle.std.proofs.Common.{◌∙◌, Option, List, ap, sym}
use Rattle.part_table.specs.Held.{held_at}
use Rattle.parted_state.specs.declared.example.ShopPart.{ShopPart}
use Rattle.parted_state.specs.Rows.{with_room}
use Rattle.parted_state.specs.Shop.{roomy_in}
use Rattle.parted_state.proofs.Putting.{roomed, is_row, row_at, row_beside, room_given_up}
use Rattle.parted_state.proofs.example.make_rooms.Goals as goal

pub make_room-requires-2 : goal.make_room-requires-2
make_room-requires-2 c = record {
  held = is_row (held_at c.make_room.new.held c.args.other) (roomy_in (held_at c.args.held.now c.args.other))
      (ap (λ (l : List (Option ShopPart)). held_at l c.args.other) c.in_ok-make_room.ensures.made
      ∙ row_beside (with_room 1) c.args.held.now c.args.client c.args.other (λ same. c.requires.apart (sym same)) ∙ c.requires.held_other);
}

pub release-requires : goal.release-requires
release-requires c = record {
  held = is_row (held_at c.make_room-2.new.held c.args.client) (with_room 1 (roomy_in (held_at c.args.held.now c.args.client)))
      (ap (λ (l : List (Option ShopPart)). held_at l c.args.client) (c.in-Err.ensures.kept ∙ c.in_ok-make_room.ensures.made)
      ∙ row_at (with_room 1) c.args.held.now c.args.client _ c.requires.held);
}

pub returns-in-Err-clause-kept : goal.returns-in-Err-clause-kept
returns-in-Err-clause-kept c =
    c.release.ensures
    ∙ ap (roomed 0 c.args.client) (c.in-Err.ensures.kept ∙ c.in_ok-make_room.ensures.made)
    ∙ room_given_up c.args.client c.args.held.now c.requires.held c.requires.empty

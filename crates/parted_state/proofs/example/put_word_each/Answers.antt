use Rattle.std.proofs.Common.{◌∙◌, Option, List, ap, arith}
use Rattle.part_table.specs.Held.{held_at}
use Rattle.parted_state.specs.declared.example.ShopPart.{ShopPart}
use Rattle.parted_state.specs.Lifted.{with_tables}
use Rattle.parted_state.specs.Rows.{with_room}
use Rattle.parted_state.specs.Shop.{shop, roomy_in}
use Rattle.parted_state.proofs.Putting.{worded, is_row, room_is, each_put}
use Rattle.parted_state.proofs.Putting.{first_held, second_held}
use Rattle.parted_state.proofs.example.put_word_each.Goals as goal

pub tell-requires-clause-held : goal.tell-requires-clause-held
tell-requires-clause-held c =
    is_row (held_at c.lower.new.held c.args.told.0) (with_room 1 (roomy_in (held_at c.args.held.now c.args.told.0)))
    (ap (λ (l : List (Option ShopPart)). held_at l c.args.told.0) (c.lower.ensures ∙ ap (with_tables shop c.args.clients c.args.tables) c.in_ok-make_rooms.ensures.made)
    ∙ first_held c.args.clients c.args.tables c.args.told.0 c.args.also.0 c.args.held.now _ c.requires.apart c.requires.among.0 c.requires.among.1 c.requires.held)

pub tell-requires-clause-room : goal.tell-requires-clause-room
tell-requires-clause-room c =
    let room = room_is (held_at c.lower.new.held c.args.told.0) (with_room 1 (roomy_in (held_at c.args.held.now c.args.told.0)))
    (ap (λ (l : List (Option ShopPart)). held_at l c.args.told.0) (c.lower.ensures ∙ ap (with_tables shop c.args.clients c.args.tables) c.in_ok-make_rooms.ensures.made)
    ∙ first_held c.args.clients c.args.tables c.args.told.0 c.args.also.0 c.args.held.now _ c.requires.apart c.requires.among.0 c.requires.among.1 c.requires.held) in
    omega (arith, room)

pub tell-requires-2-clause-held : goal.tell-requires-2-clause-held
tell-requires-2-clause-held c =
    is_row (held_at c.tell.new.held c.args.also.0) (with_room 1 (roomy_in (held_at c.args.held.now c.args.also.0)))
    (ap (λ (l : List (Option ShopPart)). held_at l c.args.also.0) (c.tell.ensures ∙ ap (worded c.args.told.1 c.args.told.0) (c.lower.ensures ∙ ap (with_tables shop c.args.clients c.args.tables) c.in_ok-make_rooms.ensures.made))
    ∙ second_held c.args.clients c.args.tables c.args.told.0 c.args.also.0 c.args.told.1 c.args.held.now _ c.requires.apart c.requires.among_also.0 c.requires.among_also.1 c.requires.held_also)

pub tell-requires-2-clause-room : goal.tell-requires-2-clause-room
tell-requires-2-clause-room c =
    let room = room_is (held_at c.tell.new.held c.args.also.0) (with_room 1 (roomy_in (held_at c.args.held.now c.args.also.0)))
    (ap (λ (l : List (Option ShopPart)). held_at l c.args.also.0) (c.tell.ensures ∙ ap (worded c.args.told.1 c.args.told.0) (c.lower.ensures ∙ ap (with_tables shop c.args.clients c.args.tables) c.in_ok-make_rooms.ensures.made))
    ∙ second_held c.args.clients c.args.tables c.args.told.0 c.args.also.0 c.args.told.1 c.args.held.now _ c.requires.apart c.requires.among_also.0 c.requires.among_also.1 c.requires.held_also) in
    omega (arith, room)

pub returns-clause-put : goal.returns-clause-put
returns-clause-put c =
    c.tell-2.ensures
    ∙ ap (worded c.args.also.1 c.args.also.0) (c.tell.ensures ∙ ap (worded c.args.told.1 c.args.told.0) (c.lower.ensures ∙ ap (with_tables shop c.args.clients c.args.tables) c.in_ok-make_rooms.ensures.made))
    ∙ each_put c.args.clients c.args.tables c.args.told.0 c.args.also.0 c.args.told.1 c.args.also.1 c.args.held.now _ _ c.requires.apart
    c.requires.among.0 c.requires.among.1 c.requires.among_also.0 c.requires.among_also.1 c.requires.held c.requires.held_also

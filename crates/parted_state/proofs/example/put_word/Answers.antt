use Rattle.std.proofs.Common.{◌∙◌, Option, List, ap, arith}
use Rattle.part_table.specs.Held.{held_at}
use Rattle.parted_state.specs.declared.example.ShopPart.{ShopPart}
use Rattle.parted_state.specs.Lifted.{with_tables}
use Rattle.parted_state.specs.Rows.{with_room}
use Rattle.parted_state.specs.Shop.{shop, roomy_in}
use Rattle.parted_state.proofs.Putting.{roomed, worded, is_row, room_is, beside_tables, row_at, word_put}
use Rattle.parted_state.proofs.example.put_word.Goals as goal

pub tell-requires-clause-held : goal.tell-requires-clause-held
tell-requires-clause-held c =
    let row = roomy_in (held_at c.args.held.now c.args.client) in
    let made = row_at (with_room 1) c.args.held.now c.args.client row c.requires.held in
    is_row (held_at c.lower.new.held c.args.client) (with_room 1 row)
    (ap (λ (l : List (Option ShopPart)). held_at l c.args.client) (c.lower.ensures ∙ ap (with_tables shop c.args.clients c.args.tables) c.in_ok-make_room.ensures.made)
    ∙ beside_tables c.args.clients c.args.tables (roomed 1 c.args.client c.args.held.now) c.args.client c.requires.among.0 c.requires.among.1 ∙ made)

pub tell-requires-clause-room : goal.tell-requires-clause-room
tell-requires-clause-room c =
    let row = roomy_in (held_at c.args.held.now c.args.client) in
    let made = row_at (with_room 1) c.args.held.now c.args.client row c.requires.held in
    let room = room_is (held_at c.lower.new.held c.args.client) (with_room 1 row)
    (ap (λ (l : List (Option ShopPart)). held_at l c.args.client) (c.lower.ensures ∙ ap (with_tables shop c.args.clients c.args.tables) c.in_ok-make_room.ensures.made)
    ∙ beside_tables c.args.clients c.args.tables (roomed 1 c.args.client c.args.held.now) c.args.client c.requires.among.0 c.requires.among.1 ∙ made) in
    omega (arith, room)

pub returns-clause-put : goal.returns-clause-put
returns-clause-put c =
    c.tell.ensures
    ∙ ap (worded c.args.word c.args.client) (c.lower.ensures ∙ ap (with_tables shop c.args.clients c.args.tables) c.in_ok-make_room.ensures.made)
    ∙ word_put c.args.clients c.args.tables c.args.client c.args.word c.args.held.now (roomy_in (held_at c.args.held.now c.args.client))
    c.requires.among.0 c.requires.among.1 c.requires.held

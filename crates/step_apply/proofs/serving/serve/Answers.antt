use Rattle.std.proofs.Common.{◌+◌, ap, sym, ◌∙◌, subst, List, Option}
use Rattle.parted_state.specs.Lifted.{put_in_place}
use Rattle.parted_state.specs.Served.{Done}
use Rattle.step_parts.specs.declared.part.Part.{Part}
use Rattle.step_apply.specs.Tasks.{task_done, HoldsOwn}
use Rattle.step_apply.specs.Lifting.{tabled}
use Rattle.cell_client.specs.Effects.{Effect}
use Rattle.cell_services.specs.Meant.{no_tables}
use Rattle.step_parts.specs.Partition.{cell}
use Rattle.cell_services.specs.Tables.{Tables}
use Rattle.step_apply.specs.Rooms.{room_to, with_rooms, IsSettled}
use Rattle.step_apply.proofs.ServeLaws.{is_settled, settled_tabled, rooms_kept, clients_kept, told_in_place, done_kept, lifted_shown, many_lifted, many_roomed, own_kept, put_back_own, timely_kept}
use Rattle.step_apply.proofs.serving.serve.Goals as goal

pub done-requires-clause-own : goal.done-requires-clause-own
done-requires-clause-own c =
    subst (HoldsOwn c.args.task.now) (sym c.lift-tables.ensures.left) (own_kept c.args.task.now no_tables c.args.held.now c.requires.own)

pub done-requires-clause-time : goal.done-requires-clause-time
done-requires-clause-time c =
    timely_kept c.args.task.now c.lift-tables.result _ (lifted_shown c.lift-tables.result c.args.clients c.args.held.now c.requires.many c.lift-tables.ensures.tables) c.requires.time

pub lower-requires-clause-many : goal.lower-requires-clause-many
lower-requires-clause-many c =
    many_lifted c.args.clients no_tables c.args.held.now c.done.new.held c.requires.many (c.in-Err.ensures.kept ∙ c.lift-tables.ensures.left)

pub lower-requires-in-Ok-clause-many : goal.lower-requires-in-Ok-clause-many
lower-requires-in-Ok-clause-many c =
    many_roomed c.args.clients (c.args.clients + 1) (room_to c.in-Ok.told.items) no_tables c.args.held.now c.lift-tables.new.held c.done.new.held c.requires.many
    c.lift-tables.ensures.left c.in-Ok.ensures.rooms

pub returns-in-Err-clause-kept : goal.returns-in-Err-clause-kept
returns-in-Err-clause-kept c =
    put_back_own c.requires.of.0 no_tables c.args.held.now c.done.new.held c.lower.new.held c.requires.of.1 (c.in-Err.ensures.kept ∙ c.lift-tables.ensures.left)
    (c.lower.ensures ∙ ap (λ (t : Tables). tabled t c.done.new.held)
    (c.in-Err.ensures.same ∙ lifted_shown c.lift-tables.result c.args.clients c.args.held.now c.requires.many c.lift-tables.ensures.tables))

pub done-requires-clause-settled : goal.done-requires-clause-settled
done-requires-clause-settled c =
    subst (IsSettled (c.args.clients + 1)) (sym c.lift-tables.ensures.left)
    (settled_tabled (c.args.clients + 1) no_tables c.args.held.now (is_settled c.requires.of.0 c.args.held.now c.requires.of.1 (c.args.clients + 1)))

pub tell_all-requires-clause-rooms : goal.tell_all-requires-clause-rooms
tell_all-requires-clause-rooms c =
    rooms_kept c.requires.of.0 c.args.held.now c.requires.of.1 c.args.clients c.requires.many c.in-Ok.told.items no_tables c.done.new.tables c.lower-in-Ok.new.held
    (c.lower-in-Ok.ensures ∙ ap (tabled c.done.new.tables) (c.in-Ok.ensures.rooms
    ∙ ap (with_rooms (c.args.clients + 1) (room_to c.in-Ok.told.items)) c.lift-tables.ensures.left))

pub tell_all-requires-clause-are : goal.tell_all-requires-clause-are
tell_all-requires-clause-are c =
    clients_kept c.requires.of.0 c.args.held.now c.requires.of.1 c.args.clients c.requires.many c.in-Ok.told.items no_tables c.done.new.tables c.lower-in-Ok.new.held
    (c.lower-in-Ok.ensures ∙ ap (tabled c.done.new.tables) (c.in-Ok.ensures.rooms
    ∙ ap (with_rooms (c.args.clients + 1) (room_to c.in-Ok.told.items)) c.lift-tables.ensures.left))

pub returns-in-Ok-clause-put : goal.returns-in-Ok-clause-put
returns-in-Ok-clause-put c =
    c.tell_all.ensures
    ∙ told_in_place c.requires.of.0 c.args.held.now c.requires.of.1 c.args.clients c.requires.many c.in-Ok.told.items no_tables c.done.new.tables c.lower-in-Ok.new.held
    (c.lower-in-Ok.ensures ∙ ap (tabled c.done.new.tables) (c.in-Ok.ensures.rooms
    ∙ ap (with_rooms (c.args.clients + 1) (room_to c.in-Ok.told.items)) c.lift-tables.ensures.left))
    ∙ ap (λ (d : Done Tables Effect). put_in_place cell d c.args.held.now)
    (c.in-Ok.ensures.done
    ∙ ap (λ (h : List (Option Part)). task_done c.lift-tables.result h c.args.task.now) c.lift-tables.ensures.left
    ∙ done_kept c.args.task.now c.lift-tables.result no_tables c.args.held.now c.requires.own
    ∙ ap (λ (t : Tables). task_done t c.args.held.now c.args.task.now) (lifted_shown c.lift-tables.result c.args.clients c.args.held.now c.requires.many c.lift-tables.ensures.tables))

use Rattle.std.proofs.Common.{◌+◌, ap, ◌∙◌}
use Rattle.step_apply.specs.Rooms.{room_to, without_rooms}
use Rattle.step_apply.proofs.ServeLaws.{rooms_given_up}
use Rattle.step_apply.proofs.serving.done.Goals as goal

pub returns-in-Err-clause-kept : goal.returns-in-Err-clause-kept
returns-in-Err-clause-kept c =
    c.release_all.ensures ∙ ap (without_rooms (c.args.clients + 1)) c.in_ok-make_rooms.ensures.made
    ∙ rooms_given_up c.args.clients (room_to c.as_slice.result.now) c.args.held.now c.requires.settled

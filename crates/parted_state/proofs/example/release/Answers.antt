use Rattle.parted_state.specs.Rows.{with_room}
use Rattle.parted_state.proofs.Places.{row_changed}
use Rattle.parted_state.proofs.example.release.Goals as goal

pub returns : goal.returns
returns c =
    row_changed (with_room 0) c.args.held.now c.take.new.self c.put.new.self c.args.client c.in-Some.part.value c.deref_mut.result.now
    c.in-Client.row c.release.new.self c.in-Some.ensures.part c.in-Some.ensures.left c.deref_mut.ensures.value c.in-Client.is c.release.ensures c.put.ensures

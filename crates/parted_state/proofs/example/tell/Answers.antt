use Rattle.parted_state.specs.Rows.{with_word}
use Rattle.parted_state.proofs.Places.{row_changed}
use Rattle.parted_state.proofs.example.tell.Goals as goal

pub returns : goal.returns
returns c =
    row_changed (with_word c.args.word) c.args.held.now c.take.new.self c.put.new.self c.args.client c.in-Some.part.value c.deref_mut.result.now
    c.in-Client.row c.tell.new.self c.in-Some.ensures.part c.in-Some.ensures.left c.deref_mut.ensures.value c.in-Client.is c.tell.ensures c.put.ensures

use Rattle.std.proofs.lemmas.Result.{on_ok_weaker, on_err_weaker}
use Rattle.parted_state.specs.Rows.{with_room}
use Rattle.parted_state.proofs.Places.{row_changed, row_kept}
use Rattle.parted_state.proofs.example.make_room.Goals as goal

pub returns-clause-made : goal.returns-clause-made
returns-clause-made c =
    on_ok_weaker c.reserve-made.result
    (λ done. row_changed (with_room c.args.words) c.args.held.now c.take.new.self c.put.new.self c.args.client c.in-Some.part.value c.deref_mut.result.now
    c.in-Client.row c.reserve-made.new.self c.in-Some.ensures.part c.in-Some.ensures.left c.deref_mut.ensures.value c.in-Client.is done c.put.ensures)
    c.reserve-made.ensures.made

pub returns-clause-kept : goal.returns-clause-kept
returns-clause-kept c =
    on_err_weaker c.reserve-made.result
    (λ kept. row_kept c.args.held.now c.take.new.self c.put.new.self c.args.client c.in-Some.part.value c.deref_mut.result.now
    c.in-Client.row c.reserve-made.new.self c.in-Some.ensures.part c.in-Some.ensures.left c.deref_mut.ensures.value c.in-Client.is kept c.put.ensures)
    c.reserve-made.ensures.kept

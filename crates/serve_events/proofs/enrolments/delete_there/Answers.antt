use Rattle.serve_events.proofs.enrolments.delete_there.Goals as goal

pub drop_selected-requires : goal.drop_selected-requires
drop_selected-requires c = c.in_ok-deletion.ensures.selected

use Rattle.sem_ticks.specs.Drafts.{become, drafted, next_named}
use Rattle.sem_ticks.specs.Meant.{drafting_of}
use Rattle.sem_ticks.proofs.MetIn.{met_lost, met_still, turned, turned_back}
use Rattle.sem_ticks.proofs.meeting.meet_in.Goals as goal

pub returns-then-not-expired-clause-met : goal.returns-then-not-expired-clause-met
returns-then-not-expired-clause-met c _ =
    let rows = c.args.semaphores.now in
    let s = drafting_of rows c.args.drafts.now.items c.args.happened.now.items in
    let t = drafting_of rows c.meet_draft.new.drafts.items c.meet_draft.new.happened.items in
    met_still s t (next_named c.args.next.now) c.in_ok-expired.expired c.in_ok-expired.ensures.met (turned c.in_ok-expired.expired.abort c.if-not-expired.true)

pub returns-clause-met : goal.returns-clause-met
returns-clause-met c _ =
    let rows = c.args.semaphores.now in
    let x = c.in_ok-expired.expired in
    let s = drafting_of rows c.args.drafts.now.items c.args.happened.now.items in
    let t = drafting_of rows c.meet_draft.new.drafts.items c.meet_draft.new.happened.items in
    met_lost s t (next_named c.args.next.now) x c.in_ok-expired.ensures.met (turned_back x.abort c.if-not-expired.false)
    (become (drafted c.abort_in.new.drafts.items) rows) c.in_ok-abort_in.ensures.lost c.abort_in.new.happened.items c.in_ok-abort_in.ensures.told

use Rattle.std.proofs.Common.{◌∙◌, ap}
use Rattle.part_table.specs.Plays.{joined}
use Rattle.part_table.proofs.Meetings.{note_joined, informed}
use Rattle.part_table.proofs.steps.inform.Goals as goal

pub returns-clause-a : goal.returns-clause-a
returns-clause-a g c =
    let o = g.O.Object in
    let saw = c.look.ensures.seen in
    let took = c.take_in.ensures.joined ∙ ap (λ m. (joined m.0 c.note-of_b.result.me.0, m.1)) c.note-of_a.ensures.same.2 in
    let told = note_joined c.args.a.now.me _ c.args.b.now.me.0 c.note-of_b.result.me.0 (ap (λ m. m.0) c.note-of_b.ensures.note.1) took in
    informed o.step o.may_make c.args.a.now.me _ _ c.args.b.now.me.0 saw.0 told saw.1 saw.3 saw.4

pub returns-clause-b : goal.returns-clause-b
returns-clause-b g c =
    let o = g.O.Object in
    let saw = c.look-2.ensures.seen in
    let took = c.take_in-2.ensures.joined ∙ ap (λ m. (joined m.0 c.note-of_a.result.me.0, m.1)) c.note-of_b.ensures.same.2 in
    let told = note_joined c.args.b.now.me _ c.args.a.now.me.0 c.note-of_a.result.me.0 (ap (λ m. m.0) c.note-of_a.ensures.note.1) took in
    informed o.step o.may_make c.args.b.now.me _ _ c.args.a.now.me.0 saw.0 told saw.1 saw.3 saw.4

use Rattle.pool_sem.proofs.Marked.{full-more, free-before, free-there}
use Rattle.pool_sem.proofs.marks.Marks.first_free.Goals as goal

pub returns-then-word-clause-before : goal.returns-then-word-clause-before
returns-then-word-clause-before c =
    free-before c.args.self.now.had c.loop-place.place c.first_zero.result c.first_zero.ensures.within c.first_zero.ensures.before c.loop-place.invariant

pub returns-then-word-clause-there : goal.returns-then-word-clause-there
returns-then-word-clause-there c = λ lt.
    free-there c.args.self.now.had c.loop-place.place c.first_zero.result c.first_zero.ensures.within c.first_zero.ensures.there

pub loop-place-preserved : goal.loop-place-preserved
loop-place-preserved c = full-more c.args.self.now.had c.loop-place.place c.if-word.false c.loop-place.invariant

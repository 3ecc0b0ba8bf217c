use Rattle.std.proofs.Common.{◌∙◌, ◌++◌, [], ◌∷◌, ap, sym}
use Rattle.mms_journal.specs.Range.{in_range}
use Rattle.mms_journal.specs.Selection.{told}
use Rattle.mms_journal.proofs.Told.{listed_last, listed_more}
use Rattle.mms_journal.proofs.reading.first_told.Goals as goal

pub returns-then-len-most-clause-entries : goal.returns-then-len-most-clause-entries
returns-then-len-most-clause-entries c =
    (listed_more (told c.args.range.now.tags) (in_range c.args.range.now) c.args.most c.args.entries.now c.loop-written.written-index c.written-item.result c.loop-written.list c.loop-written-test.true
    (ap (in_range c.args.range.now) (sym c.written-item.is) ∙ sym c.has.ensures ∙ c.if-has.true) c.loop-written.invariant.0 (sym c.len.ensures ∙ c.if-len-most.true)).0

pub returns-then-len-most-clause-more : goal.returns-then-len-most-clause-more
returns-then-len-most-clause-more c = λ no.
    (listed_more (told c.args.range.now.tags) (in_range c.args.range.now) c.args.most c.args.entries.now c.loop-written.written-index c.written-item.result c.loop-written.list c.loop-written-test.true
    (ap (in_range c.args.range.now) (sym c.written-item.is) ∙ sym c.has.ensures ∙ c.if-has.true) c.loop-written.invariant.0 (sym c.len.ensures ∙ c.if-len-most.true)).1

pub returns-then-len-most-2-clause-entries : goal.returns-then-len-most-2-clause-entries
returns-then-len-most-2-clause-entries c =
    let p = in_range c.args.range.now in
    listed_last (told c.args.range.now.tags) p c.args.most c.args.entries.now c.loop-written.written-index c.written-item.result c.loop-written.list _ c.loop-written-test.true
    (ap p (sym c.written-item.is) ∙ sym c.has.ensures ∙ c.if-has.true) c.loop-written.invariant.0
    (c.in_ok-push.ensures.appended ∙ ap (λ x. c.loop-written.list ++ x ∷ []) (c.in_ok-told.ensures ∙ ap (told c.args.range.now.tags) c.written-item.is))
    (sym c.len-then-no_more.ensures ∙ c.if-len-most-2.true)

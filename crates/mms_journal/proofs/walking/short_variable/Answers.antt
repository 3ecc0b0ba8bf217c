use Rattle.std.proofs.Common.{◌∙◌, ◌-◌, ap, arith, drop, take}
use Rattle.mms_journal.proofs.Walked.{first_short}
use Rattle.mms_journal.proofs.walking.short_variable.Goals as goal

pub returns-clause-tag : goal.returns-clause-tag
returns-clause-tag c = λ w ws split.
    let rest = c.args.rest.now in
    let h = first_short c.args.count c.args.tag rest (omega (arith, c.requires)) (omega (arith, c.if-count-ge128.false, c.from-count.ensures))
    (omega (arith, c.if-count-tag.false, c.from-count.ensures, c.from-tag.ensures)) (omega (arith, c.if-rest-count.false, c.from-count.ensures)) w ws split in
    (c.split_at.ensures.front ∙ ap (λ n. take n rest) c.from-tag.ensures ∙ h.0, c.split_at-2.ensures.back ∙ ap (λ n. drop (n - 2) rest) c.from-count.ensures ∙ h.1)

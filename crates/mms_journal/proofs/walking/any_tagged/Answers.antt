use Rattle.std.proofs.Common.{◌∙◌, sym}
use Rattle.mms_journal.specs.Entries.{is_tagged}
use Rattle.mms_journal.proofs.Walked.{ends, goes_on, none_cut, nothing_left, passes, some_left}
use Rattle.mms_journal.proofs.walking.any_tagged.Goals as goal

pub returns-in_default : goal.returns-in_default
returns-in_default c = λ vs is.
    absurd (none_cut (is_tagged c.args.tags.now) c.args.octets.now c.loop-rest.rest.now (some_left c.loop-rest.rest.now c.is_empty.result c.is_empty.ensures c.loop-rest-test.true)
    c.in_default.ensures.tag c.loop-rest.invariant vs is)

pub returns-then-has : goal.returns-then-has
returns-then-has c =
    passes c.args.tags.now c.args.octets.now c.loop-rest.rest.now c.in-Some.tag.now c.in-Some.after.now (some_left c.loop-rest.rest.now c.is_empty.result c.is_empty.ensures c.loop-rest-test.true)
    c.in-Some.ensures.tag c.loop-rest.invariant (sym c.has.ensures ∙ c.if-has.true)

pub loop-rest-preserved : goal.loop-rest-preserved
loop-rest-preserved c =
    goes_on c.args.tags.now c.args.octets.now c.loop-rest.rest.now c.in-Some.tag.now c.in-Some.after.now (some_left c.loop-rest.rest.now c.is_empty.result c.is_empty.ensures c.loop-rest-test.true)
    c.in-Some.ensures.tag c.loop-rest.invariant (sym c.has.ensures ∙ c.if-has.false)

pub returns : goal.returns
returns c =
    ends (is_tagged c.args.tags.now) c.args.octets.now c.loop-rest.rest.now (nothing_left c.loop-rest.rest.now c.is_empty.result c.is_empty.ensures c.loop-rest-test.false) c.loop-rest.invariant

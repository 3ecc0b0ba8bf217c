use Rattle.mms_journal.proofs.Walked.{no_tag, no_variable, tag_cut}
use Rattle.mms_journal.proofs.walking.long_variable.Goals as goal

pub returns-in_default-clause-tag : goal.returns-in_default-clause-tag
returns-in_default-clause-tag c = no_variable c.args.octets.now c.in_default.ensures.contents

pub returns-in_default-contents_of-clause-tag : goal.returns-in_default-contents_of-clause-tag
returns-in_default-contents_of-clause-tag c =
    no_tag c.args.octets.now c.in-Some.variable.now c.in-Some.after.now c.in-Some.ensures.contents c.in_default-contents_of.ensures.contents

pub returns-clause-tag : goal.returns-clause-tag
returns-clause-tag c =
    tag_cut c.args.octets.now c.in-Some.variable.now c.in-Some.after.now c.in-Some-contents_of.tag.now c.in-Some-contents_of.field-0-1.now c.in-Some.ensures.contents
    c.in-Some-contents_of.ensures.contents

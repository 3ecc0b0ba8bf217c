use Rattle.std.proofs.Common.{refl}
use Rattle.mms_journal.proofs.Told.{many_told}
use Rattle.mms_journal.proofs.reading.counted.Goals as goal

pub returns-then-count-gt-MOST_TOLD : goal.returns-then-count-gt-MOST_TOLD
returns-then-count-gt-MOST_TOLD c =
    rw c.in-Some.is (many_told c.first_told-then-count-gt-MOST_TOLD.result c.args.range.now c.in-Some.count c.args.entries.now c.if-count-gt-MOST_TOLD.true
    c.first_told-then-count-gt-MOST_TOLD.ensures.entries (c.first_told-then-count-gt-MOST_TOLD.ensures.more refl))

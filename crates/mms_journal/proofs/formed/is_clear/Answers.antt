use Rattle.std.proofs.Common.{IsTrue, subst, sym}
use Rattle.mms_journal.proofs.Fitting.{clear_is, clear_of}
use Rattle.mms_journal.proofs.formed.is_clear.Goals as goal

pub returns-then-unused-le7-clause-fits : goal.returns-then-unused-le7-clause-fits
returns-then-unused-le7-clause-fits c = λ t.
    clear_is c.args.unused c.args.octets.now c.in-len1-up.len_at_least c.if-unused-le7.true (subst IsTrue c.is_cleared.ensures t)

pub returns-then-unused-le7-clause-all : goal.returns-then-unused-le7-clause-all
returns-then-unused-le7-clause-all c = λ h.
    subst IsTrue (sym c.is_cleared.ensures) (clear_of c.args.unused c.args.octets.now c.in-len1-up.len_at_least h).1

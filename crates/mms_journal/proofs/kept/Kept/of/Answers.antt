use Rattle.std.proofs.Common.{arith}
use Rattle.mms_journal.proofs.Spelled.{kept_is}
use Rattle.mms_journal.proofs.kept.Kept.of.Goals as goal

pub invariant_of-result : goal.invariant_of-result
invariant_of-result c =
    (kept_is c.args.entry.now c.in_ok-octets.octets c.moment_of.result c.in_ok-variables.variables (c.is_formed.ensures.entry c.if-not-is_formed.false) c.in_ok-octets.ensures
    (omega (arith, c.len.ensures, c.len.type_inv)) c.moment_of.ensures c.in_ok-variables.ensures).1

pub returns : goal.returns
returns c =
    (kept_is c.args.entry.now c.in_ok-octets.octets c.moment_of.result c.in_ok-variables.variables (c.is_formed.ensures.entry c.if-not-is_formed.false) c.in_ok-octets.ensures
    (omega (arith, c.len.ensures, c.len.type_inv)) c.moment_of.ensures c.in_ok-variables.ensures).0

use Rattle.std.proofs.Common.{arith}
use Rattle.pdu_names.specs.Editions.{lengths_of}
use Rattle.mms_pdu.specs.declared.reading.Read.{Read}
use Rattle.mms_pdu.specs.Pdus.{pdu_value}
use Rattle.mms_pdu.proofs.FirstCause.{refuses_first}
use Rattle.mms_pdu.proofs.reading.read_pdu_to.Goals as goal

pub returns-clause-refused : goal.returns-clause-refused
returns-clause-refused c =
    refuses_first (lengths_of c.args.edition) c.args.edition c.args.octets.now (λ (r : Read). pdu_value r.pdu) c.tell_whole.new.told (λ i. omega (arith, c.type_inv.octets i)) c.tell_whole.ensures.told

use Rattle.std.proofs.Common.{arith}
use Rattle.pdu_names.specs.Editions.{lengths_of}
use Rattle.ber_forms.proofs.Answered.{reads}
use Rattle.pdu_names.proofs.whole.read_form.Goals as goal

pub returns-clause-reads : goal.returns-clause-reads
returns-clause-reads g c =
    reads (lengths_of c.args.edition) (g.F.Formed.kind.form c.args.edition) g.F.Formed.kind.value c.args.contents.now c.read.result (λ i. omega (arith, c.type_inv.contents i)) c.read.ensures.exact

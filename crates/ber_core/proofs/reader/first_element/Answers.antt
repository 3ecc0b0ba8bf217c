use Rattle.std.proofs.Common.{arith}
use Rattle.ber_core.specs.declared.fault.BerError.TheVariants.{Short, BadTag, BadLength}
use Rattle.ber_core.proofs.Elements.{is_found, is_only}
use Rattle.ber_core.proofs.Refused.{refuses, no_other}
use Rattle.ber_core.proofs.reader.first_element.Goals as goal

pub returns-clause-found : goal.returns-clause-found
returns-clause-found c = is_found c.args.lengths c.args.bytes.now c.cut.result (λ i. omega (arith, c.type_inv.bytes i)) c.cut.ensures.exact

pub returns-clause-only : goal.returns-clause-only
returns-clause-only c = λ taken rest p e split. is_only c.args.lengths c.args.bytes.now c.cut.result taken rest p e split c.cut.ensures.exact

pub returns-clause-bad_tag : goal.returns-clause-bad_tag
returns-clause-bad_tag c = refuses c.args.lengths c.args.bytes.now c.cut.result BadTag (λ i. omega (arith, c.type_inv.bytes i)) c.cut.ensures.exact

pub returns-clause-bad_length : goal.returns-clause-bad_length
returns-clause-bad_length c = refuses c.args.lengths c.args.bytes.now c.cut.result BadLength (λ i. omega (arith, c.type_inv.bytes i)) c.cut.ensures.exact

pub returns-clause-short : goal.returns-clause-short
returns-clause-short c = refuses c.args.lengths c.args.bytes.now c.cut.result Short (λ i. omega (arith, c.type_inv.bytes i)) c.cut.ensures.exact

pub returns-clause-no_other : goal.returns-clause-no_other
returns-clause-no_other c = no_other c.args.lengths c.args.bytes.now c.cut.result (λ i. omega (arith, c.type_inv.bytes i)) c.cut.ensures.exact

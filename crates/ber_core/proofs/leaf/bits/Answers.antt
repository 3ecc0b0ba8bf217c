use Rattle.ber_core.proofs.Leaves.{bits_found, bits_only, bits_bad, bits_no_other}
use Rattle.ber_core.proofs.leaf.bits.Goals as goal

pub returns-clause-found : goal.returns-clause-found
returns-clause-found c = bits_found c.args.contents.now c.cut_bits.result c.cut_bits.ensures

pub returns-clause-only : goal.returns-clause-only
returns-clause-only c = λ unused octets is. bits_only c.args.contents.now c.cut_bits.result unused octets is c.cut_bits.ensures

pub returns-clause-bad : goal.returns-clause-bad
returns-clause-bad c = bits_bad c.args.contents.now c.cut_bits.result c.cut_bits.ensures

pub returns-clause-no_other : goal.returns-clause-no_other
returns-clause-no_other c = bits_no_other c.args.contents.now c.cut_bits.result c.cut_bits.ensures

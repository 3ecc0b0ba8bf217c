use Rattle.std.proofs.Common.{◌∙◌}
use Rattle.ber_forms.proofs.NamedBits.{all_taken, some_taken}
use Rattle.ber_forms.proofs.bits.first_octets.Goals as goal

pub returns-then-count : goal.returns-then-count
returns-then-count g c = rw (c.clear.ensures, c.copy_from_slice.ensures.after) (all_taken g.row.N c.args.bits.unused c.args.bits.octets.now c.if-count.true)

pub returns-else-count : goal.returns-else-count
returns-else-count g c = c.copy_from_slice-else-count.ensures.after ∙ some_taken g.row.N c.args.bits.unused c.args.bits.octets.now c.if-count.false

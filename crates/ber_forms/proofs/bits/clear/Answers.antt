use Rattle.std.proofs.Common.{◌-◌, length, arith}
use Rattle.ber_forms.proofs.NamedBits.{cleared_last}
use Rattle.ber_forms.proofs.bits.clear.Goals as goal

pub returns-in-len1-up : goal.returns-in-len1-up
returns-in-len1-up c = cleared_last c.args.octets.now c.args.unused c.cleared_octet.result (length c.args.octets.now - 1) (omega (arith, c.in-len1-up.len_at_least)) c.cleared_octet.ensures

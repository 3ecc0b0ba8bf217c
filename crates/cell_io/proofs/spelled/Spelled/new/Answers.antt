use Rattle.std.proofs.Common.{arith}
use Rattle.cell_io.proofs.Digits.{zero_spelled}
use Rattle.cell_io.proofs.spelled.Spelled.new.Goals as goal

pub invariant_of-result : goal.invariant_of-result
invariant_of-result c = (omega arith, zero_spelled)

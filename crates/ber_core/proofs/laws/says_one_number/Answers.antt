use Rattle.std.proofs.Common.{subst}
use Rattle.ber_core.specs.Leaf.{IsInteger}
use Rattle.ber_core.specs.Spelling.{integer_octets}
use Rattle.ber_core.proofs.Leaves.{one_number}
use Rattle.ber_core.proofs.Spelled.{integer_spelled, fits_long}
use Rattle.ber_core.proofs.laws.says_one_number.Goals as goal

pub returns-clause-contents : goal.returns-clause-contents
returns-clause-contents c = λ octets m n first second. one_number octets m n first second

pub returns-clause-spelling : goal.returns-clause-spelling
returns-clause-spelling c = λ m n first second e. one_number (integer_octets n) m n (subst (λ s. IsInteger s m) e (integer_spelled m (fits_long m first))) (integer_spelled n (fits_long n second))

use Rattle.ber_core.proofs.Spelled.{integer_spelled, fits_long}
use Rattle.ber_core.proofs.laws.spells_the_number.Goals as goal

pub returns : goal.returns
returns c = λ n fits. integer_spelled n (fits_long n fits)

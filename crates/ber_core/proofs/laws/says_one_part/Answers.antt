use Rattle.std.proofs.Common.{[], refl}
use Rattle.ber_core.proofs.Elements.{one_element, one_cut}
use Rattle.ber_core.proofs.laws.says_one_part.Goals as goal

pub returns-clause-element : goal.returns-clause-element
returns-clause-element c = λ lengths octets p q first second. (one_element lengths octets octets [] [] p q first second refl).1

pub returns-clause-cut : goal.returns-clause-cut
returns-clause-cut c = λ lengths octets ps qs first second. one_cut lengths octets ps qs first second

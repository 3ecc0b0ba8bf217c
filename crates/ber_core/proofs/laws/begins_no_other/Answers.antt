use Rattle.ber_core.proofs.Elements.{one_element}
use Rattle.ber_core.proofs.laws.begins_no_other.Goals as goal

pub returns : goal.returns
returns c = λ lengths a b x y p q first second e. (one_element lengths a b x y p q first second e).0

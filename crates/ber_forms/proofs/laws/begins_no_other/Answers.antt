use Rattle.ber_core.proofs.Elements.{one_element}
use Rattle.ber_forms.proofs.Again.{no_other_member}
use Rattle.ber_forms.proofs.laws.begins_no_other.Goals as goal

pub returns-clause-elements : goal.returns-clause-elements
returns-clause-elements c = λ l a b x y p q first second e. (one_element l a b x y p q first second e).0

pub returns-clause-members : goal.returns-clause-members
returns-clause-members c = no_other_member

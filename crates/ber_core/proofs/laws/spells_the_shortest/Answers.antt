use Rattle.ber_core.proofs.Shortest.{definite_shortest, integer_shortest}
use Rattle.ber_core.proofs.laws.spells_the_shortest.Goals as goal

pub returns-clause-element : goal.returns-clause-element
returns-clause-element c = λ octets p fits is. definite_shortest octets p fits is

pub returns-clause-integer : goal.returns-clause-integer
returns-clause-integer c = λ octets n fits is. integer_shortest octets n fits is

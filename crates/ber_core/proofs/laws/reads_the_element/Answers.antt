use Rattle.ber_core.proofs.Elements.{element_takes, element_again}
use Rattle.ber_core.proofs.laws.reads_the_element.Goals as goal

pub returns-clause-read : goal.returns-clause-read
returns-clause-read c = λ lengths octets rest p fits e. let f = element_takes lengths octets p rest fits e in (f.taken, f.holds, f.parts)

pub returns-clause-only : goal.returns-clause-only
returns-clause-only c = λ lengths octets rest p is. element_again lengths octets p rest is

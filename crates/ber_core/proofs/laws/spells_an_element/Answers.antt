use Rattle.ber_core.proofs.Spelled.{element_spelled}
use Rattle.ber_core.proofs.laws.spells_an_element.Goals as goal

pub returns : goal.returns
returns c = λ lengths t contents class number fits. element_spelled lengths t contents class number fits

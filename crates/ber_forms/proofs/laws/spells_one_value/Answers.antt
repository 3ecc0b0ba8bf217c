use Rattle.ber_forms.proofs.Again.{one_spelling}
use Rattle.ber_forms.proofs.laws.spells_one_value.Goals as goal

pub returns : goal.returns
returns c = one_spelling

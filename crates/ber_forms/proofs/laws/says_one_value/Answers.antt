use Rattle.ber_forms.proofs.Answered.{one_value}
use Rattle.ber_forms.proofs.laws.says_one_value.Goals as goal

pub returns : goal.returns
returns c = one_value

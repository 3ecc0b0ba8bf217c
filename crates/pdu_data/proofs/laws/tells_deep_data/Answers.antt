use Rattle.pdu_data.proofs.DeepLaws.{deep_said, deep_meant}
use Rattle.pdu_data.proofs.laws.tells_deep_data.Goals as goal

pub returns-clause-said : goal.returns-clause-said
returns-clause-said c = deep_said

pub returns-clause-meant : goal.returns-clause-meant
returns-clause-meant c = deep_meant

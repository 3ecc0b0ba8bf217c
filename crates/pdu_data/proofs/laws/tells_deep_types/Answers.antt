use Rattle.pdu_data.proofs.DeepLaws.{type_said, type_meant}
use Rattle.pdu_data.proofs.laws.tells_deep_types.Goals as goal

pub returns-clause-said : goal.returns-clause-said
returns-clause-said c = type_said

pub returns-clause-meant : goal.returns-clause-meant
returns-clause-meant c = type_meant

use Rattle.parted_state.proofs.SetLaws.{one_set, empty_set}
use Rattle.parted_state.proofs.parts.a_set_is_one_list.Goals as goal

pub returns-clause-one : goal.returns-clause-one
returns-clause-one c = one_set

pub returns-clause-empty : goal.returns-clause-empty
returns-clause-empty c = empty_set

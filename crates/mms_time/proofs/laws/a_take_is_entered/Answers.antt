use Rattle.mms_time.proofs.Entered.{is_taken, no_other, stays}
use Rattle.mms_time.proofs.laws.a_take_is_entered.Goals as goal

pub returns-clause-taken : goal.returns-clause-taken
returns-clause-taken c = is_taken

pub returns-clause-stays : goal.returns-clause-stays
returns-clause-stays c = stays

pub returns-clause-no_other : goal.returns-clause-no_other
returns-clause-no_other c = no_other

use Rattle.cell_record.proofs.BeforeRefusal.{ends_before, none_without}
use Rattle.cell_record.proofs.laws.phases_end_before_the_refusal.Goals as goal

pub returns-clause-ended : goal.returns-clause-ended
returns-clause-ended c = λ text config e told refused. ends_before text config e told refused

pub returns-clause-none : goal.returns-clause-none
returns-clause-none c = λ text told. none_without text told

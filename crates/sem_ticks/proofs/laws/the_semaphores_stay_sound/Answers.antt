use Rattle.std.proofs.Common.{[]}
use Rattle.sem_ticks.proofs.Kept.{keeps_lost, keeps_ticked}
use Rattle.sem_ticks.proofs.Requests.{keeps_cancelled, keeps_defined, keeps_deleted, keeps_relinquished, keeps_taken, none_sound}
use Rattle.sem_ticks.proofs.laws.the_semaphores_stay_sound.Goals as goal

pub returns-clause-none : goal.returns-clause-none
returns-clause-none c = none_sound

pub returns-clause-taken : goal.returns-clause-taken
returns-clause-taken c = keeps_taken

pub returns-clause-relinquished : goal.returns-clause-relinquished
returns-clause-relinquished c = keeps_relinquished

pub returns-clause-cancelled : goal.returns-clause-cancelled
returns-clause-cancelled c = keeps_cancelled

pub returns-clause-defined : goal.returns-clause-defined
returns-clause-defined c = keeps_defined

pub returns-clause-deleted : goal.returns-clause-deleted
returns-clause-deleted c = keeps_deleted

pub returns-clause-lost : goal.returns-clause-lost
returns-clause-lost c = keeps_lost

pub returns-clause-ticked : goal.returns-clause-ticked
returns-clause-ticked c until rows is = keeps_ticked until (record { rows = rows; happened = [] }) is

use Rattle.std.proofs.Common.{[]}
use Rattle.sem_ticks.proofs.Ahead.{ahead}
use Rattle.sem_ticks.proofs.Later.{ahead_cancelled, ahead_defined, ahead_deleted, ahead_lost, ahead_relinquished, ahead_taken, none_ahead}
use Rattle.sem_ticks.proofs.laws.every_deadline_lies_ahead.Goals as goal

pub returns-clause-none : goal.returns-clause-none
returns-clause-none c = none_ahead

pub returns-clause-taken : goal.returns-clause-taken
returns-clause-taken c = ahead_taken

pub returns-clause-relinquished : goal.returns-clause-relinquished
returns-clause-relinquished c = ahead_relinquished

pub returns-clause-cancelled : goal.returns-clause-cancelled
returns-clause-cancelled c = ahead_cancelled

pub returns-clause-defined : goal.returns-clause-defined
returns-clause-defined c = ahead_defined

pub returns-clause-deleted : goal.returns-clause-deleted
returns-clause-deleted c = ahead_deleted

pub returns-clause-lost : goal.returns-clause-lost
returns-clause-lost c = ahead_lost

pub returns-clause-ticked : goal.returns-clause-ticked
returns-clause-ticked c until rows is = ahead until (record { rows = rows; happened = [] }) is

use Rattle.pool_sem.proofs.Serving.{left-free, left-served, next-best, next-waits}
use Rattle.pool_sem.proofs.laws.a_freed_token_is_served.Goals as goal

pub returns-clause-waited : goal.returns-clause-waited
returns-clause-waited c = next-waits

pub returns-clause-owner : goal.returns-clause-owner
returns-clause-owner c = left-served

pub returns-clause-best : goal.returns-clause-best
returns-clause-best c entries e token = next-best token entries e

pub returns-clause-free : goal.returns-clause-free
returns-clause-free c = left-free

use Rattle.attach_sem.proofs.Linked.{chain-last, chain-none}
use Rattle.attach_sem.proofs.laws.a_chain_ends_with_a_take.Goals as goal

pub returns-clause-last : goal.returns-clause-last
returns-clause-last c = chain-last

pub returns-clause-none : goal.returns-clause-none
returns-clause-none c = chain-none

use Rattle.std.specs.Prelude.{true}
use Rattle.std.proofs.Common.{◌≡◌}
use Rattle.std.proofs.lemmas.List.Elements.{All-contains}
use Rattle.sem_queue.specs.Rows.{before}
use Rattle.sem_queue.proofs.Firsts.{among-contains}
use Rattle.attach_sem.specs.Chains.{takes}
use Rattle.attach_sem.proofs.Linked.{chain-each, chain-order, chain-whole}
use Rattle.attach_sem.proofs.laws.a_chain_is_in_order_of_rank.Goals as goal

pub returns-clause-order : goal.returns-clause-order
returns-clause-order c = chain-order

pub returns-clause-attached : goal.returns-clause-attached
returns-clause-attached c = chain-each

pub returns-clause-whole : goal.returns-clause-whole
returns-clause-whole c attached token rows r h w t first =
    chain-whole attached token rows r h w t (λ x k. All-contains (λ y. takes attached token y ≡ true → before r y ≡ true) rows x first (among-contains rows x k))

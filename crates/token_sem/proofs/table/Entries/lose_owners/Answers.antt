use Rattle.token_sem.specs.Entries.{lists_of}
use Rattle.token_sem.proofs.Tabled.{placed-at}
use Rattle.token_sem.proofs.table.Entries.lose_owners.Goals as goal

pub lose_owner-requires-clause-placed : goal.lose_owner-requires-clause-placed
lose_owner-requires-clause-placed c =
    rw c.loop-owner.invariant.named (placed-at (lists_of c.args.self.now.named) c.args.owners.now c.loop-owner.owner-index _ c.requires.placed c.loop-owner-test.true)

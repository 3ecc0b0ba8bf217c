use Rattle.pool_sem.proofs.pool.PoolSem.place_of.Goals as goal

pub place_of-requires : goal.place_of-requires
place_of-requires c = rw c.as_slice.ensures c.self.invariant.0.sorted

use Rattle.std.proofs.Common.{◌≡◌, ap, arith}
use Rattle.attach_sem.specs.Table.{Table}
use Rattle.attach_sem.proofs.Going.{comes-distinct}
use Rattle.attach_sem.proofs.table.Attached.insert.Goals as goal

pub invariant_of-self : goal.invariant_of-self
invariant_of-self c =
    let i = c.self.inside in
    let spare : i.spare ≡ c.args.self.now.spare = ap (λ (t : Table). t.spare) c.self.view_is in
    let pairs : i.pairs.items ≡ c.args.self.now.pairs = ap (λ (t : Table). t.pairs) c.self.view_is in (
      omega (arith, c.push_reserved.ensures.len, c.push_reserved.ensures.capacity, spare, c.requires.room, c.self.invariant.0),
      rw c.push_reserved.ensures.items (comes-distinct i.pairs.items (record { key = c.args.key; entry = c.args.entry; waiting = c.args.waiting }) c.self.invariant.1 (rw pairs c.requires.absent)),
    )

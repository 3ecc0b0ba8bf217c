use Rattle.std.proofs.Common.{arith}
use Rattle.attach_sem.proofs.table.Attached.reserve.Goals as goal

pub invariant_of-self : goal.invariant_of-self
invariant_of-self c = (
  omega (arith, c.reserve.ensures.len, c.reserve.ensures.capacity, c.self.invariant.0),
  rw c.reserve.ensures.items c.self.invariant.1,
)

pub invariant_of-self-2 : goal.invariant_of-self-2
invariant_of-self-2 c = (
  omega (arith, c.reserve.ensures.len, c.in_ok-reserve.ensures.ok),
  rw c.reserve.ensures.items c.self.invariant.1,
)

pub invariant_of-self-in_err-reserve-2 : goal.invariant_of-self-in_err-reserve-2
invariant_of-self-in_err-reserve-2 c = (
  omega (arith, c.reserve.ensures.len, c.in_ok-reserve.ensures.ok, c.reserve.ensures.capacity, c.self.invariant.0),
  rw c.reserve.ensures.items c.self.invariant.1,
)

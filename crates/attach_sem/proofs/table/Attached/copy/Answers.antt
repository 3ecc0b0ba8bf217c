use Rattle.std.proofs.Common.{arith}
use Rattle.attach_sem.proofs.table.Attached.copy.Goals as goal

pub invariant_of-result : goal.invariant_of-result
invariant_of-result c =
    let copies = c.in_ok-copied.field-0 in
    (omega (arith, copies.ok.1), rw (c.in_ok-copied.ensures, c.deref.ensures.value) c.self.invariant.1)

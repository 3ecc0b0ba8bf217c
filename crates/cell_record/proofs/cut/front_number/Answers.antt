use Rattle.std.proofs.Common.{arith}
use Rattle.cell_record.proofs.OneFurther.{small}
use Rattle.cell_record.proofs.cut.front_number.Goals as goal

pub overflow_mul-value : goal.overflow_mul-value
overflow_mul-value c = let h = small c.loop-count.count c.loop-count.value (omega arith) c.loop-count.invariant.small in omega (arith, h)

pub overflow_add-value : goal.overflow_add-value
overflow_add-value c = let h = small c.loop-count.count c.loop-count.value (omega arith) c.loop-count.invariant.small in omega (arith, h, c.from.ensures, c.type_inv.text c.loop-count.count)

use Rattle.step_apply.proofs.QuietTime.{clock_advanced}
use Rattle.step_apply.proofs.passing.advance.Goals as goal

pub returns : goal.returns
returns c =
    clock_advanced c.args.ms c.args.held.now c.take-part.new.held c.put.new.held c.take-part.result.value c.deref_mut.result.now c.in-Clock.clock c.advance.new.self
    c.take-part.ensures.part c.take-part.ensures.left c.deref_mut.ensures.value c.in-Clock.is c.advance.ensures c.put.ensures

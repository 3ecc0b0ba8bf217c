use Rattle.std.proofs.Common.{arith, ◌∙◌}
use Rattle.cell_io.proofs.Prefixes.{took_more, front, on_err}
use Rattle.cell_io.proofs.whole_write.write_all.Goals as goal

pub loop-done-preserved : goal.loop-done-preserved
loop-done-preserved g c = record {
  within = omega (arith, c.in_ok-done.ensures.bound);
  written = took_more _ _ _ _ _ _ c.loop-done.invariant.written c.in_ok-done.ensures.bytes;
  faults = c.in_ok-done.ensures.cause.steady ∙ c.loop-done.invariant.faults;
}

pub returns-in_err-done-clause-part : goal.returns-in_err-done-clause-part
returns-in_err-done-clause-part g c = on_err c.from_residual.result (front _ _ _ _ _ c.loop-done.invariant.written c.in_err-done.ensures.bytes)

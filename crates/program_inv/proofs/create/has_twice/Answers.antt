use Rattle.std.proofs.Common.{◌∙◌, ◌-◌, ◌+◌, arith, sym}
use Rattle.program_inv.proofs.Twice.{twice_here}
use Rattle.program_inv.proofs.create.has_twice.Goals as goal

pub returns-then-has_name : goal.returns-then-has_name
returns-then-has_name c =
    let left = c.loop-left.left in
    let names = c.args.names.now in
    sym (twice_here names (left - 1) (left - 1 + 1) c.index-names-left.result (omega (arith, c.loop-left.invariant.within, c.loop-left-test.true)) c.index-names-left.is
    (omega (arith, c.loop-left-test.true)) (sym c.has_name.ensures ∙ c.if-has_name.true))

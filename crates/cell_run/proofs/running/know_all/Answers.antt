use Rattle.std.proofs.Common.{arith}
use Rattle.std.proofs.lemmas.Option.{slice_get_within}
use Rattle.part_table.specs.Known.{IsTrueOf}
use Rattle.mms_device.specs.Making.{MayMake}
use Rattle.mms_device.specs.Shared.{Caller}
use Rattle.cell_run.proofs.Worked.{each_more}
use Rattle.cell_run.proofs.running.know_all.Goals as goal

pub loop-pass-preserved : goal.loop-pass-preserved
loop-pass-preserved c =
    each_more (λ (p : Caller). IsTrueOf MayMake p) c.args.passes.now c.loop-pass.pass-index c.pass-item.result (omega (arith, c.loop-pass-test.true)) c.pass-item.is c.loop-pass.invariant
    c.a_pass_knows_its_own_places.ensures

pub returns : goal.returns
returns c i p at = c.loop-pass.invariant i p (let lt = slice_get_within c.args.passes.now i p at in omega (arith, c.loop-pass-test.false, lt)) at

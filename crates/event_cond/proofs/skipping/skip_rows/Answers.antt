use Rattle.std.proofs.Common.{arith, refl, sym}
use Rattle.event_cond.specs.Skips.{skipped}
use Rattle.event_cond.proofs.Passing.{all_changed, changed_more}
use Rattle.event_cond.proofs.skipping.skip_rows.Goals as goal

pub loop-place-preserved : goal.loop-place-preserved
loop-place-preserved g c =
    let pass = skipped c.args.until (g.C.Cells.says c.args.cells.now) in
    record {
      rows = changed_more pass c.args.rows.now c.loop-place.rows _ c.loop-place.place c.in-Some.kept.now c.skip.new.self c.loop-place.invariant.rows
          (sym c.in-Some.ensures.value) c.skip.ensures refl;
      end = c.loop-place.invariant.end;
    }

pub returns : goal.returns
returns g c =
    let pass = skipped c.args.until (g.C.Cells.says c.args.cells.now) in
    let end = c.loop-place.invariant.end in
    all_changed pass c.args.rows.now c.loop-place.rows c.loop-place.place c.loop-place.invariant.rows (omega (arith, end, c.loop-place-test.false))

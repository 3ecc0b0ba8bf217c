use Rattle.std.proofs.Common.{◌≡◌, [], length, ap, sym, subst, ◌∙◌, arith}
use Rattle.cell_run.specs.Jobs.{AreBelow, AreJobsOf}
use Rattle.cell_run.proofs.EachDrained.{if_ok_both}
use Rattle.cell_run.proofs.Worked.{jobs_fit, passes_served, written}
use Rattle.cell_run.proofs.running.serve_all.Goals as goal

pub give_out-requires : goal.give_out-requires
give_out-requires g c =
    let many : length c.as_mut_slice.result.now ≡ length c.args.passes.items = ap length c.as_mut_slice.ensures.value ∙ c.in_ok-jobs.ensures.count in
    subst (λ n. AreBelow n c.into_vec.result.items) (sym many) (subst (AreBelow (length c.args.passes.items)) (sym c.into_vec.ensures) c.requires.below)

pub serve_jobs-requires-clause-fit : goal.serve_jobs-requires-clause-fit
serve_jobs-requires-clause-fit g c κs within =
    let passes = c.args.passes.items in
    let now = c.give_out.new.jobs in
    let start = subst (AreJobsOf [] passes) (sym c.as_mut_slice.ensures.value) c.in_ok-jobs.ensures in
    let are : AreJobsOf c.args.events passes now = subst (λ l. AreJobsOf l passes now) c.into_vec.ensures (c.in_ok-give_out.ensures passes start) in
    let many : length now ≡ length c.in_ok-jobs.jobs.items = are.count ∙ sym c.in_ok-jobs.ensures.count in
    let items = written c.in_ok-jobs.jobs.items now c.in_ok-jobs.jobs.len many (omega (arith, c.in_ok-jobs.jobs.ok)) in
    jobs_fit c.args.device.now passes c.args.events _ (subst (AreJobsOf c.args.events passes) (sym items) are) c.requires.fit

pub returns : goal.returns
returns g c =
    let passes = c.args.passes.items in
    let now = c.give_out.new.jobs in
    let start = subst (AreJobsOf [] passes) (sym c.as_mut_slice.ensures.value) c.in_ok-jobs.ensures in
    let are : AreJobsOf c.args.events passes now = subst (λ l. AreJobsOf l passes now) c.into_vec.ensures (c.in_ok-give_out.ensures passes start) in
    let many : length now ≡ length c.in_ok-jobs.jobs.items = are.count ∙ sym c.in_ok-jobs.ensures.count in
    let items = written c.in_ok-jobs.jobs.items now c.in_ok-jobs.jobs.len many (omega (arith, c.in_ok-jobs.jobs.ok)) in
    let e = c.in_ok-jobs-2.ensures in
    if_ok_both c.parted.result _ _ _ c.parted.ensures.passes c.parted.ensures.logs
    (λ a x y. passes_served c.args.device.now passes c.args.events _ c.in_ok-jobs-2.jobs.items a.0.items _ (subst (AreJobsOf c.args.events passes) (sym items) are) e.count e.whole x y)

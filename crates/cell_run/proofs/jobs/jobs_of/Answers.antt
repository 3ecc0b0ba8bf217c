use Rattle.std.proofs.Common.{◌++◌, ◌∷◌, [], ap, sym, refl, subst, ◌∙◌, append_assoc}
use Rattle.cell_run.specs.Jobs.{AreJobsOf}
use Rattle.cell_run.proofs.Given.{jobs_more}
use Rattle.cell_run.proofs.jobs.jobs_of.Goals as goal

pub loop-pass-preserved : goal.loop-pass-preserved
loop-pass-preserved c =
    let i = c.loop-pass.invariant in
    let s = c.in-Some.ensures.steps in
    record {
      passes = i.passes ∙ ap (λ l. c.loop-pass.yielded ++ l) s.0 ∙ sym (append_assoc c.loop-pass.yielded (c.in-Some.pass ∷ []) _);
      jobs = subst (AreJobsOf [] (c.loop-pass.yielded ++ c.in-Some.pass ∷ [])) (sym c.in_ok-push.ensures.items)
          (jobs_more c.loop-pass.yielded c.loop-pass.jobs.items c.in-Some.pass _ i.jobs refl c.new.ensures c.new-in-loop-pass.ensures.items);
    }

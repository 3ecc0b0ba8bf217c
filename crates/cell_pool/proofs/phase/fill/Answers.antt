use Rattle.std.proofs.Common.{refl, ◌++◌, [], ◌∷◌, slice_get, length, rules, arith, sym, ap, ◌∙◌, append_assoc, length-append}
use Rattle.cell_pool.specs.Rule.{Waits, hand}
use Rattle.cell_pool.proofs.Facts.{if_here}
use Rattle.cell_pool.proofs.Lists.{at_seam, All_seam, range_next}
use Rattle.cell_pool.proofs.Owing.{not_full}
use Rattle.cell_pool.proofs.Rules.{puts, learns}
use Rattle.cell_pool.proofs.phase.fill.Goals as goal

pub invariant_of-item-clause-is_place : goal.invariant_of-item-clause-is_place
invariant_of-item-clause-is_place g c =
    let i = c.loop-job.invariant in
    let s = c.in-Some.ensures.steps in
    let e = ap (λ l. length l) c.requires.given in
    omega (arith, i.len, s.1)

pub invariant_of-item-clause-is_fit : goal.invariant_of-item-clause-is_fit
invariant_of-item-clause-is_fit g c =
    let i = c.loop-job.invariant in
    let s = c.in-Some.ensures.steps in
    All_seam (λ job. ∥ g.C.Given.fit job ∥₁) c.args.jobs.items c.loop-job.yielded _ c.in-Some.job (i.jobs ∙ ap (λ l. c.loop-job.yielded ++ l) s.0) c.requires.fit

pub invariant_of-item-clause-is_made : goal.invariant_of-item-clause-is_made
invariant_of-item-clause-is_made g c =
    let i = c.loop-job.invariant in
    let s = c.in-Some.ensures.steps in
    let at = at_seam c.args.jobs.items c.loop-job.yielded _ c.in-Some.job (i.jobs ∙ ap (λ l. c.loop-job.yielded ++ l) s.0) in
    ∣ if_here _ c.in-Some.job _ (ap (λ l. slice_get l c.loop-job.place) c.requires.given ∙ ap (slice_get c.args.jobs.items) i.place ∙ at) (g.met.T.Turn.same c.in-Some.job) ∣₁

pub push_as-requires-clause-rule : goal.push_as-requires-clause-rule
push_as-requires-clause-rule g c =
    let p = ap (λ v. v.parts) c.loop-job.invariant.view in
    (puts (λ i. i.place) (λ i. Waits i.ended i.short) _ _ _ _ (omega arith) (refl, refl), learns (λ i. i.place) (λ i. Waits i.ended i.short) _ _ p)

pub unreachable-requires : goal.unreachable-requires
unreachable-requires g c =
    let i = c.loop-job.invariant in
    let s = c.in-Some.ensures.steps in
    not_full (λ i. i.place) _ c.loop-job.place _ i.view (omega (arith, i.len, s.1, c.requires.room)) c.in-Err.ensures.rule.2

pub loop-job-preserved : goal.loop-job-preserved
loop-job-preserved g c =
    let i = c.loop-job.invariant in
    let s = c.in-Some.ensures.steps in
    record {
      queue = search rules;
      view = c.in-Ok.ensures.rule ∙ ap (λ v. hand v.parts (v.put ++ c.loop-job.place ∷ []) v.taken) i.view ∙ ap (λ l. hand 64 l []) (range_next c.loop-job.place);
      place = omega (arith, i.place, length-append c.loop-job.yielded (c.in-Some.job ∷ []));
      jobs = i.jobs ∙ ap (λ l. c.loop-job.yielded ++ l) s.0 ∙ sym (append_assoc c.loop-job.yielded (c.in-Some.job ∷ []) _);
      len = omega (arith, i.len, s.1);
    }

use Rattle.std.proofs.Common.{false, refl, ◌≡◌, [], rules, arith, ap}
use Rattle.crossbeam_queue.specs.Passes.{view}
use Rattle.cell_pool.specs.Rule.{Waits}
use Rattle.cell_pool.specs.Items.{IsReady}
use Rattle.cell_pool.proofs.Flags.{rests_none}
use Rattle.cell_pool.proofs.Lists.{popped, All_init, All_last, All_snoc}
use Rattle.cell_pool.proofs.Owing.{new_keeps}
use Rattle.cell_pool.proofs.Rules.{forks}
use Rattle.cell_pool.proofs.phase.enlist.Goals as goal

pub another-pass-requires-clause-rule : goal.another-pass-requires-clause-rule
another-pass-requires-clause-rule g c =
    let i = c.loop-kept.invariant in
    let p = ap (λ v. v.parts) i.view in
    forks (λ i. i.place) (λ i. Waits i.ended i.short) _ _ (omega (arith, i.count, c.pop.ensures.len, c.in-Some.ensures.cases, c.requires.parts.1))

pub loop-kept-preserved : goal.loop-kept-preserved
loop-kept-preserved g c =
    let i = c.loop-kept.invariant in
    let less = popped _ _ c.pop.result _ c.pop.ensures.items c.in-Some.is in
    let own = new_keeps (λ i. i.place) (view c.another-pass.result) c.in-Some.kept.items c.another-pass.ensures.rule.1 (All_last (λ room. room.items ≡ []) _ _ _ less i.empty) in
    let ready : IsReady c.args.queue.now (record { pass = c.another-pass.result; kept = c.in-Some.kept; is_short = false }) = ((c.another-pass.ensures.queue.1, own.0, own.1, rests_none (λ i. i.ended) (λ i. i.short) c.in-Some.kept.items (All_last (λ room. room.items ≡ []) _ _ _ less i.empty)), refl) in
    record {
      queue = search rules;
      view = search rules;
      count = search rules;
      empty = All_init (λ room. room.items ≡ []) _ _ _ less i.empty;
      room = search rules;
      crew = All_snoc (IsReady c.args.queue.now) _ _ _ c.push_reserved.ensures.items i.crew ready;
    }

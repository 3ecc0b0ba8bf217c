use Rattle.std.proofs.Common.{rules, arith, ap}
use Rattle.crossbeam_queue.specs.Passes.{view}
use Rattle.cell_pool.specs.Rule.{Waits}
use Rattle.cell_pool.specs.Items.{HasWorked}
use Rattle.cell_pool.proofs.Flags.{flagged_more}
use Rattle.cell_pool.proofs.Lists.{popped, All_init, All_last, grown}
use Rattle.cell_pool.proofs.Owing.{owes_more}
use Rattle.cell_pool.proofs.Rules.{merges}
use Rattle.cell_pool.proofs.phase.join_all.Goals as goal

pub absorb-requires-clause-rule : goal.absorb-requires-clause-rule
absorb-requires-clause-rule g c = merges (λ i. i.place) (λ i. Waits i.ended i.short) _ _ _ _ c.loop-worker.invariant.parts.1

pub loop-worker-preserved : goal.loop-worker-preserved
loop-worker-preserved g c =
    let i = c.loop-worker.invariant in
    let less = popped _ _ c.pop.result _ c.pop.ensures.items c.in-Some.is in
    let one = All_last (HasWorked c.args.queue.now) _ _ c.in-Some.worker less i.crew in
    let shorter = grown _ _ _ less in
    let longer = grown _ _ _ c.push_reserved.ensures.items in
    record {
      queue = search rules;
      parts = (let p = ap (λ v. v.parts) c.absorb.ensures.rule in let q = one.1 in let b = i.parts.0 in let d = i.parts.1 in (omega arith, omega arith));
      crew = All_init (HasWorked c.args.queue.now) _ _ _ less i.crew;
      owes = owes_more (λ i. i.place) (λ list. list.items) _ _ (view c.in-Some.worker.pass) _ _ _ c.in-Some.worker.kept i.owes one.2 c.absorb.ensures.rule c.push_reserved.ensures.items;
      flagged = flagged_more (λ i. i.ended) (λ i. i.short) (λ list. list.items) _ _ _ _ _ c.in-Some.worker.kept c.push_reserved.ensures.items i.flagged one.3 (search rules);
      room = (let r = i.room in omega (arith, c.push_reserved.ensures.capacity));
    }

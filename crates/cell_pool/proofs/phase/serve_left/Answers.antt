use Rattle.std.proofs.Common.{◌++◌, ◌∷◌, [], ◌∙◌, rules, arith, ap}
use Rattle.crossbeam_queue.specs.Passes.{view}
use Rattle.cell_pool.specs.Rule.{Waits}
use Rattle.cell_pool.proofs.Flags.{rests_more, settles}
use Rattle.cell_pool.proofs.Owing.{few, left_more, all_held}
use Rattle.cell_pool.proofs.Rules.{takes_all, learns}
use Rattle.cell_pool.proofs.phase.serve_left.Goals as goal

pub pop_as-requires-clause-rule : goal.pop_as-requires-clause-rule
pop_as-requires-clause-rule g c = (takes_all (λ i. i.place) (λ i. Waits i.ended i.short) _ _ c.loop-turn.invariant.parts, learns (λ i. i.place) (λ i. Waits i.ended i.short) _ _ c.loop-turn.invariant.parts)

pub push_reserved-requires : goal.push_reserved-requires
push_reserved-requires g c =
    let i = c.loop-turn.invariant in
    let r = c.in-Some-pop_as.ensures.rule in
    let f = few (λ i. i.place) (λ list. list.items) _ _ _ _ c.loop-turn.left.items c.in-Some-pop_as.item r.0 r.1 i.owes in
    omega (arith, i.left, c.loop-turn.left.ok)

pub loop-turn-preserved : goal.loop-turn-preserved
loop-turn-preserved g c =
    let i = c.loop-turn.invariant in
    let r = c.in-Some-pop_as.ensures.rule in
    record {
      queue = search rules;
      parts = (let p = ap (λ v. v.parts) r.0 in omega (arith, i.parts));
      owes = left_more (λ i. i.place) (λ list. list.items) _ _ _ _ _ _ c.in-Some-pop_as.item c.unless-item.result r.0 c.push_reserved.ensures.items c.unless-item.ensures.place i.owes;
      room = search rules;
      lists = i.lists;
      flagged = i.flagged;
      rests = rests_more (λ i. i.ended) (λ i. i.short) _ _ _ _ _ c.unless-item.result c.push_reserved.ensures.items i.rests c.unless-item.ensures.rests (search rules);
      left = (let b = i.left in omega (arith, c.push_reserved.ensures.capacity));
    }

pub returns-in-None-pop_as-clause-each : goal.returns-in-None-pop_as-clause-each
returns-in-None-pop_as-clause-each g c =
    all_held (λ i. i.place) (λ list. list.items) _ (view c.loop-turn.pass) _ _ c.loop-turn.left c.in-None-pop_as.ensures.rule.1 c.push_reserved-in-None-pop_as.ensures.items c.loop-turn.invariant.owes

pub returns-in-None-pop_as-clause-left : goal.returns-in-None-pop_as-clause-left
returns-in-None-pop_as-clause-left g c = (c.loop-turn.left, c.push_reserved-in-None-pop_as.ensures.items ∙ ap (λ l. l ++ c.loop-turn.left ∷ []) c.loop-turn.invariant.lists, c.loop-turn.invariant.rests.0)

pub returns-in-None-pop_as-clause-settled : goal.returns-in-None-pop_as-clause-settled
returns-in-None-pop_as-clause-settled g c = settles (λ i. i.ended) (λ i. i.short) (λ list. list.items) _ _ _ _ c.loop-turn.left c.push_reserved-in-None-pop_as.ensures.items c.loop-turn.invariant.flagged c.loop-turn.invariant.rests

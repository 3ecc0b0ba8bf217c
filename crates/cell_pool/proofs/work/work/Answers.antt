use Rattle.std.proofs.Common.{rules, arith, ap, sym, subst, ◌∙◌, false, true, inl, inr}
use Rattle.cell_pool.specs.Rule.{Waits}
use Rattle.cell_pool.proofs.Flags.{rests_more}
use Rattle.cell_pool.proofs.Rules.{takes, puts, kept, moved}
use Rattle.cell_pool.proofs.work.work.Goals as goal

pub pop_as-requires-clause-rule : goal.pop_as-requires-clause-rule
pop_as-requires-clause-rule g c = (takes (λ i. i.place) (λ i. Waits i.ended i.short) _ _ (omega (arith, c.loop-turn.invariant.parts)), λ items views h at. tt)

pub loop-turn-preserved-in-Done : goal.loop-turn-preserved-in-Done
loop-turn-preserved-in-Done g c = record {
  queue = search rules;
  parts = search rules;
  keeps = kept (λ i. i.place) _ _ _ _ c.in-Some-pop_as.item c.turned-item.result.0 c.in-Some-pop_as.ensures.rule.0 c.push_reserved.ensures.items c.turned-item.ensures.place c.loop-turn.invariant.keeps;
  rests = rests_more (λ i. i.ended) (λ i. i.short) false false false _ _ c.turned-item.result.0 c.push_reserved.ensures.items c.loop-turn.invariant.rests (inl (c.turned-item.ensures.done c.in-Done.is).0) (sym (c.turned-item.ensures.done c.in-Done.is).1);
  short = search rules;
}

pub returns-in-Memory : goal.returns-in-Memory
returns-in-Memory g c = record {
  worked = (
    search rules,
    search rules,
    kept (λ i. i.place) _ _ _ _ c.in-Some-pop_as.item c.turned-item.result.0 c.in-Some-pop_as.ensures.rule.0 c.push_reserved-in-Memory.ensures.items c.turned-item.ensures.place c.loop-turn.invariant.keeps,
    rests_more (λ i. i.ended) (λ i. i.short) false false true _ _ c.turned-item.result.0 c.push_reserved-in-Memory.ensures.items c.loop-turn.invariant.rests (inr (c.turned-item.ensures.memory c.in-Memory.is).1) (sym (c.turned-item.ensures.memory c.in-Memory.is).1),
  );
}

pub push_as-requires-clause-rule : goal.push_as-requires-clause-rule
push_as-requires-clause-rule g c = (puts (λ i. i.place) (λ i. Waits i.ended i.short) _ _ _ c.turned-item.result.0 (let e = ap (λ v. v.parts) c.in-Some-pop_as.ensures.rule.0 in omega (arith, c.loop-turn.invariant.parts)) (c.turned-item.ensures.waits (search rules)), λ items views h at. tt)

pub loop-turn-preserved-in-Ok : goal.loop-turn-preserved-in-Ok
loop-turn-preserved-in-Ok g c = record {
  queue = search rules;
  parts = search rules;
  keeps = moved (λ i. i.place) _ _ _ _ c.in-Some-pop_as.item c.turned-item.result.0 c.in-Some-pop_as.ensures.rule.0 c.in-Ok.ensures.rule c.turned-item.ensures.place c.loop-turn.invariant.keeps;
  rests = c.loop-turn.invariant.rests;
  short = c.loop-turn.invariant.short;
}

pub returns-then-is_short : goal.returns-then-is_short
returns-then-is_short g c = record {
  worked = (
    search rules,
    search rules,
    kept (λ i. i.place) _ _ _ _ c.in-Some-pop_as.item c.turned_out-item.result (c.in-Err.ensures.rule.1 ∙ c.in-Some-pop_as.ensures.rule.0) c.push_reserved-in-Err.ensures.items
        (c.turned_out-item.ensures.place ∙ ap (λ i. i.place) c.in-Err.ensures.rule.0 ∙ c.turned-item.ensures.place) c.loop-turn.invariant.keeps,
    rests_more (λ i. i.ended) (λ i. i.short) false false true _ _ c.turned_out-item.result c.push_reserved-in-Err.ensures.items c.loop-turn.invariant.rests c.turned_out-item.ensures.rests (sym c.if-is_short.true),
  );
}

pub loop-turn-preserved : goal.loop-turn-preserved
loop-turn-preserved g c = record {
  queue = search rules;
  parts = search rules;
  keeps = kept (λ i. i.place) _ _ _ _ c.in-Some-pop_as.item c.turned_out-item.result (c.in-Err.ensures.rule.1 ∙ c.in-Some-pop_as.ensures.rule.0) c.push_reserved-in-Err.ensures.items
      (c.turned_out-item.ensures.place ∙ ap (λ i. i.place) c.in-Err.ensures.rule.0 ∙ c.turned-item.ensures.place) c.loop-turn.invariant.keeps;
  rests = rests_more (λ i. i.ended) (λ i. i.short) false false false _ _ c.turned_out-item.result c.push_reserved-in-Err.ensures.items c.loop-turn.invariant.rests c.turned_out-item.ensures.rests (sym c.if-is_short.false);
  short = search rules;
}

pub turned_out-item-requires-clause-waits : goal.turned_out-item-requires-clause-waits
turned_out-item-requires-clause-waits g c κs within = subst (λ i. Waits i.ended i.short) (sym c.in-Err.ensures.rule.0) (c.turned-item.ensures.waits (search rules))

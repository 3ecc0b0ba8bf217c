use Rattle.std.proofs.Common.{◌-◌, ◌∙◌, sym, arith}
use Rattle.token_sem.proofs.Positions.{no_entry}
use Rattle.pool_sem.proofs.Ends.{owner-at, owner-nowhere, below-more, above-more}
use Rattle.pool_sem.proofs.entries.owner_of.Goals as goal

pub returns-then-owns : goal.returns-then-owns
returns-then-owns c =
    owner-at c.args.client c.args.token c.args.entries.now (c.loop-low.high - 1) no_entry (omega (arith, c.loop-low.invariant.within, c.loop-low-test.true)) (sym c.owns.ensures ∙ c.if-owns.true) c.requires

pub returns-then-owns-2 : goal.returns-then-owns-2
returns-then-owns-2 c =
    owner-at c.args.client c.args.token c.args.entries.now c.loop-low.low no_entry (omega (arith, c.loop-low.invariant.within, c.loop-low-test.true)) (sym c.owns-in-loop-low.ensures ∙ c.if-owns-2.true) c.requires

pub loop-low-preserved : goal.loop-low-preserved
loop-low-preserved c = record {
  within = omega (arith, c.loop-low.invariant.within);
  below = below-more c.args.client c.args.token c.args.entries.now c.loop-low.low no_entry (sym c.owns-in-loop-low.ensures ∙ c.if-owns-2.false) c.loop-low.invariant.below;
  above = above-more c.args.client c.args.token c.args.entries.now c.loop-low.high no_entry (sym c.owns.ensures ∙ c.if-owns.false) c.loop-low.invariant.above;
}

pub returns : goal.returns
returns c =
    owner-nowhere c.args.client c.args.token c.args.entries.now c.loop-low.low c.loop-low.high no_entry (omega (arith, c.loop-low-test.false)) c.loop-low.invariant.below c.loop-low.invariant.above

use Rattle.std.proofs.Common.{◌≡◌, IfSome, slice_get}
use Rattle.cell_pool.specs.declared.turn.Step.TheVariants.{Done, Memory}
use Rattle.cell_pool.proofs.item.turned.Given as goal

-- the job is fit, and made of the one that was given at its place; and as the last turn left it
abbrev pub invariant-loop-turn : goal.invariant-loop-turn
invariant-loop-turn g l = record {
  fit : ∥ g.T.Turn.fit l.turns l.job ∥₁;
  made : ∥ IfSome (slice_get g.C.Given.given l.place) (λ from. g.T.Turn.made from l.job) ∥₁;
  done : l.step ≡ Done → ∥ g.T.Turn.done l.job ∥₁;
  short : l.step ≡ Memory → ∥ g.T.Turn.short l.job ∥₁;
}

use Rattle.std.proofs.Common.{arith}
use Rattle.std.proofs.Math.Logic.{∥∥₁_elim}
use Rattle.std.specs.Coded.{le_prop}
use Rattle.cell_pool.proofs.example.CountingTurn.turn.Goals as goal

pub go_on-requires : goal.go_on-requires
go_on-requires g c = (omega (arith, c.if-job-eq0.false), ∥∥₁_elim c.requires.fit le_prop (λ fit. fit))

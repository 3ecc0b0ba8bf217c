use Rattle.std.proofs.Math.Logic.{∥∥₁_elim}
use Rattle.mms_device.proofs.Fitting.{fit_prop}
use Rattle.mms_device.proofs.turns.CellTurnsTurn.turn.Goals as goal

pub serve_next-requires : goal.serve_next-requires
serve_next-requires g c = record { fit = ∥∥₁_elim c.requires.fit (fit_prop c.args.self.now.device.now c.args.job.now) (λ fit. fit) }

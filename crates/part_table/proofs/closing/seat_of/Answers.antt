use Rattle.part_table.proofs.Ending.{seat_idle}
use Rattle.part_table.proofs.closing.seat_of.Goals as goal

pub returns-clause-seat : goal.returns-clause-seat
returns-clause-seat g c = seat_idle g.O.Object.may_make _ _ _ _ _ _ c.pass.inside.hand _ c.pass.invariant c.pass.view_is c.requires.idle

use Rattle.std.proofs.Common.{subst}
use Rattle.part_table.specs.Known.{IsTrueOf}
use Rattle.part_table.proofs.Passes.{true_with}
use Rattle.part_table.proofs.pass.a_pass_knows_its_own_places.Goals as goal

pub returns : goal.returns
returns g c = subst (IsTrueOf g.O.Object.may_make) c.pass.view_is (true_with g.O.Object.may_make c.pass.inside.seat.table_id c.pass.inside.seat.me.0 c.pass.inside.hand c.pass.inside.order.items (c.pass.invariant.true_of _))

use Rattle.std.proofs.Common.{◌≡◌, length, subst}
use Rattle.part_table.proofs.pass.a_pass_has_a_place_for_each_part.Goals as goal

pub returns : goal.returns
returns g c = subst (λ k. length k.taken ≡ length k.table.opening) c.pass.view_is c.pass.invariant.places

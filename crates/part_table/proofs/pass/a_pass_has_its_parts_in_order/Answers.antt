use Rattle.std.proofs.Common.{◌≡◌, ℕ, subst}
use Rattle.part_table.specs.Held.{held_at}
use Rattle.part_table.specs.Passes.{one_if_held, times}
use Rattle.part_table.proofs.pass.a_pass_has_its_parts_in_order.Goals as goal

pub returns : goal.returns
returns g c = subst (λ p. (part : ℕ) → times part p.order ≡ one_if_held (held_at p.taken part)) c.pass.view_is c.pass.invariant.turns

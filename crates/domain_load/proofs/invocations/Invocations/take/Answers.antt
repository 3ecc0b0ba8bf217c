use Rattle.std.proofs.Common.{not, subst, sym}
use Rattle.object_names.proofs.Ordered.{IsOrdered}
use Rattle.domain_load.specs.Domains.{name_eq}
use Rattle.domain_load.proofs.UserNames.{order_left}
use Rattle.domain_load.proofs.invocations.Invocations.take.Goals as goal

pub invariant_of-self : goal.invariant_of-self
invariant_of-self c =
    subst (λ ns. IsOrdered ns) (sym c.take_out.ensures) (order_left (λ other. not (name_eq other c.args.name.now)) c.self.inside.names.items c.self.invariant)

use Rattle.domain_load.proofs.UserNames.{order_put}
use Rattle.domain_load.proofs.invocations.Invocations.put.Goals as goal

pub invariant_of-self : goal.invariant_of-self
invariant_of-self c = order_put c.put_in.result c.args.name c.self.inside.names.items c.put_in.new.names.items c.self.invariant c.put_in.ensures.put c.put_in.ensures.kept

use Rattle.std.proofs.Common.{◌∙◌, subst, sym}
use Rattle.domain_load.specs.UserNames.{AreBefore}
use Rattle.domain_load.proofs.UserNames.{placed}
use Rattle.domain_load.proofs.invocations.put_in.Goals as goal

pub returns-clause-put : goal.returns-clause-put
returns-clause-put c =
    let place = c.before-place.result in
    let less = subst (λ ns. AreBefore c.args.name ns place) c.deref.ensures.value c.before-place.ensures in
    c.in_ok-insert.ensures.items ∙ sym (placed c.args.name c.args.names.now.items place less.1.0 less.1.1)

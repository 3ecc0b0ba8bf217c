use Rattle.std.proofs.Common.{◌≡◌, ◌∙◌, Some, ap, sym}
use Rattle.token_sem.specs.Semaphore.{owner_of}
use Rattle.token_sem.specs.Entries.{lists_of}
use Rattle.token_sem.proofs.Losing.{owner-not_queued}
use Rattle.token_sem.proofs.Serving.{numbered-at}
use Rattle.token_sem.proofs.Tabled.{placed-among, owner-is}
use Rattle.token_sem.proofs.sem.TokenSem.heir.Goals as goal

pub heir-requires-clause-there : goal.heir-requires-clause-there
heir-requires-clause-there c =
    let es = c.self.inside.entries.list in
    let found : owner_of c.args.client es ≡ Some c.in-Some.owner = sym (c.in-Some.ensures ∙ ap (owner_of c.args.client) c.as_slice.ensures.entries) in
    numbered-at 0 c.self.inside.made es c.in-Some.owner c.self.invariant.0.rises (owner-is c.args.client es c.in-Some.owner found).0

pub heir-requires-clause-holds : goal.heir-requires-clause-holds
heir-requires-clause-holds c =
    let es = c.self.inside.entries.list in
    let found : owner_of c.args.client es ≡ Some c.in-Some.owner = sym (c.in-Some.ensures ∙ ap (owner_of c.args.client) c.as_slice.ensures.entries) in
    owner-not_queued c.in-Some.owner (owner-is c.args.client es c.in-Some.owner found).1

pub heir-requires-clause-placed : goal.heir-requires-clause-placed
heir-requires-clause-placed c =
    let es = c.self.inside.entries.list in
    let found : owner_of c.args.client es ≡ Some c.in-Some.owner = sym (c.in-Some.ensures ∙ ap (owner_of c.args.client) c.as_slice.ensures.entries) in
    placed-among (lists_of c.self.inside.entries.named) es c.in-Some.owner c.as_slice.ensures.always.placed (owner-is c.args.client es c.in-Some.owner found).0

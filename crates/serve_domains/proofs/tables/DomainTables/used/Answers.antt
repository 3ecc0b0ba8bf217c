use Rattle.serve_domains.proofs.UserLaws.{used_or_kept}
use Rattle.serve_domains.proofs.tables.DomainTables.used.Goals as goal

pub invariant_of-self : goal.invariant_of-self
invariant_of-self c =
    used_or_kept c.used.result c.args.domains.now c.args.by.now c.self.inside.domains c.used.new.self c.self.inside.uploads c.used.ensures.used c.used.ensures.kept c.self.invariant

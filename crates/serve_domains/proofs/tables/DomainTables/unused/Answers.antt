use Rattle.std.proofs.Common.{subst, sym}
use Rattle.domain_load.specs.Domains.{Rows}
use Rattle.domain_upload.specs.Uploads.{AreOf}
use Rattle.serve_domains.proofs.UserLaws.{unused_keeps}
use Rattle.serve_domains.proofs.tables.DomainTables.unused.Goals as goal

pub invariant_of-self : goal.invariant_of-self
invariant_of-self c =
    subst (λ (d : Rows). AreOf c.self.inside.uploads d) (sym c.unused.ensures) (unused_keeps c.args.domains.now c.args.by.now c.self.inside.domains c.self.inside.uploads c.self.invariant)

use Rattle.std.proofs.Common.{subst, sym}
use Rattle.domain_upload.specs.Uploads.{AreOf, OpenUploads}
use Rattle.domain_upload.proofs.Kept.{segment_keeps}
use Rattle.serve_domains.proofs.tables.DomainTables.sent.Goals as goal

pub invariant_of-self : goal.invariant_of-self
invariant_of-self c =
    subst (λ (u : OpenUploads). AreOf u c.self.inside.domains) (sym c.sent.ensures)
    (segment_keeps c.args.client _ c.args.size c.self.inside.domains c.self.inside.uploads c.self.invariant)

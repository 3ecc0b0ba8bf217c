use Rattle.std.proofs.Common.{subst, sym}
use Rattle.domain_load.specs.Domains.{Rows, without_loads}
use Rattle.domain_upload.specs.Uploads.{AreOf, OpenUploads}
use Rattle.domain_upload.proofs.Kept.{lose_keeps}
use Rattle.domain_upload.proofs.Others.{loss_keeps}
use Rattle.serve_domains.proofs.tables.DomainTables.lose.Goals as goal

pub invariant_of-self : goal.invariant_of-self
invariant_of-self c =
    subst (λ (d : Rows). AreOf c.lose-2.new.self d) (sym c.lose.ensures)
    (subst (λ (u : OpenUploads). AreOf u (without_loads c.args.client c.self.inside.domains)) (sym c.lose-2.ensures)
    (lose_keeps c.args.client (without_loads c.args.client c.self.inside.domains) c.self.inside.uploads
    (loss_keeps c.args.client c.self.inside.domains c.self.inside.uploads c.self.invariant)))

use Rattle.std.proofs.Common.{subst, sym}
use Rattle.domain_load.specs.Domains.{Rows}
use Rattle.domain_upload.specs.Uploads.{AreOf}
use Rattle.domain_upload.proofs.Others.{begin_keeps}
use Rattle.serve_domains.proofs.tables.DomainTables.begin_load.Goals as goal

pub invariant_of-self-2 : goal.invariant_of-self-2
invariant_of-self-2 c =
    subst (λ (d : Rows). AreOf c.self.inside.uploads d) (sym c.in_ok-_also.ensures.begun) (begin_keeps c.args.client c.args.asked.now c.self.inside.domains c.self.inside.uploads c.self.invariant)

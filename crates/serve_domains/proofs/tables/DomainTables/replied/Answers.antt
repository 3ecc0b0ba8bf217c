use Rattle.std.proofs.Common.{◌≡◌, true, subst, sym}
use Rattle.domain_load.specs.Domains.{Rows}
use Rattle.domain_load.specs.Loading.{answers_load}
use Rattle.domain_upload.specs.Uploads.{AreOf}
use Rattle.domain_upload.proofs.Others.{reply_keeps}
use Rattle.serve_domains.specs.Tables.{DomainTables}
use Rattle.serve_domains.proofs.tables.DomainTables.replied.Goals as goal

pub invariant_of-self-2 : goal.invariant_of-self-2
invariant_of-self-2 c =
    subst (λ (d : Rows). AreOf c.self.inside.uploads d) (sym c.in_ok-_also.ensures.after)
    (reply_keeps c.args.client c.args.reply.now c.self.inside.domains c.self.inside.uploads
    (subst (λ (t : DomainTables). answers_load c.args.client c.args.reply.now t.domains ≡ true) (sym c.self.view_is) c.requires.loads) c.self.invariant)

use Rattle.std.proofs.Common.{◌≡◌, None, subst, sym}
use Rattle.domain_load.specs.Domains.{Rows, delete_cause}
use Rattle.domain_upload.specs.Uploads.{AreOf, uploads_of}
use Rattle.domain_upload.proofs.Others.{delete_keeps}
use Rattle.serve_domains.specs.Tables.{DomainTables}
use Rattle.serve_domains.proofs.tables.DomainTables.delete.Goals as goal

pub invariant_of-self : goal.invariant_of-self
invariant_of-self c =
    subst (λ (d : Rows). AreOf c.self.inside.uploads d) (sym c.delete.ensures)
    (delete_keeps c.args.name.now c.requires.0 c.self.inside.domains c.self.inside.uploads
    (subst (λ (t : DomainTables). delete_cause c.args.name.now (uploads_of c.args.name.now t.uploads) c.requires.0 t.domains ≡ None) (sym c.self.view_is) c.requires.1)
    c.self.invariant)

pub delete-requires : goal.delete-requires
delete-requires c = (
  uploads_of c.args.name.now c.self.inside.uploads,
  c.requires.0,
  subst (λ (t : DomainTables). delete_cause c.args.name.now (uploads_of c.args.name.now t.uploads) c.requires.0 t.domains ≡ None) (sym c.self.view_is) c.requires.1,
)

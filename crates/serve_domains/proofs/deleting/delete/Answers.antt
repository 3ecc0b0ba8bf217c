use Rattle.std.proofs.Common.{ℕ, ap, ap₂, sym, ◌∙◌}
use Rattle.domain_load.specs.Domains.{Rows, delete_cause}
use Rattle.domain_upload.specs.Uploads.{OpenUploads, uploads_of}
use Rattle.serve_domains.proofs.DomainLaws.{delete_refused}
use Rattle.serve_domains.proofs.deleting.delete.Goals as goal

pub returns-in-Some-clause-served : goal.returns-in-Some-clause-served
returns-in-Some-clause-served c =
    delete_refused c.args.name.now c.args.own.now.row c.args.invoke c.args.tables.now c.refuse.new.self c.refuse.result c.args.scoped c.in-Some.error
    (sym c.in-Some.is ∙ c.delete_cause.ensures
    ∙ ap₂ (λ (n : ℕ) (d : Rows). delete_cause c.args.name.now n c.args.scoped d)
    (c.of_domain-uploads.ensures.count ∙ ap (λ (u : OpenUploads). uploads_of c.args.name.now u) c.uploads.ensures) c.domains.ensures.rows)
    c.refuse.ensures.sent

use Rattle.std.proofs.Common.{ap₂, sym, ◌∙◌}
use Rattle.domain_load.specs.Domains.{Rows}
use Rattle.domain_upload.specs.Uploads.{OpenUploads, initiate_cause}
use Rattle.serve_domains.specs.Domains.{initiate_upload}
use Rattle.serve_domains.proofs.DomainLaws.{refused_so}
use Rattle.serve_domains.proofs.upload.initiate.Goals as goal

pub returns-in-Some-clause-served : goal.returns-in-Some-clause-served
returns-in-Some-clause-served c =
    refused_so (initiate_upload c.args.name.now) c.args.own.now.row c.args.invoke c.args.tables.now c.refuse.new.self c.refuse.result c.in-Some.error
    (λ facts. ap₂ (λ (d : Rows) (u : OpenUploads). initiate_cause c.args.name.now d u) (sym c.domains.ensures.rows) (sym c.uploads.ensures)
    ∙ sym c.initiate_cause.ensures ∙ c.in-Some.is)
    c.refuse.ensures.sent

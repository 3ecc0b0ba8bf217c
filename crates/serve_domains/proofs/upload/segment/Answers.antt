use Rattle.std.proofs.Common.{ℕ, ℤ, ap, ap₂, sym, to_z-of_z, ◌∙◌}
use Rattle.association.specs.Client.{Client as RoomyRow}
use Rattle.domain_upload.specs.Uploads.{OpenUploads, segment_cause}
use Rattle.serve_domains.specs.Domains.{upload_segment}
use Rattle.serve_domains.proofs.DomainLaws.{refused_so}
use Rattle.serve_domains.proofs.upload.segment.Goals as goal

pub returns-in-Some-clause-served : goal.returns-in-Some-clause-served
returns-in-Some-clause-served c =
    refused_so (upload_segment c.args.number) c.args.own.now.row c.args.invoke c.args.tables.now c.refuse.new.self c.refuse.result c.in-Some.error
    (λ facts. ap₂ (λ (n : ℕ) (u : OpenUploads). segment_cause n c.args.number u) (sym (c.client.ensures ∙ ap (λ (r : RoomyRow). r.row.client) c.part.ensures)) (sym c.uploads.ensures)
    ∙ ap (λ (z : ℤ). segment_cause c.client.result z c.uploads.result.now) (sym (to_z-of_z c.ranges.number)) ∙ sym c.segment_cause.ensures ∙ c.in-Some.is)
    c.refuse.ensures.sent

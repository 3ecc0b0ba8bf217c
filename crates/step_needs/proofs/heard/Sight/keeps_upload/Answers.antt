use Rattle.std.proofs.Common.{◌∙◌, ℕ, ap, sym}
use Rattle.domain_upload.specs.Uploads.{has_upload}
use Rattle.serve_domains.specs.Tables.{DomainTables}
use Rattle.step_parts.proofs.Shown.{shown_domains}
use Rattle.step_needs.proofs.heard.Sight.keeps_upload.Goals as goal

pub returns : goal.returns
returns c =
    c.has_upload.ensures ∙ ap (λ (k : ℕ). has_upload k c.get.result.now.uploads) c.client.ensures
    ∙ ap (λ (d : DomainTables). has_upload c.args.self.part.now.row.client d.uploads) (c.get.ensures ∙ c.shown-domains.ensures ∙ sym (shown_domains c.args.self.held.now))

use Rattle.std.proofs.Common.{ℕ, ◌∙◌, ap, sym}
use Rattle.std.proofs.lemmas.Result.{IfOk-weaker}
use Rattle.domain_upload.specs.Uploads.{has_upload}
use Rattle.serve_domains.specs.Tables.{DomainTables}
use Rattle.cell_services.proofs.AlsoLaws.{conclusion_lost, conclusion_own, own_loss}
use Rattle.cell_services.proofs.others.ToldTables.conclusion_told.Goals as goal

pub returns-then-has_upload : goal.returns-then-has_upload
returns-then-has_upload c = λ t shown.
    conclusion_own t c.args.part.now.row _
    (ap (λ (d : DomainTables). has_upload c.args.part.now.row.client d.uploads) shown.domains
    ∙ ap (λ (k : ℕ). has_upload k c.args.self.domains.now.uploads) (sym c.client.ensures) ∙ sym c.has_upload.ensures ∙ c.if-has_upload.true)
    c.new.ensures.items

pub returns-else-has_upload : goal.returns-else-has_upload
returns-else-has_upload c =
    IfOk-weaker c.lost.result _ _ (λ clients reach t shown.
    conclusion_lost t c.args.part.now.row clients.items
    (ap (λ (d : DomainTables). has_upload c.args.part.now.row.client d.uploads) shown.domains
    ∙ ap (λ (k : ℕ). has_upload k c.args.self.domains.now.uploads) (sym c.client.ensures) ∙ sym c.has_upload.ensures ∙ c.if-has_upload.false)
    (own_loss t c.args.part.now.row.client _ clients.items c.client-else-has_upload.ensures (reach t shown)))
    c.lost.ensures

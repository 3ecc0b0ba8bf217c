use Rattle.std.proofs.Common.{ap, sym, ◌∙◌}
use Rattle.domain_upload.specs.Uploads.{OpenUploads}
use Rattle.domain_upload.proofs.Rows.{is_there_when_found}
use Rattle.domain_upload.proofs.uploads.Uploads.segment.Goals as goal

pub unreachable-requires-in_default-named : goal.unreachable-requires-in_default-named
unreachable-requires-in_default-named c =
    is_there_when_found c.args.self.now c.args.domains.now _ _ _ _ _ c.upload_of.ensures c.in-Some.is c.named.ensures
    (ap (λ (s : OpenUploads). s.rows) (sym c.self.view_is) ∙ sym c.deref.ensures.value) c.requires.domains c.in_default-named.is

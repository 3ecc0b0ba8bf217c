use Rattle.std.proofs.Common.{rules, ◌≡◌, ◌∙◌, false, ap, subst, sym, to_z-of_z, w32, SFits}
use Rattle.mms_types.specs.declared.area.DomainRequest.{DomainRequest}
use Rattle.mms_types.specs.declared.area.DomainRequest.TheVariants as request
use Rattle.cell_client.specs.Areas.{lacks_number_in}
use Rattle.cell_client.specs.Facts.{Facts}
use Rattle.serve_domains.specs.Domains.{request_in}
use Rattle.serve_domains.proofs.DomainLaws.{whatever_is_scoped}
use Rattle.serve_domains.proofs.serving.serve.Goals as goal

pub download-requires-clause-number : goal.download-requires-clause-number
download-requires-clause-number c =
    subst (λ (q : DomainRequest). (facts : Facts) → lacks_number_in (request_in q) facts c.args.own.now.row c.args.invoke c.args.tables.now ≡ false) c.in-InitiateDownloadSequence.is
    c.requires.number

pub returns-in-UploadSegment-clause-served : goal.returns-in-UploadSegment-clause-served
returns-in-UploadSegment-clause-served c =
    let f : SFits w32 c.in-UploadSegment.number = search rules in
    whatever_is_scoped c.segment.result c.args.asked _ c.args.invoke c.args.own.now.row c.args.tables.now c.segment.new.tables c.segment.new.own
    c.args.scoped (c.in-UploadSegment.is ∙ ap request.UploadSegment (sym (to_z-of_z f))) c.segment.ensures.served

pub returns-in-TerminateUploadSequence-clause-served : goal.returns-in-TerminateUploadSequence-clause-served
returns-in-TerminateUploadSequence-clause-served c =
    let f : SFits w32 c.in-TerminateUploadSequence.number = search rules in
    whatever_is_scoped c.terminate.result c.args.asked _ c.args.invoke c.args.own.now.row c.args.tables.now
    c.terminate.new.tables c.terminate.new.own c.args.scoped (c.in-TerminateUploadSequence.is ∙ ap request.TerminateUploadSequence (sym (to_z-of_z f))) c.terminate.ensures.served

use Rattle.std.proofs.Common.{ap, refl, ◌∙◌}
use Rattle.std.specs.Option.{option_map}
use Rattle.association.specs.Client.{Client as RoomyRow}
use Rattle.mms_types.specs.declared.pdu.Answer.TheVariants as answer
use Rattle.mms_journal.specs.Services.{missing_cause, status}
use Rattle.serve_journals.specs.Journals.{report_status}
use Rattle.serve_journals.proofs.ServedLaws.{told_so}
use Rattle.serve_journals.proofs.making.status.Goals as goal

pub returns-clause-served : goal.returns-clause-served
returns-clause-served c =
    told_so (report_status c.args.name.now) c.args.own.now.row c.args.invoke c.args.journals.now c.settle.new.self c.status_said-said.result c.client.result
    (c.client.ensures ∙ ap (λ (r : RoomyRow). r.row.client) c.part.ensures) (λ n. missing_cause n c.args.name.now c.args.journals.now)
    (λ n. option_map answer.ReportJournalStatus (status n c.args.name.now c.args.journals.now)) (λ facts. refl) (λ facts. refl)
    c.status_said-said.ensures c.in_ok-_answered.ensures.told

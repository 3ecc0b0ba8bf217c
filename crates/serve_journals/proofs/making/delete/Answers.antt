use Rattle.std.proofs.Common.{ℕ, Some, ap, sym, refl, ◌∙◌}
use Rattle.association.specs.Client.{Client as RoomyRow}
use Rattle.mms_types.specs.declared.pdu.Answer.TheVariants as answer
use Rattle.mms_journal.specs.Services.{after_delete, missing_cause}
use Rattle.serve_journals.specs.Journals.{delete}
use Rattle.serve_journals.proofs.ServedLaws.{became_so, refused_so}
use Rattle.serve_journals.proofs.making.delete.Goals as goal

pub returns-in-Some-clause-served : goal.returns-in-Some-clause-served
returns-in-Some-clause-served c =
    refused_so (delete c.args.name.now) c.args.own.now.row c.args.invoke c.args.journals.now c.refuse.new.self c.refuse.result c.in-Some.error
    (λ facts. ap (λ (n : ℕ). missing_cause n c.args.name.now c.args.journals.now) (sym (c.client.ensures ∙ ap (λ (r : RoomyRow). r.row.client) c.part.ensures)) ∙ sym c.missing_cause.ensures ∙ c.in-Some.is) c.refuse.ensures.sent

pub returns-in-None-clause-served : goal.returns-in-None-clause-served
returns-in-None-clause-served c =
    became_so (delete c.args.name.now) c.args.own.now.row c.args.invoke c.args.journals.now c.delete_there.new.own c.delete_there.result c.delete_there.new.journals
    (after_delete c.args.own.now.row.client c.args.name.now c.args.journals.now) (Some answer.DeleteJournal)
    (λ facts. ap (λ (n : ℕ). missing_cause n c.args.name.now c.args.journals.now) (sym (c.client.ensures ∙ ap (λ (r : RoomyRow). r.row.client) c.part.ensures)) ∙ sym c.missing_cause.ensures ∙ c.in-None.is)
    (λ facts. refl) c.delete_there.ensures.deleted c.delete_there.ensures.told

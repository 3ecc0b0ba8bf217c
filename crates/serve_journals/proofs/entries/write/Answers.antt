use Rattle.std.proofs.Common.{ℕ, List, Some, ap, ap₂, sym, refl, ◌∙◌}
use Rattle.association.specs.Client.{Client as RoomyRow}
use Rattle.mms_types.specs.declared.journal.JournalEntry.{JournalEntry}
use Rattle.mms_types.specs.declared.pdu.Answer.TheVariants as answer
use Rattle.mms_journal.specs.Services.{after_write, write_cause}
use Rattle.serve_journals.specs.Journals.{write}
use Rattle.serve_journals.proofs.ServedLaws.{became_so, refused_so, unprepared}
use Rattle.serve_journals.proofs.entries.write.Goals as goal

pub returns-in-Err-Service-clause-served : goal.returns-in-Err-Service-clause-served
returns-in-Err-Service-clause-served c =
    refused_so (write c.args.asked.now) c.args.own.now.row c.args.invoke c.args.journals.now c.refuse.new.self c.refuse.result c.in-Err-Service.error
    (λ facts. ap (λ (n : ℕ). write_cause n c.args.asked.now.name c.args.asked.now.entries c.args.journals.now) (sym (c.client-client.ensures ∙ ap (λ (r : RoomyRow). r.row.client) c.part.ensures))
    ∙ unprepared c.in-Err-Service.field-0 c.in-Err-Service.error _ c.args.asked.now.entries c.in-Err-Service.field-0-is c.in-Err-Service.ensures.prepared)
    c.refuse.ensures.sent

pub write_there-requires-clause-free : goal.write_there-requires-clause-free
write_there-requires-clause-free c =
    ap₂ (λ (n : ℕ) (p : List JournalEntry). write_cause n c.args.asked.now.name p c.args.journals.now) (sym (c.client-client.ensures ∙ ap (λ (r : RoomyRow). r.row.client) c.part.ensures)) c.in-Ok.ensures.prepared.1
    ∙ c.in-Ok.ensures.prepared.0

pub returns-in-Ok-clause-served : goal.returns-in-Ok-clause-served
returns-in-Ok-clause-served c =
    became_so (write c.args.asked.now) c.args.own.now.row c.args.invoke c.args.journals.now c.write_there.new.own c.write_there.result c.write_there.new.journals
    (after_write c.args.own.now.row.client c.args.asked.now.name c.args.asked.now.entries c.args.journals.now) (Some answer.WriteJournal)
    (λ facts. ap (λ (n : ℕ). write_cause n c.args.asked.now.name c.args.asked.now.entries c.args.journals.now) (sym (c.client-client.ensures ∙ ap (λ (r : RoomyRow). r.row.client) c.part.ensures))
    ∙ c.in-Ok.ensures.prepared.0)
    (λ facts. refl) c.write_there.ensures.written c.write_there.ensures.told

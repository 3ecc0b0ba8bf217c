use Rattle.std.proofs.Common.{ℕ, [], Option, Some, ap, sym, refl, ◌∙◌}
use Rattle.std.specs.Option.{option_map}
use Rattle.association.specs.Client.{Client as RoomyRow}
use Rattle.mms_types.specs.declared.pdu.Answer.TheVariants as answer
use Rattle.mms_journal.specs.Journals.{Rows}
use Rattle.mms_journal.specs.Services.{after_initialize, missing_cause, removed}
use Rattle.cell_client.specs.Areas.{OutcomeIn}
use Rattle.serve_journals.specs.Journals.{initialize}
use Rattle.serve_journals.proofs.ServedLaws.{became_so, refused_so}
use Rattle.serve_journals.proofs.entries.initialize.Goals as goal

pub returns-in-Err-clause-served : goal.returns-in-Err-clause-served
returns-in-Err-clause-served c =
    refused_so (initialize c.args.asked.now) c.args.own.now.row c.args.invoke c.args.journals.now c.refuse.new.self c.refuse.result c.in-Err.error
    (λ facts. ap (λ (n : ℕ). missing_cause n c.args.asked.now.name c.args.journals.now) (sym (c.client.ensures ∙ ap (λ (r : RoomyRow). r.row.client) c.part.ensures)) ∙ c.in-Err.ensures) c.refuse.ensures.sent

pub returns-in-Ok-clause-served : goal.returns-in-Ok-clause-served
returns-in-Ok-clause-served c =
    became_so (initialize c.args.asked.now) c.args.own.now.row c.args.invoke c.args.journals.now c.initialize_there.new.own c.initialize_there.result
    c.initialize_there.new.journals (after_initialize c.args.own.now.row.client c.args.asked.now c.args.journals.now) (Some (answer.InitializeJournal c.in-Ok.count))
    (λ facts. ap (λ (n : ℕ). missing_cause n c.args.asked.now.name c.args.journals.now) (sym (c.client.ensures ∙ ap (λ (r : RoomyRow). r.row.client) c.part.ensures)) ∙ c.in-Ok.ensures.0)
    (λ facts. ap (λ (o : Option ℕ). outcome c.args.own.now.row.client o)
    (ap (λ (n : ℕ). removed n c.args.asked.now c.args.journals.now) (sym (c.client.ensures ∙ ap (λ (r : RoomyRow). r.row.client) c.part.ensures)) ∙ c.in-Ok.ensures.1))
    c.initialize_there.ensures.gone c.initialize_there.ensures.told
  where
    outcome : ℕ → Option ℕ → OutcomeIn Rows
    outcome client o =
        record { tables = after_initialize client c.args.asked.now c.args.journals.now; answer = option_map answer.InitializeJournal o; also = [] }

use Rattle.std.proofs.Common.{ℕ, ap, sym, ◌∙◌}
use Rattle.association.specs.Client.{Client as RoomyRow}
use Rattle.mms_journal.specs.Services.{create_cause}
use Rattle.serve_journals.proofs.ServedLaws.{create_refused, create_served}
use Rattle.serve_journals.proofs.making.create.Goals as goal

pub returns-in-Some-clause-served : goal.returns-in-Some-clause-served
returns-in-Some-clause-served c =
    create_refused c.args.own.now.row c.args.invoke c.args.journals.now c.refuse.new.self c.args.live c.args.name.now c.refuse.result c.in-Some.error
    (ap (λ (n : ℕ). create_cause c.args.live n c.args.name.now c.args.journals.now) (sym (c.client-client.ensures ∙ ap (λ (r : RoomyRow). r.row.client) c.part.ensures)) ∙ sym c.create_cause.ensures ∙ c.in-Some.is)
    c.refuse.ensures.sent

pub returns-in-None-clause-served : goal.returns-in-None-clause-served
returns-in-None-clause-served c =
    create_served c.args.own.now.row c.args.invoke c.args.journals.now c.create_new.new.own c.args.live c.args.name.now c.create_new.result c.create_new.new.journals
    (ap (λ (n : ℕ). create_cause c.args.live n c.args.name.now c.args.journals.now) (sym (c.client-client.ensures ∙ ap (λ (r : RoomyRow). r.row.client) c.part.ensures)) ∙ sym c.create_cause.ensures ∙ c.in-None.is)
    c.create_new.ensures.made c.create_new.ensures.told

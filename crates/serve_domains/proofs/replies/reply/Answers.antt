use Rattle.std.proofs.Common.{None, Some, ap, sym, ◌∙◌}
use Rattle.association.specs.Asked.{asked_of}
use Rattle.association.specs.Client.{Client as RoomyRow}
use Rattle.domain_load.specs.Domains.{Rows}
use Rattle.domain_load.specs.Loading.{asked_next}
use Rattle.cell_client.specs.Meant.{came}
use Rattle.serve_domains.proofs.DomainLaws.{replied_so}
use Rattle.serve_domains.proofs.NumberLaws.{reply_has}
use Rattle.serve_domains.proofs.replies.reply.Goals as goal

pub returns-in-None-clause-served : goal.returns-in-None-clause-served
returns-in-None-clause-served c =
    replied_so c.args.own.now.row c.args.number (came c.args.answer) c.args.tables.now c.reply_alone.result c.reply_alone.new.tables c.reply_alone.new.own
    (c.in-Some.asked, c.in-Some.domain.now) c.in_ok-reply.reply None
    (ap (λ (r : RoomyRow). asked_of c.args.number r.row.asked) (sym c.part.ensures) ∙ sym c.in-Some.ensures)
    c.in_ok-reply.ensures
    (sym c.in-None.is ∙ c.asked_next.ensures ∙ ap (λ (d : Rows). asked_next c.in_ok-reply.reply d) c.domains.ensures.rows)
    c.reply_alone.ensures.after c.reply_alone.ensures.told

pub reply_and_ask-requires-clause-next : goal.reply_and_ask-requires-clause-next
reply_and_ask-requires-clause-next c =
    reply_has c.args.own.now.row c.args.number (came c.args.answer) c.args.tables.now c.requires.number
    (c.in-Some.asked, c.in-Some.domain.now) c.in_ok-reply.reply c.in-Some-asked_next.kind
    (ap (λ (r : RoomyRow). asked_of c.args.number r.row.asked) (sym c.part.ensures) ∙ sym c.in-Some.ensures)
    c.in_ok-reply.ensures
    (sym c.in-Some-asked_next.is ∙ c.asked_next.ensures ∙ ap (λ (d : Rows). asked_next c.in_ok-reply.reply d) c.domains.ensures.rows)

pub returns-clause-served : goal.returns-clause-served
returns-clause-served c =
    replied_so c.args.own.now.row c.args.number (came c.args.answer) c.args.tables.now c.reply_and_ask.result c.reply_and_ask.new.tables c.reply_and_ask.new.own
    (c.in-Some.asked, c.in-Some.domain.now) c.in_ok-reply.reply (Some c.in-Some-asked_next.kind)
    (ap (λ (r : RoomyRow). asked_of c.args.number r.row.asked) (sym c.part.ensures) ∙ sym c.in-Some.ensures)
    c.in_ok-reply.ensures
    (sym c.in-Some-asked_next.is ∙ c.asked_next.ensures ∙ ap (λ (d : Rows). asked_next c.in_ok-reply.reply d) c.domains.ensures.rows)
    c.reply_and_ask.ensures.after c.reply_and_ask.ensures.told

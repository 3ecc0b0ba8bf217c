use Rattle.std.proofs.Common.{◌∙◌, sym}
use Rattle.std.proofs.lemmas.Result.{IfOk-weaker}
use Rattle.cell_client.specs.Facts.{no_facts}
use Rattle.cell_client.specs.Meant.{came}
use Rattle.cell_services.proofs.AlsoLaws.{own_loss, reply_lost, reply_own}
use Rattle.cell_services.proofs.others.ToldTables.reply_told.Goals as goal

pub returns-then-reply_lacks_number : goal.returns-then-reply_lacks_number
returns-then-reply_lacks_number c =
    IfOk-weaker c.lost.result _ _ (λ clients reach t shown.
    reply_lost t c.args.part.now.row c.args.number (came c.args.answer) clients.items
    (sym (c.reply_lacks_number.ensures no_facts c.args.number t.domains) ∙ c.if-reply_lacks_number.true)
    (own_loss t c.args.part.now.row.client _ clients.items c.client.ensures (reach t shown)))
    c.lost.ensures

pub returns-else-reply_lacks_number : goal.returns-else-reply_lacks_number
returns-else-reply_lacks_number c = λ t shown.
    reply_own t c.args.part.now.row c.args.number (came c.args.answer) _
    (sym (c.reply_lacks_number.ensures no_facts c.args.number t.domains) ∙ c.if-reply_lacks_number.false)
    c.new.ensures.items

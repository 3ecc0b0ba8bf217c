use Rattle.std.proofs.Common.{◌∙◌, Bool, ap, sym, if◌then◌else◌}
use Rattle.cell_client.specs.Association.{Exhausts, Takes}
use Rattle.cell_client.specs.Facts.{no_facts}
use Rattle.cell_client.specs.Meant.{came, meant}
use Rattle.cell_client.specs.declared.verdict.Found.{Found}
use Rattle.cell_services.specs.Serving.{resolved}
use Rattle.parted_state.specs.Lifted.{tables_shown}
use Rattle.step_parts.specs.Partition.{cell}
use Rattle.step_needs.proofs.Lost.{concludes_more, more_by, replies_more}
use Rattle.step_needs.proofs.heard.Sight.heard_more.Goals as goal

pub returns-then-branch : goal.returns-then-branch
returns-then-branch c =
    let t = tables_shown cell c.args.self.held.now in
    let row = c.args.self.part.now.row in
    more_by c.args.self.clients t row (meant c.args.found.now) (Exhausts c.in-Takes.invoke) c.loss_parts.result
    (ap (λ (f : Found). resolved t row (meant f)) c.in-Takes.is
    ∙ ap (λ (b : Bool). if b then Exhausts c.in-Takes.invoke else Takes c.in-Takes.invoke c.in-Takes.asked.now) (sym c.in_ok-lacks_number-in-Takes.ensures ∙ c.if-branch.true))
    c.loss_parts.ensures

pub returns-else-branch : goal.returns-else-branch
returns-else-branch c =
    let t = tables_shown cell c.args.self.held.now in
    let row = c.args.self.part.now.row in
    more_by c.args.self.clients t row (meant c.args.found.now) (Takes c.in-Takes.invoke c.in-Takes.asked.now) c.request_more.result
    (ap (λ (f : Found). resolved t row (meant f)) c.in-Takes.is
    ∙ ap (λ (b : Bool). if b then Exhausts c.in-Takes.invoke else Takes c.in-Takes.invoke c.in-Takes.asked.now) (sym c.in_ok-lacks_number-in-Takes.ensures ∙ c.if-branch.false))
    c.request_more.ensures

pub returns-in-Replies : goal.returns-in-Replies
returns-in-Replies c =
    let t = tables_shown cell c.args.self.held.now in
    replies_more c.args.self.clients t c.args.self.part.now.row (meant c.args.found.now) c.in-Replies.number (came c.in-Replies.answer) c.reply_lacks_number-lost.result c.loss_parts-in-Replies.result
    (ap (λ (f : Found). meant f) c.in-Replies.is) (c.reply_lacks_number-lost.ensures no_facts c.in-Replies.number t.domains) c.loss_parts-in-Replies.ensures

pub returns-in-Concludes : goal.returns-in-Concludes
returns-in-Concludes c =
    concludes_more c.args.self.clients (tables_shown cell c.args.self.held.now) c.args.self.part.now.row (meant c.args.found.now) c.keeps_upload.result c.loss_parts-in-Concludes.result
    (ap (λ (f : Found). meant f) c.in-Concludes.is) c.keeps_upload.ensures c.loss_parts-in-Concludes.ensures

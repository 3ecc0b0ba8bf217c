use Rattle.std.proofs.lemmas.Result.{IfOk-weaker}
use Rattle.std.proofs.Common.{◌∙◌, ap, sym}
use Rattle.cell_client.specs.Areas.{lacks_number_in}
use Rattle.cell_client.specs.Facts.{no_facts}
use Rattle.serve_domains.specs.Domains.{request_in}
use Rattle.serve_domains.specs.Tables.{DomainTables}
use Rattle.cell_services.proofs.AlsoLaws.{domains_lost, domains_own, events_tell, own_loss, semaphores_tell}
use Rattle.cell_services.proofs.others.ToldTables.request_told.Goals as goal

pub returns-in_ok-tells-in-Semaphores : goal.returns-in_ok-tells-in-Semaphores
returns-in_ok-tells-in-Semaphores c =
    IfOk-weaker c.listed.result _ _ (λ clients are t shown.
    semaphores_tell t c.args.part.now.row c.args.invoke c.args.asked.now c.in-Semaphores.asked c.args.self.semaphores.now c.in_ok-tells-in-Semaphores.field-0 clients.items
    c.in-Semaphores.ensures shown.semaphores c.in_ok-tells-in-Semaphores.ensures.told are)
    c.listed.ensures

pub returns-then-branch : goal.returns-then-branch
returns-then-branch c =
    IfOk-weaker c.lost.result _ _ (λ clients reach t shown.
    domains_lost t c.args.part.now.row c.args.invoke c.args.asked.now c.in-Domains.asked clients.items c.in-Domains.ensures
    (ap (λ (d : DomainTables). lacks_number_in (request_in c.in-Domains.asked) no_facts c.args.part.now.row c.args.invoke d) shown.domains
    ∙ sym (c.in_ok-lacks_number-in-Domains.ensures no_facts) ∙ c.if-branch.true)
    (own_loss t c.args.part.now.row.client _ clients.items c.client.ensures (reach t shown)))
    c.lost.ensures

pub returns-else-branch : goal.returns-else-branch
returns-else-branch c = λ t shown.
    domains_own t c.args.part.now.row c.args.invoke c.args.asked.now c.in-Domains.asked _ c.in-Domains.ensures
    (ap (λ (d : DomainTables). lacks_number_in (request_in c.in-Domains.asked) no_facts c.args.part.now.row c.args.invoke d) shown.domains
    ∙ sym (c.in_ok-lacks_number-in-Domains.ensures no_facts) ∙ c.if-branch.false)
    c.new.ensures.items

pub returns-in-Events : goal.returns-in-Events
returns-in-Events c =
    IfOk-weaker c.tells-in-Events.result _ _ (λ clients reach t shown.
    events_tell t c.args.part.now.row c.args.invoke c.args.asked.now c.in-Events.asked c.args.self.now c.is_true-is_true.result c.args.self.events.now clients.items c.in-Events.ensures
    shown.events shown.now (sym (c.is_true-is_true.ensures t c.args.part.now.row shown (sym c.client-in-Events.ensures))) reach)
    c.tells-in-Events.ensures.told

use Rattle.std.proofs.Common.{◌≡◌, ◌∙◌, Some, ap, false, subst}
use Rattle.cell_client.specs.Areas.{lacks_number_in}
use Rattle.cell_client.specs.Meant.{came}
use Rattle.serve_domains.specs.Domains.{replied}
use Rattle.cell_services.proofs.AreaLaws.{reply_served}
use Rattle.step_parts.specs.declared.part.Part.{Part}
use Rattle.step_parts.specs.Partition.{domains_in}
use Rattle.step_apply.proofs.domains.CameOnParts.serve.Goals as goal

pub reply-requires-clause-number : goal.reply-requires-clause-number
reply-requires-clause-number c facts invoke =
    subst (λ (p : Part). lacks_number_in (replied c.args.number (came c.args.self.now)) facts c.args.client.now.row invoke (domains_in (Some p)) ≡ false) c.in-Domains.is (c.requires.may.2 facts invoke)

pub returns-clause-served : goal.returns-clause-served
returns-clause-served c t ordered stood beside told =
    reply_served t c.args.client.now.row c.args.number (came c.args.self.now) c.in-Domains.rows c.reply.new.tables c.reply.new.own c.in_ok-reply-in-Domains.ensures.served
    (λ facts invoke.
    subst (λ (p : Part). lacks_number_in (replied c.args.number (came c.args.self.now)) facts c.args.client.now.row invoke (domains_in (Some p)) ≡ false) c.in-Domains.is
    (c.requires.may.2 facts invoke))
    (stood ∙ ap (λ (p : Part). domains_in (Some p)) c.in-Domains.is)

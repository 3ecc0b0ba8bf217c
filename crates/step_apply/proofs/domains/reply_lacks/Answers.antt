use Rattle.std.proofs.Common.{ap, sym, ◌∙◌, Option}
use Rattle.part_table.specs.Held.{held_at}
use Rattle.cell_client.specs.Areas.{lacks_number_in}
use Rattle.cell_client.specs.Meant.{came}
use Rattle.serve_domains.specs.Domains.{replied}
use Rattle.step_parts.specs.declared.part.Part.{Part}
use Rattle.step_parts.specs.Partition.{domains_in, row_in}
use Rattle.step_apply.proofs.domains.reply_lacks.Goals as goal

pub returns : goal.returns
returns c facts invoke =
    c.reply_lacks_number.ensures facts invoke (domains_in (held_at c.args.held.now 2))
    ∙ ap (λ (o : Option Part). lacks_number_in (replied c.args.number (came c.args.answer)) facts (row_in o) invoke (domains_in (held_at c.args.held.now 2))) (sym c.client_held.ensures)

use Rattle.std.proofs.Common.{sym, ◌∙◌}
use Rattle.part_table.specs.Held.{held_at}
use Rattle.parted_state.specs.Lifted.{tables_shown}
use Rattle.cell_client.specs.Association.{Replies}
use Rattle.cell_client.specs.declared.acts.Act.TheVariants as act
use Rattle.cell_client.specs.Facts.{no_facts}
use Rattle.cell_client.specs.Meant.{came}
use Rattle.step_parts.specs.Partition.{cell, domains_in}
use Rattle.step_parts.specs.Found.{row_held}
use Rattle.step_parts.proofs.Shown.{shown_domains}
use Rattle.step_parts.proofs.Scoping.{aborts}
use Rattle.step_apply.proofs.Ready.{task_put}
use Rattle.step_apply.proofs.domains.reply_on_domains.Goals as goal

pub returns-then-reply_lacks-clause-put : goal.returns-then-reply_lacks-clause-put
returns-then-reply_lacks-clause-put c =
    task_put c.args.who.client c.args.held.now c.serve.new.held c.serve.result (Replies c.args.number (came c.args.answer)) act.Abort
    (aborts (tables_shown cell c.args.held.now) (row_held c.args.held.now c.args.who.client) c.args.who.client c.args.number (came c.args.answer) (domains_in (held_at c.args.held.now 2))
    (shown_domains c.args.held.now) (sym c.if-reply_lacks.true ∙ c.reply_lacks.ensures no_facts c.args.number))
    c.serve.ensures.put

pub serve_on-requires-clause-may : goal.serve_on-requires-clause-may
serve_on-requires-clause-may c = (c.requires.open, c.requires.load, λ facts invoke. sym (c.reply_lacks.ensures facts invoke) ∙ c.if-reply_lacks.false)

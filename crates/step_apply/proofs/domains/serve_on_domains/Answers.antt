use Rattle.std.proofs.Common.{ap, refl, sym, ◌∙◌}
use Rattle.mms_types.specs.Areas.{domain_request}
use Rattle.part_table.specs.Held.{held_at}
use Rattle.parted_state.specs.Cut.{is_in}
use Rattle.parted_state.specs.Lifted.{tables_shown}
use Rattle.cell_client.specs.Association.{Takes}
use Rattle.cell_client.specs.declared.acts.Act.TheVariants as act
use Rattle.cell_client.specs.Facts.{no_facts}
use Rattle.cell_services.specs.Services.{InArea, asks_of}
use Rattle.cell_services.proofs.AreaTableLaws.{in_domains}
use Rattle.step_parts.specs.AfterLaws.{is_domains}
use Rattle.step_parts.specs.Partition.{cell, domains_in}
use Rattle.step_parts.specs.Found.{row_held}
use Rattle.step_parts.proofs.Shown.{shown_domains}
use Rattle.step_parts.proofs.Scoping.{exhausts}
use Rattle.step_apply.proofs.Ready.{table_there, task_put}
use Rattle.step_apply.proofs.domains.serve_on_domains.Goals as goal

pub lacks-requires-clause-table : goal.lacks-requires-clause-table
lacks-requires-clause-table c =
    table_there c.requires.serving is_domains (λ t. refl) (Takes c.args.invoke (domain_request c.args.asked))
    (ap (λ (a : InArea). is_in (asks_of a) 2) (in_domains c.args.asked)) c.requires.ready

pub returns-then-branch-clause-put : goal.returns-then-branch-clause-put
returns-then-branch-clause-put c =
    task_put c.args.who.client c.args.held.now c.serve.new.held c.serve.result (Takes c.args.invoke (domain_request c.args.asked)) (act.Exhausts c.args.invoke)
    (exhausts (tables_shown cell c.args.held.now) (row_held c.args.held.now c.args.who.client) c.args.who.client c.args.invoke c.args.asked (domains_in (held_at c.args.held.now 2))
    (shown_domains c.args.held.now) (sym c.if-branch.true ∙ c.in_ok-lacks.ensures no_facts))
    c.serve.ensures.put

pub serve_on-requires-clause-may : goal.serve_on-requires-clause-may
serve_on-requires-clause-may c = (c.requires.open, λ facts. sym (c.in_ok-lacks.ensures facts) ∙ c.if-branch.false)

use Rattle.std.proofs.Common.{◌∙◌, List, Option, ap, sym, ℕ}
use Rattle.parted_state.specs.Lifted.{tables_shown}
use Rattle.part_table.specs.Held.{held_at}
use Rattle.serve_events.specs.Turns.{domain_asked}
use Rattle.cell_services.specs.Facts.{is_domain_live}
use Rattle.cell_services.specs.Tables.{Tables}
use Rattle.step_parts.specs.Partition.{cell, domains_in}
use Rattle.step_apply.proofs.EventFacts.{live_told}
use Rattle.step_parts.proofs.Shown.{shown_now, shown_own}
use Rattle.step_apply.proofs.events.EventRequestOnParts.facts.Goals as goal

pub returns-clause-told : goal.returns-clause-told
returns-clause-told c = record {
  now = shown_now c.args.held.now ∙ sym c.now_held.ensures.moment;
  live = λ row.
      live_told c.args.self.now (tables_shown cell c.args.held.now) row
      ∙ ap (λ (t : Tables). is_domain_live (domain_asked c.args.self.now) t.domains) (sym (shown_own c.args.held.now))
      ∙ ap (λ (o : Option (List ℕ)). is_domain_live o (domains_in (held_at c.args.held.now 2))) (sym c.domain_asked.ensures)
      ∙ sym c.live_held.ensures;
  watched = c.cell_held.ensures;
  truth = c.truth_held.ensures;
}

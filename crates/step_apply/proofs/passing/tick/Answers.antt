use Rattle.std.proofs.Common.{◌≡◌, ◌+◌, ◌∙◌, List, OnOk, Option, ap, subst}
use Rattle.part_table.specs.Held.{held_at}
use Rattle.parted_state.specs.Lifted.{put_in_place, tables_shown}
use Rattle.cell_services.specs.Serving.{passes}
use Rattle.step_parts.specs.declared.part.Part.{Part}
use Rattle.step_parts.specs.declared.part.Part.TheVariants.{Clock}
use Rattle.step_apply.specs.Lifting.{placed_at}
use Rattle.step_parts.specs.Partition.{cell, clock_in}
use Rattle.step_apply.proofs.QuietTime.{passed_in_place}
use Rattle.step_apply.proofs.passing.tick.Goals as goal

pub returns-then-is_quiet-clause-put : goal.returns-then-is_quiet-clause-put
returns-then-is_quiet-clause-put c =
    c.advance.ensures
    ∙ ap (λ (hand : List (Option Part)). placed_at (Clock (clock_in (held_at hand 0) + c.args.ms)) hand 0) c.is_quiet.ensures.same
    ∙ passed_in_place c.requires.of.0 c.args.held.now c.requires.of.1 c.args.clients c.args.ms c.requires.many (c.is_quiet.ensures.due c.if-is_quiet.true)

pub returns-clause-put : goal.returns-clause-put
returns-clause-put c =
    subst (λ (hand : List (Option Part)). OnOk c.serve.result (c.serve.new.held ≡ put_in_place cell (passes c.args.ms (tables_shown cell hand)) hand)) c.is_quiet.ensures.same c.serve.ensures.put

use Rattle.std.proofs.Common.{ℕ, Option, Some, ap, ◌∙◌}
use Rattle.part_table.specs.Held.{held_at}
use Rattle.program_inv.specs.Programs.{after_ends}
use Rattle.step_parts.specs.Partition.{programs_in}
use Rattle.step_parts.specs.declared.part.Part.{Part}
use Rattle.step_parts.specs.declared.part.Part.TheVariants.{Programs}
use Rattle.step_apply.proofs.Changed.{part_placed}
use Rattle.step_apply.proofs.programs.end_program.Goals as goal

pub returns : goal.returns
returns c =
    part_placed (Programs (after_ends c.args.name.now (programs_in (held_at c.args.held.now 3)))) c.args.held.now c.take-table.new.held c.put.new.held c.from-place.result 3
    c.take-table.result.value c.end_in_part.new.table c.from-place.ensures c.take-table.ensures.part c.take-table.ensures.left
    (c.end_in_part.ensures
    ∙ ap (λ (p : Part). Programs (after_ends c.args.name.now (programs_in (Some p)))) c.deref_mut.ensures.value
    ∙ ap (λ (o : Option Part). Programs (after_ends c.args.name.now (programs_in o))) c.take-table.ensures.part
    ∙ ap (λ (m : ℕ). Programs (after_ends c.args.name.now (programs_in (held_at c.args.held.now m)))) c.from-place.ensures)
    c.put.ensures

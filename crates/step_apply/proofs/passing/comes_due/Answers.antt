use Rattle.std.proofs.Common.{◌∙◌, ℕ, Option, Some, ap, is_some, set}
use Rattle.mms_time.specs.Deadlines.{next_due}
use Rattle.part_table.specs.Held.{held_at}
use Rattle.step_parts.specs.declared.part.Part.{Part}
use Rattle.step_parts.specs.Partition.{semaphores_in}
use Rattle.step_parts.proofs.Changed.{as_it_was}
use Rattle.step_apply.proofs.passing.comes_due.Goals as goal

pub returns-clause-due : goal.returns-clause-due
returns-clause-due c =
    c.due_in_part-due.ensures.due
    ∙ ap (λ (p : Part). is_some (next_due c.args.until (semaphores_in (Some p)))) c.deref_mut.ensures.value
    ∙ ap (λ (o : Option Part). is_some (next_due c.args.until (semaphores_in o))) c.take-table.ensures.part
    ∙ ap (λ (place : ℕ). is_some (next_due c.args.until (semaphores_in (held_at c.args.held.now place)))) (c.from-place.ensures ∙ c.semaphores.ensures)

pub returns-clause-same : goal.returns-clause-same
returns-clause-same c =
    as_it_was c.args.held.now c.take-table.new.held c.put.new.held c.from-place.result c.take-table.result.value
    c.take-table.ensures.part c.take-table.ensures.left
    (c.put.ensures
    ∙ ap (λ (p : Part). set c.take-table.new.held c.from-place.result (Some p)) (c.due_in_part-due.ensures.same ∙ c.deref_mut.ensures.value))

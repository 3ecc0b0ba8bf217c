use Rattle.std.proofs.Common.{◌≤◌, length, not, subst, sym}
use Rattle.object_names.proofs.Fewer.{still_few}
use Rattle.object_names.specs.Deletion.{goes}
use Rattle.object_names.specs.Selected.{selected}
use Rattle.event_cond.specs.Conditions.{Rows}
use Rattle.event_cond.specs.Deletion.{is_fixed}
use Rattle.event_cond.proofs.conditions.Conditions.delete.Goals as goal

pub invariant_of-self : goal.invariant_of-self
invariant_of-self c =
    subst (λ (rows : Rows). length rows ≤ 256)
    (sym c.delete.ensures)
    (still_few (λ row. not (goes is_fixed (selected c.in_ok-selection.selection) row)) c.self.inside.rows 256 c.self.invariant)

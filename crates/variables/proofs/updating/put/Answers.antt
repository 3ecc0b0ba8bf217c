use Rattle.std.proofs.Common.{ap, sym, subst, ◌∙◌}
use Rattle.variables.specs.Bounds.{AreSmall, has_guard}
use Rattle.variables.specs.NewValues.{with_data}
use Rattle.variables.proofs.Cells.{small_changed}
use Rattle.variables.proofs.Guarded.{guards_kept}
use Rattle.variables.proofs.updating.put.Goals as goal

pub returns-then-is_in_place-clause-small : goal.returns-then-is_in_place-clause-small
returns-then-is_in_place-clause-small c small =
    subst AreSmall (sym c.put_in_place.ensures) (small_changed c.args.number (with_data c.args.value) c.args.cells.now.entries small)

pub returns-then-is_in_place-clause-guards : goal.returns-then-is_in_place-clause-guards
returns-then-is_in_place-clause-guards c = ap has_guard c.put_in_place.ensures ∙ guards_kept c.args.number c.args.value c.args.cells.now.entries

pub returns-else-is_in_place-clause-small : goal.returns-else-is_in_place-clause-small
returns-else-is_in_place-clause-small c small =
    subst AreSmall (sym c.put_by_number.ensures) (small_changed c.args.number (with_data c.args.value) c.args.cells.now.entries small)

pub returns-else-is_in_place-clause-guards : goal.returns-else-is_in_place-clause-guards
returns-else-is_in_place-clause-guards c = ap has_guard c.put_by_number.ensures ∙ guards_kept c.args.number c.args.value c.args.cells.now.entries

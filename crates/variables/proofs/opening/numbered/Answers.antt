use Rattle.std.proofs.Common.{ℕ, ◌++◌, ◌∷◌, [], List, map, nat_eq, ap, sym, subst, append_assoc, ◌∙◌}
use Rattle.std.specs.Cmp.{nat_eq_equiv}
use Rattle.mms_types.specs.declared.cells.CellRow.{CellRow}
use Rattle.variables.specs.declared.rows.StoredCell.{StoredCell}
use Rattle.variables.specs.Bounds.{AreSmall}
use Rattle.variables.specs.Start.{cell_row}
use Rattle.variables.proofs.Apart.{numbers_apart, not_there, small_more}
use Rattle.variables.proofs.opening.numbered.Goals as goal

pub add-requires : goal.add-requires
add-requires c =
    let before = c.loop-row.cells.entries in
    let left = ap (λ (rows : List CellRow). before ++ map cell_row rows) (sym c.in-Some.ensures.steps.0) ∙ c.loop-row.invariant.0 in
    not_there nat_eq nat_eq_equiv.symm before (map cell_row c.next.new.self.rest.items) (map cell_row c.args.rows.items) (cell_row c.in-Some.row) left
    (numbers_apart c.args.rows.items c.requires)

pub loop-row-preserved : goal.loop-row-preserved
loop-row-preserved c =
    let before = c.loop-row.cells.entries in
    let row = cell_row c.in-Some.row in
    let rest = map cell_row c.next.new.self.rest.items in
    let left = ap (λ (rows : List CellRow). before ++ map cell_row rows) (sym c.in-Some.ensures.steps.0) ∙ c.loop-row.invariant.0 in
    let entries = c.in_ok-add.ensures.cells in (
      ap (λ (cells : List (ℕ × StoredCell)). cells ++ rest) entries ∙ append_assoc before (row ∷ []) rest ∙ left,
      subst AreSmall (sym entries) (small_more before row c.loop-row.invariant.1 c.add.ensures.small),
    )

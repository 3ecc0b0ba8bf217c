use Rattle.std.proofs.Common.{◌≡◌, ℕ, ◌≤◌, is_some, length, map, ap, sym, subst, ◌∙◌}
use Rattle.std.proofs.lemmas.List.{length-map}
use Rattle.std.specs.List.{list_any}
use Rattle.mms_types.specs.declared.cells.CellRow.{CellRow}
use Rattle.variables.specs.Bounds.{has_guard}
use Rattle.variables.specs.Start.{cell_row, variable_row}
use Rattle.variables.proofs.Guarded.{guard_of_rows}
use Rattle.variables.proofs.vars.Vars.new.Goals as goal

pub invariant_of-result : goal.invariant_of-result
invariant_of-result c =
    let cells = c.in_ok-numbered.ensures.cells ∙ ap (map cell_row) c.into_vec.ensures in
    let guards = c.has_guard-guarded.ensures ∙ ap (list_any (λ (row : CellRow). is_some row.guard)) c.as_slice.ensures ∙ guard_of_rows c.args.cells in
    let variables = c.in_ok-named.ensures ∙ ap (map variable_row) c.into_vec-2.ensures in
    let few : length c.in_ok-named.field-0 ≡ length c.args.variables = ap length variables ∙ length-map c.args.variables variable_row in
    (c.in_ok-numbered.ensures.small, subst (λ (n : ℕ). n ≤ 4096) (sym few) c.requires.few, guards ∙ ap has_guard (sym cells))

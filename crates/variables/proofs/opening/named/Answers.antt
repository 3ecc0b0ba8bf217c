use Rattle.std.proofs.Common.{◌++◌, List, map, ap, sym, ◌∙◌}
use Rattle.mms_types.specs.declared.cells.NamedCell.{NamedCell}
use Rattle.mms_types.specs.Order.{key_eq}
use Rattle.mms_types.specs.KeyLaws.{keys_equal}
use Rattle.variables.specs.Start.{variable_row}
use Rattle.variables.proofs.Apart.{names_apart, not_there}
use Rattle.variables.proofs.opening.named.Goals as goal

pub insert-requires : goal.insert-requires
insert-requires c =
    let before = c.loop-row.variables in
    let left = ap (λ (rows : List NamedCell). before ++ map variable_row rows) (sym c.in-Some.ensures.steps.0) ∙ c.loop-row.invariant in
    not_there key_eq keys_equal.symm before (map variable_row c.next.new.self.rest.items) (map variable_row c.args.rows.items) (variable_row c.in-Some.row) left
    (names_apart c.args.rows.items c.requires)

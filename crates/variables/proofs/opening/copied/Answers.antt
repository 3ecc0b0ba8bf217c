use Rattle.std.proofs.Common.{◌≡◌, ℕ, nat_eq, List, ◌++◌, ◌∷◌, ap, sym, ◌∙◌}
use Rattle.std.specs.Cmp.{nat_eq_equiv}
use Rattle.variables.specs.declared.rows.StoredCell.{StoredCell}
use Rattle.variables.proofs.Apart.{not_there}
use Rattle.variables.proofs.opening.copied.Goals as goal

pub add-requires : goal.add-requires
add-requires c =
    let before = c.loop-number.copies.entries in
    let left : before ++ (c.in-Some.number.now, c.in-Some.cell.now) ∷ c.next.new.self ≡ c.args.cells.now.entries =
    ap (λ (cells : List (ℕ × StoredCell)). before ++ cells) (sym c.in-Some.ensures.steps) ∙ c.loop-number.invariant in
    not_there nat_eq nat_eq_equiv.symm before c.next.new.self c.args.cells.now.entries (c.in-Some.number.now, c.in-Some.cell.now) left c.len-distinct.ensures.unique

use Rattle.std.proofs.Common.{◌≡◌, nat_eq, Some, sym, ◌∙◌}
use Rattle.std.specs.Map.{lookup}
use Rattle.variables.specs.NewValues.{with_data}
use Rattle.variables.proofs.Cells.{changed, changed_there}
use Rattle.variables.proofs.updating.put_by_number.Goals as goal

pub returns-in-Some : goal.returns-in-Some
returns-in-Some c =
    let cells = c.args.cells.now.entries in
    let through = c.get_mut.follows.holds (with_data c.args.value c.in-Some.cell.now) in
    let found : lookup (nat_eq c.args.number) cells ≡ Some c.in-Some.cell.now = sym c.in-Some.ensures.value in
    through.0 ∙ changed c.args.number (with_data c.args.value) cells c.in-Some.cell.now c.get_mut.ensures.unique found

pub returns-in_default : goal.returns-in_default
returns-in_default c =
    let missing = changed_there c.args.number (with_data c.args.value) c.args.cells.now.entries (sym c.in_default.ensures.value) in
    rw c.get_mut.follows.holds-at-none (sym missing)

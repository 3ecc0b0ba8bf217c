use Rattle.std.proofs.Common.{◌≡◌, ℕ, Some, sym, subst, slice_get}
use Rattle.std.specs.Option.{option_map}
use Rattle.variables.specs.NewValues.{with_data}
use Rattle.variables.specs.declared.rows.StoredCell.{StoredCell}
use Rattle.variables.proofs.InPlace.{in_place, not_there, row_there}
use Rattle.variables.proofs.updating.put_in_place.Goals as goal

pub returns-in-Some : goal.returns-in-Some
returns-in-Some c =
    in_place c.from.result c.args.number (with_data c.args.value) c.args.cells.now.entries c.in-Some.cell.now c.get_index_mut.ensures.unique
    (row_there c.from.result c.args.number c.args.cells.now.entries c.in-Some.cell.now
    (subst (λ (p : ℕ). option_map (λ (row : ℕ × StoredCell). row.0) (slice_get c.args.cells.now.entries p) ≡ Some c.args.number) (sym c.from.ensures) c.requires.place)
    (sym c.in-Some.ensures.value))

pub returns-in_default : goal.returns-in_default
returns-in_default c =
    absurd (not_there c.from.result c.args.number c.args.cells.now.entries
    (subst (λ (p : ℕ). option_map (λ (row : ℕ × StoredCell). row.0) (slice_get c.args.cells.now.entries p) ≡ Some c.args.number) (sym c.from.ensures) c.requires.place)
    (sym c.in_default.ensures.value))

use Rattle.std.proofs.Common.{◌≡◌, ◌<◌, ℕ, List, length, Some, slice_get, ap, ap₂, sym, ◌∙◌, subst, arith}
use Rattle.mms_types.specs.declared.event.CellEvent.{CellEvent}
use Rattle.cell_record.proofs.Placing.{zip_length, zip_at}
use Rattle.cell_record.proofs.told.PlacedEvents.at.Goals as goal

pub index-requires : goal.index-requires
index-requires c =
    let many = zip_length c.self.inside.places.items c.self.inside.events.items c.self.invariant in
    let seen = ap (λ (l : List (ℕ × CellEvent)). length l) c.self.view_is in
    let same : length c.self.inside.places.items ≡ length c.self.inside.events.items = c.self.invariant in
    omega (arith, many, seen, same, c.requires, c.self.inside.places.ok)

pub index-requires-2 : goal.index-requires-2
index-requires-2 c =
    let many = zip_length c.self.inside.places.items c.self.inside.events.items c.self.invariant in
    let seen = ap (λ (l : List (ℕ × CellEvent)). length l) c.self.view_is in
    omega (arith, many, seen, c.requires, c.self.inside.events.ok)

pub returns : goal.returns
returns c =
    let within = subst (λ (l : List (ℕ × CellEvent)). c.args.index < length l) (sym c.self.view_is) c.requires in
    ap (λ (l : List (ℕ × CellEvent)). slice_get l c.args.index) (sym c.self.view_is)
    ∙ zip_at c.self.inside.places.items c.self.inside.events.items c.args.index c.index.result.now c.index-2.result.now c.self.invariant within
    ∙ ap₂ (λ (p : ℕ) (e : CellEvent). Some (p, e)) (sym c.index.ensures) (sym c.index-2.ensures)

-- The part of a client is taken out of its place, changed and put back.
use Rattle.std.proofs.Common.{◌≡◌, ℕ, List, set, Option, Some, None, ap, sym, ◌∙◌}
use Rattle.std.specs.Option.{option_map}
use Rattle.association.specs.Client.{Client as RoomyRow}
use Rattle.part_table.specs.Held.{held_at}
use Rattle.parted_state.specs.Served.{change}
use Rattle.step_parts.proofs.Changed.{as_it_was, part_changed}
use Rattle.step_parts.specs.declared.part.Part.{Part}
use Rattle.step_parts.specs.declared.part.Part.TheVariants.{Client}
use Rattle.step_apply.specs.Lifting.{placed_at}

-- a client's part that is put back as it was
pub client_kept : (hand taken new : List (Option Part)) (place : ℕ) (part value : Part) (client after : RoomyRow)
    → Some part ≡ held_at hand place → taken ≡ set hand place None → value ≡ part → value ≡ Client client → after ≡ client
    → new ≡ set taken place (Some (Client after)) → new ≡ hand
client_kept hand taken new place part value client after held out same is kept back =
    as_it_was hand taken new place (Client after) (ap Some (ap Client kept ∙ sym is ∙ same) ∙ held) out back

-- a part that is taken out of its place becomes another
pub part_placed : (it : Part) (hand taken new : List (Option Part)) (at place : ℕ) (part now : Part) → at ≡ place
    → Some part ≡ held_at hand at → taken ≡ set hand at None → now ≡ it → new ≡ set taken at (Some now) → new ≡ placed_at it hand place
part_placed it hand taken new at place part now same held out is back =
    part_changed (λ h. it) hand taken new at part now held out is back ∙ ap (placed_at it hand) same

-- a part that is changed, of which that is a client's
pub client_arm : (f : Part → Part) (hand taken new : List (Option Part)) (place : ℕ) (part value : Part) (client after : RoomyRow)
    → Some part ≡ held_at hand place → taken ≡ set hand place None → value ≡ part → value ≡ Client client → Client after ≡ f (Client client)
    → new ≡ set taken place (Some (Client after)) → new ≡ change (option_map f) hand place
client_arm f hand taken new place part value client after held out same is done back =
    part_changed f hand taken new place part (Client after) held out (done ∙ ap f (sym is ∙ same)) back

-- and of which it is none
pub other_arm : (f : Part → Part) (hand taken new : List (Option Part)) (place : ℕ) (part value : Part)
    → Some part ≡ held_at hand place → taken ≡ set hand place None → value ≡ part → f value ≡ value
    → new ≡ set taken place (Some value) → new ≡ change (option_map f) hand place
other_arm f hand taken new place part value held out same kept back =
    part_changed f hand taken new place part value held out (sym kept ∙ ap f same) back

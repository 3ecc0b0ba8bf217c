-- A part is taken out of its place, changed and put back.
use Rattle.std.proofs.Common.{◌≡◌, ℕ, zero, suc, ◌<◌, List, [], ◌∷◌, set, length, Option, Some, None, refl, ap, sym, ◌∙◌, arith, length-set}
use Rattle.std.specs.Option.{option_map}
use Rattle.part_table.specs.Held.{held_at}
use Rattle.part_table.specs.HeldLaws.{held_within}
use Rattle.parted_state.specs.Served.{change}
use Rattle.step_parts.specs.declared.part.Part.{Part}

pub changed_part : {P : Type 0} (f : P → P) (hand : List (Option P)) (i : ℕ) (x : P) → held_at hand i ≡ Some x
    → set (set hand i None) i (Some (f x)) ≡ change (option_map f) hand i
changed_part f [] i x held = refl
changed_part {P} f (h ∷ hand) zero x held = ap (λ (o : Option P). option_map f o ∷ hand) (sym held)
changed_part {P} f (h ∷ hand) (suc i) x held = ap (λ (l : List (Option P)). h ∷ l) (changed_part f hand i x held)

pub as_it_was : {P : Type 0} (hand taken new : List (Option P)) (i : ℕ) (x : P) → Some x ≡ held_at hand i → taken ≡ set hand i None → new ≡ set taken i (Some x) → new ≡ hand
as_it_was {P} hand taken new i x held out back = back ∙ ap (λ (l : List (Option P)). set l i (Some x)) out ∙ put_back hand i (sym held)
  where
    put_back : (hand : List (Option P)) (i : ℕ) → held_at hand i ≡ Some x → set (set hand i None) i (Some x) ≡ hand
    put_back [] i held = refl
    put_back (h ∷ hand) zero held = ap (λ (o : Option P). o ∷ hand) (sym held)
    put_back (h ∷ hand) (suc i) held = ap (λ (l : List (Option P)). h ∷ l) (put_back hand i held)

-- a part that is taken out, changed and put back
pub part_changed : (f : Part → Part) (hand taken new : List (Option Part)) (place : ℕ) (part now : Part)
    → Some part ≡ held_at hand place → taken ≡ set hand place None → now ≡ f part → new ≡ set taken place (Some now) → new ≡ change (option_map f) hand place
part_changed f hand taken new place part now held out is back =
    back
    ∙ ap (λ (l : List (Option Part)). set l place (Some now)) out
    ∙ ap (λ (p : Part). set (set hand place None) place (Some p)) is
    ∙ changed_part f hand place part (sym held)

-- nothing is taken out where nothing is held
pub free_changed : (f : Part → Part) (hand taken : List (Option Part)) (place : ℕ) → None ≡ held_at hand place → taken ≡ set hand place None
    → taken ≡ change (option_map f) hand place
free_changed f hand taken place free out = out ∙ stays hand place (sym free)
  where
    stays : (hand : List (Option Part)) (i : ℕ) → held_at hand i ≡ None → set hand i None ≡ change (option_map f) hand i
    stays [] i free = refl
    stays (h ∷ hand) zero free = ap (λ (o : Option Part). o ∷ hand) (sym (ap (option_map f) free))
    stays (h ∷ hand) (suc i) free = ap (λ (l : List (Option Part)). h ∷ l) (stays hand i free)

pub place_left : (hand taken : List (Option Part)) (place : ℕ) (part : Part) → Some part ≡ held_at hand place → taken ≡ set hand place None → place < length taken
place_left hand taken place part held out =
    let within = held_within hand place part (sym held) in
    let same : length taken ≡ length hand = ap (λ (l : List (Option Part)). length l) out ∙ length-set hand place None in
    omega (arith, within, same)

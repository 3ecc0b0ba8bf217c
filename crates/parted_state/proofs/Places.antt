-- The example: a part is taken out of its place, changed and put back.
use Rattle.std.proofs.Common.{◌≡◌, ◌∙◌, ℕ, zero, suc, List, [], ◌∷◌, set, slice_set, Option, Some, None, refl, ap, sym}
use Rattle.std.specs.Option.{option_map}
use Rattle.part_table.specs.Held.{held_at}
use Rattle.parted_state.specs.declared.example.ShopPart.{ShopPart}
use Rattle.parted_state.specs.declared.example.ShopPart.TheVariants as part
use Rattle.parted_state.specs.Rows.{Roomy}
use Rattle.parted_state.specs.Served.{change}
use Rattle.parted_state.specs.Shop.{on_row}

pub written : {P : Type 0} (hand : List (Option P)) (i : ℕ) (x y : P) → held_at hand i ≡ Some x → slice_set hand i (Some y) ≡ change (option_map (λ there. y)) hand i
written [] i x y held = refl
written {P} (h ∷ hand) zero x y held = ap (λ (o : Option P). option_map (λ there. y) o ∷ hand) (sym held)
written {P} (h ∷ hand) (suc i) x y held = ap (λ (l : List (Option P)). h ∷ l) (written hand i x y held)

pub free_stays : {P : Type 0} (f : P → P) (hand : List (Option P)) (i : ℕ) → held_at hand i ≡ None → hand ≡ change (option_map f) hand i
free_stays f [] i free = refl
free_stays {P} f (h ∷ hand) zero free = ap (λ (o : Option P). o ∷ hand) (free ∙ sym (ap (option_map f) free))
free_stays {P} f (h ∷ hand) (suc i) free = ap (λ (l : List (Option P)). h ∷ l) (free_stays f hand i free)

changed_part : {P : Type 0} (f : P → P) (hand : List (Option P)) (i : ℕ) (x : P) → held_at hand i ≡ Some x
    → set (set hand i None) i (Some (f x)) ≡ change (option_map f) hand i
changed_part f [] i x held = refl
changed_part {P} f (h ∷ hand) zero x held = ap (λ (o : Option P). option_map f o ∷ hand) (sym held)
changed_part {P} f (h ∷ hand) (suc i) x held = ap (λ (l : List (Option P)). h ∷ l) (changed_part f hand i x held)

put_back : {P : Type 0} (hand : List (Option P)) (i : ℕ) (x : P) → held_at hand i ≡ Some x → set (set hand i None) i (Some x) ≡ hand
put_back [] i x held = refl
put_back {P} (h ∷ hand) zero x held = ap (λ (o : Option P). o ∷ hand) (sym held)
put_back {P} (h ∷ hand) (suc i) x held = ap (λ (l : List (Option P)). h ∷ l) (put_back hand i x held)

-- the part of a client that is taken out, changed and put back
pub row_changed : (f : Roomy → Roomy) (hand taken new : List (Option ShopPart)) (place : ℕ) (there value : ShopPart) (row after : Roomy)
    → Some there ≡ held_at hand place → taken ≡ set hand place None → value ≡ there → value ≡ part.Client row → after ≡ f row
    → new ≡ set taken place (Some (part.Client after)) → new ≡ change (option_map (on_row f)) hand place
row_changed f hand taken new place there value row after held out same is done back =
    back
    ∙ ap (λ (l : List (Option ShopPart)). set l place (Some (part.Client after))) out
    ∙ ap (λ (r : Roomy). set (set hand place None) place (Some (part.Client r))) done
    ∙ changed_part (on_row f) hand place (part.Client row) (sym held ∙ ap Some (sym same ∙ is))

-- and one that is put back as it was
pub row_kept : (hand taken new : List (Option ShopPart)) (place : ℕ) (there value : ShopPart) (row after : Roomy)
    → Some there ≡ held_at hand place → taken ≡ set hand place None → value ≡ there → value ≡ part.Client row → after ≡ row
    → new ≡ set taken place (Some (part.Client after)) → new ≡ hand
row_kept hand taken new place there value row after held out same is kept back =
    back
    ∙ ap (λ (l : List (Option ShopPart)). set l place (Some (part.Client after))) out
    ∙ ap (λ (r : Roomy). set (set hand place None) place (Some (part.Client r))) kept
    ∙ put_back hand place (part.Client row) (sym held ∙ ap Some (sym same ∙ is))

-- one place is changed twice, or in two ways that make the same of what is held there
pub changed_twice : {A : Type 0} (f g : A → A) (xs : List A) (i : ℕ) → change f (change g xs i) i ≡ change (λ x. f (g x)) xs i
changed_twice f g [] i = refl
changed_twice f g (x ∷ xs) zero = refl
changed_twice {A} f g (x ∷ xs) (suc i) = ap (λ (l : List A). x ∷ l) (changed_twice f g xs i)

pub changed_as : {P : Type 0} (f g : Option P → Option P) (hand : List (Option P)) (i : ℕ) → f (held_at hand i) ≡ g (held_at hand i) → change f hand i ≡ change g hand i
changed_as f g [] i same = refl
changed_as {P} f g (h ∷ hand) zero same = ap (λ (o : Option P). o ∷ hand) same
changed_as {P} f g (h ∷ hand) (suc i) same = ap (λ (l : List (Option P)). h ∷ l) (changed_as f g hand i same)

pub as_before : {P : Type 0} (f : Option P → Option P) (hand : List (Option P)) (i : ℕ) → f (held_at hand i) ≡ held_at hand i → change f hand i ≡ hand
as_before f [] i same = refl
as_before {P} f (h ∷ hand) zero same = ap (λ (o : Option P). o ∷ hand) same
as_before {P} f (h ∷ hand) (suc i) same = ap (λ (l : List (Option P)). h ∷ l) (as_before f hand i same)

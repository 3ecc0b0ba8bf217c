-- A value tells what it was made of, and what was made of something in range fits: the parts of a form's own law.
use Rattle.std.proofs.Common.{◌≡◌, ℕ, ◌≤◌, ℤ, pos, List, [], ◌∷◌, map, length, Option, Some, None, refl, ap, ◌∙◌, arith}
use Rattle.std.specs.Prelude.{IsTrue, IfSome}
use Rattle.std.specs.List.{All}
use Rattle.std.proofs.lemmas.Int.{ints}
use Rattle.std.proofs.lemmas.List.{length-map}
use Rattle.std.proofs.lemmas.List.Elements.{All-head, All-tail}
use Rattle.ber_forms.specs.Value.{Value, Slot, Slots, number, chosen, parts, given, slot, optionally, all_of}
use Rattle.ber_forms.specs.Form.{Member, integer, list_of}
use Rattle.ber_forms.specs.Fits.{Fits, FitsMember, IfGiven, Every}

-- ---- what a value tells

pub number_told : (n m : ℤ) → number n ≡ number m → n ≡ m
number_told n m e = cc

pub natural_told : (n m : ℕ) → number (pos n) ≡ number (pos m) → n ≡ m
natural_told n m e = cc

pub parts_told : (vs ws : Slots) → parts vs ≡ parts ws → vs ≡ ws
parts_told vs ws e = cc

pub given_told : (v w : Value) → given v ≡ given w → v ≡ w
given_told v w e = cc

pub chosen_told : (n : ℕ) (v w : Value) → chosen n v ≡ chosen n w → v ≡ w
chosen_told n v w e = cc

pub first_told : (s t : Slot) (vs ws : Slots) → slot s vs ≡ slot t ws → s ≡ t
first_told s t vs ws e = cc

pub rest_told : (s t : Slot) (vs ws : Slots) → slot s vs ≡ slot t ws → vs ≡ ws
rest_told s t vs ws e = cc

-- a component that may be missing tells whether it is there, and what it is
pub optionally_told : {X : Type 0} (view : X → Value) → ((x y : X) → view x ≡ view y → x ≡ y) → (a b : Option X) → optionally view a ≡ optionally view b → a ≡ b
optionally_told view told None None e = refl
optionally_told view told None (Some y) e = absurd cc
optionally_told view told (Some x) None e = absurd cc
optionally_told {X} view told (Some x) (Some y) e = ap (λ (z : X). Some z) (told x y (given_told (view x) (view y) e))

all_told : (vs ws : List Value) → all_of vs ≡ all_of ws → vs ≡ ws
all_told [] [] e = refl
all_told [] (w ∷ ws) e = absurd cc
all_told (v ∷ vs) [] e = absurd cc
all_told (v ∷ vs) (w ∷ ws) e =
    let first = given_told v w (first_told (given v) (given w) (all_of vs) (all_of ws) e) in
    let rest = all_told vs ws (rest_told (given v) (given w) (all_of vs) (all_of ws) e) in
    ap (λ (u : Value). u ∷ vs) first ∙ ap (λ (us : List Value). w ∷ us) rest

map_told : {X : Type 0} (view : X → Value) → ((x y : X) → view x ≡ view y → x ≡ y) → (xs ys : List X) → map view xs ≡ map view ys → xs ≡ ys
map_told view told [] [] e = refl
map_told view told [] (y ∷ ys) e = absurd cc
map_told view told (x ∷ xs) [] e = absurd cc
map_told {X} view told (x ∷ xs) (y ∷ ys) e =
    let first : view x ≡ view y = cc in
    let rest : map view xs ≡ map view ys = cc in
    ap (λ (z : X). z ∷ xs) (told x y first) ∙ ap (λ (zs : List X). y ∷ zs) (map_told view told xs ys rest)

-- a list tells its members
pub list_told : {X : Type 0} (view : X → Value) → ((x y : X) → view x ≡ view y → x ≡ y) → (xs ys : List X) → parts (all_of (map view xs)) ≡ parts (all_of (map view ys)) → xs ≡ ys
list_told view told xs ys e = map_told view told xs ys (all_told (map view xs) (map view ys) (parts_told (all_of (map view xs)) (all_of (map view ys)) e))

-- ---- what fits

pub natural_fits : (most n : ℕ) → n ≤ most → Fits (integer (pos 0) (pos most)) (number (pos n))
natural_fits most n few = (grind (arith, ints), grind (arith, ints))

-- a component that may be missing fits where it does if it is there
pub optionally_fits : {X : Type 0} (F : Value → Type 0) (view : X → Value) (P : X → Type 0) → ((x : X) → P x → F (view x)) → (o : Option X) → IfSome o P → IfGiven F (optionally view o)
optionally_fits F view P each None h = tt
optionally_fits F view P each (Some x) h = each x h

every_fits : {X : Type 0} (F : Value → Type 0) (view : X → Value) (P : X → Type 0) → ((x : X) → P x → F (view x)) → (xs : List X) → All P xs → Every F (map view xs)
every_fits F view P each [] h = tt
every_fits F view P each (x ∷ xs) h = (each x (All-head P x xs h), every_fits F view P each xs (All-tail P x xs h))

-- a list fits where each member does and there are so many of them
pub list_fits : {X : Type 0} (test : ℕ → _) (m : Member) (view : X → Value) (P : X → Type 0) → ((x : X) → P x → FitsMember m (view x)) → (xs : List X) → All P xs → IsTrue (test (length xs))
    → Fits (list_of test m) (parts (all_of (map view xs)))
list_fits test m view P each xs h count =
    (map view xs, refl, every_fits (FitsMember m) view P each xs h, ap test (length-map xs view) ∙ count)

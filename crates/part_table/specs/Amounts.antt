-- An example: an object whose parts are numbers, of which an event moves an amount from one to another. Where one of the two is odd, the amount goes to the third part, so that
-- which parts an event touches depends on their numbers.
use Rattle.std.specs.Prelude.{◌≡◌, ◌⊎◌, ℕ, ◌+◌, ◌-◌, ◌%◌, ◌^◌, Bool, true, false, not, ◌&&◌, ◌||◌, ◌==◌, nat_le, nat_lt, if◌then◌else◌, Option, Some, List, [], ◌∷◌, ◌++◌, slice_index, slice_set, refl}
use Rattle.std.proofs.Common.{sym, ap, ◌∙◌, inl, inr}
use native.Mathlib.Decide.{ℕ_discrete}
use Rattle.std.proofs.lemmas.Option.{get_or_from_slice_get}
use Rattle.part_table.specs.declared.example.Move.{Move}
use Rattle.part_table.specs.Known.{Known, Opened, HoldsNothing}
use Rattle.part_table.specs.Held.{laid_over, held_at, places_held, IsHandOf}
use Rattle.part_table.specs.HeldLaws.{laid_over-set, held_of_list, places_held-set, held_set_here, held_set_else, held_within}
use Rattle.part_table.specs.Numbers.{number_at, IsHeld}

-- where an amount goes from a part with the number a, that was to go to one with the number b
abbrev pub target : ℕ → ℕ → ℕ → ℕ
target a b to = if (a % 2 == 1) || (b % 2 == 1) then 2 else to

-- an amount goes to another part, from one that has as much to one that has room for it
abbrev pub can_move : ℕ → ℕ → ℕ → ℕ → ℕ → Bool
can_move amount from a to b = not (from == to) && (nat_le amount a && nat_lt (b + amount) (2 ^ 64))

-- the numbers after an amount went from one part to another
abbrev pub transferred : List ℕ → ℕ → ℕ → ℕ → List ℕ
transferred numbers from to amount =
    if can_move amount from (slice_index numbers from) to (slice_index numbers to)
    then slice_set (slice_set numbers from (slice_index numbers from - amount)) to (slice_index numbers to + amount)
    else numbers

-- the numbers after a move
abbrev pub moved : Move → List ℕ → List ℕ
moved move numbers = transferred numbers move.from (target (slice_index numbers move.from) (slice_index numbers move.to) move.to) move.amount

-- the same on the numbers that are held
abbrev pub transferred_in_hand : List (Option ℕ) → ℕ → ℕ → ℕ → List (Option ℕ)
transferred_in_hand hand from to amount =
    if can_move amount from (number_at hand from) to (number_at hand to)
    then slice_set (slice_set hand from (Some (number_at hand from - amount))) to (Some (number_at hand to + amount))
    else hand

abbrev pub target_in_hand : Move → List (Option ℕ) → ℕ
target_in_hand move hand = target (number_at hand move.from) (number_at hand move.to) move.to

abbrev pub moved_in_hand : Move → List (Option ℕ) → List (Option ℕ)
moved_in_hand move hand = transferred_in_hand hand move.from (target_in_hand move hand) move.amount

-- the two parts that a move names are held, and the one to which the amount goes
abbrev pub holds_touched : Move → List (Option ℕ) → Type 0
holds_touched move hand = IsHeld hand move.from × IsHeld hand move.to × IsHeld hand (target_in_hand move hand)

-- a pass that made a move at that place, behind that history, and holds again what it held
abbrev pub with_move : List (ℕ × Move) → Move → ℕ → Known ℕ Move → Known ℕ Move
with_move before move place pass = record pass { seen = before ++ (pass.by, move) ∷ []; own = pass.own ++ place ∷ []; left = pass.left - 1 }

-- a pass that took parts, or lost a claim, and is else as it was
abbrev pub IsTaking : Known ℕ Move → Known ℕ Move → Type 0
IsTaking was is = is ≡ record was { lost = is.lost; taken = is.taken; hand = is.hand; order = is.order }

-- a part that a move touches, where the numbers are these: the two that it names, and the one to which the amount goes
abbrev pub IsTouched : Move → List ℕ → ℕ → Type 0
IsTouched move numbers part =
    (part ≡ move.from) ⊎ ((part ≡ move.to) ⊎ (part ≡ target (slice_index numbers move.from) (slice_index numbers move.to) move.to))

-- the same, as far as the numbers that are held show it
abbrev pub IsShown : Move → List (Option ℕ) → ℕ → Type 0
IsShown move hand part =
    (part ≡ move.from) ⊎ ((part ≡ move.to) ⊎ (IsHeld hand move.from × IsHeld hand move.to × (part ≡ target_in_hand move hand)))

-- these are passes of a table, none holding a part, in the order of their numbers from one on
abbrev pub AreInOrder : {E : Type 0} → Opened ℕ → ℕ → List (Known ℕ E) → Type 0
AreInOrder table from [] = Unit {0}
AreInOrder table from (p ∷ passes) = (p.table ≡ table) × (p.by ≡ from) × HoldsNothing p × AreInOrder table (from + 1) passes

-- ---- the laws

still_held : (hand : List (Option ℕ)) (from to x : ℕ) → IsHeld hand from → IsHeld hand to → (y : ℕ) × (held_at (slice_set hand from (Some x)) to ≡ Some y)
still_held hand from to x held there = by (ℕ_discrete to from)
  where
    by : Dec (to ≡ from) → (y : ℕ) × (held_at (slice_set hand from (Some x)) to ≡ Some y)
    by (yes e) = (x, ap (held_at (slice_set hand from (Some x))) e ∙ held_set_here hand from (Some x) (held_within hand from _ held))
    by (no ne) = (number_at hand to, held_set_else hand from to (Some x) ne ∙ there)

two_places : (hand : List (Option ℕ)) (from to x y : ℕ) → IsHeld hand from → IsHeld hand to → places_held (slice_set (slice_set hand from (Some x)) to (Some y)) ≡ places_held hand
two_places hand from to x y held there =
    let still = still_held hand from to x held there in
    places_held-set (slice_set hand from (Some x)) to still.0 y still.1 ∙ places_held-set hand from _ x held

pub transfer_keeps_places : (hand : List (Option ℕ)) (from to amount : ℕ) → IsHeld hand from → IsHeld hand to → places_held (transferred_in_hand hand from to amount) ≡ places_held hand
transfer_keeps_places hand from to amount held there =
    by (can_move amount from (number_at hand from) to (number_at hand to)) (number_at hand from - amount) (number_at hand to + amount)
  where
    by : (b : Bool) (x y : ℕ) → places_held (if b then slice_set (slice_set hand from (Some x)) to (Some y) else hand) ≡ places_held hand
    by true x y = two_places hand from to x y held there
    by false x y = refl

pub move_keeps_places : (move : Move) (hand : List (Option ℕ)) → holds_touched move hand → places_held (moved_in_hand move hand) ≡ places_held hand
move_keeps_places move hand touched = transfer_keeps_places hand move.from (target_in_hand move hand) move.amount touched.0 touched.2

number_there : (hand : List (Option ℕ)) (numbers : List ℕ) (i : ℕ) → IsHandOf hand numbers → IsHeld hand i → slice_index numbers i ≡ number_at hand i
number_there hand numbers i of held = get_or_from_slice_get numbers i _ 0 (held_of_list hand numbers i _ of held)

two_laid : (hand : List (Option ℕ)) (numbers : List ℕ) (from to x y : ℕ) → IsHandOf hand numbers
    → slice_set (slice_set numbers from x) to y ≡ laid_over (slice_set (slice_set hand from (Some x)) to (Some y)) numbers
two_laid hand numbers from to x y of =
    ap (λ (l : List ℕ). slice_set (slice_set l from x) to y) (sym of.values)
    ∙ ap (λ (l : List ℕ). slice_set l to y) (sym (laid_over-set hand numbers from x of.places))
    ∙ sym (laid_over-set (slice_set hand from (Some x)) numbers to y (Rattle.std.proofs.Common.length-set hand from (Some x) ∙ of.places))

pub transfer_is_laid_over : (hand : List (Option ℕ)) (numbers : List ℕ) (from to amount a b : ℕ) → IsHandOf hand numbers → a ≡ number_at hand from → b ≡ number_at hand to
    → (if can_move amount from a to b then slice_set (slice_set numbers from (a - amount)) to (b + amount) else numbers) ≡ laid_over (transferred_in_hand hand from to amount) numbers
transfer_is_laid_over hand numbers from to amount a b of same other =
    ap (λ n. if can_move amount from n to b then slice_set (slice_set numbers from (n - amount)) to (b + amount) else numbers) same
    ∙ ap (λ n. if can_move amount from (number_at hand from) to n then slice_set (slice_set numbers from (number_at hand from - amount)) to (n + amount) else numbers) other
    ∙ by (can_move amount from (number_at hand from) to (number_at hand to)) (number_at hand from - amount) (number_at hand to + amount)
  where
    by : (c : Bool) (x y : ℕ) → (if c then slice_set (slice_set numbers from x) to y else numbers) ≡ laid_over (if c then slice_set (slice_set hand from (Some x)) to (Some y) else hand) numbers
    by true x y = two_laid hand numbers from to x y of
    by false x y = sym of.values

-- a part that held numbers show to be touched is touched, whatever the others are
pub shown_is_touched : (move : Move) (hand : List (Option ℕ)) (numbers : List ℕ) (part : ℕ) → IsHandOf hand numbers → IsShown move hand part
    → IsTouched move numbers part
shown_is_touched move hand numbers part of (inl named) = inl named
shown_is_touched move hand numbers part of (inr (inl named)) = inr (inl named)
shown_is_touched move hand numbers part of (inr (inr third)) =
    inr (inr (third.2
    ∙ ap (λ n. target n (number_at hand move.to) move.to) (sym (number_there hand numbers move.from of third.0))
    ∙ ap (λ n. target (slice_index numbers move.from) n move.to) (sym (number_there hand numbers move.to of third.1))))

pub move_is_laid_over : (move : Move) (hand : List (Option ℕ)) (numbers : List ℕ) → IsHandOf hand numbers → holds_touched move hand → moved move numbers ≡ laid_over (moved_in_hand move hand) numbers
move_is_laid_over move hand numbers of touched =
    let a = number_there hand numbers move.from of touched.0 in
    let b = number_there hand numbers move.to of touched.1 in
    let goes : target (slice_index numbers move.from) (slice_index numbers move.to) move.to ≡ target_in_hand move hand =
    ap (λ n. target n (slice_index numbers move.to) move.to) a ∙ ap (λ n. target (number_at hand move.from) n move.to) b in
    ap (λ t. transferred numbers move.from t move.amount) goes
    ∙ transfer_is_laid_over hand numbers move.from (target_in_hand move hand) move.amount _ _ of a (number_there hand numbers (target_in_hand move hand) of touched.2)

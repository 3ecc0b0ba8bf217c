-- Hands of which one place changes.
use Rattle.std.proofs.Common.{is_some, if◌then◌else◌, ◌≡◌, ℕ, zero, suc, ◌+◌, ◌<◌, ◌≤◌, List, [], ◌∷◌, length, set, Option, None, Some, refl, sym, ◌∙◌, ap, arith}
use Rattle.part_table.specs.Known.{nothing}
use Rattle.part_table.specs.Held.{held_at, places_held}
use Rattle.part_table.specs.HeldLaws.{held_set_else}
use Rattle.part_table.specs.Passes.{held_count, one_if_held}

module _ {T : Type 0} where
  -- one part more is held
  pub count_put : (hand : List (Option T)) (i : ℕ) (x : T) → i < length hand → held_at hand i ≡ None → held_count (set hand i (Some x)) ≡ held_count hand + 1
  count_put [] i x lt free = absurd (omega arith)
  count_put (h ∷ hand) zero x lt free = let e : one_if_held h ≡ 0 = ap one_if_held free in omega arith
  count_put (h ∷ hand) (suc i) x lt free = let r = count_put hand i x (omega arith) free in omega arith

  -- one part less
  pub count_taken : (hand : List (Option T)) (i : ℕ) (x : T) → held_at hand i ≡ Some x → held_count (set hand i None) + 1 ≡ held_count hand
  count_taken [] i x held = absurd (cc held)
  count_taken (h ∷ hand) zero x held = let e : one_if_held h ≡ 1 = ap one_if_held held in omega arith
  count_taken (h ∷ hand) (suc i) x held = let r = count_taken hand i x held in omega arith

  -- where the same places are held, as many are
  pub one_by_places : (one other : List (Option T)) (i : ℕ) → places_held one ≡ places_held other → one_if_held (held_at one i) ≡ one_if_held (held_at other i)
  one_by_places [] [] i same = refl
  one_by_places [] (y ∷ other) i same = absurd (cc same)
  one_by_places (x ∷ one) [] i same = absurd (cc same)
  one_by_places (x ∷ one) (y ∷ other) zero same = let first : is_some x ≡ is_some y = cc same in ap (λ b. if b then 1 else 0) first
  one_by_places (x ∷ one) (y ∷ other) (suc i) same = let rest : places_held one ≡ places_held other = cc same in one_by_places one other i rest

  pub count_by_places : (one other : List (Option T)) → places_held one ≡ places_held other → held_count one ≡ held_count other
  count_by_places [] [] same = refl
  count_by_places [] (y ∷ other) same = absurd (cc same)
  count_by_places (x ∷ one) [] same = absurd (cc same)
  count_by_places (x ∷ one) (y ∷ other) same =
      let first : is_some x ≡ is_some y = cc same in
      let rest : places_held one ≡ places_held other = cc same in
      let here : one_if_held x ≡ one_if_held y = ap (λ b. if b then 1 else 0) first in
      let more = count_by_places one other rest in
      omega arith

  one_at_most : (h : Option T) → one_if_held h ≤ 1
  one_at_most None = omega arith
  one_at_most (Some x) = omega arith

  pub count_le : (hand : List (Option T)) → held_count hand ≤ length hand
  count_le [] = omega arith
  count_le (h ∷ hand) = let r = count_le hand in let o = one_at_most h in omega arith

  -- where a part isn't held, fewer are held than there are places
  pub count_lt : (hand : List (Option T)) (i : ℕ) → i < length hand → held_at hand i ≡ None → held_count hand < length hand
  count_lt [] i lt free = absurd (omega arith)
  count_lt (h ∷ hand) zero lt free = let e : one_if_held h ≡ 0 = ap one_if_held free in let r = count_le hand in omega arith
  count_lt (h ∷ hand) (suc i) lt free = let r = count_lt hand i (omega arith) free in let o = one_at_most h in omega arith

pub nothing_counted : (T : Type 0) (n : ℕ) → held_count (nothing {T = T} n) ≡ 0
nothing_counted T zero = refl
nothing_counted T (suc n) = let h = nothing_counted T n in omega arith

pub nothing_held : (T : Type 0) (n i : ℕ) → held_at (nothing {T = T} n) i ≡ None
nothing_held T zero i = refl
nothing_held T (suc n) zero = refl
nothing_held T (suc n) (suc i) = nothing_held T n i

pub nothing_long : (T : Type 0) (n : ℕ) → length (nothing {T = T} n) ≡ n
nothing_long T zero = refl
nothing_long T (suc n) = let h = nothing_long T n in omega arith

-- nothing is held, once what was taken is given back
pub given_back : (T : Type 0) (n i : ℕ) (x : T) → set (set (nothing {T = T} n) i (Some x)) i None ≡ nothing n
given_back T zero i x = refl
given_back T (suc n) zero x = refl
given_back T (suc n) (suc i) x = ap (λ (l : List (Option T)). None ∷ l) (given_back T n i x)

-- where none from a part on is held, none behind it is once it is taken
pub free_behind : {T : Type 0} (hand new : List (Option T)) (part : ℕ) (x : T) → ((i : ℕ) → part ≤ i → held_at hand i ≡ None) → new ≡ set hand part (Some x)
    → (i : ℕ) → part + 1 ≤ i → held_at new i ≡ None
free_behind hand new part x free is i le =
    ap (λ l. held_at l i) is ∙ held_set_else hand part i (Some x) (λ e. let a : part + 1 ≤ i = le in omega arith) ∙ free i (omega arith)

-- a hand whose places are all empty
pub all_free : {T : Type 0} (hand : List (Option T)) (n : ℕ) → length hand ≡ n → ((i : ℕ) → i < n → held_at hand i ≡ None) → hand ≡ nothing n
all_free [] zero long free = refl
all_free [] (suc n) long free = absurd (omega (arith, long))
all_free (h ∷ hand) zero long free = absurd (omega (arith, long))
all_free (h ∷ hand) (suc n) long free =
    let first : h ≡ None = free 0 (omega arith) in
    let rest : hand ≡ nothing n = all_free hand n (omega (arith, long)) (λ i lt. free (suc i) (omega arith)) in
    ap (λ x. x ∷ hand) first ∙ ap (λ l. None ∷ l) rest

-- a hand is as before, once what was put into an empty place is gone again
pub put_and_taken : {T : Type 0} (hand : List (Option T)) (i : ℕ) (x : T) → held_at hand i ≡ None → set (set hand i (Some x)) i None ≡ hand
put_and_taken [] i x free = refl
put_and_taken (h ∷ hand) zero x free = let first : h ≡ None = free in ap (λ y. y ∷ hand) (sym first)
put_and_taken (h ∷ hand) (suc i) x free = ap (λ l. h ∷ l) (put_and_taken hand i x free)

-- Whose events a body has, and how many own places passes have.
use Rattle.std.proofs.Common.{◌≡◌, ◌++◌, ◌+◌, ◌==◌, ◌≤◌, ℕ, suc, false, if◌then◌else◌, List, [], ◌∷◌, refl, ap, ◌∙◌, map, length, arith, Some, slice_get, ne_eqb}
use Rattle.part_table.specs.History.{events_of, IsMade}
use Rattle.part_table.specs.Known.{Known}
use Rattle.part_table.specs.Gathered.{own_places}

module _ {E : Type 0} (actor : E → ℕ) where
  -- the events of an actor
  abbrev pub acted : ℕ → List E → List E
  acted a [] = []
  acted a (event ∷ rest) = if actor event == a then event ∷ acted a rest else acted a rest

module _ {E : Type 0} (actor : E → ℕ) (may_make : ℕ → E → Type 0) (own : (c : ℕ) (e : E) → may_make c e → actor e ≡ c) where
  -- a caller's events are those of its number
  pub by_actor : (callers a : ℕ) (body : List (ℕ × E)) → IsMade callers may_make body → acted actor a (map (λ (m : ℕ × E). m.1) body) ≡ events_of a body
  by_actor callers a [] made = refl
  by_actor callers a (x ∷ body) made =
      let same : (actor x.1 == a) ≡ (x.0 == a) = ap (λ n. n == a) (own x.0 x.1 made.1) in
      ap (λ b. if b then x.1 ∷ acted actor a (map (λ (m : ℕ × E). m.1) body) else acted actor a (map (λ (m : ℕ × E). m.1) body)) same
      ∙ ap (λ (l : List E). if x.0 == a then x.1 ∷ l else l) (by_actor callers a body made.2)

  -- no caller has a higher number
  pub none_above : (callers a : ℕ) (body : List (ℕ × E)) → IsMade callers may_make body → callers ≤ a → events_of a body ≡ []
  none_above callers a [] made le = refl
  none_above callers a (x ∷ body) made le =
      let other : (x.0 == a) ≡ false = ne_eqb x.0 a (λ e. let lt = made.0 in omega arith) in
      ap (λ b. if b then x.1 ∷ events_of a body else events_of a body) other ∙ none_above callers a body made.2 le

  pub made_rest : (callers : ℕ) (xs ys : List (ℕ × E)) → IsMade callers may_make (xs ++ ys) → IsMade callers may_make ys
  made_rest callers [] ys made = made
  made_rest callers (x ∷ xs) ys made = made_rest callers xs ys made.2

module _ {T E : Type 0} where
  -- as many own places, pass by pass
  pub own_same : (before after : List (Known T E)) → length after ≡ length before
      → ((i : ℕ) (p : Known T E) → slice_get before i ≡ Some p → (q : Known T E) × (slice_get after i ≡ Some q) × (length q.own ≡ length p.own)) → own_places after ≡ own_places before
  own_same [] [] size each = refl
  own_same [] (q ∷ after) size each = absurd (omega arith)
  own_same (p ∷ before) [] size each = absurd (omega arith)
  own_same (p ∷ before) (q ∷ after) size each =
      let first = each 0 p refl in
      let is : q ≡ first.0 = cc first.1 in
      let long : length q.own ≡ length p.own = ap (λ (k : Known T E). length k.own) is ∙ first.2 in
      let rest = own_same before after (omega arith) (λ i r at. each (suc i) r at) in
      omega arith

  pub own_one : (before after : List (Known T E)) → length after ≡ length before
      → ((i : ℕ) (p : Known T E) → slice_get before i ≡ Some p → (q : Known T E) × (slice_get after i ≡ Some q) × (length q.own ≡ length p.own + 1)) → own_places after ≡ own_places before + length before
  own_one [] [] size each = refl
  own_one [] (q ∷ after) size each = absurd (omega arith)
  own_one (p ∷ before) [] size each = absurd (omega arith)
  own_one (p ∷ before) (q ∷ after) size each =
      let first = each 0 p refl in
      let is : q ≡ first.0 = cc first.1 in
      let long : length q.own ≡ length p.own + 1 = ap (λ (k : Known T E). length k.own) is ∙ first.2 in
      let rest = own_one before after (omega arith) (λ i r at. each (suc i) r at) in
      omega arith

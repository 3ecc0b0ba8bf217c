-- A history that grows.
use Rattle.std.proofs.Common.{◌≡◌, ◌≢◌, ◌⊎◌, ℕ, ◌+◌, ◌<◌, ◌≤◌, Bool, true, false, cond, List, [], ◌∷◌, ◌++◌, length, eqb, eq-eqb, ne_eqb, nat_lt, if◌then◌else◌, inl, inr, refl, sym, ◌∙◌, ap, arith, append-nil, append_assoc, length-append}
use Rattle.std.proofs.lemmas.Bool.{ltb-true, ltb-false}
use Rattle.part_table.specs.History.{StartsWith, BeginsEach, replayed, places_from, IsMade}
use Rattle.part_table.specs.Plays.{longer, shorter}

module _ {X : Type 0} where
  pub starts_refl : (xs : List X) → StartsWith xs xs
  starts_refl xs = ([], sym (append-nil xs))

  pub starts_nil : (xs : List X) → StartsWith xs []
  starts_nil xs = (xs, refl)

  pub starts_more : (xs front : List X) (x : X) → StartsWith xs front → StartsWith (xs ++ x ∷ []) front
  starts_more xs front x h = (h.0 ++ x ∷ [], ap (λ (l : List X). l ++ x ∷ []) h.1 ∙ append_assoc front h.0 (x ∷ []))

  pub starts_trans : (xs ys zs : List X) → StartsWith xs ys → StartsWith ys zs → StartsWith xs zs
  starts_trans xs ys zs h k = (k.0 ++ h.0, h.1 ∙ ap (λ (l : List X). l ++ h.0) k.1 ∙ append_assoc zs k.0 h.0)

  pub each_more : (xs : List X) (fronts : List (List X)) (x : X) → BeginsEach xs fronts → BeginsEach (xs ++ x ∷ []) fronts
  each_more xs [] x h = tt
  each_more xs (front ∷ fronts) x h = (starts_more xs front x h.0, each_more xs fronts x h.1)

  -- what begins with the longer and the shorter begins with both
  starts_both : (all xs ys : List X) → StartsWith all (longer xs ys) → StartsWith all (shorter xs ys) → StartsWith all xs × StartsWith all ys
  starts_both all xs ys = by (nat_lt (length xs) (length ys))
    where
      by : (b : Bool) → StartsWith all (if b then ys else xs) → StartsWith all (if b then xs else ys) → StartsWith all xs × StartsWith all ys
      by true h k = (k, h)
      by false h k = (h, k)

  pub starts_left : (all xs ys : List X) → StartsWith all (longer xs ys) → StartsWith all (shorter xs ys) → StartsWith all xs
  starts_left all xs ys h k = (starts_both all xs ys h k).0

  pub starts_right : (all xs ys : List X) → StartsWith all (longer xs ys) → StartsWith all (shorter xs ys) → StartsWith all ys
  starts_right all xs ys h k = (starts_both all xs ys h k).1

  pub longer_starts : (all xs ys : List X) → StartsWith all xs → StartsWith all ys → StartsWith all (longer xs ys)
  longer_starts all xs ys h k = by (nat_lt (length xs) (length ys))
    where
      by : (b : Bool) → StartsWith all (if b then ys else xs)
      by true = k
      by false = h

  pub shorter_starts : (all xs ys : List X) → StartsWith all xs → StartsWith all ys → StartsWith all (shorter xs ys)
  shorter_starts all xs ys h k = by (nat_lt (length xs) (length ys))
    where
      by : (b : Bool) → StartsWith all (if b then xs else ys)
      by true = h
      by false = k

  -- a beginning that is as long is all
  no_more : (xs ys : List X) → length (xs ++ ys) ≤ length xs → ys ≡ []
  no_more xs [] le = refl
  no_more xs (y ∷ ys) le = absurd (let a = length-append xs (y ∷ ys) in omega arith)

  pub starts_whole : (all front : List X) → StartsWith all front → length all ≤ length front → front ≡ all
  starts_whole all front h le =
      let size : length (front ++ h.0) ≤ length front = let e = ap length h.1 in omega arith in
      let none = no_more front h.0 size in
      sym (append-nil front) ∙ ap (λ (l : List X). front ++ l) (sym none) ∙ sym h.1

  pub starts_length : (all front : List X) → StartsWith all front → length front ≤ length all
  starts_length all front h = let e = ap length h.1 in let a = length-append front h.0 in omega arith

  -- where one of two beginnings is all, the longer one is
  pub longer_whole : (all xs ys : List X) → StartsWith all xs → StartsWith all ys → (xs ≡ all) ⊎ (ys ≡ all) → longer xs ys ≡ all
  longer_whole all xs ys h k which = by (nat_lt (length xs) (length ys)) refl
    where
      whole_left : length ys ≤ length xs → xs ≡ all
      whole_left le = elim which [ inl e ↦ e | inr e ↦ starts_whole all xs h (let l = ap length e in omega arith) ]

      whole_right : length xs < length ys → ys ≡ all
      whole_right lt = elim which [ inl e ↦ starts_whole all ys k (let l = ap length e in omega arith) | inr e ↦ e ]

      by : (b : Bool) → nat_lt (length xs) (length ys) ≡ b → (if b then ys else xs) ≡ all
      by true e = whole_right (ltb-true (length xs) (length ys) e)
      by false e = whole_left (ltb-false (length xs) (length ys) e)

module _ {T E : Type 0} (step : E → List T → List T) where
  pub replayed_more : (parts : List T) (history : List (ℕ × E)) (made : ℕ × E) → replayed step parts (history ++ made ∷ []) ≡ step made.1 (replayed step parts history)
  replayed_more parts [] made = refl
  replayed_more parts (x ∷ history) made = replayed_more (step x.1 parts) history made

module _ {E : Type 0} where
  -- a place that names the caller
  pub places_more : (at caller : ℕ) (history : List (ℕ × E)) (made : ℕ × E) → made.0 ≡ caller
      → places_from at caller (history ++ made ∷ []) ≡ places_from at caller history ++ (at + length history) ∷ []
  places_more at caller [] made e =
      let here : at ≡ at + 0 = omega arith in
      ap (λ b. cond b (at ∷ []) []) (eq-eqb made.0 caller e) ∙ ap (λ n. n ∷ []) here
  places_more at caller (x ∷ history) made e =
      let next : at + 1 + length history ≡ at + length (x ∷ history) = omega arith in
      by (eqb x.0 caller) (places_more (at + 1) caller history made e ∙ ap (λ n. places_from (at + 1) caller history ++ n ∷ []) next)
    where
      by : (b : Bool) → places_from (at + 1) caller (history ++ made ∷ []) ≡ places_from (at + 1) caller history ++ (at + length (x ∷ history)) ∷ []
          → cond b (at ∷ places_from (at + 1) caller (history ++ made ∷ [])) (places_from (at + 1) caller (history ++ made ∷ []))
          ≡ cond b (at ∷ places_from (at + 1) caller history) (places_from (at + 1) caller history) ++ (at + length (x ∷ history)) ∷ []
      by true r = ap (λ (l : List ℕ). at ∷ l) r
      by false r = r

  -- a place that names another one
  pub places_same : (at caller : ℕ) (history : List (ℕ × E)) (made : ℕ × E) → made.0 ≢ caller → places_from at caller (history ++ made ∷ []) ≡ places_from at caller history
  places_same at caller [] made ne = ap (λ b. cond b (at ∷ []) []) (ne_eqb made.0 caller ne)
  places_same at caller (x ∷ history) made ne = by (eqb x.0 caller) (places_same (at + 1) caller history made ne)
    where
      by : (b : Bool) → places_from (at + 1) caller (history ++ made ∷ []) ≡ places_from (at + 1) caller history
          → cond b (at ∷ places_from (at + 1) caller (history ++ made ∷ [])) (places_from (at + 1) caller (history ++ made ∷ []))
          ≡ cond b (at ∷ places_from (at + 1) caller history) (places_from (at + 1) caller history)
      by true r = ap (λ (l : List ℕ). at ∷ l) r
      by false r = r

  pub made_more : (callers : ℕ) (may_make : ℕ → E → Type 0) (history : List (ℕ × E)) (made : ℕ × E) → IsMade callers may_make history → made.0 < callers → may_make made.0 made.1
      → IsMade callers may_make (history ++ made ∷ [])
  made_more callers may_make [] made h below may = (below, may, tt)
  made_more callers may_make (x ∷ history) made h below may = (h.0, h.1, made_more callers may_make history made h.2 below may)

-- Each place of a history is counted once, with the caller whom it names.
use Rattle.std.proofs.Common.{◌≡◌, ℕ, zero, suc, ◌+◌, ◌<◌, ◌≤◌, Bool, true, false, cond, List, [], ◌∷◌, ◌++◌, length, slice_get, eqb, eq-eqb, ne_eqb, Some, refl, sym, ◌∙◌, ap, arith, length-append, append-nil}
use native.Mathlib.Decide.{ℕ_discrete}
use Rattle.part_table.specs.History.{StartsWith, places_from, places_of, IsMade}
use Rattle.part_table.specs.Known.{Known}
use Rattle.part_table.specs.Gathered.{own_places}

-- how many places name one of the callers below n
abbrev places_below : {E : Type 0} → ℕ → ℕ → List (ℕ × E) → ℕ
places_below at zero h = 0
places_below at (suc n) h = length (places_from at n h) + places_below at n h

none_in_nil : (E : Type 0) (at n : ℕ) → places_below {E = E} at n [] ≡ 0
none_in_nil E at zero = refl
none_in_nil E at (suc n) = let h = none_in_nil E at n in omega arith

module _ {E : Type 0} where
  -- the places of two histories, one after the other
  pub places_append : (at caller : ℕ) (xs ys : List (ℕ × E)) → places_from at caller (xs ++ ys) ≡ places_from at caller xs ++ places_from (at + length xs) caller ys
  places_append at caller [] ys = let none : at ≡ at + 0 = omega arith in ap (λ n. places_from n caller ys) none
  places_append at caller (x ∷ xs) ys =
      let next : at + 1 + length xs ≡ at + length (x ∷ xs) = omega arith in
      by (eqb x.0 caller) (places_append (at + 1) caller xs ys ∙ ap (λ n. places_from (at + 1) caller xs ++ places_from n caller ys) next)
    where
      by : (b : Bool) → places_from (at + 1) caller (xs ++ ys) ≡ places_from (at + 1) caller xs ++ places_from (at + length (x ∷ xs)) caller ys
          → cond b (at ∷ places_from (at + 1) caller (xs ++ ys)) (places_from (at + 1) caller (xs ++ ys))
          ≡ cond b (at ∷ places_from (at + 1) caller xs) (places_from (at + 1) caller xs) ++ places_from (at + length (x ∷ xs)) caller ys
      by true r = ap (λ (l : List ℕ). at ∷ l) r
      by false r = r

  pub made_front : (callers : ℕ) (may_make : ℕ → E → Type 0) (xs ys : List (ℕ × E)) → IsMade callers may_make (xs ++ ys) → IsMade callers may_make xs
  made_front callers may_make [] ys h = tt
  made_front callers may_make (x ∷ xs) ys h = (h.0, h.1, made_front callers may_make xs ys h.2)

  -- a history between two in which a caller has the same places has those too
  pub places_between : (caller : ℕ) (own : List ℕ) (low mid high : List (ℕ × E)) → StartsWith mid low → StartsWith high mid → own ≡ places_of caller low → own ≡ places_of caller high → own ≡ places_of caller mid
  places_between caller own low mid high h k is_low is_high =
      let a = places_from (1 + length low) caller h.0 in
      let b = places_from (1 + length mid) caller k.0 in
      let more : places_of caller mid ≡ own ++ a = ap (places_of caller) h.1 ∙ places_append 1 caller low h.0 ∙ ap (λ (l : List ℕ). l ++ a) (sym is_low) in
      let less : own ≡ places_of caller mid ++ b = is_high ∙ ap (places_of caller) k.1 ∙ places_append 1 caller mid k.0 in
      let m = ap length more in
      let l = ap length less in
      let n = length-append own a in
      let o = length-append (places_of caller mid) b in
      let none : length a ≡ 0 = omega arith in
      sym (more ∙ ap (λ (l : List ℕ). own ++ l) (no_length a none) ∙ append-nil own)
    where
      no_length : (l : List ℕ) → length l ≡ 0 → l ≡ []
      no_length [] e = refl
      no_length (x ∷ l) e = absurd (omega arith)

  one_of : (at caller : ℕ) (x : ℕ × E) (h : List (ℕ × E)) → length (places_from at caller (x ∷ h)) ≡ cond (eqb x.0 caller) 1 0 + length (places_from (at + 1) caller h)
  one_of at caller x h = by (eqb x.0 caller)
    where
      by : (b : Bool) → length (cond b (at ∷ places_from (at + 1) caller h) (places_from (at + 1) caller h)) ≡ cond b 1 0 + length (places_from (at + 1) caller h)
      by true = omega arith
      by false = omega arith

  beyond : (at n : ℕ) (x : ℕ × E) (h : List (ℕ × E)) → n ≤ x.0 → places_below at n (x ∷ h) ≡ places_below (at + 1) n h
  beyond at zero x h le = refl
  beyond at (suc n) x h le =
      let r = beyond at n x h (omega arith) in
      let none : cond (eqb x.0 n) 1 0 ≡ 0 = ap (λ b. cond b 1 0) (ne_eqb x.0 n (λ e. omega arith)) in
      sums_up _ _ _ _ _ (one_of at n x h) none r
    where
      sums_up : (a b c d e : ℕ) → a ≡ b + c → b ≡ 0 → d ≡ e → a + d ≡ c + e
      sums_up a b c d e p q r = omega arith

  within : (at n : ℕ) (x : ℕ × E) (h : List (ℕ × E)) → x.0 < n → places_below at n (x ∷ h) ≡ suc (places_below (at + 1) n h)
  within at zero x h lt = absurd (omega arith)
  within at (suc n) x h lt = by (ℕ_discrete x.0 n) (λ l. within at n x h l)
    where
      first : (a b c d e : ℕ) → a ≡ b + c → b ≡ 1 → d ≡ e → a + d ≡ suc (c + e)
      first a b c d e p q r = omega arith

      later : (a b c d e : ℕ) → a ≡ b + c → b ≡ 0 → d ≡ suc e → a + d ≡ suc (c + e)
      later a b c d e p q r = omega arith

      by : Dec (x.0 ≡ n) → (x.0 < n → places_below at n (x ∷ h) ≡ suc (places_below (at + 1) n h)) → places_below at (suc n) (x ∷ h) ≡ suc (places_below (at + 1) (suc n) h)
      by (yes e) less = first _ _ _ _ _ (one_of at n x h) (ap (λ b. cond b 1 0) (eq-eqb x.0 n e)) (beyond at n x h (omega arith))
      by (no ne) less = later _ _ _ _ _ (one_of at n x h) (ap (λ b. cond b 1 0) (ne_eqb x.0 n ne)) (less (omega arith))

  -- where each place names a caller below n, all are counted
  pub all_counted : (at n : ℕ) (may_make : ℕ → E → Type 0) (h : List (ℕ × E)) → IsMade n may_make h → places_below at n h ≡ length h
  all_counted at n may_make [] made = none_in_nil E at n
  all_counted at n may_make (x ∷ h) made = within at n x h made.0 ∙ ap suc (all_counted (at + 1) n may_make h made.2)

abbrev sum_from : (ℕ → ℕ) → ℕ → ℕ → ℕ
sum_from f i zero = 0
sum_from f i (suc n) = f i + sum_from f (i + 1) n

sum_snoc : (f : ℕ → ℕ) (i n : ℕ) → sum_from f i (suc n) ≡ sum_from f i n + f (i + n)
sum_snoc f i zero = let e : i ≡ i + 0 = omega arith in let z = ap f e in omega arith
sum_snoc f i (suc n) =
    let r = sum_snoc f (i + 1) n in
    let e : i + 1 + n ≡ i + suc n = omega arith in
    let z = ap f e in
    omega arith

up : (a b c d e : ℕ) → b ≡ c → d ≡ c + e → e ≡ a → a + b ≡ d
up a b c d e p q r = omega arith

module _ {E : Type 0} where
  below_is : (at n : ℕ) (h : List (ℕ × E)) → places_below at n h ≡ sum_from (λ c. length (places_from at c h)) 0 n
  below_is at zero h = refl
  below_is at (suc n) h =
      let r = below_is at n h in
      let s = sum_snoc (λ c. length (places_from at c h)) 0 n in
      let e : 0 + n ≡ n = omega arith in
      let z = ap (λ c. length (places_from at c h)) e in
      up _ _ _ _ _ r s z

module _ {T E : Type 0} where
  own_sum : (f : ℕ → ℕ) (passes : List (Known T E)) (from : ℕ) → ((i : ℕ) (p : Known T E) → slice_get passes i ≡ Some p → length p.own ≡ f (from + i)) → own_places passes ≡ sum_from f from (length passes)
  own_sum f [] from each = refl
  own_sum f (p ∷ passes) from each =
      let first = each 0 p refl in
      let here : from + 0 ≡ from = omega arith in
      let z = ap f here in
      let r = own_sum f passes (from + 1) (λ i q at. each (suc i) q at ∙ ap f (let e : from + suc i ≡ from + 1 + i = omega arith in e)) in
      omega arith

  -- passes whose own places are exactly those of a history have as many as it
  pub count_own : (may_make : ℕ → E → Type 0) (passes : List (Known T E)) (h : List (ℕ × E)) → IsMade (length passes) may_make h
      → ((i : ℕ) (p : Known T E) → slice_get passes i ≡ Some p → p.own ≡ places_of i h) → length h ≡ own_places passes
  count_own may_make passes h made each =
      let counted = all_counted 1 (length passes) may_make h made in
      let below = below_is 1 (length passes) h in
      let own = own_sum (λ c. length (places_from 1 c h)) passes 0 (λ i p at. ap length (each i p at) ∙ ap (λ c. length (places_from 1 c h)) (let e : i ≡ 0 + i = omega arith in e)) in
      sym counted ∙ below ∙ sym own

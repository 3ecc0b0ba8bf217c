-- What the whole owes, and what lists hold of it.
use Rattle.std.proofs.Common.{◌≡◌, ℕ, ◌+◌, ◌<◌, ◌≤◌, List, [], ◌∷◌, ◌++◌, length, refl, ap, arith}
use Rattle.std.specs.List.{range_with_len}
use Rattle.std.proofs.lemmas.List.FromFn.{length-range_with_len}
use Rattle.crossbeam_queue.specs.Fifo.{Held}
use Rattle.cell_pool.specs.declared.rule.Hand.{Hand}
use Rattle.cell_pool.specs.Rule.{weigh, weigh_all, hand, Keeps, Owes, HoldsEach}
use Rattle.cell_pool.proofs.Rules.{weigh-append}

pub weigh_one : {A : Type 0} (xs : List A) → weigh (λ x. 1) xs ≡ length xs
weigh_one [] = refl
weigh_one (x ∷ xs) = let h = weigh_one xs in omega arith

none_weighs : {A : Type 0} (f : A → ℕ) (xs : List A) → length xs ≡ 0 → weigh f xs ≡ 0
none_weighs f [] none = refl
none_weighs f (x ∷ xs) none = absurd (omega arith)

module _ {I : Type 0} (at : I → ℕ) where
  pub new_keeps : (v : Hand) (items : List I) → v ≡ hand 1 [] [] → items ≡ [] → (v.parts ≡ 1) × Keeps at v items
  new_keeps v items new empty = (
    ap (λ (u : Hand). u.parts) new,
    λ h.
        let t = ap (λ (u : Hand). weigh h u.taken) new in
        let p = ap (λ (u : Hand). weigh h u.put) new in
        let e = ap (weigh (λ i. h (at i))) empty in
        omega arith,
  )

  -- the queue can't be full before all is put
  pub not_full : (v : Hand) (n cap : ℕ) → v ≡ hand 64 (range_with_len 0 n) [] → n < cap → Held cap (λ items. (h : ℕ → ℕ) → weigh h v.put ≡ weigh h v.taken + weigh (λ i. h (at i)) items) → ⊥
  not_full v n cap is less held =
      let t = ap (λ (u : Hand). weigh (λ x. 1) u.taken) is in
      let p = ap (λ (u : Hand). weigh (λ x. 1) u.put) is in
      let w = held.2 (λ x. 1) in
      let l = held.1 in
      absurd (omega (arith, weigh_one (range_with_len 0 n), weigh_one held.0, length-range_with_len 0 n))

  module _ {L : Type 0} (inside : L → List I) where
    pub owes_more : (n : ℕ) (v u w : Hand) (lists now : List L) (k : L) → Owes at inside n v lists → Keeps at u (inside k) → w ≡ hand (v.parts + u.parts) (v.put ++ u.put) (v.taken ++ u.taken)
        → now ≡ lists ++ k ∷ [] → Owes at inside n w now
    owes_more n v u w lists now k owes keeps is grew h =
        let t = ap (λ (y : Hand). weigh h y.taken) is in
        let p = ap (λ (y : Hand). weigh h y.put) is in
        let e = ap (weigh_all inside (λ i. h (at i))) grew in
        let o = owes h in
        let q = keeps h in
        omega (arith, weigh-append h v.put u.put, weigh-append h v.taken u.taken, weigh-append (λ l. weigh (λ i. h (at i)) (inside l)) lists (k ∷ []))

    pub left_more : (n : ℕ) (v w : Hand) (lists : List L) (left now : List I) (x y : I) → w ≡ hand v.parts v.put (v.taken ++ at x ∷ []) → now ≡ left ++ y ∷ [] → at y ≡ at x
        → ((h : ℕ → ℕ) → weigh h v.taken + weigh h (range_with_len 0 n) ≡ weigh h v.put + weigh_all inside (λ i. h (at i)) lists + weigh (λ i. h (at i)) left) → (h : ℕ → ℕ)
        → weigh h w.taken + weigh h (range_with_len 0 n) ≡ weigh h w.put + weigh_all inside (λ i. h (at i)) lists + weigh (λ i. h (at i)) now
    left_more n v w lists left now x y took grew same owes h =
        let t = ap (λ (u : Hand). weigh h u.taken) took in
        let p = ap (λ (u : Hand). weigh h u.put) took in
        let g = ap (weigh (λ i. h (at i))) grew in
        let e = ap h same in
        let o = owes h in
        omega (arith, weigh-append h v.taken (at x ∷ []), weigh-append (λ i. h (at i)) left (y ∷ []))

    -- what is left finds room
    pub few : (n : ℕ) (v w : Hand) (lists : List L) (left : List I) (x : I) → w ≡ hand v.parts v.put (v.taken ++ at x ∷ []) → ((h : ℕ → ℕ) → weigh h w.taken ≤ weigh h w.put)
        → ((h : ℕ → ℕ) → weigh h v.taken + weigh h (range_with_len 0 n) ≡ weigh h v.put + weigh_all inside (λ i. h (at i)) lists + weigh (λ i. h (at i)) left) → length left < n
    few n v w lists left x took most owes =
        let t = ap (λ (u : Hand). weigh (λ y. 1) u.taken) took in
        let p = ap (λ (u : Hand). weigh (λ y. 1) u.put) took in
        let o = owes (λ y. 1) in
        let m = most (λ y. 1) in
        omega (arith, weigh-append (λ y. 1) v.taken (at x ∷ []), weigh_one (range_with_len 0 n), weigh_one left, length-range_with_len 0 n)

    pub all_held : (n : ℕ) (v : Hand) (lists now : List L) (left : L) → Held 0 (λ items. (h : ℕ → ℕ) → weigh h v.put ≡ weigh h v.taken + weigh (λ i. h (at i)) items) → now ≡ lists ++ left ∷ []
        → ((h : ℕ → ℕ) → weigh h v.taken + weigh h (range_with_len 0 n) ≡ weigh h v.put + weigh_all inside (λ i. h (at i)) lists + weigh (λ i. h (at i)) (inside left)) → HoldsEach at inside n now
    all_held n v lists now left held grew owes h =
        let f = held.2 h in
        let z = none_weighs (λ i. h (at i)) held.0 held.1 in
        let e = ap (weigh_all inside (λ i. h (at i))) grew in
        let o = owes h in
        omega (arith, weigh-append (λ l. weigh (λ i. h (at i)) (inside l)) lists (left ∷ []))

    pub owes_first : (n parts : ℕ) (v : Hand) (lists : List L) → v ≡ hand parts (range_with_len 0 n) [] → lists ≡ [] → Owes at inside n v lists
    owes_first n parts v lists is none h =
        let t = ap (λ (u : Hand). weigh h u.taken) is in
        let p = ap (λ (u : Hand). weigh h u.put) is in
        let e = ap (weigh_all inside (λ i. h (at i))) none in
        omega arith

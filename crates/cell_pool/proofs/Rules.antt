-- Each move keeps the rule of the queue.
use Rattle.std.proofs.Common.{◌≡◌, ◌≢◌, ℕ, zero, suc, ◌+◌, ◌-◌, ◌<◌, ◌≤◌, List, [], ◌∷◌, ◌++◌, set, sym, refl, ap, ◌∙◌, subst, ⊎_elim, arith}
use mathlib.Core.Option.{some, some-injective, some-ne-none}
use lib.ListN.{get_elem?}
use Rattle.crossbeam_queue.specs.Fifo.{Pushes, Pops, Forks, Merges, Learns}
use Rattle.crossbeam_queue.proofs.Lists.{at_set, at_snoc}
use Rattle.std.proofs.lemmas.List.Elements.{All-nil}
use Rattle.cell_pool.specs.declared.rule.Hand.{Hand}
use Rattle.cell_pool.proofs.Lists.{All_first, All_rest, All_snoc}
use Rattle.cell_pool.specs.Rule.{weigh, hand, IdleIsEmpty, Balanced, Keeps}

module _ {A : Type 0} where
  pub weigh-append : (f : A → ℕ) (xs ys : List A) → weigh f (xs ++ ys) ≡ weigh f xs + weigh f ys
  weigh-append f [] ys = omega arith
  weigh-append f (x ∷ xs) ys = let h = weigh-append f xs ys in omega arith

  -- the sum after a change of one element
  pub weigh_set : (f : A → ℕ) (xs : List A) (i : ℕ) (v w : A) → get_elem? xs i ≡ some v → weigh f (set xs i w) + f v ≡ weigh f xs + f w
  weigh_set f [] i v w at = absurd (some-ne-none v (sym at))
  weigh_set f (x ∷ xs) zero v w at = let e : f x ≡ f v = ap f (some-injective x v at) in omega arith
  weigh_set f (x ∷ xs) (suc i) v w at = let h = weigh_set f xs i v w at in omega arith

  pub weigh_at : (f : A → ℕ) (xs : List A) (i : ℕ) (v : A) → get_elem? xs i ≡ some v → f v ≤ weigh f xs
  weigh_at f [] i v at = absurd (some-ne-none v (sym at))
  weigh_at f (x ∷ xs) zero v at = let e : f x ≡ f v = ap f (some-injective x v at) in omega arith
  weigh_at f (x ∷ xs) (suc i) v at = let h = weigh_at f xs i v at in omega arith

  -- where g weighs nothing, f weighs nothing
  zeros : (f g : A → ℕ) (xs : List A) → weigh g xs ≡ 0 → ((j : ℕ) (u : A) → get_elem? xs j ≡ some u → g u ≡ 0 → f u ≡ 0) → weigh f xs ≡ 0
  zeros f g [] none each = refl
  zeros f g (x ∷ xs) none each =
      let h = zeros f g xs (omega arith) (λ j u at. each (suc j) u at) in
      let t = each 0 x refl (omega arith) in
      omega arith

  -- where one element has all the weight by g, it has all by f
  pub alone : (f g : A → ℕ) (xs : List A) (i : ℕ) (v : A) → get_elem? xs i ≡ some v → weigh g xs ≡ g v → ((j : ℕ) (u : A) → get_elem? xs j ≡ some u → g u ≡ 0 → f u ≡ 0) → weigh f xs ≡ f v
  alone f g [] i v at all each = absurd (some-ne-none v (sym at))
  alone f g (x ∷ xs) zero v at all each =
      let e : f x ≡ f v = ap f (some-injective x v at) in
      let d : g x ≡ g v = ap g (some-injective x v at) in
      let h = zeros f g xs (omega arith) (λ j u at. each (suc j) u at) in
      omega arith
  alone f g (x ∷ xs) (suc i) v at all each =
      let most = weigh_at g xs i v at in
      let h = alone f g xs i v at (omega arith) (λ j u at. each (suc j) u at) in
      let t = each 0 x refl (omega arith) in
      omega arith

idle_set : (views : List Hand) (port : ℕ) (w : Hand) → (w.parts ≡ 0 → (w.put ≡ []) × (w.taken ≡ [])) → IdleIsEmpty views → IdleIsEmpty (set views port w)
idle_set views port w mine idle j u e none = ⊎_elim (λ (x : (j ≡ port) × (w ≡ u)). subst (λ (y : Hand). y.parts ≡ 0 → (y.put ≡ []) × (y.taken ≡ [])) x.1 mine none)
    (λ (x : (j ≢ port) × (get_elem? views j ≡ some u)). idle j u x.1 none) (at_set views port j w u e)

idle_snoc : (views : List Hand) (w : Hand) → 0 < w.parts → IdleIsEmpty views → IdleIsEmpty (views ++ w ∷ [])
idle_snoc views w some_part idle j u e none = ⊎_elim (λ x. idle j u x none) (λ (is : w ≡ u). absurd (let p = ap (λ (y : Hand). y.parts) is in omega arith)) (at_snoc views w u j e)

module _ {I : Type 0} (at : I → ℕ) (waits : I → Type 0) where
  pub begins : Balanced at waits [] (hand 64 [] [] ∷ [])
  begins = (refl, (λ h. refl), idle_set (hand 64 [] [] ∷ []) 0 (hand 64 [] []) (λ none. absurd (omega (arith, none))) only, All-nil waits)
    where
      only : IdleIsEmpty (hand 64 [] [] ∷ [])
      only zero v e none = absurd (let p = ap (λ (y : Hand). y.parts) (some-injective _ v e) in omega arith)
      only (suc j) v e none = absurd (some-ne-none v (sym e))

  pub puts : (n port : ℕ) (v : Hand) (x : I) → 0 < v.parts → waits x → Pushes (Balanced at waits) n port v x (λ w. w ≡ hand v.parts (v.put ++ at x ∷ []) v.taken)
  puts n port v x some_part idle items views room b here =
      let w = hand v.parts (v.put ++ at x ∷ []) v.taken in (
        w,
        (
          (let s = weigh_set (λ u. u.parts) views port v w here in let p = b.0 in omega arith),
          (λ h.
              let s = weigh_set (λ u. weigh h u.put) views port v w here in
              let t = weigh_set (λ u. weigh h u.taken) views port v w here in
              let p = b.1 h in
              omega (arith, weigh-append h v.put (at x ∷ []), weigh-append (λ i. h (at i)) items (x ∷ []))),
          idle_set views port w (λ none. absurd (omega arith)) b.2,
          All_snoc waits (items ++ x ∷ []) items x refl b.3 idle,
        ),
        refl,
      )

  pub takes : (port : ℕ) (v : Hand) → 0 < v.parts → Pops (Balanced at waits) port v (λ x w. (w ≡ hand v.parts v.put (v.taken ++ at x ∷ [])) × waits x)
  takes port v some_part x items views b here =
      let w = hand v.parts v.put (v.taken ++ at x ∷ []) in (
        w,
        (
          (let s = weigh_set (λ u. u.parts) views port v w here in let p = b.0 in omega arith),
          (λ h.
              let s = weigh_set (λ u. weigh h u.put) views port v w here in
              let t = weigh_set (λ u. weigh h u.taken) views port v w here in
              let p = b.1 h in
              omega (arith, weigh-append h v.taken (at x ∷ []))),
          idle_set views port w (λ none. absurd (omega arith)) b.2,
          All_rest waits x items b.3,
        ),
        (refl, All_first waits x items b.3),
      )

  pub learns : (port : ℕ) (v : Hand) → v.parts ≡ 64 → Learns (Balanced at waits) port v (λ items. (h : ℕ → ℕ) → weigh h v.put ≡ weigh h v.taken + weigh (λ i. h (at i)) items)
  learns port v all items views b here h =
      let put = alone (λ u. weigh h u.put) (λ u. u.parts) views port v here (b.0 ∙ sym all) (λ j u e none. ap (weigh h) (b.2 j u e none).0) in
      let taken = alone (λ u. weigh h u.taken) (λ u. u.parts) views port v here (b.0 ∙ sym all) (λ j u e none. ap (weigh h) (b.2 j u e none).1) in
      let p = b.1 h in
      omega arith

  pub takes_all : (port : ℕ) (v : Hand) → v.parts ≡ 64 → Pops (Balanced at waits) port v (λ x w. (w ≡ hand v.parts v.put (v.taken ++ at x ∷ [])) × ((h : ℕ → ℕ) → weigh h w.taken ≤ weigh h w.put) × waits x)
  unfolding takes
  takes_all port v all x items views b here =
      let t = takes port v (omega arith) x items views b here in
      (t.0, t.1, (refl, (λ h. let l = learns port v all (x ∷ items) views b here h in omega (arith, weigh-append h v.taken (at x ∷ []))), All_first waits x items b.3))

  pub forks : (port : ℕ) (v : Hand) → 1 < v.parts → Forks (Balanced at waits) port v (hand (v.parts - 1) v.put v.taken) (hand 1 [] [])
  forks port v some_parts items views b here =
      let l = hand (v.parts - 1) v.put v.taken in
      let r = hand 1 [] [] in (
        (let s = weigh_set (λ u. u.parts) views port v l here in let p = b.0 in omega (arith, weigh-append (λ (u : Hand). u.parts) (set views port l) (r ∷ []))),
        (λ h.
            let s = weigh_set (λ u. weigh h u.put) views port v l here in
            let t = weigh_set (λ u. weigh h u.taken) views port v l here in
            let p = b.1 h in
            omega (arith, weigh-append (λ (u : Hand). weigh h u.put) (set views port l) (r ∷ []), weigh-append (λ (u : Hand). weigh h u.taken) (set views port l) (r ∷ []))),
        idle_snoc (set views port l) r (omega arith) (idle_set views port l (λ none. absurd (omega arith)) b.2),
        b.3,
      )

  pub merges : (port : ℕ) (v : Hand) (other : ℕ) (u : Hand) → 0 < v.parts
      → Merges (Balanced at waits) port v other u (hand (v.parts + u.parts) (v.put ++ u.put) (v.taken ++ u.taken)) (hand 0 [] [])
  merges port v other u some_part items views b here two there =
      let w = hand (v.parts + u.parts) (v.put ++ u.put) (v.taken ++ u.taken) in
      let z = hand 0 [] [] in
      let vs = set views port w in (
        (let s = weigh_set (λ y. y.parts) views port v w here in let t = weigh_set (λ y. y.parts) vs other u z there in let p = b.0 in omega arith),
        (λ h.
            let s = weigh_set (λ y. weigh h y.put) views port v w here in
            let s2 = weigh_set (λ y. weigh h y.put) vs other u z there in
            let t = weigh_set (λ y. weigh h y.taken) views port v w here in
            let t2 = weigh_set (λ y. weigh h y.taken) vs other u z there in
            let p = b.1 h in
            omega (arith, weigh-append h v.put u.put, weigh-append h v.taken u.taken)),
        idle_set vs other z (λ none. (refl, refl)) (idle_set views port w (λ none. absurd (omega arith)) b.2),
        b.3,
      )

module _ {I : Type 0} (at : I → ℕ) where
  -- one is taken and kept
  pub kept : (v w : Hand) (items now : List I) (x y : I) → w ≡ hand v.parts v.put (v.taken ++ at x ∷ []) → now ≡ items ++ y ∷ [] → at y ≡ at x → Keeps at v items → Keeps at w now
  kept v w items now x y took grew same keeps h =
      let t = ap (λ (u : Hand). weigh h u.taken) took in
      let p = ap (λ (u : Hand). weigh h u.put) took in
      let g = ap (weigh (λ i. h (at i))) grew in
      let e = ap h same in
      let k = keeps h in
      omega (arith, weigh-append h v.taken (at x ∷ []), weigh-append (λ i. h (at i)) items (y ∷ []))

  -- one is taken and put again
  pub moved : (v w z : Hand) (items : List I) (x y : I) → w ≡ hand v.parts v.put (v.taken ++ at x ∷ []) → z ≡ hand w.parts (w.put ++ at y ∷ []) w.taken → at y ≡ at x → Keeps at v items
      → Keeps at z items
  moved v w z items x y took gave same keeps h =
      let t = ap (λ (u : Hand). weigh h u.taken) took in
      let p = ap (λ (u : Hand). weigh h u.put) took in
      let t2 = ap (λ (u : Hand). weigh h u.taken) gave in
      let p2 = ap (λ (u : Hand). weigh h u.put) gave in
      let e = ap h same in
      let k = keeps h in
      omega (arith, weigh-append h v.taken (at x ∷ []), weigh-append h w.put (at y ∷ []))

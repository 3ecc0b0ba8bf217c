-- One view is changed.
use Rattle.std.proofs.Common.{◌≡◌, ◌≢◌, ◌⊎◌, ℕ, zero, suc, ◌+◌, ◌≤◌, ◌<◌, List, [], ◌∷◌, ◌++◌, length, set, inl, inr, sym, ◌∙◌, ap, subst, arith}
use native.Mathlib.Decide.{ℕ_discrete}
use mathlib.Core.Option.{some, some-injective, some-ne-none}
use lib.ListN.{get_elem?}
use Rattle.atomic_table.proofs.Lists.{at_set, set_here, set_else, at_longer}
use Rattle.part_table.specs.declared.view.Account.{Account}
use Rattle.part_table.specs.declared.view.View.{View}
use Rattle.part_table.specs.Rule.{IsIn, lefts, Keeps, total_left, Somewhere}

module _ {A : Type 0} where
  pub get_at : (l : List A) (i : ℕ) (a : A) → get_elem? l i ≡ some a → i < length l
  get_at [] i a e = absurd (some-ne-none a (sym e))
  get_at (x ∷ xs) zero a e = omega arith
  get_at (x ∷ xs) (suc i) a e = let h = get_at xs i a e in omega arith

-- an account of joined lists is one of the one or of the other
pub in_either : (xs ys : List Account) (a : Account) → IsIn (xs ++ ys) a → IsIn xs a ⊎ IsIn ys a
in_either [] ys a h = inr h
in_either (x ∷ xs) ys a h = elim h [ inl p ↦ inl (inl p) | inr t ↦ elim (in_either xs ys a t) [ inl l ↦ inl (inr l) | inr r ↦ inr r ] ]

pub in_left : (xs ys : List Account) (a : Account) → IsIn xs a → IsIn (xs ++ ys) a
in_left [] ys a h = absurd h
in_left (x ∷ xs) ys a h = elim h [ inl p ↦ inl p | inr t ↦ inr (in_left xs ys a t) ]

pub in_right : (xs ys : List Account) (a : Account) → IsIn ys a → IsIn (xs ++ ys) a
in_right [] ys a h = h
in_right (x ∷ xs) ys a h = inr (in_right xs ys a h)

pub lefts-append : (xs ys : List Account) → lefts (xs ++ ys) ≡ lefts xs + lefts ys
lefts-append [] ys = omega arith
lefts-append (x ∷ xs) ys = let h = lefts-append xs ys in omega arith

module _ {T E : Type 0} where
  -- the commits left after a change of one view
  pub total_set : (views : List (View T E)) (id : ℕ) (v w : View T E) → get_elem? views id ≡ some v
      → total_left (set views id w) + lefts v.callers ≡ total_left views + lefts w.callers
  total_set [] id v w at = absurd (some-ne-none v (sym at))
  total_set (x ∷ xs) zero v w at = let e : lefts x.callers ≡ lefts v.callers = ap (λ (q : View T E). lefts q.callers) (some-injective x v at) in omega arith
  total_set (x ∷ xs) (suc id) v w at = let h = total_set xs id v w at in omega arith

  -- one view's part of them
  pub total_at : (views : List (View T E)) (id : ℕ) (v : View T E) → get_elem? views id ≡ some v → lefts v.callers ≤ total_left views
  total_at [] id v at = absurd (some-ne-none v (sym at))
  total_at (x ∷ xs) zero v at = let e : lefts x.callers ≡ lefts v.callers = ap (λ (q : View T E). lefts q.callers) (some-injective x v at) in omega arith
  total_at (x ∷ xs) (suc id) v at = let h = total_at xs id v at in omega arith

  pub total_snoc : (views : List (View T E)) (w : View T E) → total_left (views ++ w ∷ []) ≡ total_left views + lefts w.callers
  total_snoc [] w = omega arith
  total_snoc (v ∷ vs) w = let h = total_snoc vs w in omega arith

  -- a number is kept by one view
  abbrev pub IsKeptOnce : List (View T E) → Type 0
  IsKeptOnce views = (p q : ℕ) (v w : View T E) (b : ℕ) → get_elem? views p ≡ some v → get_elem? views q ≡ some w → Keeps v b → Keeps w b → p ≡ q

  module _ (views : List (View T E)) (id : ℕ) (v w : View T E) (at : get_elem? views id ≡ some v) where
    -- each view was there before, but for the one that changed
    pub before : (a : ℕ) (u : View T E) → get_elem? (set views id w) a ≡ some u → ((a ≡ id) × (w ≡ u)) ⊎ ((a ≢ id) × (get_elem? views a ≡ some u))
    before a u e = at_set views id a w u e

    -- who keeps a number kept it before
    pub keeper : ((b : ℕ) → Keeps w b → Keeps v b) → (a : ℕ) (u : View T E) (b : ℕ) → get_elem? (set views id w) a ≡ some u → Keeps u b
        → (o : View T E) × (get_elem? views a ≡ some o) × Keeps o b
    keeper fewer a u b e k =
        elim (before a u e) [
          | inl t ↦ (v, subst (λ n. get_elem? views n ≡ some v) (sym t.0) at, fewer b (subst (λ (y : View T E). Keeps y b) (sym t.1) k))
          | inr t ↦ (u, t.1, k)
        ]

    pub still_once : ((b : ℕ) → Keeps w b → Keeps v b) → IsKeptOnce views → IsKeptOnce (set views id w)
    still_once fewer one p q x y b xp yq kx ky =
        let c = keeper fewer p x b xp kx in
        let d = keeper fewer q y b yq ky in
        one p q c.0 d.0 b c.1 d.1 c.2 d.2

    -- what is so of all views is so after the change
    pub each_set : (P : ℕ → View T E → Type 0) → P id w → ((a : ℕ) (u : View T E) → a ≢ id → get_elem? views a ≡ some u → P a u)
        → (a : ℕ) (u : View T E) → get_elem? (set views id w) a ≡ some u → P a u
    each_set P mine others a u e =
        elim (before a u e) [
          | inl t ↦ subst (P a) t.1 (subst (λ n. P n w) (sym t.0) mine)
          | inr t ↦ others a u t.0 t.1
        ]

    -- what is so of some view is so of one after the change
    pub somewhere_set : (Q R : View T E → Type 0) → (Q v → R w) → ((u : View T E) → Q u → R u) → Somewhere Q views → Somewhere R (set views id w)
    somewhere_set Q R mine others o = by (ℕ_discrete o.0 id)
      where
        by : Dec (o.0 ≡ id) → Somewhere R (set views id w)
        by (yes e) =
            let same : o.1 ≡ v = some-injective o.1 v (sym o.2 ∙ ap (λ n. get_elem? views n) e ∙ at) in
            (id, w, set_here views id w (get_at views id v at), mine (subst Q same o.3))
        by (no ne) = (o.0, o.1, set_else views id o.0 w ne ∙ o.2, others o.1 o.3)

    -- the view that changed is there
    pub here : (R : View T E → Type 0) → R w → Somewhere R (set views id w)
    here R r = (id, w, set_here views id w (get_at views id v at), r)

  -- one more view
  module _ (views : List (View T E)) (w : View T E) where
    pub somewhere_longer : (Q : View T E → Type 0) → Somewhere Q views → Somewhere Q (views ++ w ∷ [])
    somewhere_longer Q o = (o.0, o.1, at_longer views (w ∷ []) o.0 o.1 o.2, o.3)

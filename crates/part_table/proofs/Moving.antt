-- Passes of the tests at the end.
use Rattle.std.proofs.Common.{take, ◌++◌, ◌≡◌, ℕ, zero, suc, ◌+◌, ◌<◌, List, [], ◌∷◌, length, slice_get, None, Some, refl, sym, ◌∙◌, ap, subst, arith}
use Rattle.part_table.specs.Amounts.{AreInOrder}
use Rattle.part_table.specs.Closing.{AreAllIdle}
use Rattle.part_table.specs.Gathered.{AreAll, HaveGathered}
use Rattle.part_table.specs.Held.{held_at}
use Rattle.part_table.specs.Known.{Known, Opened, HoldsNothing}
use Rattle.part_table.proofs.Hands.{nothing_held}

module _ {E : Type 0} where
  held_nowhere : (p : Known ℕ E) → HoldsNothing p → (part : ℕ) → held_at p.taken part ≡ None
  held_nowhere p idle part = ap (λ l. held_at l part) idle.0 ∙ nothing_held ℕ (length p.table.opening) part

  order_at : (table : Opened ℕ) (from : ℕ) (passes : List (Known ℕ E)) → AreInOrder table from passes → (i : ℕ) (p : Known ℕ E) → slice_get passes i ≡ Some p
      → (p.table ≡ table) × (p.by ≡ from + i) × ((part : ℕ) → held_at p.taken part ≡ None)
  order_at table from [] h i p at = absurd (cc at)
  order_at table from (q ∷ passes) h zero p at =
      let same : q ≡ p = cc at in
      let here : from ≡ from + 0 = omega arith in
      subst (λ (k : Known ℕ E). (k.table ≡ table) × (k.by ≡ from + 0) × ((part : ℕ) → held_at k.taken part ≡ None)) same (h.0, h.1 ∙ here, held_nowhere q h.2)
  order_at table from (q ∷ passes) h (suc i) p at =
      let r = order_at table (from + 1) passes h.3 i p at in
      let n : from + 1 + i ≡ from + suc i = omega arith in
      (r.0, r.1 ∙ n, r.2)

  pub all_in_order : (table : Opened ℕ) (passes : List (Known ℕ E)) → length passes ≡ table.callers → AreInOrder table 0 passes → AreAll table passes
  all_in_order table passes count h = record { count = count; each = λ i p at. (let t = order_at table 0 passes h i p at in (t.0, t.1 ∙ (let z : 0 + i ≡ i = omega arith in z))) }

  there : (l : List (Known ℕ E)) (i : ℕ) → i < length l → (p : Known ℕ E) × (slice_get l i ≡ Some p)
  there [] i lt = absurd (omega arith)
  there (x ∷ xs) zero lt = (x, refl)
  there (x ∷ xs) (suc i) lt = there xs i (omega arith)

  within : (l : List (Known ℕ E)) (i : ℕ) (p : Known ℕ E) → slice_get l i ≡ Some p → i < length l
  within [] i p e = absurd (cc e)
  within (x ∷ xs) zero p e = omega arith
  within (x ∷ xs) (suc i) p e = let h = within xs i p e in omega arith

  pub idle_gathered : (may_make : ℕ → E → Type 0) (table : Opened ℕ) (before after : List (Known ℕ E)) (k : ℕ) (common : List (ℕ × E)) → length before ≡ table.callers → AreInOrder table 0 before
      → HaveGathered may_make before after k common → AreAllIdle table after
  idle_gathered may_make table before after k common count h g =
      let same = g.same in record {
        count = g.same ∙ count;
        all = λ c lt.
            let p = there before c (omega arith) in
            let q = g.kept c p.0 p.1 in
            let t = order_at table 0 before h c p.0 p.1 in
            (c, q.0, q.1, ap (λ (r : Known ℕ E). r.by) q.2 ∙ t.1 ∙ (let z : 0 + c ≡ c = omega arith in z));
        each = λ i q at.
            let lt = within after i q at in
            let p = there before i (omega arith) in
            let r = g.kept i p.0 p.1 in
            let t = order_at table 0 before h i p.0 p.1 in
            let is : r.0 ≡ q = (let e : Some r.0 ≡ Some q = sym r.1 ∙ at in cc e) in
            (sym (ap (λ (x : Known ℕ E). x.table) is) ∙ ap (λ (x : Known ℕ E). x.table) r.2 ∙ t.0, (λ part. sym (ap (λ (x : Known ℕ E). held_at x.taken part) is) ∙ ap (λ (x : Known ℕ E). held_at x.taken part) r.2 ∙ t.2 part));
      }

take_front : {X : Type 0} (front more : List X) → take (length front) (front ++ more) ≡ front
take_front [] more = refl
take_front (x ∷ front) more = ap (λ l. x ∷ l) (take_front front more)

pub take_as_many : {X : Type 0} (front more : List X) (n : ℕ) → n ≡ length front → front ≡ take n (front ++ more)
take_as_many front more n e = sym (ap (λ k. take k (front ++ more)) e ∙ take_front front more)

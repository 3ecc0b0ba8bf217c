-- Passes that gather, and those with which a device begins.
use Rattle.std.specs.Prelude.{◌≡◌, ℕ, zero, suc, ◌+◌, ◌<◌, List, [], ◌∷◌, length, map, slice_get, None, Some, refl}
use Rattle.std.proofs.Common.{sym, ◌∙◌, ap, subst, arith}
use Rattle.std.specs.List.{range_with_len}
use Rattle.part_table.specs.Closing.{AreAllIdle}
use Rattle.part_table.specs.Gathered.{AreAll, HaveGathered}
use Rattle.part_table.specs.Held.{held_at}
use Rattle.part_table.specs.Known.{Opened, HoldsNothing, newcomer}
use Rattle.part_table.proofs.Hands.{nothing_held}
use Rattle.step_parts.specs.declared.part.Part.{Part}
use Rattle.mms_device.specs.Callers.{AreInOrder}
use Rattle.mms_device.specs.Making.{MayMake}
use Rattle.mms_device.specs.Shared.{Caller, History}

pub newcomers : (table : Opened Part) (from n : ℕ) → AreInOrder table from (map (newcomer table) (range_with_len from n))
newcomers table from zero = tt
newcomers table from (suc n) = (refl, refl, (refl, refl, refl), newcomers table (from + 1) n)

held_nowhere : (p : Caller) → HoldsNothing p → (part : ℕ) → held_at p.taken part ≡ None
held_nowhere p idle part = ap (λ l. held_at l part) idle.0 ∙ nothing_held Part (length p.table.opening) part

order_at : (table : Opened Part) (from : ℕ) (passes : List (Caller)) → AreInOrder table from passes → (i : ℕ) (p : Caller) → slice_get passes i ≡ Some p
    → (p.table ≡ table) × (p.by ≡ from + i) × ((part : ℕ) → held_at p.taken part ≡ None)
order_at table from [] h i p at = absurd (cc at)
order_at table from (q ∷ passes) h zero p at =
    let same : q ≡ p = cc at in
    let here : from ≡ from + 0 = omega arith in
    subst (λ (k : Caller). (k.table ≡ table) × (k.by ≡ from + 0) × ((part : ℕ) → held_at k.taken part ≡ None)) same (h.0, h.1 ∙ here, held_nowhere q h.2)
order_at table from (q ∷ passes) h (suc i) p at =
    let r = order_at table (from + 1) passes h.3 i p at in
    let n : from + 1 + i ≡ from + suc i = omega arith in
    (r.0, r.1 ∙ n, r.2)

pub all_in_order : (table : Opened Part) (passes : List (Caller)) → length passes ≡ table.callers → AreInOrder table 0 passes → AreAll table passes
all_in_order table passes count h = record { count = count; each = λ i p at. (let t = order_at table 0 passes h i p at in (t.0, t.1 ∙ (let z : 0 + i ≡ i = omega arith in z))) }

there : (l : List (Caller)) (i : ℕ) → i < length l → (p : Caller) × (slice_get l i ≡ Some p)
there [] i lt = absurd (omega arith)
there (x ∷ xs) zero lt = (x, refl)
there (x ∷ xs) (suc i) lt = there xs i (omega arith)

within : (l : List (Caller)) (i : ℕ) (p : Caller) → slice_get l i ≡ Some p → i < length l
within [] i p e = absurd (cc e)
within (x ∷ xs) zero p e = omega arith
within (x ∷ xs) (suc i) p e = let h = within xs i p e in omega arith

pub idle_gathered : (table : Opened Part) (before after : List (Caller)) (k : ℕ) (common : History) → length before ≡ table.callers → AreInOrder table 0 before
    → HaveGathered MayMake before after k common → AreAllIdle table after
idle_gathered table before after k common count h g =
    let same = g.same in record {
      count = g.same ∙ count;
      all = λ c lt.
          let p = there before c (omega arith) in
          let q = g.kept c p.0 p.1 in
          let t = order_at table 0 before h c p.0 p.1 in
          (c, q.0, q.1, ap (λ (r : Caller). r.by) q.2 ∙ t.1 ∙ (let z : 0 + c ≡ c = omega arith in z));
      each = λ i q at.
          let lt = within after i q at in
          let p = there before i (omega arith) in
          let r = g.kept i p.0 p.1 in
          let t = order_at table 0 before h i p.0 p.1 in
          let is : r.0 ≡ q = (let e : Some r.0 ≡ Some q = sym r.1 ∙ at in cc e) in
          (sym (ap (λ (x : Caller). x.table) is) ∙ ap (λ (x : Caller). x.table) r.2 ∙ t.0, (λ part. sym (ap (λ (x : Caller). held_at x.taken part) is) ∙ ap (λ (x : Caller). held_at x.taken part) r.2 ∙ t.2 part));
    }

-- A transition at its place among others.
use Rattle.std.proofs.Common.{◌≡◌, ◌∙◌, ap, sym, refl, ℕ, zero, suc, ◌<◌, ◌≤◌, Bool, true, false, true≢false, List, [], ◌∷◌, get_or, length, if◌then◌else◌, arith}
use Rattle.std.specs.List.{AllByRecursion, insert}
use Rattle.std.specs.List.Sorted.{IsPartitionPoint, IsPartitionedBy}
use Rattle.mms_types.specs.declared.condition.Turned.{Turned}
use Rattle.event_cond.specs.Skips.{IsInOrder, turns_sooner, with_turn}
use Rattle.event_cond.proofs.Soonest.{ranks}

each_at : (P : Turned → Type 0) (ys : List Turned) (j : ℕ) (d : Turned) → AllByRecursion P ys → j < length ys → P (get_or ys j d)
each_at P [] j d all low = absurd (omega (arith, low))
each_at P (y ∷ ys) zero d all low = all.0
each_at P (y ∷ ys) (suc j) d all low = each_at P ys j d all.1 (omega (arith, low))

pub parted : (x : Turned) (ys : List Turned) → IsInOrder ys → IsPartitionedBy (λ y. turns_sooner y x) ys
parted x [] o i j d le low h = absurd (omega (arith, low))
parted x (y ∷ ys) o zero zero d le low h = h
parted x (y ∷ ys) o zero (suc j) d le low h = by_test (turns_sooner y x) refl
  where
    by_test : (b : Bool) → turns_sooner y x ≡ b → turns_sooner y x ≡ true
    by_test true t = t
    by_test false t =
        let z = get_or ys j d in
        let not_before : turns_sooner z y ≡ false = each_at (λ w. turns_sooner w y ≡ false) ys j d o.0 (omega (arith, low)) in
        absurd (true≢false (sym h ∙ ranks.chain (z.at, z.condition) (y.at, y.condition) (x.at, x.condition) not_before t))
parted x (y ∷ ys) o (suc i) zero d le low h = absurd (omega (arith, le))
parted x (y ∷ ys) o (suc i) (suc j) d le low h = parted x ys o.1 i j d (omega (arith, le)) (omega (arith, low)) h

pub placed : (x : Turned) (ys : List Turned) (k : ℕ) → k ≤ length ys → IsPartitionPoint (λ y. turns_sooner y x ≡ true) (λ y. turns_sooner y x ≡ false) ys k → insert ys k x ≡ with_turn x ys
placed x [] zero le p = refl
placed x [] (suc k) le p = absurd (omega (arith, le))
placed x (y ∷ ys) zero le p = sym (ap (λ (b : Bool). if b then y ∷ with_turn x ys else x ∷ y ∷ ys) (p.1 zero y (omega arith) (omega arith)))
placed x (y ∷ ys) (suc k) le p =
    ap (λ l. y ∷ l) (placed x ys k (omega (arith, le)) (
      λ i d low high. p.0 (suc i) d (omega arith) (omega (arith, high)),
      λ i d low high. p.1 (suc i) d (omega (arith, low)) (omega (arith, high)),
    ))
    ∙ sym (ap (λ (b : Bool). if b then y ∷ with_turn x ys else x ∷ y ∷ ys) (p.0 zero y (omega arith) (omega arith)))

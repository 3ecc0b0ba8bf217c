-- Transitions in order.
use Rattle.std.proofs.Common.{◌≡◌, ◌∙◌, ap, sym, refl, ◌≤◌, Bool, true, false, cond, nat_lt, ◌==◌, List, [], ◌∷◌, filter, if◌then◌else◌, arith}
use Rattle.std.proofs.lemmas.Bool.Decides.{nat_tests}
use Rattle.std.specs.List.{AllByRecursion}
use Rattle.std.specs.Ordering.{is_lt, ordering_then}
use Rattle.std.specs.declared.cmp.Ordering.TheVariants.{Less, Equal, Greater}
use Rattle.mms_types.specs.Order.{key_order}
use Rattle.mms_types.specs.declared.condition.Turned.{Turned}
use Rattle.mms_types.specs.declared.key.Key.{Key}
use Rattle.mms_types.specs.declared.moment.Moment.{Moment}
use Rattle.event_cond.specs.Evaluations.{sooner}
use Rattle.event_cond.specs.Skips.{IsInOrder, in_order, turns_sooner, with_turn}
use Rattle.event_cond.proofs.Soonest.{ranks}

-- what comes not before another has no earlier moment
pub no_earlier : (x e : Moment × Key) → sooner x e ≡ false → e.0.0 ≤ x.0.0
no_earlier x e h = by_test (nat_lt x.0.0 e.0.0) refl h
  where
    by_test : (b : Bool) → nat_lt x.0.0 e.0.0 ≡ b → is_lt (ordering_then (cond b Less (cond (x.0.0 == e.0.0) Equal Greater)) (key_order x.1 e.1)) ≡ false → e.0.0 ≤ x.0.0
    by_test true t k = absurd cc
    by_test false t k = grind (arith, nat_tests)

-- ---- in order

-- each passes
abbrev pub Each : (Turned → Type 0) → List Turned → Type 0
Each = AllByRecursion

pub each_with : (P : Turned → Type 0) (x : Turned) (ys : List Turned) → P x → Each P ys → Each P (with_turn x ys)
each_with P x [] h all = (h, tt)
each_with P x (y ∷ ys) h all = by_test (turns_sooner y x) (each_with P x ys h all.1)
  where
    by_test : (b : Bool) → Each P (with_turn x ys) → Each P (if b then y ∷ with_turn x ys else x ∷ y ∷ ys)
    by_test true rest = (all.0, rest)
    by_test false rest = (h, all)

pub each_in_order : (P : Turned → Type 0) (xs : List Turned) → Each P xs → Each P (in_order xs)
each_in_order P [] all = tt
each_in_order P (x ∷ xs) all = each_with P x (in_order xs) all.0 (each_in_order P xs all.1)

each_chained : (x y : Turned) (ys : List Turned) → turns_sooner y x ≡ false → Each (λ z. turns_sooner z y ≡ false) ys → Each (λ z. turns_sooner z x ≡ false) ys
each_chained x y [] h all = tt
each_chained x y (z ∷ ys) h all = (ranks.chain (z.at, z.condition) (y.at, y.condition) (x.at, x.condition) all.0 h, each_chained x y ys h all.1)

ordered_with : (x : Turned) (ys : List Turned) → IsInOrder ys → IsInOrder (with_turn x ys)
ordered_with x [] o = (tt, tt)
ordered_with x (y ∷ ys) o = by_test (turns_sooner y x) refl (ordered_with x ys o.1)
  where
    by_test : (b : Bool) → turns_sooner y x ≡ b → IsInOrder (with_turn x ys) → IsInOrder (if b then y ∷ with_turn x ys else x ∷ y ∷ ys)
    by_test true t rest = (each_with (λ z. turns_sooner z y ≡ false) x ys (ranks.one_way (y.at, y.condition) (x.at, x.condition) t) o.0, rest)
    by_test false t rest = ((t, each_chained x y ys t o.0), o)

pub ordered : (xs : List Turned) → IsInOrder (in_order xs)
ordered [] = tt
ordered (x ∷ xs) = ordered_with x (in_order xs) (ordered xs)

-- the first of all comes first
pub with_first : (x : Turned) (ys : List Turned) → Each (λ y. turns_sooner y x ≡ false) ys → with_turn x ys ≡ x ∷ ys
with_first x [] all = refl
with_first x (y ∷ ys) all = ap (λ (b : Bool). if b then y ∷ with_turn x ys else x ∷ y ∷ ys) all.0

-- one that comes after the first
pub with_second : (x y : Turned) (ys : List Turned) → turns_sooner y x ≡ true → with_turn x (y ∷ ys) ≡ y ∷ with_turn x ys
with_second x y ys t = ap (λ (b : Bool). if b then y ∷ with_turn x ys else x ∷ y ∷ ys) t

-- ---- some of them

module _ (p : Turned → Bool) where
  filtered_each : (P : Turned → Type 0) (xs : List Turned) → Each P xs → Each P (filter p xs)
  filtered_each P [] all = tt
  filtered_each P (x ∷ xs) all = by_test (p x) (filtered_each P xs all.1)
    where
      by_test : (b : Bool) → Each P (filter p xs) → Each P (cond b (x ∷ filter p xs) (filter p xs))
      by_test true rest = (all.0, rest)
      by_test false rest = rest

  passes : (x : Turned) (xs : List Turned) → p x ≡ true → filter p (x ∷ xs) ≡ x ∷ filter p xs
  passes x xs t = ap (λ (b : Bool). cond b (x ∷ filter p xs) (filter p xs)) t

  fails : (x : Turned) (xs : List Turned) → p x ≡ false → filter p (x ∷ xs) ≡ filter p xs
  fails x xs t = ap (λ (b : Bool). cond b (x ∷ filter p xs) (filter p xs)) t

  with_one_that_passes : (x : Turned) → p x ≡ true → (ys : List Turned) → IsInOrder ys → filter p (with_turn x ys) ≡ with_turn x (filter p ys)
  with_one_that_passes x t [] o = passes x [] t
  with_one_that_passes x q (y ∷ ys) o = by_order (turns_sooner y x) refl (with_one_that_passes x q ys o.1)
    where
      by_order : (b : Bool) → turns_sooner y x ≡ b → filter p (with_turn x ys) ≡ with_turn x (filter p ys)
          → filter p (if b then y ∷ with_turn x ys else x ∷ y ∷ ys) ≡ with_turn x (filter p (y ∷ ys))
      by_order true t rest = by_test (p y) refl
        where
          by_test : (a : Bool) → p y ≡ a → filter p (y ∷ with_turn x ys) ≡ with_turn x (filter p (y ∷ ys))
          by_test true u = passes y (with_turn x ys) u ∙ ap (λ l. y ∷ l) rest ∙ sym (with_second x y (filter p ys) t) ∙ ap (with_turn x) (sym (passes y ys u))
          by_test false u = fails y (with_turn x ys) u ∙ rest ∙ ap (with_turn x) (sym (fails y ys u))
      by_order false t rest =
          passes x (y ∷ ys) q ∙ sym (with_first x (filter p (y ∷ ys)) (filtered_each (λ z. turns_sooner z x ≡ false) (y ∷ ys) (t, each_chained x y ys t o.0)))

  with_one_that_fails : (x : Turned) → p x ≡ false → (ys : List Turned) → filter p (with_turn x ys) ≡ filter p ys
  with_one_that_fails x q [] = fails x [] q
  with_one_that_fails x q (y ∷ ys) = by_order (turns_sooner y x) (with_one_that_fails x q ys)
    where
      by_order : (b : Bool) → filter p (with_turn x ys) ≡ filter p ys → filter p (if b then y ∷ with_turn x ys else x ∷ y ∷ ys) ≡ filter p (y ∷ ys)
      by_order true rest = ap (λ l. cond (p y) (y ∷ l) l) rest
      by_order false rest = fails x (y ∷ ys) q

  pub filtered : (xs : List Turned) → filter p (in_order xs) ≡ in_order (filter p xs)
  filtered [] = refl
  filtered (x ∷ xs) = by_test (p x) refl (filtered xs)
    where
      by_test : (b : Bool) → p x ≡ b → filter p (in_order xs) ≡ in_order (filter p xs) → filter p (with_turn x (in_order xs)) ≡ in_order (cond b (x ∷ filter p xs) (filter p xs))
      by_test true t rest = with_one_that_passes x t (in_order xs) (ordered xs) ∙ ap (with_turn x) rest
      by_test false t rest = with_one_that_fails x t (in_order xs) ∙ rest

-- One condition is changed, row by row.
use Rattle.std.proofs.Common.{◌≡◌, ◌∙◌, ap, sym, subst, refl, Bool, true, false, true≢false, cond, [], ◌∷◌, map, Option, None, Some}
use Rattle.std.specs.Option.{option_map_or}
use Rattle.std.specs.List.{AllByRecursion}
use Rattle.std.specs.Map.{lookup, set_value}
use Rattle.mms_types.specs.KeyLaws.{keys_equal}
use Rattle.mms_types.specs.Order.{key_eq}
use Rattle.mms_types.specs.declared.key.Key.{Key}
use Rattle.event_cond.specs.Conditions.{Rows, changed, named}
use Rattle.event_cond.specs.declared.condition.Condition.{Condition}

module _ (key : Key) (f : Condition → Condition) where
  -- here
  pub hit : (row : Key × Condition) (rows : Rows) → key_eq key row.0 ≡ true → changed key f (row ∷ rows) ≡ (row.0, f row.1) ∷ rows
  hit row rows t =
      ap (λ (b : Bool). option_map_or (λ c. cond b ((row.0, f c) ∷ rows) (row ∷ set_value (key_eq key) rows (f c))) (cond b (Some row.1) (lookup (key_eq key) rows)) (row ∷ rows)) t

  -- further on
  pub miss : (row : Key × Condition) (rows : Rows) → key_eq key row.0 ≡ false → changed key f (row ∷ rows) ≡ row ∷ changed key f rows
  miss row rows t =
      ap (λ (b : Bool). option_map_or (λ c. cond b ((row.0, f c) ∷ rows) (row ∷ set_value (key_eq key) rows (f c))) (cond b (Some row.1) (lookup (key_eq key) rows)) (row ∷ rows)) t
      ∙ by_found (lookup (key_eq key) rows)
    where
      by_found : (o : Option Condition) → option_map_or (λ c. row ∷ set_value (key_eq key) rows (f c)) o (row ∷ rows) ≡ row ∷ option_map_or (λ c. set_value (key_eq key) rows (f c)) o rows
      by_found None = refl
      by_found (Some c) = refl

pub found_here : (key : Key) (row : Key × Condition) (rows : Rows) → key_eq key row.0 ≡ true → named key (row ∷ rows) ≡ Some row.1
found_here key row rows t = ap (λ (b : Bool). cond b (Some row.1) (lookup (key_eq key) rows)) t

pub found_later : (key : Key) (row : Key × Condition) (rows : Rows) → key_eq key row.0 ≡ false → named key (row ∷ rows) ≡ named key rows
found_later key row rows t = ap (λ (b : Bool). cond b (Some row.1) (lookup (key_eq key) rows)) t

-- what does not tell the change
pub mapped : {B : Type 0} (g : Key × Condition → B) (key : Key) (f : Condition → Condition) (c : Condition) → ((k : Key) → g (k, f c) ≡ g (k, c))
    → (rows : Rows) → named key rows ≡ Some c → map g (changed key f rows) ≡ map g rows
mapped g key f c same [] is = refl
mapped g key f c same (row ∷ rows) is = by_test (key_eq key row.0) refl (mapped g key f c same rows)
  where
    by_test : (b : Bool) → key_eq key row.0 ≡ b → (named key rows ≡ Some c → map g (changed key f rows) ≡ map g rows) → map g (changed key f (row ∷ rows)) ≡ map g (row ∷ rows)
    by_test true t rest =
        let here : row.1 ≡ c = cc (sym (found_here key row rows t) ∙ is) in
        let told : g (row.0, f row.1) ≡ g row = ap (λ (x : Condition). g (row.0, f x)) here ∙ same row.0 ∙ ap (λ (x : Condition). g (row.0, x)) (sym here) in
        ap (map g) (hit key f row rows t) ∙ ap (λ x. x ∷ map g rows) told
    by_test false t rest = ap (map g) (miss key f row rows t) ∙ ap (λ l. g row ∷ l) (rest (sym (found_later key row rows t) ∙ is))

-- what the one that is changed keeps, all keep
pub kept : (P : Key × Condition → Type 0) (key : Key) (f : Condition → Condition) (c : Condition) → ((k : Key) → P (k, c) → P (k, f c))
    → (rows : Rows) → named key rows ≡ Some c → AllByRecursion P rows → AllByRecursion P (changed key f rows)
kept P key f c keeps [] is all = tt
kept P key f c keeps (row ∷ rows) is all = by_test (key_eq key row.0) refl (kept P key f c keeps rows)
  where
    by_test : (b : Bool) → key_eq key row.0 ≡ b → (named key rows ≡ Some c → AllByRecursion P rows → AllByRecursion P (changed key f rows)) → AllByRecursion P (changed key f (row ∷ rows))
    by_test true t rest =
        let here : c ≡ row.1 = cc (sym is ∙ found_here key row rows t) in
        subst (AllByRecursion P) (sym (hit key f row rows t)) (subst (λ (x : Condition). P (row.0, f x)) here (keeps row.0 (subst (λ (x : Condition). P (row.0, x)) (sym here) all.0)), all.1)
    by_test false t rest = subst (AllByRecursion P) (sym (miss key f row rows t)) (all.0, rest (sym (found_later key row rows t) ∙ is) all.1)

-- ---- two of different names

module _ (one other : Key) (apart : key_eq one other ≡ false) where
  not_both : {A : Type 0} (k : Key) → key_eq one k ≡ true → key_eq other k ≡ true → A
  not_both k a b = absurd (true≢false (sym b ∙ keys_equal.symm other k ∙ sym (keys_equal.congr one k other a) ∙ apart))

  pub named_still : (f : Condition → Condition) (rows : Rows) → named other (changed one f rows) ≡ named other rows
  named_still f [] = refl
  named_still f (row ∷ rows) = by_test (key_eq one row.0) refl (named_still f rows)
    where
      by_test : (b : Bool) → key_eq one row.0 ≡ b → named other (changed one f rows) ≡ named other rows → named other (changed one f (row ∷ rows)) ≡ named other (row ∷ rows)
      by_test true t rest = by_other (key_eq other row.0) refl
        where
          by_other : (d : Bool) → key_eq other row.0 ≡ d → named other (changed one f (row ∷ rows)) ≡ named other (row ∷ rows)
          by_other true s = not_both row.0 t s
          by_other false s = ap (named other) (hit one f row rows t) ∙ found_later other (row.0, f row.1) rows s ∙ sym (found_later other row rows s)
      by_test false t rest = ap (named other) (miss one f row rows t) ∙ ap (λ o. cond (key_eq other row.0) (Some row.1) o) rest

  pub commute : (f g : Condition → Condition) (rows : Rows) → changed other g (changed one f rows) ≡ changed one f (changed other g rows)
  commute f g [] = refl
  commute f g (row ∷ rows) = by_tests (key_eq one row.0) refl (key_eq other row.0) refl (commute f g rows)
    where
      by_tests : (a : Bool) → key_eq one row.0 ≡ a → (b : Bool) → key_eq other row.0 ≡ b → changed other g (changed one f rows) ≡ changed one f (changed other g rows)
          → changed other g (changed one f (row ∷ rows)) ≡ changed one f (changed other g (row ∷ rows))
      by_tests true t true s rest = not_both row.0 t s
      by_tests true t false s rest =
          ap (changed other g) (hit one f row rows t) ∙ miss other g (row.0, f row.1) rows s ∙ sym (hit one f row (changed other g rows) t) ∙ ap (changed one f) (sym (miss other g row rows s))
      by_tests false t true s rest =
          ap (changed other g) (miss one f row rows t) ∙ hit other g row (changed one f rows) s ∙ sym (miss one f (row.0, g row.1) rows t) ∙ ap (changed one f) (sym (hit other g row rows s))
      by_tests false t false s rest =
          ap (changed other g) (miss one f row rows t) ∙ miss other g row (changed one f rows) s ∙ ap (λ l. row ∷ l) rest
          ∙ sym (miss one f row (changed other g rows) t) ∙ ap (changed one f) (sym (miss other g row rows s))

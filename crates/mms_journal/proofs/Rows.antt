-- A journal that is changed leaves the others, and their number.
use Rattle.std.proofs.Common.{◌≡◌, ◌≤◌, ap, subst, sym, refl, suc, Bool, true, false, cond, List, [], ◌∷◌, length}
use Rattle.std.specs.Map.{set_value}
use Rattle.mms_types.specs.Order.{key_eq}
use Rattle.mms_types.specs.declared.key.Key.{Key}

same_length : {X : Type 0} (key : Key) (rows : List (Key × X)) (x : X) → length (set_value (key_eq key) rows x) ≡ length rows
same_length key [] x = refl
same_length key (row ∷ rows) x = by_name (key_eq key row.0) (same_length key rows x)
  where
    by_name : (b : Bool) → length (set_value (key_eq key) rows x) ≡ length rows
        → length (cond b ((row.0, x) ∷ rows) (row ∷ set_value (key_eq key) rows x)) ≡ suc (length rows)
    by_name true rest = refl
    by_name false rest = ap suc rest

pub still_many : {X : Type 0} (key : Key) (rows : List (Key × X)) (x : X) → length rows ≤ 64 → length (set_value (key_eq key) rows x) ≤ 64
still_many key rows x few = subst (λ n. n ≤ 64) (sym (same_length key rows x)) few

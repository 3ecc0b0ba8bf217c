-- Names that are distinct stay so where one goes.
use Rattle.std.proofs.Common.{◌≡◌, Bool, true, false, cond, List, [], ◌∷◌}
use Rattle.std.specs.List.{AllByRecursion, IsDistinct}
use Rattle.std.specs.Map.{keys_of, remove_entry}
use Rattle.std.proofs.lemmas.Map.Keys.{IsDistinct-cons, IsDistinct-head, IsDistinct-tail}

module _ {K T : Type 0} (eq : K → K → Bool) where
  apart_removed : (k : K) (test : K → Bool) (rows : List (K × T)) → AllByRecursion (λ y. eq k y ≡ false) (keys_of rows) → AllByRecursion (λ y. eq k y ≡ false) (keys_of (remove_entry test rows))
  apart_removed k test [] apart = tt
  apart_removed k test (row ∷ rows) apart = by_test (test row.0) (apart_removed k test rows apart.1)
    where
      by_test : (b : Bool) → AllByRecursion (λ y. eq k y ≡ false) (keys_of (remove_entry test rows)) → AllByRecursion (λ y. eq k y ≡ false) (keys_of (cond b rows (row ∷ remove_entry test rows)))
      by_test true rest = apart.1
      by_test false rest = (apart.0, rest)

  pub distinct_removed : (test : K → Bool) (rows : List (K × T)) → IsDistinct eq (keys_of rows) → IsDistinct eq (keys_of (remove_entry test rows))
  distinct_removed test [] are = are
  distinct_removed test (row ∷ rows) are = by_test (test row.0) (distinct_removed test rows (IsDistinct-tail eq row.0 (keys_of rows) are))
    where
      by_test : (b : Bool) → IsDistinct eq (keys_of (remove_entry test rows)) → IsDistinct eq (keys_of (cond b rows (row ∷ remove_entry test rows)))
      by_test true rest = IsDistinct-tail eq row.0 (keys_of rows) are
      by_test false rest = IsDistinct-cons eq row.0 (keys_of (remove_entry test rows)) (apart_removed row.0 test rows (IsDistinct-head eq row.0 (keys_of rows) are)) rest

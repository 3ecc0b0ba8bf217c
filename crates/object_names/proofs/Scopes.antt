-- Rows are taken out by their scope, and rows of distinct names are copied one after the other.
use Rattle.std.proofs.Common.{◌≡◌, ◌∙◌, ◌++◌, ap, sym, subst, refl, Bool, false, cond, None, Some, List, [], ◌∷◌}
use Rattle.std.specs.List.{IsDistinct, AllByRecursion}
use Rattle.std.specs.Map.{lookup, keys_of}
use Rattle.mms_types.specs.declared.key.Key.{Key}
use Rattle.mms_types.specs.Order.{key_eq}
use Rattle.mms_types.specs.KeyLaws.{keys_equal}

module _ {T : Type 0} where
  other_name : (key : Key) (front rest : List (Key × T)) (row : Key × T) → AllByRecursion (λ other. key_eq key other ≡ false) (keys_of (front ++ row ∷ rest))
      → key_eq row.0 key ≡ false
  other_name key [] rest row all = keys_equal.symm row.0 key ∙ all.0
  other_name key (r ∷ front) rest row all = other_name key front rest row all.1

  -- the rows in front of one don't have its name
  pub new_name : (front rest : List (Key × T)) (row : Key × T) → IsDistinct key_eq (keys_of (front ++ row ∷ rest)) → lookup (key_eq row.0) front ≡ None
  unfolding IsDistinct
  new_name [] rest row distinct = refl
  new_name (r ∷ front) rest row distinct =
      ap (λ (b : Bool). cond b (Some r.1) (lookup (key_eq row.0) front)) (other_name r.0 front rest row distinct.0)
      ∙ new_name front rest row distinct.1

  -- and so none of those that are copied does
  pub not_copied : (copied rest all : List (Key × T)) (key : Key) (value : T) → copied ++ (key, value) ∷ rest ≡ all → IsDistinct key_eq (keys_of all)
      → lookup (key_eq key) copied ≡ None
  not_copied copied rest all key value is distinct =
      new_name copied rest (key, value) (subst (λ (l : List (Key × T)). IsDistinct key_eq (keys_of l)) (sym is) distinct)

-- Rows under their names.
use Rattle.std.proofs.Common.{◌≡◌, ◌∙◌, ℕ, Bool, false, cond, List, [], ◌∷◌, ◌++◌, None, Some, ap, refl, subst, sym}
use Rattle.std.proofs.lemmas.Cmp.{nat_list_eq_equiv}
use Rattle.std.specs.List.{AllByRecursion, IsDistinct}
use Rattle.std.specs.Map.{keys_of, lookup}
use Rattle.domain_load.specs.Domains.{name_eq}

module _ {T : Type 0} where
  other_name : (name : List ℕ) (front rest : List (List ℕ × T)) (row : List ℕ × T)
      → AllByRecursion (λ other. name_eq name other ≡ false) (keys_of (front ++ row ∷ rest))
      → name_eq row.0 name ≡ false
  other_name name [] rest row all = nat_list_eq_equiv.symm row.0 name ∙ all.0
  other_name name (r ∷ front) rest row all = other_name name front rest row all.1

  -- the rows in front of one don't have its name
  new_name : (front rest : List (List ℕ × T)) (row : List ℕ × T) → IsDistinct name_eq (keys_of (front ++ row ∷ rest)) → lookup (name_eq row.0) front ≡ None
  unfolding IsDistinct
  new_name [] rest row distinct = refl
  new_name (r ∷ front) rest row distinct =
      ap (λ (b : Bool). cond b (Some r.1) (lookup (name_eq row.0) front)) (other_name r.0 front rest row distinct.0)
      ∙ new_name front rest row distinct.1

  -- and so none of those that are copied does
  pub not_copied : (copied rest all : List (List ℕ × T)) (name : List ℕ) (value : T) → copied ++ (name, value) ∷ rest ≡ all → IsDistinct name_eq (keys_of all)
      → lookup (name_eq name) copied ≡ None
  not_copied copied rest all name value is distinct =
      new_name copied rest (name, value) (subst (λ (l : List (List ℕ × T)). IsDistinct name_eq (keys_of l)) (sym is) distinct)

-- The names of a scope, as a list of names tells them: ISO 9506-2, GetNameList.
use Rattle.std.specs.Prelude.{ℕ, Bool, true, ◌&&◌, List, filter, map, Option, None, Some}
use Rattle.std.specs.Ordering.{is_lt}
use Rattle.mms_types.specs.declared.key.Key.{Key}
use Rattle.mms_types.specs.declared.key.Scope.{Scope}
use Rattle.mms_types.specs.Order.{name_order, scope_eq}
use Rattle.object_names.specs.InOrder.{in_order, inserted}

-- the name comes after that one in order of octets, where there is one
abbrev pub comes_after : Option (List ℕ) → List ℕ → Bool
comes_after None name = true
comes_after (Some before) name = is_lt (name_order before name)

-- the key is of the scope, and its name comes after that one
abbrev pub is_listed : Scope → Option (List ℕ) → Key → Bool
is_listed scope after key = scope_eq key.scope scope && comes_after after key.item

-- names in order of octets with one more at its place
abbrev pub insert_name : List ℕ → List (List ℕ) → List (List ℕ)
insert_name = inserted name_order

-- the names in order of octets
abbrev pub sorted_names : List (List ℕ) → List (List ℕ)
sorted_names = in_order name_order

-- the names of the rows that are listed, in the order of the rows
abbrev pub listed_names : {T : Type 0} → Scope → Option (List ℕ) → List (Key × T) → List (List ℕ)
listed_names scope after rows = map (λ row. row.0.item) (filter (λ row. is_listed scope after row.0) rows)

-- the names of the scope that come after that one, in order of octets
abbrev pub names_after : {T : Type 0} → Scope → Option (List ℕ) → List (Key × T) → List (List ℕ)
names_after scope after rows = sorted_names (listed_names scope after rows)

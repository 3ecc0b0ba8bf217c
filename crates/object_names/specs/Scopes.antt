-- All rows whose names are of one scope (ISO 9506-1, the scope of names).
use Rattle.std.specs.Prelude.{Bool, not, List, filter}
use Rattle.std.specs.List.{list_any}
use Rattle.mms_types.specs.declared.key.Key.{Key}
use Rattle.mms_types.specs.declared.key.Scope.{Scope}
use Rattle.mms_types.specs.Order.{scope_eq}

-- some row has a name of the scope
abbrev pub has_any_of : {T : Type 0} → Scope → List (Key × T) → Bool
has_any_of scope rows = list_any (λ row. scope_eq row.0.scope scope) rows

-- the rows whose names are of other scopes
abbrev pub without_all_of : {T : Type 0} → Scope → List (Key × T) → List (Key × T)
without_all_of scope rows = filter (λ row. not (scope_eq row.0.scope scope)) rows

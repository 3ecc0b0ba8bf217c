-- Which names a deletion selects, and what it makes of a table (ISO 9506-2, DeleteVariableAccess-Request, scopeOfDelete).
use Rattle.std.specs.Prelude.{ℕ, Bool, false, not, ◌&&◌, List, [], ◌∷◌, Option, None, Some, filter, is_none, length, map}
use Rattle.std.specs.List.{list_any}
use Rattle.std.specs.Map.{lookup}
use Rattle.mms_types.specs.declared.key.Key.{Key}
use Rattle.mms_types.specs.declared.key.Scope.TheVariants.{Vmd, Domain, Association}
use Rattle.mms_types.specs.declared.object_name.ObjectName.{ObjectName}
use Rattle.mms_types.specs.declared.variable.DeleteNames.{DeleteNames}
use Rattle.mms_types.specs.declared.variable.DeleteScope.{DeleteScope}
use Rattle.mms_types.specs.declared.variable.DeleteScope.TheVariants as scope
use Rattle.mms_types.specs.Order.{key_eq, key_of, scope_eq}

-- one of the names that a client gives
abbrev pub is_listed_by : ℕ → List ObjectName → Key → Bool
is_listed_by client names key = list_any (λ name. key_eq (key_of client name) key) names

-- each name once, in the order of their first mention
abbrev pub once : List Key → List Key
once [] = []
once (key ∷ keys) = key ∷ filter (λ other. not (key_eq key other)) (once keys)

-- the names that a client gives, each once
abbrev pub mentioned : ℕ → List ObjectName → List Key
mentioned client names = once (map (key_of client) names)

-- how many of them have no row
abbrev pub missing_of : {T : Type 0} → List Key → List (Key × T) → ℕ
missing_of keys rows = length (filter (λ key. is_none (lookup (key_eq key) rows)) keys)

abbrev pub missing : {T : Type 0} → ℕ → List ObjectName → List (Key × T) → ℕ
missing client names rows = missing_of (mentioned client names) rows

-- none without the list
abbrev pub is_specific : ℕ → Option (List ObjectName) → Key → Bool
is_specific client None = λ key. false
is_specific client (Some names) = is_listed_by client names

-- none without the domain
abbrev pub is_of_domain : Option (List ℕ) → Key → Bool
is_of_domain None = λ key. false
is_of_domain (Some domain) = λ key. scope_eq (Domain domain) key.scope

-- the names that are listed, all that belong to the client's association, all of a domain, or all of the VMD
abbrev pub selects_in : DeleteScope → ℕ → DeleteNames → Key → Bool
selects_in scope.Specific client asked = is_specific client asked.names
selects_in scope.Association client asked = λ key. scope_eq (Association client) key.scope
selects_in scope.Domain client asked = is_of_domain asked.domain
selects_in scope.Vmd client asked = λ key. scope_eq Vmd key.scope

abbrev pub selects : ℕ → DeleteNames → Key → Bool
selects client asked = selects_in asked.scope client asked

-- ---- what is done to a table, some of whose rows can't be deleted

-- how many rows have one of the names
abbrev pub matched : {T : Type 0} → (Key → Bool) → List (Key × T) → ℕ
matched selected rows = length (filter (λ row. selected row.0) rows)

module _ {T : Type 0} (is_fixed : T → Bool) where
  -- the row has one of the names and can be deleted
  abbrev pub goes : (Key → Bool) → Key × T → Bool
  goes selected row = selected row.0 && not (is_fixed row.1)

  -- how many of them are deleted
  abbrev pub deleted : (Key → Bool) → List (Key × T) → ℕ
  deleted selected rows = length (filter (goes selected) rows)

  -- the rows that are left
  abbrev pub left : (Key → Bool) → List (Key × T) → List (Key × T)
  left selected rows = filter (λ row. not (goes selected row)) rows

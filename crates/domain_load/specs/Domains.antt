-- Domains: what they hold, where they stand, and how one is deleted (ISO 9506-1 and ISO 9506-2, domain management).
use Rattle.std.specs.Prelude.{ℕ, ◌==◌, nat_eq, nat_lt, Bool, true, false, not, ◌||◌, List, [], ◌∷◌, Option, is_some, filter, length, pos}
use Rattle.std.specs.Cmp.Lexicographic.{pointwise}
use Rattle.std.specs.Map.{keys_of, lookup, remove_entry}
use Rattle.std.specs.Option.{option_map, option_map_or}
use Rattle.mms_types.specs.Errors.{first_of, object_non_existent, object_state_conflict, object_constraint_conflict}
use Rattle.mms_types.specs.declared.domain.DomainAttributes.{DomainAttributes}
use Rattle.mms_types.specs.declared.service_error.ServiceError.{ServiceError}
use Rattle.object_names.specs.Listing.{comes_after, sorted_names}
use Rattle.domain_load.specs.Segmented.{octets_in}
use Rattle.domain_load.specs.Standing.{is_loaded_by, is_loading, state}
use Rattle.domain_load.specs.declared.domain.Domain.{Domain}

-- the domains under their names, in the order in which their loads began
abbrev pub Rows : Type 0
Rows = List (List ℕ × Domain)

abbrev pub name_eq : List ℕ → List ℕ → Bool
name_eq = pointwise nat_eq

-- the domain of that name: none where it is missing
abbrev pub named : List ℕ → Rows → Option Domain
named name rows = lookup (name_eq name) rows

-- the domain of that name is there, and is so
abbrev pub is_there : (Domain → Bool) → List ℕ → Rows → Bool
is_there p name rows = option_map_or p (named name rows) false

-- ---- what it holds

-- how many octets it has: the sum of its segments
abbrev pub octets : Domain → ℕ
octets domain = octets_in domain.segments

-- ---- GetNameList

-- the names that come after that one, in order of octets
abbrev pub names_after : Option (List ℕ) → Rows → List (List ℕ)
names_after after rows = sorted_names (filter (comes_after after) (keys_of rows))

-- ---- DeleteDomain

-- no upload of it is open, no invocation has it, and no object has it for its scope
abbrev pub is_held : ℕ → Bool → Domain → Bool
is_held uploads in_scope domain = nat_lt 0 uploads || not (length domain.invocations == 0) || in_scope

-- why a domain is not deleted, with how many uploads of it are open, and whether some object has it for its scope
abbrev pub delete_cause : List ℕ → ℕ → Bool → Rows → Option ServiceError
delete_cause name uploads in_scope rows = first_of (
    (not (is_some (named name rows)), object_non_existent)
    ∷ (is_there is_loading name rows, object_state_conflict)
    ∷ (is_there (is_held uploads in_scope) name rows, object_constraint_conflict)
    ∷ [])

abbrev pub without : List ℕ → Rows → Rows
without name rows = remove_entry (name_eq name) rows

-- ---- GetDomainAttributes

-- what a domain is, with how many uploads of it are open; whatever a client made can be deleted
abbrev pub attributes_of : ℕ → Domain → DomainAttributes
attributes_of uploads domain = record {
  capabilities = domain.capabilities;
  state = state domain;
  deletable = true;
  sharable = domain.sharable;
  invocations = sorted_names domain.invocations;
  uploads = pos uploads;
}

abbrev pub attributes : List ℕ → ℕ → Rows → Option DomainAttributes
attributes name uploads rows = option_map (attributes_of uploads) (named name rows)

-- ---- loss

-- a client that is lost takes the domains with it that it loads
abbrev pub without_loads : ℕ → Rows → Rows
without_loads client rows = filter (λ row. not (is_loaded_by client row.1)) rows

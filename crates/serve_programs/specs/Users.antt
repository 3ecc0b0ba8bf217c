-- Domains, and the program invocations that name them (ISO 9506-1, program invocation management).
use Rattle.std.specs.Prelude.{◌≡◌, ◌≢◌, ◌≤◌, ℕ, Bool, true, false, List, [], Some, filter, length}
use Rattle.std.specs.List.{IsDistinct, list_any}
use Rattle.std.specs.Map.{keys_of}
use Rattle.object_names.specs.Listing.{sorted_names}
use Rattle.domain_load.specs.Domains.{Rows as DomainRows, is_there, name_eq}
use Rattle.domain_load.specs.Domains as loaded
use Rattle.domain_load.specs.Standing.{is_live}
use Rattle.domain_load.specs.declared.domain.Domain.{Domain}
use Rattle.program_inv.specs.Programs.{Rows}
use Rattle.program_inv.specs.declared.invocation.Invocation.{Invocation}

-- the invocation names the domain
abbrev pub is_of : List ℕ → List ℕ × Invocation → Bool
is_of domain row = list_any (name_eq domain) row.1.domains

-- the names of the invocations that name a domain, in order of octets
abbrev pub users_of : List ℕ → Rows → List (List ℕ)
users_of domain rows = sorted_names (keys_of (filter (is_of domain) rows))

-- No two invocations have one name. The names that a domain has are those of the invocations that name it. Each domain that an invocation names is there and isn't LOADING, and one that isn't for several
-- has one name at most. So a domain is IN-USE exactly where an invocation names it.
pub record AreUsed (domains : DomainRows) (programs : Rows) : Type 0 where
  pub apart : IsDistinct name_eq (keys_of programs)
  pub names : (name : List ℕ) (d : Domain) → loaded.named name domains ≡ Some d → d.invocations ≡ users_of name programs
  pub live : (name : List ℕ) → users_of name programs ≢ [] → is_there is_live name domains ≡ true
  pub one : (name : List ℕ) (d : Domain) → loaded.named name domains ≡ Some d → d.sharable ≡ false → length d.invocations ≤ 1

-- Domains and the program invocations that name them, in a state of the device (ISO 9506-1, program invocation
-- management).
use Rattle.std.specs.Prelude.{◌≡◌, ◌≤◌, ℕ, true, false, List, Some, All, filter, length}
use Rattle.std.specs.Map.{keys_of}
use Rattle.object_names.specs.Listing.{sorted_names}
use Rattle.domain_load.specs.Domains.{is_there, named}
use Rattle.domain_load.specs.Standing.{is_live}
use Rattle.domain_load.specs.declared.domain.Domain.{Domain}
use Rattle.serve_programs.specs.Users.{is_of}
use Rattle.step_parts.specs.State.{State}

-- the names that a domain has are those of the invocations that name it, in order of octets
abbrev pub KnowTheirPrograms : State → Type 0
KnowTheirPrograms s = (name : List ℕ) (domain : Domain) → named name s.domains.domains ≡ Some domain → domain.invocations ≡ sorted_names (keys_of (filter (is_of name) s.programs))

-- each domain that an invocation names is READY or IN-USE
abbrev pub HaveTheirDomains : State → Type 0
HaveTheirDomains s = All (λ program. All (λ name. is_there is_live name s.domains.domains ≡ true) program.1.domains) s.programs

-- a domain that isn't for several has one name at most
abbrev pub AreForOne : State → Type 0
AreForOne s = (name : List ℕ) (domain : Domain) → named name s.domains.domains ≡ Some domain → domain.sharable ≡ false → length domain.invocations ≤ 1

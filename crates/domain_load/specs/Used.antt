-- Which program invocations have a domain (ISO 9506-1, program invocation management): it is IN-USE while one has it.
use Rattle.std.specs.Prelude.{◌≡◌, ℕ, ◌==◌, Bool, true, not, ◌&&◌, List, [], ◌∷◌, filter, length}
use Rattle.std.specs.List.{All, IsDistinct, list_any}
use Rattle.object_names.specs.Listing.{insert_name}
use Rattle.domain_load.specs.Domains.{Rows, is_there, name_eq}
use Rattle.domain_load.specs.Loading.{changed}
use Rattle.domain_load.specs.Standing.{is_live}
use Rattle.domain_load.specs.declared.domain.Domain.{Domain}

-- IN-USE, and not for several invocations at a time
abbrev pub is_taken : Domain → Bool
is_taken domain = not domain.sharable && not (length domain.invocations == 0)

-- the invocation has it
abbrev pub is_had_by : List ℕ → Domain → Bool
is_had_by by domain = list_any (λ name. name_eq name by) domain.invocations

-- it is READY, or IN-USE and for several, and the invocation doesn't have it yet
abbrev pub is_free_for : List ℕ → Domain → Bool
is_free_for by domain = is_live domain && not (is_taken domain) && not (is_had_by by domain)

-- each of these domains is there and free for the invocation, and none is named twice
pub record AreFreeFor (by : List ℕ) (names : List (List ℕ)) (rows : Rows) : Type 0 where
  pub each : All (λ name. is_there (is_free_for by) name rows ≡ true) names
  pub once : IsDistinct name_eq names

-- the invocation has it too: its name stands at its place in order of octets
abbrev pub had_by : List ℕ → Domain → Domain
had_by by domain = record domain { invocations = insert_name by domain.invocations }

-- the invocation doesn't have it any more
abbrev pub left_by : List ℕ → Domain → Domain
left_by by domain = record domain { invocations = filter (λ name. not (name_eq name by)) domain.invocations }

-- the domains after an invocation has come to these, and after it has left them
abbrev pub after_used : List (List ℕ) → List ℕ → Rows → Rows
after_used [] by rows = rows
after_used (name ∷ names) by rows = after_used names by (changed name (had_by by) rows)

abbrev pub after_unused : List (List ℕ) → List ℕ → Rows → Rows
after_unused [] by rows = rows
after_unused (name ∷ names) by rows = after_unused names by (changed name (left_by by) rows)

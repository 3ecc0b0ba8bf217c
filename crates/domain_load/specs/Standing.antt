-- Where a domain stands (ISO 9506-2, DomainState): told from who loads it and who has it.
use Rattle.std.specs.Prelude.{ℕ, ◌==◌, Bool, false, not, List, [], ◌∷◌, Option, None, Some, is_some}
use Rattle.std.specs.Option.{option_map_or}
use Rattle.mms_types.specs.declared.domain.DomainState.{DomainState}
use Rattle.mms_types.specs.declared.domain.DomainState.TheVariants as at
use Rattle.domain_load.specs.declared.domain.Domain.{Domain}

-- a client loads it; or some program invocation has it; or neither
abbrev pub state_by : Option ℕ → List (List ℕ) → DomainState
state_by (Some client) invocations = at.Loading
state_by None [] = at.Ready
state_by None (name ∷ names) = at.InUse

abbrev pub state : Domain → DomainState
state domain = state_by domain.loader domain.invocations

-- LOADING
abbrev pub is_loading : Domain → Bool
is_loading domain = is_some domain.loader

-- READY or IN-USE
abbrev pub is_live : Domain → Bool
is_live domain = not (is_loading domain)

-- that client loads it
abbrev pub is_loaded_by : ℕ → Domain → Bool
is_loaded_by client domain = option_map_or (λ loader. loader == client) domain.loader false

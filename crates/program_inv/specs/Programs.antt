-- Program invocations: how they are made, commanded and deleted (ISO 9506-1 and ISO 9506-2, program invocation management).
use Rattle.std.specs.Prelude.{ℕ, nat_le, Bool, true, false, not, ◌||◌, if◌then◌else◌, List, [], ◌∷◌, ◌++◌, Option, None, Some, is_some, filter, length}
use Rattle.std.specs.List.{list_any}
use Rattle.std.specs.Map.{keys_of, lookup, remove_entry, set_value}
use Rattle.std.specs.Option.{option_map, option_map_or, unwrap_or}
use Rattle.mms_types.specs.Errors.{first_of, capability_unavailable, object_constraint_conflict, object_exists, object_non_existent, object_state_conflict}
use Rattle.mms_types.specs.InvocationStates.{state_refuses}
use Rattle.mms_types.specs.declared.invocation.CreateProgramInvocation.{CreateProgramInvocation}
use Rattle.mms_types.specs.declared.invocation.InvocationAttributes.{InvocationAttributes}
use Rattle.mms_types.specs.declared.invocation.InvocationState.{InvocationState}
use Rattle.mms_types.specs.declared.invocation.InvocationState.TheVariants.{Unrunnable, Idle, Running, Stopped}
use Rattle.mms_types.specs.declared.invocation.RunProgram.{RunProgram}
use Rattle.mms_types.specs.declared.service_error.ServiceError.{ServiceError}
use Rattle.object_names.specs.Listing.{comes_after, sorted_names}
use Rattle.domain_load.specs.Domains.{is_there, name_eq}
use Rattle.domain_load.specs.Domains as domains
use Rattle.domain_load.specs.Standing.{is_loading}
use Rattle.domain_load.specs.Used.{is_taken}
use Rattle.program_inv.specs.Table.{ended, next}
use Rattle.program_inv.specs.declared.command.Command.{Command}
use Rattle.program_inv.specs.declared.command.Command.TheVariants as bid
use Rattle.program_inv.specs.declared.invocation.Invocation.{Invocation}

-- the invocations under their names, in the order in which they were made
abbrev pub Rows : Type 0
Rows = List (List ℕ × Invocation)

-- the invocation of that name: none where it is missing
abbrev pub named : List ℕ → Rows → Option Invocation
named name rows = lookup (name_eq name) rows

-- the invocation of that name is changed so, where it is there, and all others are as before
abbrev pub changed : List ℕ → (Invocation → Invocation) → Rows → Rows
changed name f rows = option_map_or (λ p. set_value (name_eq name) rows (f p)) (named name rows) rows

-- ---- GetNameList

-- the names that come after that one, in order of octets
abbrev pub names_after : Option (List ℕ) → Rows → List (List ℕ)
names_after after rows = sorted_names (filter (comes_after after) (keys_of rows))

-- ---- CreateProgramInvocation

-- the most invocations (this profile's limit)
abbrev pub most_programs : ℕ
most_programs = 256

-- a name stands twice among them
abbrev pub names_twice : List (List ℕ) → Bool
names_twice [] = false
names_twice (name ∷ names) = list_any (name_eq name) names || names_twice names

-- one of the domains is named twice, or is IN-USE and not for several
abbrev pub has_clash : List (List ℕ) → domains.Rows → Bool
has_clash names ds = names_twice names || list_any (λ name. is_there is_taken name ds) names

-- why no invocation is made: each cause is looked for among all its domains before the next one
abbrev pub create_cause : CreateProgramInvocation → domains.Rows → Rows → Option ServiceError
create_cause request ds rows = first_of (
    (is_some (named request.name rows), object_exists)
    ∷ (list_any (λ name. not (is_some (domains.named name ds))) request.domains, object_non_existent)
    ∷ (list_any (λ name. is_there is_loading name ds) request.domains, object_state_conflict)
    ∷ (has_clash request.domains ds, object_constraint_conflict)
    ∷ (nat_le most_programs (length rows), capability_unavailable)
    ∷ [])

-- an invocation that is new
abbrev pub made : CreateProgramInvocation → Invocation
made request = record { domains = request.domains; reusable = request.reusable; state = Idle; argument = [] }

abbrev pub after_create : CreateProgramInvocation → Rows → Rows
after_create request rows = rows ++ (request.name, made request) ∷ []

-- ---- DeleteProgramInvocation: it isn't running

abbrev pub is_state_running : InvocationState → Bool
is_state_running Unrunnable = false
is_state_running Idle = false
is_state_running Running = true
is_state_running Stopped = false

abbrev pub is_running : Invocation → Bool
is_running p = is_state_running p.state

abbrev pub delete_cause : List ℕ → Rows → Option ServiceError
delete_cause name rows = first_of (
    (not (is_some (named name rows)), object_non_existent)
    ∷ (option_map_or is_running (named name rows) false, object_state_conflict)
    ∷ [])

abbrev pub after_delete : List ℕ → Rows → Rows
after_delete name rows = remove_entry (name_eq name) rows

-- ---- Start, Stop, Resume, Reset and Kill

-- what is told of a command that the state refuses: the state, but not with Kill
abbrev pub refusal : Command → InvocationState → ServiceError
refusal bid.Start state = state_refuses 1 state
refusal bid.Stop state = state_refuses 2 state
refusal bid.Resume state = state_refuses 3 state
refusal bid.Reset state = state_refuses 4 state
refusal bid.Kill state = object_state_conflict

abbrev pub state_cause : Command → Invocation → Option ServiceError
state_cause command p = if is_some (next command p.reusable p.state) then None else Some (refusal command p.state)

-- why a command isn't followed
abbrev pub command_cause : Command → List ℕ → Rows → Option ServiceError
command_cause command name rows = option_map_or (state_cause command) (named name rows) (Some object_non_existent)

-- the invocation after a command: as before where its state refuses
abbrev pub commanded : Command → Invocation → Invocation
commanded command p = option_map_or (λ state. record p { state = state }) (next command p.reusable p.state) p

abbrev pub after_command : Command → List ℕ → Rows → Rows
after_command command name rows = changed name (commanded command) rows

-- the invocation is told something
abbrev pub told : List ℕ → Invocation → Invocation
told text p = record p { argument = text }

-- Start: the empty text where nothing is said
abbrev pub after_start : RunProgram → Rows → Rows
after_start request rows = changed request.name (λ p. told (unwrap_or request.argument []) (commanded bid.Start p)) rows

-- Resume: what it was told before where nothing is said
abbrev pub after_resume : RunProgram → Rows → Rows
after_resume request rows = changed request.name (λ p. told (unwrap_or request.argument p.argument) (commanded bid.Resume p)) rows

-- ---- an invocation ends by itself: one that isn't there doesn't

abbrev pub after_ends : List ℕ → Rows → Rows
after_ends name rows = changed name (λ p. record p { state = ended p.reusable p.state }) rows

-- ---- GetProgramInvocationAttributes

-- whatever a client made can be deleted, and nothing watches it
abbrev pub attributes_of : Invocation → InvocationAttributes
attributes_of p = record {
  state = p.state;
  domains = p.domains;
  deletable = true;
  reusable = p.reusable;
  monitor = false;
  argument = p.argument;
}

abbrev pub attributes : List ℕ → Rows → Option InvocationAttributes
attributes name rows = option_map attributes_of (named name rows)

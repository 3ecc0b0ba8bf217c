-- Program invocations (ISO 9506-2, program invocation management).
use Rattle.std.specs.Prelude.{◌≡◌, ℕ, ◌&&◌, nat_le, Bool, true, List, [], ◌∷◌, get_or, length, refl}
use Rattle.ber_forms.specs.Form.{from_to, are_visible}
use Rattle.mms_types.specs.InvocationStates.{invocation_state_number}
use Rattle.mms_types.specs.declared.invocation.CreateProgramInvocation.{CreateProgramInvocation}
use Rattle.mms_types.specs.declared.invocation.InvocationAttributes.{InvocationAttributes}
use Rattle.mms_types.specs.declared.invocation.InvocationState.{InvocationState}
use Rattle.mms_types.specs.declared.invocation.InvocationState.TheVariants.{Unrunnable, Idle, Running, Stopped}
use Rattle.mms_types.specs.declared.invocation.RunProgram.{RunProgram}
use Rattle.pdu_names.specs.Names.{identifier, identifiers, own_identifier}
use Rattle.pdu_names.specs.Kinds.{Kind, boolean, natural, octets, of_one, visible_string, context, list_of, sequence, required, optional, defaulted, no_more}

-- 1 to 16 names (this profile's choice)
abbrev pub some_domains : Kind (List (List ℕ))
some_domains = list_of (from_to 1 16) own_identifier

-- CreateProgramInvocation-Request: programInvocationName, listOfDomainNames and reusable, TRUE where it is absent
abbrev pub create_program : Kind CreateProgramInvocation
create_program = sequence (
    required (context 0 identifier) (λ x. x.name) (
    required (context 1 some_domains) (λ x. x.domains) (
    defaulted (context 2 boolean) true (λ x. x.reusable) no_more)))
    (λ name domains reusable. record { name = name; domains = domains; reusable = reusable }) (λ x. refl)

abbrev pub is_argument : List ℕ → Bool
is_argument text = are_visible text && nat_le (length text) 255

-- a VisibleString of at most 255 octets (this profile's choice)
abbrev pub argument : Kind (List ℕ)
argument = octets is_argument

-- Start- and Resume-Request: programInvocationName, and executionArgument
abbrev pub run_program : Kind RunProgram
run_program = sequence (
    required (context 0 identifier) (λ x. x.name) (
    optional (context 1 argument) (λ x. x.argument) no_more))
    (λ name argument. record { name = name; argument = argument }) (λ x. refl)

-- Stop-, Reset- and Kill-Request: programInvocationName
abbrev pub named_program : Kind (List ℕ)
named_program = sequence (required (context 0 identifier) (λ name. name) no_more) (λ name. name) (λ x. refl)

abbrev state_numbered : ℕ → InvocationState
state_numbered n = get_or (Unrunnable ∷ Unrunnable ∷ Idle ∷ Running ∷ []) n Stopped

pub state_again : (s : InvocationState) → state_numbered (invocation_state_number s) ≡ s
state_again Unrunnable = refl
state_again Idle = refl
state_again Running = refl
state_again Stopped = refl

-- state: unrunnable 1, idle 2, running 3, stopped 4; the others aren't seen (this profile's choice)
abbrev pub invocation_state : Kind InvocationState
invocation_state = of_one (natural 1 4) invocation_state_number state_numbered state_again

-- GetProgramInvocationAttributes-Response: state, listOfDomainNames, mmsDeletable, reusable, monitor and executionArgument, which is written where it is
-- empty too
abbrev pub invocation_attributes : Kind InvocationAttributes
invocation_attributes = sequence (
    required (context 0 invocation_state) (λ x. x.state) (
    required (context 1 identifiers) (λ x. x.domains) (
    required (context 2 boolean) (λ x. x.deletable) (
    required (context 3 boolean) (λ x. x.reusable) (
    required (context 4 boolean) (λ x. x.monitor) (
    required (context 5 visible_string) (λ x. x.argument) no_more))))))
    (λ state domains deletable reusable monitor argument.
    record { state = state; domains = domains; deletable = deletable; reusable = reusable; monitor = monitor; argument = argument })
    (λ x. refl)

-- Worked examples of program invocations: the whole table of states, and what each service tells and does, typed by hand.
use Rattle.std.specs.Prelude.{◌≡◌, ℕ, Bool, true, false, List, [], ◌∷◌, map, replicate, Option, Some, None}
use Rattle.std.proofs.Common.{refl}
use Rattle.mms_types.specs.Errors.{capability_unavailable, object_constraint_conflict, object_exists, object_non_existent, object_state_conflict}
use Rattle.mms_types.specs.InvocationStates.{state_refuses}
use Rattle.mms_types.specs.declared.invocation.InvocationState.{InvocationState}
use Rattle.mms_types.specs.declared.invocation.InvocationState.TheVariants.{Unrunnable, Idle, Running, Stopped}
use Rattle.domain_load.specs.declared.domain.Domain.{Domain}
use Rattle.domain_load.specs.Domains as loads
use Rattle.program_inv.specs.Table.{ended, next}
use Rattle.program_inv.specs.Programs.{Rows, after_command, after_create, after_delete, after_ends, after_resume, after_start, attributes, command_cause, create_cause, delete_cause, names_after}
use Rattle.program_inv.specs.declared.command.Command.{Command}
use Rattle.program_inv.specs.declared.command.Command.TheVariants.{Start, Stop, Resume, Reset, Kill}
use Rattle.program_inv.specs.declared.invocation.Invocation.{Invocation}

-- a function answers each row of a table with its second column
abbrev Answers : {A B : Type 0} → (A → B) → List (A × B) → Type 0
Answers f table = map (λ row. f row.0) table ≡ map (λ row. row.1) table

-- ---- the table: each state by each column, reusable or not

abbrev both : (Bool → InvocationState → Option InvocationState) → InvocationState → Option InvocationState × Option InvocationState
both f state = (f true state, f false state)

starts : Answers (both (next Start)) ((Idle, (Some Running, Some Running)) ∷ (Running, (None, None)) ∷ (Stopped, (None, None)) ∷ (Unrunnable, (None, None)) ∷ [])
starts = refl

stops : Answers (both (next Stop)) ((Idle, (None, None)) ∷ (Running, (Some Stopped, Some Stopped)) ∷ (Stopped, (None, None)) ∷ (Unrunnable, (None, None)) ∷ [])
stops = refl

resumes : Answers (both (next Resume)) ((Idle, (None, None)) ∷ (Running, (None, None)) ∷ (Stopped, (Some Running, Some Running)) ∷ (Unrunnable, (None, None)) ∷ [])
resumes = refl

resets : Answers (both (next Reset)) ((Idle, (None, None)) ∷ (Running, (None, None)) ∷ (Stopped, (Some Idle, Some Unrunnable)) ∷ (Unrunnable, (None, None)) ∷ [])
resets = refl

kills : Answers (both (next Kill)) (
    (Idle, (Some Unrunnable, Some Unrunnable)) ∷
    (Running, (Some Unrunnable, Some Unrunnable)) ∷
    (Stopped, (Some Unrunnable, Some Unrunnable)) ∷
    (Unrunnable, (None, None)) ∷
    [])
kills = refl

abbrev over : InvocationState → InvocationState × InvocationState
over state = (ended true state, ended false state)

ends : Answers over (
    (Idle, (Idle, Idle)) ∷
    (Running, (Idle, Unrunnable)) ∷
    (Stopped, (Stopped, Stopped)) ∷
    (Unrunnable, (Unrunnable, Unrunnable)) ∷
    [])
ends = refl

-- ---- domains and invocations

-- "A", "D", "E", "L", "P" and "X", of which the last is missing
abbrev a : List ℕ
a = 65 ∷ []

abbrev d : List ℕ
d = 68 ∷ []

abbrev e : List ℕ
e = 69 ∷ []

abbrev l : List ℕ
l = 76 ∷ []

abbrev p : List ℕ
p = 80 ∷ []

abbrev x : List ℕ
x = 88 ∷ []

abbrev domain : Bool → Option ℕ → List (List ℕ) → Domain
domain sharable loader names = record { capabilities = []; sharable = sharable; loader = loader; segments = []; invocations = names }

-- D is sharable, E is not, and L is LOADING; P has D and these have E
abbrev held : List (List ℕ) → loads.Rows
held names = (d, domain true None (p ∷ [])) ∷ (e, domain false None names) ∷ (l, domain true (Some 2) []) ∷ []

abbrev is : InvocationState → Bool → List ℕ → Invocation
is state reusable text = record { domains = d ∷ []; reusable = reusable; state = state; argument = text }

-- P alone, in a state
abbrev one : InvocationState → Bool → List ℕ → Rows
one state reusable text = (p, is state reusable text) ∷ []

-- ---- CreateProgramInvocation

-- each cause alone, and each pair of causes: the first is told, whatever domain it is of
causes : Answers (λ (asked : List ℕ × List (List ℕ) × List (List ℕ) × Rows). create_cause (record { name = asked.0; domains = asked.1; reusable = true }) (held asked.2) asked.3) (
    ((p, d ∷ [], [], []), None) ∷
    ((p, e ∷ d ∷ [], [], []), None) ∷
    ((p, d ∷ [], [], one Idle true []), Some object_exists) ∷
    ((a, x ∷ [], [], one Idle true []), Some object_non_existent) ∷
    ((a, l ∷ [], [], one Idle true []), Some object_state_conflict) ∷
    ((a, d ∷ d ∷ [], [], one Idle true []), Some object_constraint_conflict) ∷
    ((a, e ∷ [], p ∷ [], one Idle true []), Some object_constraint_conflict) ∷
    ((a, d ∷ [], p ∷ [], replicate 255 (p, is Idle true [])), None) ∷
    ((a, d ∷ [], p ∷ [], replicate 256 (p, is Idle true [])), Some capability_unavailable) ∷
    ((p, x ∷ [], [], one Idle true []), Some object_exists) ∷
    ((p, l ∷ [], [], one Idle true []), Some object_exists) ∷
    ((p, d ∷ d ∷ [], [], one Idle true []), Some object_exists) ∷
    ((p, d ∷ [], [], replicate 256 (p, is Idle true [])), Some object_exists) ∷
    ((a, l ∷ x ∷ [], [], one Idle true []), Some object_non_existent) ∷
    ((a, e ∷ x ∷ [], p ∷ [], one Idle true []), Some object_non_existent) ∷
    ((a, d ∷ d ∷ x ∷ [], [], one Idle true []), Some object_non_existent) ∷
    ((a, x ∷ [], [], replicate 256 (p, is Idle true [])), Some object_non_existent) ∷
    ((a, e ∷ l ∷ [], p ∷ [], one Idle true []), Some object_state_conflict) ∷
    ((a, d ∷ d ∷ l ∷ [], [], one Idle true []), Some object_state_conflict) ∷
    ((a, l ∷ [], [], replicate 256 (p, is Idle true [])), Some object_state_conflict) ∷
    ((a, e ∷ [], p ∷ [], replicate 256 (p, is Idle true [])), Some object_constraint_conflict) ∷
    [])
causes = refl

-- it is the last one, idle, with its domains as given
created : after_create (record { name = a; domains = e ∷ d ∷ []; reusable = false }) (one Running true [])
    ≡ (p, is Running true []) ∷ (a, record { domains = e ∷ d ∷ []; reusable = false; state = Idle; argument = [] }) ∷ []
created = refl

-- ---- DeleteProgramInvocation

delete_causes : Answers (delete_cause p) (
    ([], Some object_non_existent) ∷
    (one Running true [], Some object_state_conflict) ∷
    (one Idle true [], None) ∷
    (one Stopped true [], None) ∷
    (one Unrunnable true [], None) ∷
    [])
delete_causes = refl

deleted : after_delete p ((a, is Idle true []) ∷ (p, is Idle true []) ∷ []) ≡ (a, is Idle true []) ∷ []
deleted = refl

-- ---- commands

-- the state that refuses is told, but not with Kill; one that is missing has none
refused : Answers (λ (asked : Command × Rows). command_cause asked.0 p asked.1) (
    ((Start, []), Some object_non_existent) ∷
    ((Kill, []), Some object_non_existent) ∷
    ((Start, one Idle true []), None) ∷
    ((Start, one Unrunnable true []), Some (state_refuses 1 Unrunnable)) ∷
    ((Stop, one Idle true []), Some (state_refuses 2 Idle)) ∷
    ((Resume, one Running true []), Some (state_refuses 3 Running)) ∷
    ((Reset, one Idle true []), Some (state_refuses 4 Idle)) ∷
    ((Kill, one Unrunnable true []), Some object_state_conflict) ∷
    [])
refused = refl

-- class service, object-state-conflict, with the numbers of Stop and of stopped
numbers : state_refuses 2 Stopped ≡ record { class = 4; code = 2; info = Some (record { kind = 2; state = 4 }) }
numbers = refl

abbrev text : List ℕ
text = 65 ∷ 66 ∷ []

-- a Start without an argument stores the empty text; a Resume without one leaves what is there, and with an empty one doesn't
started : Answers (λ argument. after_start (record { name = p; argument = argument }) (one Idle true text)) (
    (None, one Running true []) ∷
    (Some [], one Running true []) ∷
    (Some (67 ∷ []), one Running true (67 ∷ [])) ∷
    [])
started = refl

resumed : Answers (λ argument. after_resume (record { name = p; argument = argument }) (one Stopped true text)) (
    (None, one Running true text) ∷
    (Some [], one Running true []) ∷
    (Some (67 ∷ []), one Running true (67 ∷ [])) ∷
    [])
resumed = refl

-- the others leave it
commanded_so : Answers (λ (asked : Command × Rows). after_command asked.0 p asked.1) (
    ((Stop, one Running true text), one Stopped true text) ∷
    ((Reset, one Stopped true text), one Idle true text) ∷
    ((Reset, one Stopped false text), one Unrunnable false text) ∷
    ((Kill, one Running true text), one Unrunnable true text) ∷
    ((Stop, one Idle true text), one Idle true text) ∷
    ((Stop, []), []) ∷
    [])
commanded_so = refl

-- ---- an end

ended_so : Answers (after_ends p) (
    (one Running true text, one Idle true text) ∷
    (one Running false text, one Unrunnable false text) ∷
    (one Stopped false text, one Stopped false text) ∷
    ((a, is Running true []) ∷ [], (a, is Running true []) ∷ []) ∷
    [])
ended_so = refl

-- ---- what is told

shown : Answers (attributes p) (
    ([], None) ∷
    (one Idle false text, Some (record { state = Idle; domains = d ∷ []; deletable = true; reusable = false; monitor = false; argument = text })) ∷
    [])
shown = refl

names : Answers (λ after. names_after after ((p, is Idle true []) ∷ (a, is Running true []) ∷ [])) ((None, a ∷ p ∷ []) ∷ (Some a, p ∷ []) ∷ (Some p, []) ∷ [])
names = refl

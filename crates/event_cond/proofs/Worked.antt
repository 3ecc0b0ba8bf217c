-- Worked examples of event conditions: the numbers of transitions, the moments of evaluations, and what each service tells and does, typed by hand.
use Rattle.std.specs.Prelude.{◌≡◌, ℕ, Bool, true, false, List, [], ◌∷◌, map, replicate, Option, Some, None}
use Rattle.std.proofs.Common.{refl}
use Rattle.mms_types.specs.Errors.{capability_unavailable, object_exists, object_non_existent, object_state_conflict, object_undefined, type_inconsistent}
use Rattle.mms_types.specs.declared.condition.AlterEventConditionMonitoring.{AlterEventConditionMonitoring}
use Rattle.mms_types.specs.declared.condition.CellFact.{CellFact}
use Rattle.mms_types.specs.declared.condition.CellFact.TheVariants.{Missing, Other, Found}
use Rattle.mms_types.specs.declared.condition.ConditionState.{ConditionState}
use Rattle.mms_types.specs.declared.condition.ConditionState.TheVariants.{Disabled, Idle, Active}
use Rattle.mms_types.specs.declared.condition.DefineEventCondition.{DefineEventCondition}
use Rattle.mms_types.specs.declared.condition.EventTime.TheVariants as event
use Rattle.mms_types.specs.declared.condition.Monitored.{Monitored as Watched}
use Rattle.mms_types.specs.declared.condition.Turned.{Turned}
use Rattle.mms_types.specs.declared.key.Key.{Key}
use Rattle.mms_types.specs.declared.key.Scope.TheVariants as scope
use Rattle.mms_types.specs.declared.moment.Moment.{Moment}
use Rattle.mms_types.specs.declared.object_name.ObjectName.{ObjectName}
use Rattle.mms_types.specs.declared.object_name.ObjectName.TheVariants as name
use Rattle.mms_types.specs.declared.variable.Spec.TheVariants as spec
use Rattle.event_cond.specs.Conditions.{Rows, after_evaluate, evaluate_told}
use Rattle.object_names.specs.Deletion.{missing, once}
use Rattle.event_cond.specs.Deletion.{after_delete, deletions, without_client}
use Rattle.event_cond.specs.Evaluations.{next_evaluation}
use Rattle.event_cond.specs.Multiples.{least_multiple}
use Rattle.event_cond.specs.Services.{after_alter, after_define, after_trigger, alter_cause, alter_told, define_cause, status, trigger_cause, trigger_told}
use Rattle.event_cond.specs.Transitions.{transition}
use Rattle.event_cond.specs.declared.condition.Condition.{Condition}
use Rattle.event_cond.specs.declared.condition.ConditionClass.{ConditionClass}
use Rattle.event_cond.specs.declared.condition.ConditionClass.TheVariants.{NetworkTriggered, Monitored}
use Rattle.event_cond.specs.declared.condition.Evaluation.{Evaluation}

-- a function answers each row of a table with its second column
abbrev Answers : {A B : Type 0} → (A → B) → List (A × B) → Type 0
Answers f table = map (λ row. f row.0) table ≡ map (λ row. row.1) table

-- ---- transitions, each state by each

transitions : Answers (λ (states : ConditionState × ConditionState). transition states.0 states.1) (
    ((Idle, Disabled), Some 0) ∷
    ((Active, Disabled), Some 1) ∷
    ((Disabled, Idle), Some 2) ∷
    ((Active, Idle), Some 3) ∷
    ((Disabled, Active), Some 4) ∷
    ((Idle, Active), Some 5) ∷
    ((Disabled, Disabled), None) ∷
    ((Idle, Idle), None) ∷
    ((Active, Active), None) ∷
    [])
transitions = refl

-- ---- moments

abbrev at : ℕ → Moment
at ms = record { 0 = ms }

-- before a multiple, at one and after one; 4,294,967,295 milliseconds; across the end of a day, and beyond the last moment that six octets name
multiples : Answers (λ (asked : ℕ × ℕ × ℕ). (least_multiple (at asked.0) asked.1 (at asked.2)).0) (
    ((0, 10, 9), 10) ∷
    ((0, 10, 10), 20) ∷
    ((0, 10, 11), 20) ∷
    ((7, 10, 7), 17) ∷
    ((7, 10, 26), 27) ∷
    ((7, 10, 27), 37) ∷
    ((5, 4294967295, 4294967299), 4294967300) ∷
    ((5, 4294967295, 4294967300), 8589934595) ∷
    ((5, 4294967295, 4294967301), 8589934595) ∷
    ((86399995, 10, 86399999), 86400005) ∷
    ((86399995, 10, 86400005), 86400015) ∷
    ((86390000, 3600000, 86399999), 89990000) ∷
    ((0, 4294967295, 5662310399999), 5665061862105) ∷
    [])
multiples = refl

-- ---- conditions

abbrev vmd : ℕ → Key
vmd octet = record { scope = scope.Vmd; item = octet ∷ [] }

abbrev own : ℕ → ℕ → Key
own client octet = record { scope = scope.Association client; item = octet ∷ [] }

-- "E", "M" and "X", of which the last is missing
abbrev e : ObjectName
e = name.Vmd (69 ∷ [])

abbrev m : ObjectName
m = name.Vmd (77 ∷ [])

abbrev x : ObjectName
x = name.Vmd (88 ∷ [])

abbrev is : ConditionClass → Option Moment → Option Moment → Condition
is class to_active to_idle = record { priority = 64; severity = 80; class = class; to_active = to_active; to_idle = to_idle }

-- defined at 7, it watches cell 3
abbrev watch : ℕ → Option Evaluation → ConditionClass
watch interval evaluation = Monitored (record { cell = 3; interval = interval; defined = at 7; evaluation = evaluation })

abbrev due : Bool → ℕ → Option Evaluation
due is_active next = Some (record { is_active = is_active; next = at next })

-- E is network-triggered, and M is monitored
abbrev both : ConditionClass → Option Moment → Option Moment → Rows
both class to_active to_idle = (vmd 69, is NetworkTriggered None None) ∷ (vmd 77, is class to_active to_idle) ∷ []

abbrev told : Key → ℕ → Option ℕ → ℕ → Turned
told key number state now = record { condition = key; transition = number; severity = 80; state = state; at = at now }

-- ---- DefineEventCondition

abbrev asks : ObjectName → Option Watched → DefineEventCondition
asks name monitored = record { name = name; priority = 64; severity = 80; summary = None; monitored = monitored }

abbrev every : ℕ → Option Watched
every ms = Some (record { variable = spec.Address 3; interval = ms })

-- each cause alone, and pairs of causes: the first is told; one that is network-triggered asks for no cell
causes : Answers (λ (asked : Bool × ObjectName × Option Watched × CellFact × Rows). define_cause asked.0 1 (asks asked.1 asked.2) asked.3 asked.4) (
    ((false, x, every 10, Found 3 true, []), None) ∷
    ((true, name.Domain (68 ∷ []) (88 ∷ []), None, Missing, []), None) ∷
    ((false, name.Domain (68 ∷ []) (88 ∷ []), None, Missing, []), Some object_undefined) ∷
    ((true, m, None, Missing, both (watch 10 None) None None), Some object_exists) ∷
    ((true, x, every 10, Missing, []), Some object_undefined) ∷
    ((true, x, every 10, Other, []), Some type_inconsistent) ∷
    ((true, x, None, Missing, []), None) ∷
    ((true, x, None, Other, []), None) ∷
    ((true, x, None, Missing, replicate 255 (vmd 69, is NetworkTriggered None None)), None) ∷
    ((true, x, None, Missing, replicate 256 (vmd 69, is NetworkTriggered None None)), Some capability_unavailable) ∷
    ((true, m, every 10, Missing, both (watch 10 None) None None), Some object_exists) ∷
    ((true, x, every 10, Missing, replicate 256 (vmd 69, is NetworkTriggered None None)), Some object_undefined) ∷
    ((true, x, every 10, Other, replicate 256 (vmd 69, is NetworkTriggered None None)), Some type_inconsistent) ∷
    [])
causes = refl

-- one that is monitored begins disabled; an interval below 10 is kept as 10
defined : Answers (λ (asked : ℕ). after_define 1 (at 7) (asks m (every asked)) (Found 3 true) []) (
    (0, (vmd 77, is (watch 10 None) None None) ∷ []) ∷
    (9, (vmd 77, is (watch 10 None) None None) ∷ []) ∷
    (10, (vmd 77, is (watch 10 None) None None) ∷ []) ∷
    (11, (vmd 77, is (watch 11 None) None None) ∷ []) ∷
    (4294967295, (vmd 77, is (watch 4294967295 None) None None) ∷ []) ∷
    [])
defined = refl

-- ---- AlterEventConditionMonitoring

abbrev alters : ObjectName → Option Bool → Option ℕ → AlterEventConditionMonitoring
alters name enabled interval = record { name = name; enabled = enabled; priority = None; summary = None; interval = interval }

alter_causes : Answers (λ (asked : ObjectName × Option Bool × Option ℕ). alter_cause 1 (alters asked.0 asked.1 asked.2) (both (watch 10 None) None None)) (
    ((x, None, None), Some object_non_existent) ∷
    ((e, Some true, None), Some object_state_conflict) ∷
    ((e, None, Some 10), Some object_state_conflict) ∷
    ((e, None, None), None) ∷
    ((m, Some true, Some 10), None) ∷
    [])
alter_causes = refl

-- at 26, with what its cell says: enabled, enabled with an interval, enabled again, disabled, disabled again, an interval alone
altered : Answers (λ (asked : Option Bool × Option ℕ × Bool × ConditionClass). after_alter 1 (at 26) asked.2 (alters m asked.0 asked.1) (both asked.3 None None)) (
    ((Some true, None, true, watch 10 None), both (watch 10 (due true 27)) (Some (at 26)) None) ∷
    ((Some true, None, false, watch 10 None), both (watch 10 (due false 27)) None (Some (at 26))) ∷
    ((Some true, Some 12, true, watch 10 None), both (watch 12 (due true 31)) (Some (at 26)) None) ∷
    ((Some true, Some 3, true, watch 12 None), both (watch 10 (due true 27)) (Some (at 26)) None) ∷
    ((Some true, None, true, watch 10 (due false 27)), both (watch 10 (due false 27)) None None) ∷
    ((Some true, Some 12, true, watch 10 (due false 27)), both (watch 12 (due false 31)) None None) ∷
    ((Some false, None, true, watch 10 (due true 27)), both (watch 10 None) None None) ∷
    ((Some false, Some 12, true, watch 10 (due true 27)), both (watch 12 None) None None) ∷
    ((Some false, None, true, watch 10 None), both (watch 10 None) None None) ∷
    ((None, Some 12, true, watch 10 (due true 27)), both (watch 12 (due true 31)) None None) ∷
    ((None, Some 12, true, watch 10 None), both (watch 12 None) None None) ∷
    ((None, None, true, watch 10 (due false 27)), both (watch 10 (due false 27)) None None) ∷
    [])
altered = refl

-- what is told of it
altering : Answers (λ (asked : Option Bool × Bool × ConditionClass). alter_told 1 (at 26) asked.1 (alters m asked.0 None) (both asked.2 None None)) (
    ((Some true, true, watch 10 None), Some (told (vmd 77) 4 (Some 2) 26)) ∷
    ((Some true, false, watch 10 None), Some (told (vmd 77) 2 (Some 1) 26)) ∷
    ((Some true, true, watch 10 (due false 27)), None) ∷
    ((Some false, true, watch 10 (due true 27)), Some (told (vmd 77) 1 (Some 0) 26)) ∷
    ((Some false, true, watch 10 (due false 27)), Some (told (vmd 77) 0 (Some 0) 26)) ∷
    ((Some false, true, watch 10 None), None) ∷
    [])
altering = refl

-- a priority is taken of one that is network-triggered
priority : after_alter 1 (at 26) false (record { name = e; enabled = None; priority = Some 5; summary = Some true; interval = None }) ((vmd 69, is NetworkTriggered None None) ∷ [])
    ≡ (vmd 69, record { priority = 5; severity = 80; class = NetworkTriggered; to_active = None; to_idle = None }) ∷ []
priority = refl

-- all of it or nothing: with whether it is enabled, or an interval, not even its priority
nothing : Answers (λ (asked : Option Bool × Option ℕ). after_alter 1 (at 26) true (record { name = e; enabled = asked.0; priority = Some 5; summary = None; interval = asked.1 })
    ((vmd 69, is NetworkTriggered None None) ∷ [])) (
    ((Some true, None), (vmd 69, is NetworkTriggered None None) ∷ []) ∷
    ((None, Some 10), (vmd 69, is NetworkTriggered None None) ∷ []) ∷
    [])
nothing = refl

-- ---- evaluations

-- at 27: it comes to another state, or its next evaluation alone is set
evaluated : Answers (λ (asked : Bool × Bool). after_evaluate (vmd 77) (at 27) asked.0 (both (watch 10 (due asked.1 27)) (Some (at 17)) (Some (at 7)))) (
    ((true, true), both (watch 10 (due true 37)) (Some (at 17)) (Some (at 7))) ∷
    ((false, true), both (watch 10 (due false 37)) (Some (at 17)) (Some (at 27))) ∷
    ((true, false), both (watch 10 (due true 37)) (Some (at 27)) (Some (at 7))) ∷
    ((false, false), both (watch 10 (due false 37)) (Some (at 17)) (Some (at 7))) ∷
    [])
evaluated = refl

evaluating : Answers (λ (asked : Bool × Bool). evaluate_told (vmd 77) (at 27) asked.0 (both (watch 10 (due asked.1 27)) None None)) (
    ((true, true), None) ∷
    ((false, true), Some (told (vmd 77) 3 (Some 1) 27)) ∷
    ((true, false), Some (told (vmd 77) 5 (Some 2) 27)) ∷
    ((false, false), None) ∷
    [])
evaluating = refl

-- the next of all: by moment, and of one moment by name; none where none is enabled
abbrev three : ℕ → ℕ → ℕ → Rows
three a b c =
    (vmd 77, is (watch 10 (due true a)) None None)
    ∷ (own 1 65, is (watch 10 (due true b)) None None)
    ∷ (vmd 69, is NetworkTriggered None None)
    ∷ (vmd 66, is (watch 10 (due true c)) None None)
    ∷ []

next : Answers (λ (asked : ℕ × ℕ × ℕ). next_evaluation (three asked.0 asked.1 asked.2)) (
    ((17, 27, 37), Some (at 17, vmd 77)) ∷
    ((27, 17, 37), Some (at 17, own 1 65)) ∷
    ((37, 27, 17), Some (at 17, vmd 66)) ∷
    ((17, 17, 17), Some (at 17, vmd 66)) ∷
    ((17, 17, 27), Some (at 17, vmd 77)) ∷
    [])
next = refl

none_next : next_evaluation (both (watch 10 None) None None) ≡ None
none_next = refl

-- ---- TriggerEvent

trigger_causes : Answers (λ asked. trigger_cause 1 asked (both (watch 10 None) None None)) ((x, Some object_non_existent) ∷ (m, Some object_state_conflict) ∷ (e, None) ∷ [])
trigger_causes = refl

-- it was active, and is idle again, both at one moment
triggering : trigger_told 1 (at 9) e (both (watch 10 None) None None) ≡ Some (told (vmd 69) 5 (Some 2) 9 ∷ told (vmd 69) 3 (Some 1) 9 ∷ [])
triggering = refl

triggered : after_trigger 1 (at 9) e ((vmd 69, is NetworkTriggered None None) ∷ []) ≡ (vmd 69, is NetworkTriggered (Some (at 9)) (Some (at 9))) ∷ []
triggered = refl

-- ---- ReportEventConditionStatus

shown : Answers (λ (asked : ObjectName × Rows). status 1 asked.0 2 asked.1) (
    ((x, both (watch 10 None) None None), None) ∷
    ((e, both (watch 10 None) None None), Some (record { state = Idle; enrolments = 2; enabled = true; to_active = event.Undefined; to_idle = event.Undefined })) ∷
    ((m, both (watch 10 None) None None), Some (record { state = Disabled; enrolments = 2; enabled = false; to_active = event.Undefined; to_idle = event.Undefined })) ∷ (
      (m, both (watch 10 (due true 27)) (Some (at 86400010)) None),
      Some (record { state = Active; enrolments = 2; enabled = true; to_active = event.TimeOfDay (record { ms = 10; day = 1 }); to_idle = event.Undefined }),
    ) ∷
    [])
shown = refl

-- ---- DeleteEventCondition

-- enabled or not, each name once, in the order of their first mention; a missing one counts once
abbrev names : List ObjectName
names = x ∷ m ∷ e ∷ m ∷ x ∷ name.Association (77 ∷ []) ∷ []

first_mentions : once (vmd 88 ∷ vmd 77 ∷ vmd 69 ∷ vmd 77 ∷ vmd 88 ∷ own 1 77 ∷ []) ≡ vmd 88 ∷ vmd 77 ∷ vmd 69 ∷ own 1 77 ∷ []
first_mentions = refl

not_there : missing 1 names (both (watch 10 (due true 27)) None None) ≡ 2
not_there = refl

deleting : deletions 1 (at 20) names (both (watch 10 (due true 27)) None None) ≡ told (vmd 77) 6 None 20 ∷ told (vmd 69) 6 None 20 ∷ []
deleting = refl

deleted : after_delete 1 (m ∷ m ∷ []) (both (watch 10 (due true 27)) None None) ≡ (vmd 69, is NetworkTriggered None None) ∷ []
deleted = refl

-- ---- a client is lost

lost : Answers (λ client. without_client client (three 17 27 37)) (
    (2, three 17 27 37) ∷
    (1, (vmd 77, is (watch 10 (due true 17)) None None) ∷ (vmd 69, is NetworkTriggered None None) ∷ (vmd 66, is (watch 10 (due true 37)) None None) ∷ []) ∷
    [])
lost = refl

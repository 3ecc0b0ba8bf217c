-- Worked examples of event enrollments, typed by hand: three of two clients on one condition, and a fourth on another.
use Rattle.std.specs.Prelude.{◌≡◌, ℕ, Bool, true, false, List, [], ◌∷◌, map, Some, None}
use Rattle.std.proofs.Common.{refl}
use Rattle.mms_types.specs.Errors.{object_exists, object_non_existent, object_undefined}
use Rattle.mms_types.specs.declared.condition.DefineEventEnrollment.{DefineEventEnrollment}
use Rattle.mms_types.specs.declared.condition.DeleteEventEnrollment.{DeleteEventEnrollment}
use Rattle.mms_types.specs.declared.condition.DeleteEventEnrollment.TheVariants.{Names, Condition}
use Rattle.mms_types.specs.declared.condition.Notice.{Notice}
use Rattle.mms_types.specs.declared.condition.Turned.{Turned}
use Rattle.mms_types.specs.declared.key.Key.{Key}
use Rattle.mms_types.specs.declared.key.Scope.TheVariants as scope
use Rattle.mms_types.specs.declared.moment.Moment.{Moment}
use Rattle.mms_types.specs.declared.object_name.ObjectName.{ObjectName}
use Rattle.mms_types.specs.declared.object_name.ObjectName.TheVariants as named
use Rattle.event_enrol.specs.Enrolments.{Rows, after_delete, define_cause, defined, delete_cause, name_of, notices, number_on, undeleted, without_client, without_condition}
use Rattle.event_enrol.specs.declared.enrolment.Enrolment.{Enrolment}

-- a function answers each row of a table with its second column
abbrev Answers : {A B : Type 0} → (A → B) → List (A × B) → Type 0
Answers f table = map (λ row. f row.0) table ≡ map (λ row. row.1) table

-- "A", "B", "C", "D", "K"
abbrev a : List ℕ
a = 65 ∷ []

abbrev b : List ℕ
b = 66 ∷ []

abbrev c : List ℕ
c = 67 ∷ []

abbrev d : List ℕ
d = 68 ∷ []

abbrev k : List ℕ
k = 75 ∷ []

-- the condition K of the VMD, and that of the association of client 1
abbrev vmd_k : Key
vmd_k = record { scope = scope.Vmd; item = k }

abbrev own_k : Key
own_k = record { scope = scope.Association 1; item = k }

abbrev enrolment : ℕ → Key → ℕ → Enrolment
enrolment client condition octet = record { client = client; condition = condition; transitions = record { octets = octet ∷ [] }; rule = 0 }

abbrev key_a : Key
key_a = record { scope = scope.Vmd; item = a }

abbrev key_b : Key
key_b = record { scope = scope.Domain d; item = b }

abbrev key_c : Key
key_c = record { scope = scope.Association 1; item = c }

abbrev key_d : Key
key_d = record { scope = scope.Association 1; item = d }

-- C was defined first: bits 0 to 6; then A: bits 0, 2, 4 and 6; then B of client 2: bits 1, 3, 5, 6 and the last one of the octet
abbrev row_c : Key × Enrolment
row_c = (key_c, enrolment 1 vmd_k 0xFE)

abbrev row_a : Key × Enrolment
row_a = (key_a, enrolment 1 vmd_k 0xAA)

abbrev row_b : Key × Enrolment
row_b = (key_b, enrolment 2 vmd_k 0x57)

abbrev row_d : Key × Enrolment
row_d = (key_d, enrolment 1 own_k 0x08)

abbrev rows : Rows
rows = row_c ∷ row_a ∷ row_b ∷ row_d ∷ []

abbrev turn : Key → Moment → ℕ → Turned
turn condition at transition = record { condition = condition; transition = transition; severity = 64; state = None; at = at }

-- as the clients give the names
abbrev of_c : Notice
of_c = record { client = 1; enrolment = named.Association c; condition = named.Vmd k }

abbrev of_a : Notice
of_a = record { client = 1; enrolment = named.Vmd a; condition = named.Vmd k }

abbrev of_b : Notice
of_b = record { client = 2; enrolment = named.Domain d b; condition = named.Vmd k }

abbrev of_d : Notice
of_d = record { client = 1; enrolment = named.Association d; condition = named.Association k }

-- ---- notices: each bit, in the order of definition, and none beyond

told : (at : Moment) → Answers (λ transition. notices (turn vmd_k at transition) rows) (
    (0, of_c ∷ of_a ∷ []) ∷
    (1, of_c ∷ of_b ∷ []) ∷
    (2, of_c ∷ of_a ∷ []) ∷
    (3, of_c ∷ of_b ∷ []) ∷
    (4, of_c ∷ of_a ∷ []) ∷
    (5, of_c ∷ of_b ∷ []) ∷
    (6, of_c ∷ of_a ∷ of_b ∷ []) ∷
    (7, []) ∷
    [])
told at = refl

told_own : (at : Moment) → Answers (λ transition. notices (turn own_k at transition) rows) ((3, []) ∷ (4, of_d ∷ []) ∷ (5, []) ∷ [])
told_own at = refl

names : Answers name_of (
    (key_a, named.Vmd a) ∷
    (key_b, named.Domain d b) ∷
    (key_c, named.Association c) ∷
    [])
names = refl

numbers : Answers (λ condition. number_on condition rows) ((vmd_k, 3) ∷ (own_k, 1) ∷ (key_a, 0) ∷ [])
numbers = refl

-- ---- DefineEventEnrollment

abbrev new : ObjectName → DefineEventEnrollment
new name = record { name = name; condition = named.Association k; transitions = record { octets = 0x08 ∷ [] }; rule = 0 }

-- client 1 has D of its association, and the domain D isn't live
causes : Answers (λ (asked : Bool × DefineEventEnrollment). define_cause false asked.0 1 asked.1 rows) (
    ((true, new (named.Association d)), Some object_exists) ∷
    ((false, new (named.Association d)), Some object_exists) ∷
    ((true, new (named.Vmd d)), None) ∷
    ((false, new (named.Vmd d)), Some object_non_existent) ∷
    ((false, new (named.Domain d b)), Some object_undefined) ∷
    [])
causes = refl

-- it is the last one, with both keys in the client's association
new_row : defined 1 (new (named.Association d)) (row_c ∷ []) ≡ row_c ∷ row_d ∷ []
new_row = refl

-- ---- DeleteEventEnrollment, as client 2 asks

abbrev deletion : DeleteEventEnrollment → Rows × ℕ
deletion asked = (after_delete 2 asked rows, undeleted 2 asked rows)

deleted : Answers deletion (
    (Names (named.Vmd a ∷ named.Domain d b ∷ []), (row_c ∷ row_d ∷ [], 0)) ∷
    (Names (named.Association c ∷ named.Vmd b ∷ named.Vmd b ∷ named.Vmd a ∷ []), (row_c ∷ row_b ∷ row_d ∷ [], 2)) ∷
    (Names [], (rows, 0)) ∷
    (Condition (named.Vmd k), (row_c ∷ row_a ∷ row_d ∷ [], 0)) ∷
    (Condition (named.Association k), (rows, 0)) ∷
    [])
deleted = refl

delete_causes : Answers (λ (asked : Bool × DeleteEventEnrollment). delete_cause asked.0 asked.1) (
    ((true, Names (named.Vmd b ∷ [])), None) ∷
    ((false, Names (named.Vmd b ∷ [])), None) ∷
    ((true, Condition (named.Vmd k)), None) ∷
    ((false, Condition (named.Vmd k)), Some object_non_existent) ∷
    [])
delete_causes = refl

-- ---- what goes else

forgotten : Answers (λ condition. without_condition condition rows) ((vmd_k, row_d ∷ []) ∷ (own_k, row_c ∷ row_a ∷ row_b ∷ []) ∷ [])
forgotten = refl

lost : Answers (λ client. without_client client rows) ((1, row_b ∷ []) ∷ (2, row_c ∷ row_a ∷ row_d ∷ []) ∷ (3, rows) ∷ [])
lost = refl

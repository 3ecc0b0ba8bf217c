-- Event enrollments: who is told of an event condition (ISO 9506-1 and ISO 9506-2, event management).
use Rattle.std.specs.Prelude.{ℕ, ◌-◌, ◌/◌, ◌%◌, ◌^◌, ◌==◌, bit_and, nat_le, nat_lt, Bool, true, not, ◌&&◌, List, [], ◌∷◌, ◌++◌, Option, None, is_some, filter, length, map, slice_index}
use Rattle.std.specs.Map.{lookup}
use Rattle.mms_types.specs.Errors.{first_of, capability_unavailable, object_non_existent}
use Rattle.mms_types.specs.Order.{key_eq, key_of}
use Rattle.mms_types.specs.declared.condition.DefineEventEnrollment.{DefineEventEnrollment}
use Rattle.mms_types.specs.declared.condition.DeleteEventEnrollment.{DeleteEventEnrollment}
use Rattle.mms_types.specs.declared.condition.DeleteEventEnrollment.TheVariants as asked
use Rattle.mms_types.specs.declared.condition.Notice.{Notice}
use Rattle.mms_types.specs.declared.condition.Transitions.{Transitions}
use Rattle.mms_types.specs.declared.condition.Turned.{Turned}
use Rattle.mms_types.specs.declared.key.Key.{Key}
use Rattle.mms_types.specs.declared.key.Scope.{Scope}
use Rattle.mms_types.specs.declared.key.Scope.TheVariants.{Vmd, Domain, Association}
use Rattle.mms_types.specs.declared.object_name.ObjectName.{ObjectName}
use Rattle.mms_types.specs.declared.object_name.ObjectName.TheVariants as named
use Rattle.mms_types.specs.declared.service_error.ServiceError.{ServiceError}
use Rattle.object_names.specs.Deletion.{is_listed_by, missing}
use Rattle.object_names.specs.NewName.{new_name}
use Rattle.object_names.specs.Scopes.{without_all_of}
use Rattle.event_enrol.specs.declared.enrolment.Enrolment.{Enrolment}

-- the enrollments under their names, in the order in which they were defined
abbrev pub Rows : Type 0
Rows = List (Key × Enrolment)

-- the enrollment is on that condition
abbrev pub is_on : Key → Key × Enrolment → Bool
is_on condition row = key_eq condition row.1.condition

-- the client defined it
abbrev pub is_of : ℕ → Key × Enrolment → Bool
is_of client row = row.1.client == client

-- how many there are on a condition, of all clients
abbrev pub number_on : Key → Rows → ℕ
number_on condition rows = length (filter (is_on condition) rows)

-- ---- who is told of a transition

-- the transition of that number is one of the seven, and its bit is set: the first is the most significant one of the octet
abbrev pub has_bit : ℕ → Transitions → Bool
has_bit transition transitions = nat_lt transition 7 && not (bit_and (slice_index transitions.octets (transition / 8)) (2 ^ (7 - transition % 8)) == 0)

-- how a client names the object of a key: what belongs to an association it names by the name alone (ISO 9506-2, ObjectName)
abbrev named_in : Scope → List ℕ → ObjectName
named_in Vmd item = named.Vmd item
named_in (Domain domain) item = named.Domain domain item
named_in (Association client) item = named.Association item

abbrev pub name_of : Key → ObjectName
name_of key = named_in key.scope key.item

-- the enrollment is on the condition of the transition, and is for such transitions
abbrev pub is_told : Turned → Key × Enrolment → Bool
is_told turned row = is_on turned.condition row && has_bit turned.transition row.1.transitions

-- its client is told in its own words
abbrev pub notice : Turned → Key × Enrolment → Notice
notice turned row = record { client = row.1.client; enrolment = name_of row.0; condition = name_of turned.condition }

-- those that are told, in the order in which they were defined
abbrev pub notices : Turned → Rows → List Notice
notices turned rows = map (notice turned) (filter (is_told turned) rows)

-- ---- DefineEventEnrollment

-- the most enrollments (this profile's limit)
abbrev pub most_enrolments : ℕ
most_enrolments = 1024

abbrev pub is_defined : ℕ → ObjectName → Rows → Bool
is_defined client name rows = is_some (lookup (key_eq (key_of client name)) rows)

-- why none is defined, with whether the domain of its scope is live, and whether the condition is there
abbrev pub define_cause : Bool → Bool → ℕ → DefineEventEnrollment → Rows → Option ServiceError
define_cause live there client request rows =
    first_of (new_name live request.name (is_defined client request.name rows) ++
    (not there, object_non_existent)
    ∷ (nat_le most_enrolments (length rows), capability_unavailable)
    ∷ [])

abbrev pub defined : ℕ → DefineEventEnrollment → Rows → Rows
defined client request rows = rows ++ (
  key_of client request.name,
  record {
    client = client;
    condition = key_of client request.condition;
    transitions = request.transitions;
    rule = request.rule;
  },
) ∷ []

-- ---- DeleteEventEnrollment: those of these names, whoever defined them, or all of the client's own on a condition

abbrev pub is_deleted : ℕ → DeleteEventEnrollment → Key × Enrolment → Bool
is_deleted client (asked.Names names) row = is_listed_by client names row.0
is_deleted client (asked.Condition name) row = is_of client row && is_on (key_of client name) row

abbrev pub after_delete : ℕ → DeleteEventEnrollment → Rows → Rows
after_delete client request rows = filter (λ row. not (is_deleted client request row)) rows

-- why none is deleted, with whether the condition is there, where one is named
abbrev pub delete_cause : Bool → DeleteEventEnrollment → Option ServiceError
delete_cause there (asked.Names names) = None
delete_cause there (asked.Condition name) = first_of ((not there, object_non_existent) ∷ [])

-- how many weren't deleted: those of the names that are missing
abbrev pub undeleted : ℕ → DeleteEventEnrollment → Rows → ℕ
undeleted client (asked.Names names) rows = missing client names rows
undeleted client (asked.Condition name) rows = 0

-- ---- what goes else, of which nobody is told

-- a condition is deleted: all enrollments on it go
abbrev pub without_condition : Key → Rows → Rows
without_condition condition rows = filter (λ row. not (is_on condition row)) rows

-- a client is lost: its own enrollments go, whatever their names, and then those of its association
abbrev pub without_client : ℕ → Rows → Rows
without_client client rows = without_all_of (Association client) (filter (λ row. not (is_of client row)) rows)

-- ---- whose names they are

-- a name of an association is that of its own client
abbrev is_own_in : ℕ → Scope → Bool
is_own_in client Vmd = true
is_own_in client (Domain domain) = true
is_own_in client (Association owner) = owner == client

abbrev pub is_own : ℕ → Key → Bool
is_own client key = is_own_in client key.scope

-- so are both names of an enrollment
abbrev pub has_own_names : Key × Enrolment → Bool
has_own_names row = is_own row.1.client row.0 && is_own row.1.client row.1.condition

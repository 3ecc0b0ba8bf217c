-- Worked examples of the services for variables: what each tells and does, typed by hand from its definition.
use Rattle.std.specs.Prelude.{◌≡◌, ℕ, nat_eq, pos, Bool, true, false, List, [], ◌∷◌, map, Option, Some, None}
use Rattle.std.specs.Cmp.Lexicographic.{pointwise}
use Rattle.std.proofs.Common.{refl}
use Rattle.mms_types.specs.Datum.{Datum, integer, boolean}
use Rattle.mms_types.specs.Shape as shape
use Rattle.mms_types.specs.Errors.{object_undefined, invalid_address, type_inconsistent, object_exists, object_non_existent}
use Rattle.mms_types.specs.declared.access_result.AccessResult.{AccessResult}
use Rattle.mms_types.specs.declared.access_result.AccessResult.TheVariants as read
use Rattle.mms_types.specs.declared.access_result.WriteResult.{WriteResult}
use Rattle.mms_types.specs.declared.access_result.WriteResult.TheVariants as write
use Rattle.mms_types.specs.declared.access_result.DataAccessError.TheVariants.{ObjectAccessDenied, TypeInconsistent, ObjectNonExistent}
use Rattle.mms_types.specs.declared.key.Key.{Key}
use Rattle.mms_types.specs.declared.key.Scope.{Scope}
use Rattle.mms_types.specs.declared.key.Scope.TheVariants.{Vmd, Association}
use Rattle.mms_types.specs.declared.object_name.ObjectName.{ObjectName}
use Rattle.mms_types.specs.declared.object_name.ObjectName.TheVariants as name
use Rattle.mms_types.specs.declared.service_error.ServiceError.{ServiceError}
use Rattle.mms_types.specs.declared.variable.Access.{Access}
use Rattle.mms_types.specs.declared.variable.Access.TheVariants as access
use Rattle.mms_types.specs.declared.variable.DeleteNames.{DeleteNames}
use Rattle.mms_types.specs.declared.variable.DeleteScope.TheVariants as scope
use Rattle.mms_types.specs.declared.variable.Deleted.{Deleted}
use Rattle.mms_types.specs.declared.variable.Spec.{Spec}
use Rattle.mms_types.specs.declared.variable.Spec.TheVariants as spec
use Rattle.mms_types.specs.declared.variable.Write.{Write}
use Rattle.variables.specs.declared.rows.Variable.{Variable}
use Rattle.variable_lists.specs.declared.row.VariableList.{VariableList}
use Rattle.variable_services.specs.declared.tables.VariableTables.{VariableTables}
use Rattle.variable_services.specs.Services.{guards, is_guarded, guards_owned, read_answer, write_cause, write_answer, write_after, define_cause, delete_answer, delete_after, delete_lists_answer, lost}

-- a function answers each row of a table with its second column
abbrev Answers : {A B : Type 0} → (A → B) → List (A × B) → Type 0
Answers f table = map (λ row. f row.0) table ≡ map (λ row. row.1) table

-- "A", "B", "L", "S"
abbrev a : List ℕ
a = 65 ∷ []

abbrev b : List ℕ
b = 66 ∷ []

abbrev l : List ℕ
l = 76 ∷ []

abbrev s : List ℕ
s = 83 ∷ []

abbrev key : Scope → List ℕ → Key
key scope item = record { scope = scope; item = item }

abbrev variable : ℕ → Bool → Variable
variable cell configured = record { cell = cell; configured = configured }

abbrev list : List Spec → VariableList
list variables = record { variables = variables }

abbrev names : List (List ℕ) → List Spec
names [] = []
names (n ∷ ns) = spec.Name (name.Vmd n) ∷ names ns

abbrev aa : List ℕ → Spec
aa item = spec.Name (name.Association item)

-- Cell 0 is an integer of 8 bits and is 7, cell 9 a truth value. S of the VMD is configured, A and B of it, and A of client 2, were defined.
-- The list L of the VMD has A of who uses it, B and a name that is gone.
abbrev tables : VariableTables
tables = record {
  vars = record {
    cells = (0, record { of = shape.integer 8; value = integer (pos 7); guard = None }) ∷ (9, record { of = shape.boolean; value = boolean true; guard = None }) ∷ [];
    variables = (key Vmd s, variable 0 true) ∷ (key Vmd a, variable 9 false) ∷ (key Vmd b, variable 0 false) ∷ (key (Association 2) a, variable 0 false) ∷ [];
  };
  lists = (key Vmd l, list (aa a ∷ spec.Name (name.Vmd b) ∷ spec.Name (name.Vmd l) ∷ [])) ∷ (key (Association 2) l, list (names (a ∷ []))) ∷ [];
}

-- ---- Read

abbrev reads : ℕ × Access → List AccessResult
reads asked = (read_answer asked.0 (record { with_access = false; access = asked.1 }) tables).results

-- each variable for itself; an aa-specific name is that of who asks, in a list too
read_results : Answers reads (
    ((1, access.Specs (spec.Address 0 ∷ spec.Address 9 ∷ spec.Address 1 ∷ spec.Address 65536 ∷ [])), read.Success (integer (pos 7)) ∷ read.Success (boolean true) ∷ read.Failure ObjectNonExistent ∷ read.Failure ObjectNonExistent ∷ [])
    ∷ ((1, access.Specs (names (s ∷ b ∷ l ∷ []))), read.Success (integer (pos 7)) ∷ read.Success (integer (pos 7)) ∷ read.Failure ObjectNonExistent ∷ [])
    ∷ ((1, access.List (name.Vmd l)), read.Failure ObjectNonExistent ∷ read.Success (integer (pos 7)) ∷ read.Failure ObjectNonExistent ∷ [])
    ∷ ((2, access.List (name.Vmd l)), read.Success (integer (pos 7)) ∷ read.Success (integer (pos 7)) ∷ read.Failure ObjectNonExistent ∷ [])
    ∷ ((2, access.List (name.Association l)), read.Success (boolean true) ∷ [])
    ∷ [])
read_results = refl

-- ---- Write

abbrev write_of : Access × List Datum → Write
write_of asked = record { access = asked.0; values = asked.1 }

abbrev write_results : Access × List Datum → List WriteResult
write_results asked = write_answer [] 1 (write_of asked) tables

-- what fails doesn't stop those after it
each_written : Answers write_results ((
  (access.Specs (names (l ∷ a ∷ s ∷ b ∷ [])), integer (pos 1) ∷ integer (pos 2) ∷ integer (pos 128) ∷ integer (pos 127) ∷ []),
  write.Failure ObjectNonExistent ∷ write.Failure TypeInconsistent ∷ write.Failure TypeInconsistent ∷ write.Success ∷ [],
)
    ∷ [])
each_written = refl

-- the last data that a cell takes stay in it, and what it can't take changes nothing
abbrev after_write : Access × List Datum → List AccessResult
after_write asked = (read_answer 1 (record { with_access = false; access = access.Specs (spec.Address 0 ∷ spec.Address 9 ∷ []) }) (write_after [] 1 (write_of asked) tables)).results

last_stays : Answers after_write (
    ((access.Specs (names (s ∷ b ∷ a ∷ [])), integer (pos 1) ∷ integer (pos 2) ∷ integer (pos 3) ∷ []), read.Success (integer (pos 2)) ∷ read.Success (boolean true) ∷ [])
    ∷ ((access.Specs (spec.Address 9 ∷ spec.Address 0 ∷ []), boolean false ∷ integer (pos 300) ∷ []), read.Success (integer (pos 7)) ∷ read.Success (boolean false) ∷ [])
    ∷ [])
last_stays = refl

-- cell 0 is guarded by S: what is missing is told before the guard, and the guard before the type; a cell without a guard takes data from each
abbrev guarded_tables : VariableTables
guarded_tables = record tables {
  vars = record tables.vars {
    cells = (0, record { of = shape.integer 8; value = integer (pos 7); guard = Some s }) ∷ (9, record { of = shape.boolean; value = boolean true; guard = None }) ∷ [];
  };
}

abbrev mixed : Write
mixed = write_of (access.Specs (names (b ∷ l ∷ a ∷ s ∷ [])), integer (pos 1) ∷ integer (pos 2) ∷ boolean false ∷ integer (pos 300) ∷ [])

guarded_results : Answers (λ (owns : List Bool). write_answer owns 1 mixed guarded_tables) (
    ([], write.Failure ObjectAccessDenied ∷ write.Failure ObjectNonExistent ∷ write.Success ∷ write.Failure ObjectAccessDenied ∷ [])
    ∷ (false ∷ true ∷ true ∷ [], write.Failure ObjectAccessDenied ∷ write.Failure ObjectNonExistent ∷ write.Success ∷ write.Failure ObjectAccessDenied ∷ [])
    ∷ (true ∷ false ∷ false ∷ true ∷ [], write.Success ∷ write.Failure ObjectNonExistent ∷ write.Success ∷ write.Failure TypeInconsistent ∷ [])
    ∷ [])
guarded_results = refl

guarded_stay : Answers (λ (owns : List Bool). (read_answer 1 (record { with_access = false; access = access.Specs (spec.Address 0 ∷ spec.Address 9 ∷ []) }) (write_after owns 1 mixed guarded_tables)).results) (
    ([], read.Success (integer (pos 7)) ∷ read.Success (boolean false) ∷ [])
    ∷ (true ∷ [], read.Success (integer (pos 1)) ∷ read.Success (boolean false) ∷ [])
    ∷ [])
guarded_stay = refl

-- which guards the variables of a write have, and which of them a client owns
named_guards : guards 1 mixed guarded_tables ∷ guards 1 mixed tables ∷ [] ≡ (Some s ∷ None ∷ None ∷ Some s ∷ []) ∷ (None ∷ None ∷ None ∷ None ∷ []) ∷ []
named_guards = refl

some_guards : is_guarded 1 mixed guarded_tables ∷ is_guarded 1 mixed tables ∷ [] ≡ true ∷ false ∷ []
some_guards = refl

owned_guards : Answers (λ (owns : List ℕ → Bool). guards_owned owns 1 mixed guarded_tables) (
    (pointwise nat_eq s, true ∷ false ∷ false ∷ true ∷ [])
    ∷ (pointwise nat_eq a, false ∷ false ∷ false ∷ false ∷ [])
    ∷ [])
owned_guards = refl

-- a missing list is told before the number of data
abbrev write_causes : Access × List Datum → Option ServiceError
write_causes asked = write_cause 1 (write_of asked) tables

write_refused : Answers write_causes (
    ((access.List (name.Vmd a), []), Some object_non_existent)
    ∷ ((access.List (name.Vmd l), boolean true ∷ []), Some type_inconsistent)
    ∷ ((access.Specs (names (a ∷ [])), []), Some type_inconsistent)
    ∷ ((access.Specs (names (a ∷ [])), boolean true ∷ []), None)
    ∷ [])
write_refused = refl

-- ---- DefineNamedVariable

abbrev defines : Bool × ObjectName × ℕ × Option shape.Shape → Option ServiceError
defines asked = define_cause asked.0 1 (record { name = asked.1; address = asked.2; of = asked.3 }) tables

-- the causes in their order, each with the next one standing too
define_refused : Answers defines (
    ((false, name.Domain a a, 5, Some shape.boolean), Some object_undefined)
    ∷ ((true, name.Domain a a, 5, Some shape.boolean), Some invalid_address)
    ∷ ((false, name.Vmd a, 5, Some shape.boolean), Some object_exists)
    ∷ ((false, name.Association a, 5, Some shape.boolean), Some invalid_address)
    ∷ ((false, name.Association a, 0, Some shape.boolean), Some type_inconsistent)
    ∷ ((false, name.Association a, 0, Some (shape.integer 8)), None)
    ∷ ((false, name.Association a, 0, None), None)
    ∷ [])
define_refused = refl

-- ---- DeleteVariableAccess, DeleteNamedVariableList, and the loss of a client

abbrev counts : ℕ → ℕ → Deleted
counts matched deleted = record { matched = matched; deleted = deleted }

abbrev all_in : scope.the_data → DeleteNames
all_in scope = record { scope = scope; names = None; domain = None }

abbrev listed : List ObjectName → DeleteNames
listed given = record { scope = scope.Specific; names = Some given; domain = None }

-- a name that is listed twice counts once, a missing one not at all, and a configured variable matches and stays
deleted_counts : Answers (λ asked. delete_answer 2 asked tables) (
    (listed (name.Vmd a ∷ name.Vmd a ∷ name.Vmd s ∷ name.Vmd l ∷ name.Association a ∷ []), counts 3 2)
    ∷ (listed [], counts 0 0)
    ∷ (all_in scope.Vmd, counts 3 2)
    ∷ (all_in scope.Association, counts 1 1)
    ∷ [])
deleted_counts = refl

abbrev keys : VariableTables → List Key
keys t = map (λ row. row.0) t.vars.variables

abbrev list_keys : VariableTables → List Key
list_keys t = map (λ row. row.0) t.lists

what_is_left : keys (delete_after 2 (all_in scope.Vmd) tables) ≡ key Vmd s ∷ key (Association 2) a ∷ []
what_is_left = refl

lists_deleted : Answers (λ asked. delete_lists_answer 2 asked tables) ((listed (name.Vmd l ∷ name.Vmd l ∷ name.Vmd a ∷ []), counts 1 1) ∷ (all_in scope.Association, counts 1 1) ∷ [])
lists_deleted = refl

-- a client that is lost takes its own names alone
names_lost : (keys (lost 2 tables) ≡ key Vmd s ∷ key Vmd a ∷ key Vmd b ∷ []) × (list_keys (lost 2 tables) ≡ key Vmd l ∷ []) × (keys (lost 1 tables) ≡ keys tables)
names_lost = (refl, refl, refl)

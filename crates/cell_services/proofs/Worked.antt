-- Worked examples of requests by area: the tables that they ask, and what they come to where nobody asked.
use Rattle.std.specs.Prelude.{◌≡◌, ℕ, true, false, List, [], ◌∷◌, map, codes, Option, None, Some, refl}
use Rattle.mms_types.specs.Datum.{boolean}
use Rattle.mms_types.specs.Shape as shape
use Rattle.mms_types.specs.Errors.{object_non_existent}
use Rattle.mms_types.specs.declared.access_result.WriteResult.TheVariants as write
use Rattle.mms_types.specs.declared.access_result.DataAccessError.TheVariants.{ObjectAccessDenied}
use Rattle.mms_types.specs.declared.condition.DefineEventCondition.{DefineEventCondition}
use Rattle.mms_types.specs.declared.condition.Monitored.{Monitored}
use Rattle.mms_types.specs.declared.name_list.ObjectClass.TheVariants as class
use Rattle.mms_types.specs.declared.name_list.ObjectScope.{ObjectScope}
use Rattle.mms_types.specs.declared.name_list.ObjectScope.TheVariants as scope
use Rattle.mms_types.specs.declared.object_name.ObjectName.TheVariants as name
use Rattle.mms_types.specs.declared.pdu.Request.TheVariants as request
use Rattle.mms_types.specs.declared.variable.Access.TheVariants as access
use Rattle.mms_types.specs.declared.variable.Spec.TheVariants as spec
use Rattle.mms_types.specs.declared.variable.Write.{Write}
use Rattle.variable_services.specs.Services.{guards, write_answer}
use Rattle.variable_services.specs.declared.tables.VariableTables.{VariableTables}
use Rattle.cell_services.specs.Device.{scope_cause}
use Rattle.cell_services.specs.Facts.{Owned, Truth, no_facts, tables_for}
use Rattle.cell_services.specs.Services.{request_asks}

-- a function answers each row of a table with its second column
abbrev Answers : {A B : Type 0} → (A → B) → List (A × B) → Type 0
Answers f table = map (λ row. f row.0) table ≡ map (λ row. row.1) table

-- a condition C, and what it watches, where it is monitored
abbrev condition_of : Option Monitored → DefineEventCondition
condition_of monitored = record { name = name.Vmd (codes "C"); priority = 64; severity = 64; summary = None; monitored = monitored }

-- by their words: the table of their area, those of the moment and of the names that are listed, and that of the domains where one is written, and that of
-- the variables where one is to be watched
asked_by_words : Answers request_asks (
    (request.Identify, []) ∷
    (request.GetNameList (record { class = class.NamedVariable; scope = scope.Vmd; after = None }), 1 ∷ []) ∷
    (request.GetNameList (record { class = class.Journal; scope = scope.Domain (codes "D"); after = None }), 2 ∷ 5 ∷ []) ∷
    (request.GetNamedVariableListAttributes (name.Vmd (codes "L")), 1 ∷ []) ∷
    (request.GetNamedVariableListAttributes (name.Domain (codes "D") (codes "L")), 1 ∷ 2 ∷ []) ∷
    (request.DeleteSemaphore (name.Vmd (codes "S")), 6 ∷ 0 ∷ []) ∷
    (request.DeleteSemaphore (name.Domain (codes "D") (codes "S")), 6 ∷ 0 ∷ 2 ∷ []) ∷
    (request.DeleteEventCondition (name.Vmd (codes "C") ∷ []), 4 ∷ 0 ∷ []) ∷
    (request.ReportEventConditionStatus (name.Domain (codes "D") (codes "C")), 4 ∷ 0 ∷ 2 ∷ []) ∷
    (request.DefineEventCondition (condition_of None), 4 ∷ 0 ∷ []) ∷
    (request.DefineEventCondition (condition_of (Some (record { variable = spec.Address 0; interval = 10 }))), 4 ∷ 0 ∷ 1 ∷ []) ∷
    (request.CreateJournal (name.Vmd (codes "J")), 5 ∷ []) ∷
    (request.CreateJournal (name.Domain (codes "D") (codes "J")), 5 ∷ 2 ∷ []) ∷
    (request.ReportJournalStatus (name.Domain (codes "D") (codes "J")), 5 ∷ 2 ∷ []) ∷
    [])
asked_by_words = refl

-- cell 0 is a truth value that is guarded by S, and cell 9 one that isn't guarded
abbrev variables : VariableTables
variables = record {
  vars = record {
    cells = (0, record { of = shape.boolean; value = boolean true; guard = Some (codes "S") }) ∷ (9, record { of = shape.boolean; value = boolean true; guard = None }) ∷ [];
    variables = [];
  };
  lists = [];
}

abbrev write_of : List ℕ → Write
write_of cells = record { access = access.Specs (map spec.Address cells); values = map (λ cell. boolean false) cells }

-- whether its client owns the guards of a write is asked of the semaphores where a cell has one
guards_asked : Answers (λ (cells : List ℕ). tables_for (Owned 1 (guards 1 (write_of cells) variables))) (
    (0 ∷ [], 6 ∷ []) ∷
    (9 ∷ [], []) ∷
    (9 ∷ 0 ∷ [], 6 ∷ []) ∷
    [])
guards_asked = refl

-- whether a cell is TRUE is asked of the variables where one is watched
truths_asked : Answers (λ (cell : Option ℕ). tables_for (Truth cell)) ((Some 0, 1 ∷ []) ∷ (None, []) ∷ [])
truths_asked = refl

-- where nobody asks, nobody owns a guard, no domain is live, and there are no names
unasked_guards : Answers (λ (cells : List ℕ). write_answer no_facts.owned 1 (write_of cells) variables) (
    (0 ∷ [], write.Failure ObjectAccessDenied ∷ []) ∷
    (9 ∷ 0 ∷ [], write.Success ∷ write.Failure ObjectAccessDenied ∷ []) ∷
    [])
unasked_guards = refl

unasked_domains : Answers (λ (s : ObjectScope). scope_cause no_facts.live s) (
    (scope.Vmd, None) ∷
    (scope.Domain (codes "D"), Some object_non_existent) ∷
    [])
unasked_domains = refl

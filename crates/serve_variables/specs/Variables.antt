-- Requests for variables and their lists (ISO 9506-1, variable access): the services on the tables that hold them, with whether the domain of a new name is live, and who
-- owns the guards of a write.
use Rattle.std.specs.Prelude.{ℕ, Bool, false, ◌||◌, List, [], ◌∷◌, Option, None, Some, is_some}
use Rattle.std.specs.List.{list_any}
use Rattle.std.specs.Option.{option_map}
use Rattle.mms_types.specs.declared.object_name.ObjectName.{ObjectName}
use Rattle.mms_types.specs.declared.pdu.Answer.TheVariants as answer
use Rattle.mms_types.specs.declared.variable.Access.{Access}
use Rattle.mms_types.specs.declared.variable.Access.TheVariants as access
use Rattle.mms_types.specs.declared.variable.DefineNamedVariable.{DefineNamedVariable}
use Rattle.mms_types.specs.declared.variable.DefineNamedVariableList.{DefineNamedVariableList}
use Rattle.mms_types.specs.declared.variable.DeleteNames.{DeleteNames}
use Rattle.mms_types.specs.declared.variable.Read.{Read}
use Rattle.mms_types.specs.declared.variable.Spec.{Spec}
use Rattle.mms_types.specs.declared.variable.Spec.TheVariants as spec
use Rattle.mms_types.specs.declared.variable.Write.{Write}
use Rattle.variable_services.specs.declared.tables.VariableTables.{VariableTables}
use Rattle.variable_services.specs.Services as variable
use Rattle.cell_client.specs.Areas.{RequestIn, answers, changes, domain_in, is_of_domain}
use Rattle.cell_client.specs.Facts.{Live, Owned}
use Rattle.mms_types.specs.declared.area.VariableRequest.{VariableRequest}
use Rattle.mms_types.specs.declared.area.VariableRequest.TheVariants as request

-- ---- where the name of a domain is written

abbrev pub specifies_domain : Spec → Bool
specifies_domain (spec.Name name) = is_of_domain name
specifies_domain (spec.Address number) = false

abbrev pub accesses_domain : Access → Bool
accesses_domain (access.Specs variables) = list_any specifies_domain variables
accesses_domain (access.List name) = is_of_domain name

abbrev pub lists_domain : Option (List ObjectName) → Bool
lists_domain None = false
lists_domain (Some names) = list_any is_of_domain names

abbrev pub deletes_domain : DeleteNames → Bool
deletes_domain x = is_some x.domain || lists_domain x.names

-- ---- each service

-- Read
abbrev pub read : Read → RequestIn VariableTables
read x = record {
  words = Live (accesses_domain x.access) None ∷ [];
  more = λ v row. [];
  cause = λ facts v row. variable.read_cause row.client x v;
  effect = λ facts v row invoke. answers v (Some (answer.Read (variable.read_answer row.client x v)));
}

-- Write: who writes a guarded cell has to own a token of its guard, which is looked up among the semaphores
abbrev pub write : Write → RequestIn VariableTables
write x = record {
  words = Live (accesses_domain x.access) None ∷ [];
  more = λ v row. Owned row.client (variable.guards row.client x v) ∷ [];
  cause = λ facts v row. variable.write_cause row.client x v;
  effect = λ facts v row invoke.
      changes (variable.write_after facts.owned row.client x v) (answer.Write (variable.write_answer facts.owned row.client x v));
}

-- GetVariableAccessAttributes
abbrev pub variable_attributes : Spec → RequestIn VariableTables
variable_attributes x = record {
  words = Live (specifies_domain x) None ∷ [];
  more = λ v row. [];
  cause = λ facts v row. variable.attributes_cause row.client x v;
  effect = λ facts v row invoke. answers v (option_map answer.GetVariableAccessAttributes (variable.attributes_answer row.client x v));
}

-- DefineNamedVariable
abbrev pub define_variable : DefineNamedVariable → RequestIn VariableTables
define_variable x = record {
  words = Live (is_of_domain x.name) (domain_in x.name) ∷ [];
  more = λ v row. [];
  cause = λ facts v row. variable.define_cause facts.live row.client x v;
  effect = λ facts v row invoke. changes (variable.define_after row.client x v) answer.DefineNamedVariable;
}

-- DeleteVariableAccess
abbrev pub delete_variables : DeleteNames → RequestIn VariableTables
delete_variables x = record {
  words = Live (deletes_domain x) x.domain ∷ [];
  more = λ v row. [];
  cause = λ facts v row. variable.delete_cause facts.live x;
  effect = λ facts v row invoke. changes (variable.delete_after row.client x v) (answer.DeleteVariableAccess (variable.delete_answer row.client x v));
}

-- DefineNamedVariableList
abbrev pub define_list : DefineNamedVariableList → RequestIn VariableTables
define_list x = record {
  words = Live (is_of_domain x.name || list_any specifies_domain x.variables) (domain_in x.name) ∷ [];
  more = λ v row. [];
  cause = λ facts v row. variable.define_list_cause facts.live row.client x v;
  effect = λ facts v row invoke. changes (variable.define_list_after row.client x v) answer.DefineNamedVariableList;
}

-- GetNamedVariableListAttributes
abbrev pub list_attributes : ObjectName → RequestIn VariableTables
list_attributes x = record {
  words = Live (is_of_domain x) None ∷ [];
  more = λ v row. [];
  cause = λ facts v row. variable.list_attributes_cause row.client x v;
  effect = λ facts v row invoke. answers v (option_map answer.GetNamedVariableListAttributes (variable.list_attributes_answer row.client x v));
}

-- DeleteNamedVariableList
abbrev pub delete_lists : DeleteNames → RequestIn VariableTables
delete_lists x = record {
  words = Live (deletes_domain x) x.domain ∷ [];
  more = λ v row. [];
  cause = λ facts v row. variable.delete_cause facts.live x;
  effect = λ facts v row invoke. changes (variable.delete_lists_after row.client x v) (answer.DeleteNamedVariableList (variable.delete_lists_answer row.client x v));
}

-- ---- each of them, as it is looked at

abbrev pub request_in : VariableRequest → RequestIn VariableTables
request_in (request.Read x) = read x.now
request_in (request.Write x) = write x.now
request_in (request.GetVariableAccessAttributes x) = variable_attributes x.now
request_in (request.DefineNamedVariable x) = define_variable x.now
request_in (request.DeleteVariableAccess x) = delete_variables x.now
request_in (request.DefineNamedVariableList x) = define_list x.now
request_in (request.GetNamedVariableListAttributes x) = list_attributes x.now
request_in (request.DeleteNamedVariableList x) = delete_lists x.now

-- the domain that has to be live, where one has to: that of a new name, or of the names that are deleted
abbrev pub domain_asked : VariableRequest → Option (List ℕ)
domain_asked (request.DefineNamedVariable x) = domain_in x.now.name
domain_asked (request.DeleteVariableAccess x) = x.now.domain
domain_asked (request.DefineNamedVariableList x) = domain_in x.now.name
domain_asked (request.DeleteNamedVariableList x) = x.now.domain
domain_asked other = None

-- the guards of the variables that it writes, in order
abbrev pub guards_asked : VariableRequest → ℕ → VariableTables → List (Option (List ℕ))
guards_asked (request.Write x) client v = variable.guards client x.now v
guards_asked other client v = []

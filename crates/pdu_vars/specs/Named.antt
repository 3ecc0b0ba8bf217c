-- Named variables (ISO 9506-2, variable access): their definition, their attributes and their deletion, which is that of variable lists too.
use Rattle.std.specs.Prelude.{◌≡◌, ℕ, Bool, true, false, [], ◌∷◌, get_or, List, refl}
use Rattle.ber_forms.specs.Value.{Value, Slot, parts, missing, given, done, slot}
use Rattle.ber_forms.specs.Form.{any_number}
use Rattle.mms_types.specs.declared.object_name.ObjectName.{ObjectName}
use Rattle.mms_types.specs.declared.variable.DefineNamedVariable.{DefineNamedVariable}
use Rattle.mms_types.specs.declared.variable.VariableAttributes.{VariableAttributes}
use Rattle.mms_types.specs.declared.variable.DeleteScope.{DeleteScope}
use Rattle.mms_types.specs.declared.variable.DeleteScope.TheVariants.{Specific, Association, Domain, Vmd}
use Rattle.mms_types.specs.declared.variable.DeleteNames.{DeleteNames}
use Rattle.mms_types.specs.declared.variable.Deleted.{Deleted}
use Rattle.mms_types.specs.DeleteScopes.{scope_number}
use Rattle.pdu_data.specs.Types.{type_choice}
use Rattle.pdu_names.specs.Names.{identifier, names}
use Rattle.pdu_names.specs.Kinds.{Kind, boolean, unsigned32, enumerated, such_that, context, one_of, list_of, choice, sequence, required, optional, defaulted, no_more}
use Rattle.pdu_vars.specs.Variables.{addresses}

-- DefineNamedVariable-Request: variableName, address and typeSpecification
abbrev pub define_variable : Kind DefineNamedVariable
define_variable = sequence (
    required (context 0 (choice names)) (λ x. x.name) (
    required (context 1 (choice addresses)) (λ x. x.address) (
    optional (context 2 (choice type_choice)) (λ x. x.of) no_more)))
    (λ name address of. record { name = name; address = address; of = of }) (λ x. refl)

-- GetVariableAccessAttributes-Response: mmsDeletable, address and typeSpecification
abbrev pub variable_attributes : Kind VariableAttributes
variable_attributes = sequence (
    required (context 0 boolean) (λ x. x.deletable) (
    optional (context 1 (choice addresses)) (λ x. x.address) (
    required (context 2 (choice type_choice)) (λ x. x.of) no_more)))
    (λ deletable address of. record { deletable = deletable; address = address; of = of }) (λ x. refl)

-- scopeOfDelete: specific 0, aa-specific 1, domain 2, vmd 3
abbrev scope_numbered : ℕ → DeleteScope
scope_numbered n = get_or (Specific ∷ Association ∷ Domain ∷ []) n Vmd

pub scope_again : (s : DeleteScope) → scope_numbered (scope_number s) ≡ s
scope_again Specific = refl
scope_again Association = refl
scope_again Domain = refl
scope_again Vmd = refl

abbrev pub delete_scope : Kind DeleteScope
delete_scope = enumerated 3 scope_number scope_numbered scope_again

abbrev pub name_list : Kind (List ObjectName)
name_list = list_of any_number (one_of names)

-- scopeOfDelete, specific where it is absent, the names and domainName
abbrev pub delete_parts : Kind DeleteNames
delete_parts = sequence (
    defaulted (context 0 delete_scope) Specific (λ x. x.scope) (
    optional (context 1 name_list) (λ x. x.names) (
    optional (context 2 identifier) (λ x. x.domain) no_more)))
    (λ scope names domain. record { scope = scope; names = names; domain = domain }) (λ x. refl)

abbrev is_given : Slot → Bool
is_given missing = false
is_given (given v) = true

-- the scope specific needs the names, and the scope domain the domain (this profile's choice)
abbrev has_its_part : DeleteScope → Slot → Slot → Bool
has_its_part Specific listed _ = is_given listed
has_its_part Domain _ domain = is_given domain
has_its_part _ _ _ = true

abbrev pub has_what_it_needs : Value → Bool
has_what_it_needs (parts (slot (given scope) (slot listed (slot domain done)))) = has_its_part (delete_scope.said scope) listed domain
has_what_it_needs v = false

-- DeleteVariableAccess-Request and DeleteNamedVariableList-Request
abbrev pub delete_names : Kind DeleteNames
delete_names = such_that has_what_it_needs delete_parts

-- their answers: numberMatched and numberDeleted
abbrev pub deleted_names : Kind Deleted
deleted_names = sequence (
    required (context 0 unsigned32) (λ x. x.matched) (
    required (context 1 unsigned32) (λ x. x.deleted) no_more))
    (λ matched deleted. record { matched = matched; deleted = deleted }) (λ x. refl)

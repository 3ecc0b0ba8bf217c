-- Variable lists (ISO 9506-2, variable access): their definition and their attributes.
use Rattle.std.specs.Prelude.{refl}
use Rattle.ber_forms.specs.Form.{any_number}
use Rattle.mms_types.specs.declared.variable.DefineNamedVariableList.{DefineNamedVariableList}
use Rattle.mms_types.specs.declared.variable.ListAttributes.{ListAttributes}
use Rattle.pdu_names.specs.Names.{names}
use Rattle.pdu_names.specs.Kinds.{Kind, boolean, context, one_of, list_of, sequence, required, no_more}
use Rattle.pdu_vars.specs.Variables.{own_variable, variables}

-- DefineNamedVariableList-Request: variableListName, which has no tag of its own, and listOfVariable, of 1 to 64 (this profile's choice)
abbrev pub define_list : Kind DefineNamedVariableList
define_list = sequence (
    required (one_of names) (λ x. x.name) (
    required (context 0 (variables 1 64)) (λ x. x.variables) no_more))
    (λ name variables. record { name = name; variables = variables }) (λ x. refl)

-- GetNamedVariableListAttributes-Response: mmsDeletable and listOfVariable
abbrev pub list_attributes : Kind ListAttributes
list_attributes = sequence (
    required (context 0 boolean) (λ x. x.deletable) (
    required (context 1 (list_of any_number own_variable)) (λ x. x.variables) no_more))
    (λ deletable variables. record { deletable = deletable; variables = variables }) (λ x. refl)

-- GetNameList (ISO 9506-2, VMD support): its request and its answer.
use Rattle.std.specs.Prelude.{◌≡◌, ℕ, [], ◌∷◌, get_or, refl}
use Rattle.ber_forms.specs.Value.{Value, nothing, chosen}
use Rattle.mms_types.specs.declared.name_list.ObjectClass.{ObjectClass}
use Rattle.mms_types.specs.declared.name_list.ObjectClass.TheVariants.{NamedVariable, ScatteredAccess, NamedVariableList, NamedType, Semaphore, EventCondition, EventAction, EventEnrollment, Journal, ProgramInvocation, OperatorStation}
use Rattle.mms_types.specs.declared.name_list.ObjectClass.TheVariants as class
use Rattle.mms_types.specs.declared.name_list.ObjectScope.{ObjectScope}
use Rattle.mms_types.specs.declared.name_list.ObjectScope.TheVariants.{Vmd, Domain, Association}
use Rattle.mms_types.specs.declared.name_list.GetNameList.{GetNameList}
use Rattle.mms_types.specs.declared.name_list.GetNameListAnswer.{GetNameListAnswer}
use Rattle.mms_types.specs.Classes.{class_number}
use Rattle.pdu_names.specs.Kinds.{Kind, Choice, Arms, null, boolean, enumerated, context, choice, sequence, required, optional, no_more, or, no_other, alternatives, made_of}
use Rattle.pdu_names.specs.Names.{identifier, identifiers}

-- basicObjectClass: from named variables 0 to operator stations 11
abbrev class_numbered : ℕ → ObjectClass
class_numbered n =
    get_or (NamedVariable ∷ ScatteredAccess ∷ NamedVariableList ∷ NamedType ∷ Semaphore ∷ EventCondition ∷ EventAction ∷ EventEnrollment
    ∷ Journal ∷ class.Domain ∷ ProgramInvocation ∷ []) n OperatorStation

pub class_again : (c : ObjectClass) → class_numbered (class_number c) ≡ c
class_again NamedVariable = refl
class_again ScatteredAccess = refl
class_again NamedVariableList = refl
class_again NamedType = refl
class_again Semaphore = refl
class_again EventCondition = refl
class_again EventAction = refl
class_again EventEnrollment = refl
class_again Journal = refl
class_again class.Domain = refl
class_again ProgramInvocation = refl
class_again OperatorStation = refl

abbrev pub object_class : Kind ObjectClass
object_class = enumerated 11 class_number class_numbered class_again

-- objectClass: basicObjectClass 0
abbrev pub classes : Choice ObjectClass
classes = alternatives (or 0 object_class (λ c. c) (no_other NamedVariable)) (λ c. chosen 0 (object_class.value c)) class_again

-- objectScope: vmdSpecific 0, domainSpecific 1 with the domain's name, aaSpecific 2
abbrev scope_arms : Arms ObjectScope
scope_arms = or 0 null (λ _. Vmd) (or 1 identifier Domain (or 2 null (λ _. Association) (no_other Vmd)))

abbrev scope_value : ObjectScope → Value
scope_value Vmd = chosen 0 nothing
scope_value (Domain domain) = chosen 1 (identifier.value domain)
scope_value Association = chosen 2 nothing

pub scope_again : (s : ObjectScope) → made_of scope_arms (scope_value s) ≡ s
scope_again Vmd = refl
scope_again (Domain domain) = refl
scope_again Association = refl

abbrev pub scopes : Choice ObjectScope
scopes = alternatives scope_arms scope_value scope_again

-- GetNameList-Request: objectClass, objectScope, and continueAfter
abbrev pub name_list : Kind GetNameList
name_list = sequence (
    required (context 0 (choice classes)) (λ x. x.class) (
    required (context 1 (choice scopes)) (λ x. x.scope) (
    optional (context 2 identifier) (λ x. x.after) no_more)))
    (λ class scope after. record { class = class; scope = scope; after = after }) (λ x. refl)

-- GetNameList-Response: listOfIdentifier and moreFollows, which is always written (this profile's choice)
abbrev pub name_list_answer : Kind GetNameListAnswer
name_list_answer = sequence (
    required (context 0 identifiers) (λ x. x.names) (
    required (context 1 boolean) (λ x. x.more) no_more))
    (λ names more. record { names = names; more = more }) (λ x. refl)

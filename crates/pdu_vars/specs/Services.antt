-- Services for variables and variable lists (ISO 9506-2, variable access).
use Rattle.std.specs.Prelude.{◌≡◌, true, List, [], ◌∷◌, Option, Some, None}
use Rattle.std.proofs.Common.{refl, ap}
use Rattle.ber_forms.specs.Value.{Value, chosen}
use Rattle.ber_forms.specs.Fits.{sound_alternatives}
use Rattle.mms_types.specs.declared.identifier.Edition.{Edition}
use Rattle.mms_types.specs.declared.pdu.Request.{Request}
use Rattle.mms_types.specs.declared.pdu.Request.TheVariants as request
use Rattle.mms_types.specs.declared.pdu.Answer.{Answer}
use Rattle.mms_types.specs.declared.pdu.Answer.TheVariants as answer
use Rattle.pdu_names.specs.Kinds.{null, choice}
use Rattle.pdu_names.specs.Names.{names, names_sound}
use Rattle.pdu_areas.specs.Services.{Service, service, forms_of}
use Rattle.pdu_areas.specs.Joined.{IsMade}
use Rattle.pdu_areas.specs.Areas.{Area, asks_of, answers_of}
use Rattle.pdu_data.specs.Data.{data_sound}
use Rattle.pdu_data.specs.Types.{type_sound}
use Rattle.pdu_vars.specs.Variables.{specifications, specifications_sound, accesses_sound}
use Rattle.pdu_vars.specs.Results.{write_answer, access_results_sound}
use Rattle.pdu_vars.specs.ReadWrite.{read_request, read_answer, write_request}
use Rattle.pdu_vars.specs.Named.{define_variable, variable_attributes, delete_names, deleted_names}
use Rattle.pdu_vars.specs.Lists.{define_list, list_attributes}

-- in the order of their numbers
abbrev pub variable_services : List Service
variable_services =
    service 4 read_request request.Read read_answer answer.Read ∷
    service 5 write_request request.Write write_answer answer.Write ∷
    service 6 (choice specifications) request.GetVariableAccessAttributes variable_attributes answer.GetVariableAccessAttributes ∷
    service 7 define_variable request.DefineNamedVariable null (λ _. answer.DefineNamedVariable) ∷
    service 10 delete_names request.DeleteVariableAccess deleted_names answer.DeleteVariableAccess ∷
    service 11 define_list request.DefineNamedVariableList null (λ _. answer.DefineNamedVariableList) ∷
    service 12 (choice names) request.GetNamedVariableListAttributes list_attributes answer.GetNamedVariableListAttributes ∷
    service 13 delete_names request.DeleteNamedVariableList deleted_names answer.DeleteNamedVariableList ∷
    []

-- ---- what is asked

abbrev variable_asked : Request → Option Value
variable_asked (request.Read x) = Some (chosen 4 (read_request.value x))
variable_asked (request.Write x) = Some (chosen 5 (write_request.value x))
variable_asked (request.GetVariableAccessAttributes x) = Some (chosen 6 ((choice specifications).value x))
variable_asked (request.DefineNamedVariable x) = Some (chosen 7 (define_variable.value x))
variable_asked (request.DeleteVariableAccess x) = Some (chosen 10 (delete_names.value x))
variable_asked (request.DefineNamedVariableList x) = Some (chosen 11 (define_list.value x))
variable_asked (request.GetNamedVariableListAttributes x) = Some (chosen 12 ((choice names).value x))
variable_asked (request.DeleteNamedVariableList x) = Some (chosen 13 (delete_names.value x))
variable_asked other = None

abbrev asked : Request → Option Request
asked r = Some r

pub asked_again : (r : Request) → IsMade (asks_of variable_services) (variable_asked r) r
asked_again (request.Read x) = ap (λ y. asked (request.Read y)) (read_request.again x)
asked_again (request.Write x) = ap (λ y. asked (request.Write y)) (write_request.again x)
asked_again (request.GetVariableAccessAttributes x) = ap (λ y. asked (request.GetVariableAccessAttributes y)) ((choice specifications).again x)
asked_again (request.DefineNamedVariable x) = ap (λ y. asked (request.DefineNamedVariable y)) (define_variable.again x)
asked_again (request.DeleteVariableAccess x) = ap (λ y. asked (request.DeleteVariableAccess y)) (delete_names.again x)
asked_again (request.DefineNamedVariableList x) = ap (λ y. asked (request.DefineNamedVariableList y)) (define_list.again x)
asked_again (request.GetNamedVariableListAttributes x) = ap (λ y. asked (request.GetNamedVariableListAttributes y)) ((choice names).again x)
asked_again (request.DeleteNamedVariableList x) = ap (λ y. asked (request.DeleteNamedVariableList y)) (delete_names.again x)
asked_again other = tt

pub asks_sound : (e : Edition) → sound_alternatives (forms_of (asks_of variable_services) e) ≡ true
asks_sound e = rw (accesses_sound e, data_sound e, specifications_sound e, names_sound e, type_sound e) refl

-- ---- what is answered

abbrev variable_answered : Answer → Option Value
variable_answered (answer.Read x) = Some (chosen 4 (read_answer.value x))
variable_answered (answer.Write x) = Some (chosen 5 (write_answer.value x))
variable_answered (answer.GetVariableAccessAttributes x) = Some (chosen 6 (variable_attributes.value x))
variable_answered answer.DefineNamedVariable = Some (chosen 7 (null.value tt))
variable_answered (answer.DeleteVariableAccess x) = Some (chosen 10 (deleted_names.value x))
variable_answered answer.DefineNamedVariableList = Some (chosen 11 (null.value tt))
variable_answered (answer.GetNamedVariableListAttributes x) = Some (chosen 12 (list_attributes.value x))
variable_answered (answer.DeleteNamedVariableList x) = Some (chosen 13 (deleted_names.value x))
variable_answered other = None

abbrev answered : Answer → Option Answer
answered a = Some a

pub answered_again : (a : Answer) → IsMade (answers_of variable_services) (variable_answered a) a
answered_again (answer.Read x) = ap (λ y. answered (answer.Read y)) (read_answer.again x)
answered_again (answer.Write x) = ap (λ y. answered (answer.Write y)) (write_answer.again x)
answered_again (answer.GetVariableAccessAttributes x) = ap (λ y. answered (answer.GetVariableAccessAttributes y)) (variable_attributes.again x)
answered_again answer.DefineNamedVariable = refl
answered_again (answer.DeleteVariableAccess x) = ap (λ y. answered (answer.DeleteVariableAccess y)) (deleted_names.again x)
answered_again answer.DefineNamedVariableList = refl
answered_again (answer.GetNamedVariableListAttributes x) = ap (λ y. answered (answer.GetNamedVariableListAttributes y)) (list_attributes.again x)
answered_again (answer.DeleteNamedVariableList x) = ap (λ y. answered (answer.DeleteNamedVariableList y)) (deleted_names.again x)
answered_again other = tt

pub answers_sound : (e : Edition) → sound_alternatives (forms_of (answers_of variable_services) e) ≡ true
answers_sound e = rw (accesses_sound e, access_results_sound e, type_sound e, specifications_sound e) refl

abbrev pub variable_area : Area
variable_area = record {
  services = variable_services;
  requests = record { arms = asks_of variable_services; value = variable_asked; again = asked_again; sound = asks_sound };
  answers = record { arms = answers_of variable_services; value = variable_answered; again = answered_again; sound = answers_sound };
}

-- Read and Write (ISO 9506-2, variable access): their requests, and the answer of Read.
use Rattle.std.specs.Prelude.{false, List, refl}
use Rattle.ber_forms.specs.Form.{any_number}
use Rattle.mms_types.specs.Datum.{Datum}
use Rattle.mms_types.specs.declared.access_result.AccessResult.{AccessResult}
use Rattle.mms_types.specs.declared.variable.Read.{Read}
use Rattle.mms_types.specs.declared.variable.ReadAnswer.{ReadAnswer}
use Rattle.mms_types.specs.declared.variable.Write.{Write}
use Rattle.pdu_data.specs.Data.{data_choice}
use Rattle.pdu_names.specs.Kinds.{Kind, boolean, context, one_of, list_of, choice, sequence, required, optional, defaulted, no_more}
use Rattle.pdu_vars.specs.Variables.{accesses}
use Rattle.pdu_vars.specs.Results.{access_results}

-- Read-Request: specificationWithResult, FALSE where it is absent, and variableAccessSpecification
abbrev pub read_request : Kind Read
read_request = sequence (
    defaulted (context 0 boolean) false (λ x. x.with_access) (
    required (context 1 (choice accesses)) (λ x. x.access) no_more))
    (λ with_access access. record { with_access = with_access; access = access }) (λ x. refl)

abbrev pub read_results : Kind (List AccessResult)
read_results = list_of any_number (one_of access_results)

-- Read-Response: variableAccessSpecification and listOfAccessResult
abbrev pub read_answer : Kind ReadAnswer
read_answer = sequence (
    optional (context 0 (choice accesses)) (λ x. x.access) (
    required (context 1 read_results) (λ x. x.results) no_more))
    (λ access results. record { access = access; results = results }) (λ x. refl)

abbrev pub data_list : Kind (List Datum)
data_list = list_of any_number (one_of data_choice)

-- Write-Request: variableAccessSpecification, which has no tag of its own, and listOfData
abbrev pub write_request : Kind Write
write_request = sequence (
    required (one_of accesses) (λ x. x.access) (
    required (context 0 data_list) (λ x. x.values) no_more))
    (λ access values. record { access = access; values = values }) (λ x. refl)

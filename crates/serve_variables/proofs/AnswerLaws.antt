-- Each request for variables that is not refused is answered at once.
use Rattle.std.specs.Prelude.{◌≡◌, ℕ, Option, None, Some, [], ◌∷◌, is_none, refl}
use Rattle.std.specs.Option.{option_map}
use Rattle.std.proofs.Common.{inl}
use Rattle.mms_types.specs.Errors.{first_of, object_non_existent}
use Rattle.mms_types.specs.declared.area.VariableRequest.{VariableRequest}
use Rattle.mms_types.specs.declared.area.VariableRequest.TheVariants as request
use Rattle.mms_types.specs.declared.pdu.Answer.{Answer}
use Rattle.mms_types.specs.declared.pdu.Answer.TheVariants as answer
use Rattle.association.specs.Client.{ClientRow}
use Rattle.variable_services.specs.declared.tables.VariableTables.{VariableTables}
use Rattle.variable_services.specs.Services as variable
use Rattle.cell_client.specs.Areas.{AnswersOrWaitsIn, answers}
use Rattle.cell_client.specs.Facts.{Facts}
use Rattle.serve_variables.specs.Variables.{request_in}

module _ (facts : Facts) (v : VariableTables) (row : ClientRow) (invoke : ℕ) where
  -- there is something to be told of
  found : {X : Type 0} (wrap : X → Answer) (o : Option X) → first_of ((is_none o, object_non_existent) ∷ []) ≡ None
      → AnswersOrWaitsIn row.client invoke (answers v (option_map wrap o))
  found wrap None e = absurd (cc e)
  found wrap (Some x) e = inl (_, refl, refl)

  pub answers_or_waits : (asked : VariableRequest) → (request_in asked).cause facts v row ≡ None
      → AnswersOrWaitsIn row.client invoke ((request_in asked).effect facts v row invoke)
  answers_or_waits (request.GetVariableAccessAttributes x) none = found answer.GetVariableAccessAttributes (variable.attributes_answer row.client x.now v) none
  answers_or_waits (request.GetNamedVariableListAttributes x) none =
      found answer.GetNamedVariableListAttributes (variable.list_attributes_answer row.client x.now v) none
  answers_or_waits (request.Read x) none = inl (_, refl, refl)
  answers_or_waits (request.Write x) none = inl (_, refl, refl)
  answers_or_waits (request.DefineNamedVariable x) none = inl (_, refl, refl)
  answers_or_waits (request.DeleteVariableAccess x) none = inl (_, refl, refl)
  answers_or_waits (request.DefineNamedVariableList x) none = inl (_, refl, refl)
  answers_or_waits (request.DeleteNamedVariableList x) none = inl (_, refl, refl)

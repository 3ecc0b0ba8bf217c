-- Each request for program invocations that is not refused is answered at once, and nobody else is told anything.
use Rattle.std.specs.Prelude.{◌≡◌, ℕ, Option, None, Some, List, [], ◌∷◌, is_none, refl}
use Rattle.std.specs.Option.{option_map}
use Rattle.std.proofs.Common.{inl}
use Rattle.mms_types.specs.Errors.{first_of, object_non_existent}
use Rattle.mms_types.specs.declared.area.InvocationRequest.{InvocationRequest}
use Rattle.mms_types.specs.declared.area.InvocationRequest.TheVariants as invocations
use Rattle.mms_types.specs.declared.area.ProgramRequest.{ProgramRequest}
use Rattle.mms_types.specs.declared.area.ProgramRequest.TheVariants as request
use Rattle.mms_types.specs.declared.pdu.Answer.TheVariants as answer
use Rattle.program_inv.specs.Programs.{Rows, attributes_of, named}
use Rattle.program_inv.specs.declared.invocation.Invocation.{Invocation}
use Rattle.association.specs.Client.{ClientRow}
use Rattle.cell_client.specs.Areas.{AnswersOrWaitsIn}
use Rattle.cell_client.specs.Facts.{Facts}
use Rattle.serve_domains.specs.Tables.{DomainTables}
use Rattle.serve_programs.specs.Programs.{invocation_in, program_in}

module _ (facts : Facts) (row : ClientRow) (invoke : ℕ) where
  -- there is an invocation to be told of
  found_one : (t : Rows) (o : Option Invocation) → first_of ((is_none o, object_non_existent) ∷ []) ≡ None
      → AnswersOrWaitsIn row.client invoke (record { tables = t; answer = option_map answer.GetProgramInvocationAttributes (option_map attributes_of o); also = [] })
  found_one t None e = absurd (cc e)
  found_one t (Some p) e = inl (_, refl, refl)

  pub makes_answer : (t : DomainTables × Rows) (asked : InvocationRequest) → AnswersOrWaitsIn row.client invoke ((invocation_in asked).effect facts t row invoke)
  makes_answer t (invocations.CreateProgramInvocation x) = inl (_, refl, refl)
  makes_answer t (invocations.DeleteProgramInvocation x) = inl (_, refl, refl)

  pub answers_or_waits : (t : Rows) (asked : ProgramRequest) → (program_in asked).cause facts t row ≡ None → AnswersOrWaitsIn row.client invoke ((program_in asked).effect facts t row invoke)
  answers_or_waits t (request.Start x) none = inl (_, refl, refl)
  answers_or_waits t (request.Stop x) none = inl (_, refl, refl)
  answers_or_waits t (request.Resume x) none = inl (_, refl, refl)
  answers_or_waits t (request.Reset x) none = inl (_, refl, refl)
  answers_or_waits t (request.Kill x) none = inl (_, refl, refl)
  answers_or_waits t (request.GetProgramInvocationAttributes x) none = found_one t (named x.now t) none

  -- nobody else is told anything
  pub makes_alone : (t : DomainTables × Rows) (asked : InvocationRequest) → ((invocation_in asked).effect facts t row invoke).also ≡ []
  makes_alone t (invocations.CreateProgramInvocation x) = refl
  makes_alone t (invocations.DeleteProgramInvocation x) = refl

  pub programs_alone : (t : Rows) (asked : ProgramRequest) → ((program_in asked).effect facts t row invoke).also ≡ []
  programs_alone t (request.Start x) = refl
  programs_alone t (request.Stop x) = refl
  programs_alone t (request.Resume x) = refl
  programs_alone t (request.Reset x) = refl
  programs_alone t (request.Kill x) = refl
  programs_alone t (request.GetProgramInvocationAttributes x) = refl

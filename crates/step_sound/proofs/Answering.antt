-- Each request is answered at once, or it waits; and one that waits no more is answered.
use Rattle.std.specs.Prelude.{◌≡◌, ℕ, Bool, true, false, Option, None, Some, [], ◌∷◌, if◌then◌else◌, refl}
use Rattle.std.proofs.Common.{sym, subst, inl, inr}
use Rattle.std.specs.Borrow.{Bor}
use Rattle.mms_types.specs.declared.area.InvocationRequest.{InvocationRequest}
use Rattle.mms_types.specs.declared.area.InvocationRequest.TheVariants as invocations
use Rattle.mms_types.specs.declared.area.ProgramRequest.{ProgramRequest}
use Rattle.mms_types.specs.declared.area.ProgramRequest.TheVariants as programs
use Rattle.mms_types.specs.declared.area.SemaphoreRequest.{SemaphoreRequest}
use Rattle.mms_types.specs.declared.area.SemaphoreRequest.TheVariants as semaphores
use Rattle.mms_types.specs.declared.area.VariableRequest.{VariableRequest}
use Rattle.mms_types.specs.declared.area.VariableRequest.TheVariants as variables
use Rattle.mms_types.specs.declared.pdu.Answer.{Answer}
use Rattle.mms_types.specs.declared.pdu.Request.{Request}
use Rattle.mms_types.specs.declared.pdu.Request.TheVariants as request
use Rattle.mms_types.specs.declared.service_error.ServiceError.{ServiceError}
use Rattle.association.specs.Client.{ClientRow}
use Rattle.domain_upload.specs.Uploads.{AreOf}
use Rattle.cell_client.specs.Areas.{AnswersOrWaitsIn}
use Rattle.cell_client.specs.Association.{Takes, other_error}
use Rattle.cell_client.specs.Requests.{answer_told, fits, is_done, refuses, request_told, size_of}
use Rattle.serve_semaphores.proofs.AnswerLaws as semaphore_laws
use Rattle.serve_semaphores.specs.Semaphores as of_semaphores
use Rattle.serve_variables.proofs.AnswerLaws as variable_laws
use Rattle.serve_variables.specs.Variables as of_variables
use Rattle.serve_domains.proofs.AnswerLaws as domain_laws
use Rattle.serve_domains.specs.Domains as of_domains
use Rattle.serve_programs.proofs.AnswerLaws as program_laws
use Rattle.serve_programs.specs.Programs as of_programs
use Rattle.mms_types.specs.declared.area.DomainRequest.{DomainRequest}
use Rattle.mms_types.specs.declared.area.DomainRequest.TheVariants as domains
use Rattle.serve_events.specs.AnswerLaws as event_laws
use Rattle.serve_journals.proofs.AnswerLaws as journal_laws
use Rattle.serve_journals.specs.Journals as of_journals
use Rattle.serve_events.specs.Events as of_events
use Rattle.mms_types.specs.declared.area.EventRequest.{EventRequest}
use Rattle.mms_types.specs.declared.area.EventRequest.TheVariants as events
use Rattle.mms_types.specs.declared.area.JournalRequest.{JournalRequest}
use Rattle.mms_types.specs.declared.area.JournalRequest.TheVariants as journals
use Rattle.cell_services.specs.Requests.{told_in}
use Rattle.cell_services.specs.Services.{cause, effect}
use Rattle.cell_services.specs.Serving.{also_told, own_told}
use Rattle.cell_services.specs.Tables.{Tables, own_semaphores, own_variables, own_domains, own_events, own_invocations, own_journals, own_programs}
use Rattle.step_sound.specs.Answered.{AnswersOrWaits, waits_told}

-- as an area looks at it
abbrev seen : {X : Type 0} → X → Bor X
seen x = record { ref_ptr = (0, 0); now = x }

-- the domain of each open upload is there
module _ (t : Tables) (row : ClientRow) (invoke : ℕ) (uploads : AreOf t.domains.uploads t.domains.domains) where
  -- ---- what a request comes to that is not refused, by its area

  of_the_variables : (x : VariableRequest) → (of_variables.request_in x).cause (told_in own_variables t row (of_variables.request_in x)) t.variables row ≡ None
      → AnswersOrWaitsIn row.client invoke ((of_variables.request_in x).effect (told_in own_variables t row (of_variables.request_in x)) t.variables row invoke)
  of_the_variables x = variable_laws.answers_or_waits (told_in own_variables t row (of_variables.request_in x)) t.variables row invoke x

  of_the_semaphores : (x : SemaphoreRequest) → (of_semaphores.request_in x).cause (told_in own_semaphores t row (of_semaphores.request_in x)) t.semaphores row ≡ None
      → AnswersOrWaitsIn row.client invoke ((of_semaphores.request_in x).effect (told_in own_semaphores t row (of_semaphores.request_in x)) t.semaphores row invoke)
  of_the_semaphores x = semaphore_laws.answers_or_waits (told_in own_semaphores t row (of_semaphores.request_in x)) t.semaphores row invoke x

  of_the_domains : (x : DomainRequest) → (of_domains.request_in x).cause (told_in own_domains t row (of_domains.request_in x)) t.domains row ≡ None
      → AnswersOrWaitsIn row.client invoke ((of_domains.request_in x).effect (told_in own_domains t row (of_domains.request_in x)) t.domains row invoke)
  of_the_domains x = domain_laws.answers_or_waits (told_in own_domains t row (of_domains.request_in x)) t.domains row invoke uploads x

  of_the_invocations : (x : InvocationRequest) → AnswersOrWaitsIn row.client invoke
      ((of_programs.invocation_in x).effect (told_in own_invocations t row (of_programs.invocation_in x)) (t.domains, t.programs) row invoke)
  of_the_invocations x = program_laws.makes_answer (told_in own_invocations t row (of_programs.invocation_in x)) row invoke (t.domains, t.programs) x

  of_the_programs : (x : ProgramRequest) → (of_programs.program_in x).cause (told_in own_programs t row (of_programs.program_in x)) t.programs row ≡ None
      → AnswersOrWaitsIn row.client invoke ((of_programs.program_in x).effect (told_in own_programs t row (of_programs.program_in x)) t.programs row invoke)
  of_the_programs x = program_laws.answers_or_waits (told_in own_programs t row (of_programs.program_in x)) row invoke t.programs x

  of_the_events : (x : EventRequest) → (of_events.request_in x).cause (told_in own_events t row (of_events.request_in x)) t.events row ≡ None
      → AnswersOrWaitsIn row.client invoke ((of_events.request_in x).effect (told_in own_events t row (of_events.request_in x)) t.events row invoke)
  of_the_events x = event_laws.answers_or_waits (told_in own_events t row (of_events.request_in x)) t.events row invoke x

  of_the_journals : (x : JournalRequest) → (of_journals.request_in x).cause (told_in own_journals t row (of_journals.request_in x)) t.journals row ≡ None
      → AnswersOrWaitsIn row.client invoke ((of_journals.request_in x).effect (told_in own_journals t row (of_journals.request_in x)) t.journals row invoke)
  of_the_journals x = journal_laws.answers_or_waits (told_in own_journals t row (of_journals.request_in x)) row invoke t.journals x

  pub settled : (asked : Request) → cause t row asked ≡ None → AnswersOrWaitsIn row.client invoke (effect t row invoke asked)
  settled (request.GetNameList x) none = inl (_, refl, refl)
  settled (request.Status asked) none = inl (_, refl, refl)
  settled request.Identify none = inl (_, refl, refl)
  settled (request.Read x) none = of_the_variables (variables.Read (seen x)) none
  settled (request.Write x) none = of_the_variables (variables.Write (seen x)) none
  settled (request.GetVariableAccessAttributes x) none = of_the_variables (variables.GetVariableAccessAttributes (seen x)) none
  settled (request.DefineNamedVariable x) none = of_the_variables (variables.DefineNamedVariable (seen x)) none
  settled (request.DeleteVariableAccess x) none = of_the_variables (variables.DeleteVariableAccess (seen x)) none
  settled (request.DefineNamedVariableList x) none = of_the_variables (variables.DefineNamedVariableList (seen x)) none
  settled (request.GetNamedVariableListAttributes x) none = of_the_variables (variables.GetNamedVariableListAttributes (seen x)) none
  settled (request.DeleteNamedVariableList x) none = of_the_variables (variables.DeleteNamedVariableList (seen x)) none
  settled (request.TakeControl x) none = of_the_semaphores (semaphores.TakeControl (seen x)) none
  settled (request.RelinquishControl x) none = of_the_semaphores (semaphores.RelinquishControl (seen x)) none
  settled (request.DefineSemaphore x) none = of_the_semaphores (semaphores.DefineSemaphore (seen x)) none
  settled (request.DeleteSemaphore x) none = of_the_semaphores (semaphores.DeleteSemaphore (seen x)) none
  settled (request.ReportSemaphoreStatus x) none = of_the_semaphores (semaphores.ReportSemaphoreStatus (seen x)) none
  settled (request.ReportPoolSemaphoreStatus x) none = of_the_semaphores (semaphores.ReportPoolSemaphoreStatus (seen x)) none
  settled (request.ReportSemaphoreEntryStatus x) none = of_the_semaphores (semaphores.ReportSemaphoreEntryStatus (seen x)) none
  settled (request.InitiateDownloadSequence x) none = of_the_domains (domains.InitiateDownloadSequence (seen x)) none
  settled (request.InitiateUploadSequence x) none = of_the_domains (domains.InitiateUploadSequence (seen x)) none
  settled (request.UploadSegment number) none = of_the_domains (domains.UploadSegment number) none
  settled (request.TerminateUploadSequence number) none = of_the_domains (domains.TerminateUploadSequence number) none
  settled (request.DeleteDomain x) none = of_the_domains (domains.DeleteDomain (seen x)) none
  settled (request.GetDomainAttributes x) none = of_the_domains (domains.GetDomainAttributes (seen x)) none
  settled (request.CreateProgramInvocation x) none = of_the_invocations (invocations.CreateProgramInvocation (seen x))
  settled (request.DeleteProgramInvocation x) none = of_the_invocations (invocations.DeleteProgramInvocation (seen x))
  settled (request.Start x) none = of_the_programs (programs.Start (seen x)) none
  settled (request.Stop x) none = of_the_programs (programs.Stop (seen x)) none
  settled (request.Resume x) none = of_the_programs (programs.Resume (seen x)) none
  settled (request.Reset x) none = of_the_programs (programs.Reset (seen x)) none
  settled (request.Kill x) none = of_the_programs (programs.Kill (seen x)) none
  settled (request.GetProgramInvocationAttributes x) none = of_the_programs (programs.GetProgramInvocationAttributes (seen x)) none
  settled (request.DefineEventCondition x) none = of_the_events (events.DefineEventCondition (seen x)) none
  settled (request.DeleteEventCondition x) none = of_the_events (events.DeleteEventCondition (seen x)) none
  settled (request.ReportEventConditionStatus x) none = of_the_events (events.ReportEventConditionStatus (seen x)) none
  settled (request.AlterEventConditionMonitoring x) none = of_the_events (events.AlterEventConditionMonitoring (seen x)) none
  settled (request.TriggerEvent x) none = of_the_events (events.TriggerEvent (seen x)) none
  settled (request.DefineEventEnrollment x) none = of_the_events (events.DefineEventEnrollment (seen x)) none
  settled (request.DeleteEventEnrollment x) none = of_the_events (events.DeleteEventEnrollment (seen x)) none
  settled (request.ReadJournal x) none = of_the_journals (journals.ReadJournal (seen x)) none
  settled (request.WriteJournal x) none = of_the_journals (journals.WriteJournal (seen x)) none
  settled (request.InitializeJournal x) none = of_the_journals (journals.InitializeJournal (seen x)) none
  settled (request.ReportJournalStatus x) none = of_the_journals (journals.ReportJournalStatus (seen x)) none
  settled (request.CreateJournal x) none = of_the_journals (journals.CreateJournal (seen x)) none
  settled (request.DeleteJournal x) none = of_the_journals (journals.DeleteJournal (seen x)) none

  -- ---- what is told of it

  pub answered_or_waits : (asked : Request) → AnswersOrWaits row.client invoke (own_told t row (Takes invoke asked)) (also_told t row (Takes invoke asked))
  answered_or_waits asked = by_cause (cause t row asked) refl
    where
      by_fit : (a : Answer) → waits_told (effect t row invoke asked).also ≡ [] → (b : Bool)
          → AnswersOrWaits row.client invoke (if b then answer_told invoke (Some a) else refuses invoke other_error ∷ []) (if b then (effect t row invoke asked).also else [])
      by_fit a none true = inl (_, refl, none)
      by_fit a none false = inl (_, refl, refl)

      by_settled : AnswersOrWaitsIn row.client invoke (effect t row invoke asked)
          → AnswersOrWaits row.client invoke (request_told (size_of row.association) invoke None (effect t row invoke asked).answer)
          (if is_done (size_of row.association) invoke None (effect t row invoke asked).answer then (effect t row invoke asked).also else [])
      by_settled (inl (a, is, none)) =
          subst (λ (told : Option Answer). AnswersOrWaits row.client invoke (request_told (size_of row.association) invoke None told)
          (if is_done (size_of row.association) invoke None told then (effect t row invoke asked).also else [])) (sym is)
          (by_fit a none (fits (size_of row.association) invoke (Some a)))
      by_settled (inr (r, same, is, also)) =
          subst (λ (told : Option Answer). AnswersOrWaits row.client invoke (request_told (size_of row.association) invoke None told)
          (if is_done (size_of row.association) invoke None told then (effect t row invoke asked).also else [])) (sym is)
          (inr (r, same, refl, also))

      by_cause : (why : Option ServiceError) → cause t row asked ≡ why
          → AnswersOrWaits row.client invoke (request_told (size_of row.association) invoke why (effect t row invoke asked).answer)
          (if is_done (size_of row.association) invoke why (effect t row invoke asked).answer then (effect t row invoke asked).also else [])
      by_cause None e = by_settled (settled asked e)
      by_cause (Some refusal) e = inl (_, refl, refl)

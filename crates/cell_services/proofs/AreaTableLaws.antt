-- A request is in the area that looks at it, which tells what it asks besides.
use Rattle.std.specs.Prelude.{◌≡◌, ℕ, Bool, true, false, [], ◌∷◌, ◌++◌, List, Option, is_some, refl}
use Rattle.std.specs.List.{flat_map, list_any}
use Rattle.std.proofs.Common.{ap, ◌∙◌}
use Rattle.mms_types.specs.Areas.{device_request, domain_request, event_request, invocation_request, journal_request, program_request, semaphore_request, variable_request}
use Rattle.mms_types.specs.declared.area.DeviceRequest.{DeviceRequest}
use Rattle.mms_types.specs.declared.area.DeviceRequest.TheVariants as device
use Rattle.mms_types.specs.declared.area.DomainRequest.{DomainRequest}
use Rattle.mms_types.specs.declared.area.DomainRequest.TheVariants as domains
use Rattle.mms_types.specs.declared.area.EventRequest.{EventRequest}
use Rattle.mms_types.specs.declared.area.EventRequest.TheVariants as events
use Rattle.mms_types.specs.declared.area.InvocationRequest.{InvocationRequest}
use Rattle.mms_types.specs.declared.area.InvocationRequest.TheVariants as invocations
use Rattle.mms_types.specs.declared.area.JournalRequest.{JournalRequest}
use Rattle.mms_types.specs.declared.area.JournalRequest.TheVariants as journals
use Rattle.mms_types.specs.declared.area.ProgramRequest.{ProgramRequest}
use Rattle.mms_types.specs.declared.area.ProgramRequest.TheVariants as programs
use Rattle.mms_types.specs.declared.area.SemaphoreRequest.{SemaphoreRequest}
use Rattle.mms_types.specs.declared.area.SemaphoreRequest.TheVariants as semaphores
use Rattle.mms_types.specs.declared.area.VariableRequest.{VariableRequest}
use Rattle.mms_types.specs.declared.area.VariableRequest.TheVariants as variables
use Rattle.association.specs.Client.{ClientRow}
use Rattle.mms_time.specs.Semaphores.{Rows}
use Rattle.variable_services.specs.declared.tables.VariableTables.{VariableTables}
use Rattle.cell_client.specs.Facts.{Facts, Question, Truth}
use Rattle.serve_variables.specs.Variables as variable
use Rattle.serve_variables.specs.Variables.{guards_asked}
use Rattle.serve_domains.specs.Domains as domain
use Rattle.serve_domains.specs.Tables.{DomainTables}
use Rattle.program_inv.specs.Programs.{Rows as Programs}
use Rattle.serve_programs.specs.Programs as program
use Rattle.serve_events.specs.Events as event
use Rattle.serve_events.specs.declared.tables.EventTables.{EventTables}
use Rattle.mms_journal.specs.Journals.{Rows as Journals}
use Rattle.serve_journals.specs.Journals as journal
use Rattle.serve_semaphores.specs.Semaphores as semaphore
use Rattle.cell_services.specs.Device as of_device
use Rattle.cell_services.specs.Facts.{cell_tables, guard_tables, tables_for}
use Rattle.cell_services.specs.Services.{OfDevice, OfDomains, OfEvents, OfInvocations, OfJournals, OfPrograms, OfSemaphores, OfVariables, area_of}

pub in_device : (x : DeviceRequest) → area_of (device_request x) ≡ OfDevice (of_device.request_in x)
in_device (device.Status x) = refl
in_device (device.GetNameList x) = refl
in_device device.Identify = refl

pub in_variables : (x : VariableRequest) → area_of (variable_request x) ≡ OfVariables (variable.request_in x)
in_variables (variables.Read x) = refl
in_variables (variables.Write x) = refl
in_variables (variables.GetVariableAccessAttributes x) = refl
in_variables (variables.DefineNamedVariable x) = refl
in_variables (variables.DeleteVariableAccess x) = refl
in_variables (variables.DefineNamedVariableList x) = refl
in_variables (variables.GetNamedVariableListAttributes x) = refl
in_variables (variables.DeleteNamedVariableList x) = refl

pub in_semaphores : (x : SemaphoreRequest) → area_of (semaphore_request x) ≡ OfSemaphores (semaphore.request_in x)
in_semaphores (semaphores.TakeControl x) = refl
in_semaphores (semaphores.RelinquishControl x) = refl
in_semaphores (semaphores.DefineSemaphore x) = refl
in_semaphores (semaphores.DeleteSemaphore x) = refl
in_semaphores (semaphores.ReportSemaphoreStatus x) = refl
in_semaphores (semaphores.ReportPoolSemaphoreStatus x) = refl
in_semaphores (semaphores.ReportSemaphoreEntryStatus x) = refl

pub in_domains : (x : DomainRequest) → area_of (domain_request x) ≡ OfDomains (domain.request_in x)
in_domains (domains.InitiateDownloadSequence x) = refl
in_domains (domains.InitiateUploadSequence x) = refl
in_domains (domains.UploadSegment x) = refl
in_domains (domains.TerminateUploadSequence x) = refl
in_domains (domains.DeleteDomain x) = refl
in_domains (domains.GetDomainAttributes x) = refl

pub in_invocations : (x : InvocationRequest) → area_of (invocation_request x) ≡ OfInvocations (program.invocation_in x)
in_invocations (invocations.CreateProgramInvocation x) = refl
in_invocations (invocations.DeleteProgramInvocation x) = refl

pub in_programs : (x : ProgramRequest) → area_of (program_request x) ≡ OfPrograms (program.program_in x)
in_programs (programs.Start x) = refl
in_programs (programs.Stop x) = refl
in_programs (programs.Resume x) = refl
in_programs (programs.Reset x) = refl
in_programs (programs.Kill x) = refl
in_programs (programs.GetProgramInvocationAttributes x) = refl

pub in_events : (x : EventRequest) → area_of (event_request x) ≡ OfEvents (event.request_in x)
in_events (events.DefineEventCondition x) = refl
in_events (events.DeleteEventCondition x) = refl
in_events (events.ReportEventConditionStatus x) = refl
in_events (events.AlterEventConditionMonitoring x) = refl
in_events (events.TriggerEvent x) = refl
in_events (events.DefineEventEnrollment x) = refl
in_events (events.DeleteEventEnrollment x) = refl

pub in_journals : (x : JournalRequest) → area_of (journal_request x) ≡ OfJournals (journal.request_in x)
in_journals (journals.ReadJournal x) = refl
in_journals (journals.WriteJournal x) = refl
in_journals (journals.InitializeJournal x) = refl
in_journals (journals.ReportJournalStatus x) = refl
in_journals (journals.CreateJournal x) = refl
in_journals (journals.DeleteJournal x) = refl

-- ---- what their own tables show to be asked besides

none_behind : (b : Bool) → guard_tables b ++ [] ≡ guard_tables b
none_behind true = refl
none_behind false = refl

-- by a write, whether its client owns the guards, where a variable has one
pub more_variables : (x : VariableRequest) (v : VariableTables) (row : ClientRow)
    → flat_map tables_for ((variable.request_in x).more v row) ≡ guard_tables (list_any is_some (guards_asked x row.client v))
more_variables (variables.Write x) v row = none_behind (list_any is_some (guards_asked (variables.Write x) row.client v))
more_variables other v row = refl

-- by a request for event conditions, whether the cell is TRUE that one watches that it names, where one does
no_cell_behind : (b : Bool) → cell_tables b ++ [] ≡ cell_tables b
no_cell_behind true = refl
no_cell_behind false = refl

pub more_events : (x : EventRequest) (t : EventTables) (row : ClientRow) (cell : Option ℕ) → (event.request_in x).more t row ≡ Truth cell ∷ []
    → flat_map tables_for ((event.request_in x).more t row) ≡ cell_tables (is_some cell)
more_events x t row cell asks = ap (λ (l : List Question). flat_map tables_for l) asks ∙ no_cell_behind (is_some cell)

-- by others, nothing
pub more_semaphores : (x : SemaphoreRequest) (rows : Rows) (row : ClientRow) → flat_map tables_for ((semaphore.request_in x).more rows row) ≡ []
more_semaphores (semaphores.TakeControl x) rows row = refl
more_semaphores other rows row = refl

pub more_domains : (x : DomainRequest) (t : DomainTables) (row : ClientRow) → flat_map tables_for ((domain.request_in x).more t row) ≡ []
more_domains (domains.DeleteDomain x) t row = refl
more_domains other t row = refl

pub more_invocations : (x : InvocationRequest) (t : DomainTables × Programs) (row : ClientRow) → flat_map tables_for ((program.invocation_in x).more t row) ≡ []
more_invocations (invocations.CreateProgramInvocation x) t row = refl
more_invocations (invocations.DeleteProgramInvocation x) t row = refl

pub more_programs : (x : ProgramRequest) (t : Programs) (row : ClientRow) → flat_map tables_for ((program.program_in x).more t row) ≡ []
more_programs (programs.Start x) t row = refl
more_programs other t row = refl

pub more_journals : (x : JournalRequest) (rows : Journals) (row : ClientRow) → flat_map tables_for ((journal.request_in x).more rows row) ≡ []
more_journals (journals.ReadJournal x) rows row = refl
more_journals other rows row = refl

pub more_device : (x : DeviceRequest) (row : ClientRow) → flat_map tables_for ((of_device.request_in x).more tt row) ≡ []
more_device device.Identify row = refl
more_device other row = refl

-- ---- a request for variables tells nobody else anything

pub variables_alone : (x : VariableRequest) (facts : Facts) (v : VariableTables) (row : ClientRow) (invoke : ℕ) → ((variable.request_in x).effect facts v row invoke).also ≡ []
variables_alone (variables.Read x) facts v row invoke = refl
variables_alone other facts v row invoke = refl

pub device_alone : (x : DeviceRequest) (facts : Facts) (row : ClientRow) (invoke : ℕ) → ((of_device.request_in x).effect facts tt row invoke).also ≡ []
device_alone device.Identify facts row invoke = refl
device_alone other facts row invoke = refl

-- The confirmed services: why a request is refused, what it does otherwise, and which tables it uses (ISO 9506-1, VMD support, variable access, domain management, program
-- invocation management, event management, journal management and semaphore management).
use Rattle.std.specs.Prelude.{ℕ, Bool, false, List, Option}
use Rattle.mms_types.specs.declared.pdu.Request.{Request}
use Rattle.mms_types.specs.declared.pdu.Request.TheVariants as request
use Rattle.mms_types.specs.declared.semaphore.RelinquishControl.{RelinquishControl}
use Rattle.mms_types.specs.declared.semaphore.TakeControl.{TakeControl}
use Rattle.mms_types.specs.declared.service_error.ServiceError.{ServiceError}
use Rattle.mms_time.specs.Semaphores.{Rows}
use Rattle.mms_time.specs.declared.taking.TakeDone.{TakeDone}
use Rattle.sem_ticks.specs.declared.granted.Granted.{Granted}
use Rattle.variable_services.specs.declared.tables.VariableTables.{VariableTables}
use Rattle.association.specs.Client.{ClientRow}
use Rattle.parted_state.specs.Area.{no_table}
use Rattle.program_inv.specs.Programs.{Rows as Programs}
use Rattle.serve_domains.specs.Tables.{DomainTables}
use Rattle.cell_services.specs.Tables.{Tables, moment_of, own_variables, own_domains, own_invocations, own_programs, own_events, own_journals, own_semaphores}
use Rattle.cell_services.specs.Device as device
use Rattle.serve_variables.specs.Variables as variables
use Rattle.serve_domains.specs.Domains as domains
use Rattle.serve_programs.specs.Programs as programs
use Rattle.serve_events.specs.Events as events
use Rattle.serve_events.specs.declared.tables.EventTables.{EventTables}
use Rattle.mms_journal.specs.Journals.{Rows as Journals}
use Rattle.serve_journals.specs.Journals as journals
use Rattle.serve_semaphores.specs.Semaphores as semaphores
use Rattle.cell_client.specs.Areas.{lacks_number_in}
use Rattle.cell_client.specs.Facts.{no_facts}
use Rattle.cell_client.specs.Association.{Came}
use Rattle.cell_services.specs.Requests.{OutcomeIn, RequestIn, asks_in, more_in, cause_in, effect_in, among}
pub use Rattle.cell_services.specs.Requests.{answers, is_of_domain}
pub use Rattle.cell_services.specs.Facts.{class_tables, guard_tables, names_in}
pub use Rattle.cell_services.specs.Device.{listed, scope_of}
pub use Rattle.serve_semaphores.specs.Semaphores.{grant_told, grants_told}

-- what a request does that is not refused: the tables after it, its answer or none yet, and what else is told to whom
abbrev pub Outcome : Type 0
Outcome = OutcomeIn Tables

-- ---- each service, in its area

-- a request to the device, which has no table of its own; to its variables; to its domains; by which program invocations are made of these and deleted; to program
-- invocations; to event conditions and enrollments; to journals; or to its semaphores
pub data InArea : Type 0 where
  OfDevice : RequestIn (Unit {0}) → InArea
  OfVariables : RequestIn VariableTables → InArea
  OfDomains : RequestIn DomainTables → InArea
  OfInvocations : RequestIn (DomainTables × Programs) → InArea
  OfPrograms : RequestIn Programs → InArea
  OfEvents : RequestIn EventTables → InArea
  OfJournals : RequestIn Journals → InArea
  OfSemaphores : RequestIn Rows → InArea

abbrev pub area_of : Request → InArea
area_of (request.GetNameList x) = OfDevice (device.get_name_list x)
area_of (request.Status asked) = OfDevice device.status
area_of request.Identify = OfDevice device.identify
area_of (request.Read x) = OfVariables (variables.read x)
area_of (request.Write x) = OfVariables (variables.write x)
area_of (request.GetVariableAccessAttributes x) = OfVariables (variables.variable_attributes x)
area_of (request.DefineNamedVariable x) = OfVariables (variables.define_variable x)
area_of (request.DeleteVariableAccess x) = OfVariables (variables.delete_variables x)
area_of (request.DefineNamedVariableList x) = OfVariables (variables.define_list x)
area_of (request.GetNamedVariableListAttributes x) = OfVariables (variables.list_attributes x)
area_of (request.DeleteNamedVariableList x) = OfVariables (variables.delete_lists x)
area_of (request.TakeControl x) = OfSemaphores (semaphores.take_control x)
area_of (request.RelinquishControl x) = OfSemaphores (semaphores.relinquish_control x)
area_of (request.DefineSemaphore x) = OfSemaphores (semaphores.define_semaphore x)
area_of (request.DeleteSemaphore x) = OfSemaphores (semaphores.delete_semaphore x)
area_of (request.ReportSemaphoreStatus x) = OfSemaphores (semaphores.report_status x)
area_of (request.ReportPoolSemaphoreStatus x) = OfSemaphores (semaphores.report_pool_status x)
area_of (request.ReportSemaphoreEntryStatus x) = OfSemaphores (semaphores.report_entry_status x)
area_of (request.InitiateDownloadSequence x) = OfDomains (domains.initiate_download x)
area_of (request.InitiateUploadSequence x) = OfDomains (domains.initiate_upload x)
area_of (request.UploadSegment x) = OfDomains (domains.upload_segment x)
area_of (request.TerminateUploadSequence x) = OfDomains (domains.terminate_upload x)
area_of (request.DeleteDomain x) = OfDomains (domains.delete x)
area_of (request.GetDomainAttributes x) = OfDomains (domains.attributes x)
area_of (request.CreateProgramInvocation x) = OfInvocations (programs.create x)
area_of (request.DeleteProgramInvocation x) = OfInvocations (programs.delete x)
area_of (request.Start x) = OfPrograms (programs.start x)
area_of (request.Stop x) = OfPrograms (programs.stop x)
area_of (request.Resume x) = OfPrograms (programs.resume x)
area_of (request.Reset x) = OfPrograms (programs.reset x)
area_of (request.Kill x) = OfPrograms (programs.kill x)
area_of (request.GetProgramInvocationAttributes x) = OfPrograms (programs.attributes x)
area_of (request.DefineEventCondition x) = OfEvents (events.define_condition x)
area_of (request.DeleteEventCondition x) = OfEvents (events.delete_conditions x)
area_of (request.ReportEventConditionStatus x) = OfEvents (events.report_status x)
area_of (request.AlterEventConditionMonitoring x) = OfEvents (events.alter_condition x)
area_of (request.TriggerEvent x) = OfEvents (events.trigger x)
area_of (request.DefineEventEnrollment x) = OfEvents (events.define_enrolment x)
area_of (request.DeleteEventEnrollment x) = OfEvents (events.delete_enrolments x)
area_of (request.ReadJournal x) = OfJournals (journals.read x)
area_of (request.WriteJournal x) = OfJournals (journals.write x)
area_of (request.InitializeJournal x) = OfJournals (journals.initialize x)
area_of (request.ReportJournalStatus x) = OfJournals (journals.report_status x)
area_of (request.CreateJournal x) = OfJournals (journals.create x)
area_of (request.DeleteJournal x) = OfJournals (journals.delete x)

-- and what a client answers to the server's request of that number
abbrev pub reply_in : ℕ → Came → InArea
reply_in number came = OfDomains (domains.replied number came)

-- ---- among the tables of the device

abbrev pub cause_of : Tables → ClientRow → InArea → Option ServiceError
cause_of t row (OfDevice r) = cause_in no_table t row r
cause_of t row (OfVariables r) = cause_in own_variables t row r
cause_of t row (OfDomains r) = cause_in own_domains t row r
cause_of t row (OfInvocations r) = cause_in own_invocations t row r
cause_of t row (OfPrograms r) = cause_in own_programs t row r
cause_of t row (OfEvents r) = cause_in own_events t row r
cause_of t row (OfJournals r) = cause_in own_journals t row r
cause_of t row (OfSemaphores r) = cause_in own_semaphores t row r

abbrev pub effect_of : Tables → ClientRow → ℕ → InArea → Outcome
effect_of t row invoke (OfDevice r) = effect_in no_table t row invoke r
effect_of t row invoke (OfVariables r) = effect_in own_variables t row invoke r
effect_of t row invoke (OfDomains r) = effect_in own_domains t row invoke r
effect_of t row invoke (OfInvocations r) = effect_in own_invocations t row invoke r
effect_of t row invoke (OfPrograms r) = effect_in own_programs t row invoke r
effect_of t row invoke (OfEvents r) = effect_in own_events t row invoke r
effect_of t row invoke (OfJournals r) = effect_in own_journals t row invoke r
effect_of t row invoke (OfSemaphores r) = effect_in own_semaphores t row invoke r

abbrev pub asks_of : InArea → List ℕ
asks_of (OfDevice r) = asks_in no_table r
asks_of (OfVariables r) = asks_in own_variables r
asks_of (OfDomains r) = asks_in own_domains r
asks_of (OfInvocations r) = asks_in own_invocations r
asks_of (OfPrograms r) = asks_in own_programs r
asks_of (OfEvents r) = asks_in own_events r
asks_of (OfJournals r) = asks_in own_journals r
asks_of (OfSemaphores r) = asks_in own_semaphores r

abbrev pub more_of : Tables → ClientRow → InArea → List ℕ
more_of t row (OfDevice r) = more_in no_table t row r
more_of t row (OfVariables r) = more_in own_variables t row r
more_of t row (OfDomains r) = more_in own_domains t row r
more_of t row (OfInvocations r) = more_in own_invocations t row r
more_of t row (OfPrograms r) = more_in own_programs t row r
more_of t row (OfEvents r) = more_in own_events t row r
more_of t row (OfJournals r) = more_in own_journals t row r
more_of t row (OfSemaphores r) = more_in own_semaphores t row r

-- Requests to domains alone ask clients anything, and none that does is told anything by other tables: it would ask, and no number is left for that.
abbrev pub lacks_number : Tables → ClientRow → ℕ → InArea → Bool
lacks_number t row invoke (OfDomains r) = lacks_number_in r no_facts row invoke t.domains
lacks_number t row invoke (OfDevice r) = false
lacks_number t row invoke (OfVariables r) = false
lacks_number t row invoke (OfInvocations r) = false
lacks_number t row invoke (OfPrograms r) = false
lacks_number t row invoke (OfEvents r) = false
lacks_number t row invoke (OfJournals r) = false
lacks_number t row invoke (OfSemaphores r) = false

-- the first condition for which a request is refused
abbrev pub cause : Tables → ClientRow → Request → Option ServiceError
cause t row asked = cause_of t row (area_of asked)

-- what a request of that invokeID does
abbrev pub effect : Tables → ClientRow → ℕ → Request → Outcome
effect t row invoke asked = effect_of t row invoke (area_of asked)

-- the tables that it reads or changes: by its words
abbrev pub request_asks : Request → List ℕ
request_asks asked = asks_of (area_of asked)

-- ---- two of them, among all tables

-- a request for a token, and to give one back
abbrev pub take_outcome : Tables → ℕ → ℕ → TakeControl → Option TakeDone → Outcome
take_outcome t client invoke x done = among own_semaphores t (semaphores.taken (moment_of t) client invoke x t.semaphores done)

abbrev pub relinquish_outcome : Tables → ℕ → RelinquishControl → Option (Option Granted) → Outcome
relinquish_outcome t client x grant = among own_semaphores t (semaphores.given_back (moment_of t) client x t.semaphores grant)

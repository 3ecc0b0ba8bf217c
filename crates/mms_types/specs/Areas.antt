-- Which request it is that an area looks at (this profile's choice).
use Rattle.mms_types.specs.declared.pdu.Request.{Request}
use Rattle.mms_types.specs.declared.pdu.Request.TheVariants as request
use Rattle.mms_types.specs.declared.area.AreaRequest.{AreaRequest}
use Rattle.mms_types.specs.declared.area.AreaRequest.TheVariants.{Device, Variables, Semaphores, Domains, Invocations, Programs, Events, Journals}
use Rattle.mms_types.specs.declared.area.DeviceRequest.{DeviceRequest}
use Rattle.mms_types.specs.declared.area.DeviceRequest.TheVariants as device
use Rattle.mms_types.specs.declared.area.DomainRequest.{DomainRequest}
use Rattle.mms_types.specs.declared.area.DomainRequest.TheVariants as domains
use Rattle.mms_types.specs.declared.area.EventRequest.{EventRequest}
use Rattle.mms_types.specs.declared.area.EventRequest.TheVariants as events
use Rattle.mms_types.specs.declared.area.InvocationRequest.{InvocationRequest}
use Rattle.mms_types.specs.declared.area.InvocationRequest.TheVariants as invocations
use Rattle.mms_types.specs.declared.area.JournalRequest.{JournalRequest}
use Rattle.mms_types.specs.declared.area.JournalRequest.TheVariants as journals
use Rattle.mms_types.specs.declared.area.ProgramRequest.{ProgramRequest}
use Rattle.mms_types.specs.declared.area.ProgramRequest.TheVariants as programs
use Rattle.mms_types.specs.declared.area.SemaphoreRequest.{SemaphoreRequest}
use Rattle.mms_types.specs.declared.area.SemaphoreRequest.TheVariants as semaphores
use Rattle.mms_types.specs.declared.area.VariableRequest.{VariableRequest}
use Rattle.mms_types.specs.declared.area.VariableRequest.TheVariants as variables

abbrev pub device_request : DeviceRequest → Request
device_request (device.Status x) = request.Status x.now
device_request (device.GetNameList x) = request.GetNameList x.now
device_request device.Identify = request.Identify

abbrev pub variable_request : VariableRequest → Request
variable_request (variables.Read x) = request.Read x.now
variable_request (variables.Write x) = request.Write x.now
variable_request (variables.GetVariableAccessAttributes x) = request.GetVariableAccessAttributes x.now
variable_request (variables.DefineNamedVariable x) = request.DefineNamedVariable x.now
variable_request (variables.DeleteVariableAccess x) = request.DeleteVariableAccess x.now
variable_request (variables.DefineNamedVariableList x) = request.DefineNamedVariableList x.now
variable_request (variables.GetNamedVariableListAttributes x) = request.GetNamedVariableListAttributes x.now
variable_request (variables.DeleteNamedVariableList x) = request.DeleteNamedVariableList x.now

abbrev pub semaphore_request : SemaphoreRequest → Request
semaphore_request (semaphores.TakeControl x) = request.TakeControl x.now
semaphore_request (semaphores.RelinquishControl x) = request.RelinquishControl x.now
semaphore_request (semaphores.DefineSemaphore x) = request.DefineSemaphore x.now
semaphore_request (semaphores.DeleteSemaphore x) = request.DeleteSemaphore x.now
semaphore_request (semaphores.ReportSemaphoreStatus x) = request.ReportSemaphoreStatus x.now
semaphore_request (semaphores.ReportPoolSemaphoreStatus x) = request.ReportPoolSemaphoreStatus x.now
semaphore_request (semaphores.ReportSemaphoreEntryStatus x) = request.ReportSemaphoreEntryStatus x.now

abbrev pub domain_request : DomainRequest → Request
domain_request (domains.InitiateDownloadSequence x) = request.InitiateDownloadSequence x.now
domain_request (domains.InitiateUploadSequence x) = request.InitiateUploadSequence x.now
domain_request (domains.UploadSegment number) = request.UploadSegment number
domain_request (domains.TerminateUploadSequence number) = request.TerminateUploadSequence number
domain_request (domains.DeleteDomain x) = request.DeleteDomain x.now
domain_request (domains.GetDomainAttributes x) = request.GetDomainAttributes x.now

abbrev pub invocation_request : InvocationRequest → Request
invocation_request (invocations.CreateProgramInvocation x) = request.CreateProgramInvocation x.now
invocation_request (invocations.DeleteProgramInvocation x) = request.DeleteProgramInvocation x.now

abbrev pub program_request : ProgramRequest → Request
program_request (programs.Start x) = request.Start x.now
program_request (programs.Stop x) = request.Stop x.now
program_request (programs.Resume x) = request.Resume x.now
program_request (programs.Reset x) = request.Reset x.now
program_request (programs.Kill x) = request.Kill x.now
program_request (programs.GetProgramInvocationAttributes x) = request.GetProgramInvocationAttributes x.now

abbrev pub event_request : EventRequest → Request
event_request (events.DefineEventCondition x) = request.DefineEventCondition x.now
event_request (events.DeleteEventCondition x) = request.DeleteEventCondition x.now
event_request (events.ReportEventConditionStatus x) = request.ReportEventConditionStatus x.now
event_request (events.AlterEventConditionMonitoring x) = request.AlterEventConditionMonitoring x.now
event_request (events.TriggerEvent x) = request.TriggerEvent x.now
event_request (events.DefineEventEnrollment x) = request.DefineEventEnrollment x.now
event_request (events.DeleteEventEnrollment x) = request.DeleteEventEnrollment x.now

abbrev pub journal_request : JournalRequest → Request
journal_request (journals.ReadJournal x) = request.ReadJournal x.now
journal_request (journals.WriteJournal x) = request.WriteJournal x.now
journal_request (journals.InitializeJournal x) = request.InitializeJournal x.now
journal_request (journals.ReportJournalStatus x) = request.ReportJournalStatus x.now
journal_request (journals.CreateJournal x) = request.CreateJournal x.now
journal_request (journals.DeleteJournal x) = request.DeleteJournal x.now

abbrev pub request_of : AreaRequest → Request
request_of (Device asked) = device_request asked
request_of (Variables asked) = variable_request asked
request_of (Semaphores asked) = semaphore_request asked
request_of (Domains asked) = domain_request asked
request_of (Invocations asked) = invocation_request asked
request_of (Programs asked) = program_request asked
request_of (Events asked) = event_request asked
request_of (Journals asked) = journal_request asked

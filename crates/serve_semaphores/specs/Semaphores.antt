-- Requests for semaphores (ISO 9506-1, semaphore management): the services on the rows that hold them, at the moment of the device.
use Rattle.std.specs.Prelude.{ℕ, Bool, List, [], ◌∷◌, Option, None, Some, option_to_list}
use Rattle.std.specs.List.{flat_map}
use Rattle.std.specs.Option.{option_map}
use Rattle.mms_types.specs.Order.{key_of}
use Rattle.mms_types.specs.declared.moment.Moment.{Moment}
use Rattle.mms_types.specs.declared.object_name.ObjectName.{ObjectName}
use Rattle.mms_types.specs.declared.pdu.Answer.TheVariants as answer
use Rattle.mms_types.specs.declared.pdu.Pdu.TheVariants as pdu
use Rattle.mms_types.specs.declared.semaphore.DefineSemaphore.{DefineSemaphore}
use Rattle.mms_types.specs.declared.semaphore.RelinquishControl.{RelinquishControl}
use Rattle.mms_types.specs.declared.semaphore.ReportPoolSemaphoreStatus.{ReportPoolSemaphoreStatus}
use Rattle.mms_types.specs.declared.semaphore.ReportSemaphoreEntryStatus.{ReportSemaphoreEntryStatus}
use Rattle.mms_types.specs.declared.semaphore.TakeControl.{TakeControl}
use Rattle.mms_time.specs.Semaphores.{Rows}
use Rattle.mms_time.specs.Services as semaphore
use Rattle.mms_time.specs.Statuses as semaphore_status
use Rattle.mms_time.specs.declared.taking.TakeDone.{TakeDone}
use Rattle.mms_time.specs.declared.taking.TakeDone.TheVariants.{Answered, Waits as Waiting}
use Rattle.sem_ticks.specs.Granted.{relinquish_granted}
use Rattle.sem_ticks.specs.declared.granted.Granted.{Granted}
use Rattle.cell_client.specs.Association.{sends}
use Rattle.cell_client.specs.Effects.{Effect, Answers, Waits}
use Rattle.cell_client.specs.Areas.{OutcomeIn, RequestIn, answers, changes, domain_in, is_of_domain}
use Rattle.cell_client.specs.Facts.{Question, Now, Live}
use Rattle.mms_types.specs.declared.area.SemaphoreRequest.{SemaphoreRequest}
use Rattle.mms_types.specs.declared.area.SemaphoreRequest.TheVariants as request

-- the moment, and whether a domain is live, where it has to be
abbrev pub at_its_moment : Bool → Option (List ℕ) → List Question
at_its_moment of_domain domain = Now ∷ Live of_domain domain ∷ []

-- ---- TakeControl

-- a request for a token is answered, or it waits
abbrev pub taken : Moment → ℕ → ℕ → TakeControl → Rows → Option TakeDone → OutcomeIn Rows
taken now client invoke x rows None = answers rows None
taken now client invoke x rows (Some (Answered told)) = changes (semaphore.take_after client invoke now x rows) (answer.TakeControl told)
taken now client invoke x rows (Some (Waiting entry)) = record {
  tables = semaphore.take_after client invoke now x rows;
  answer = None;
  also = (client, Waits (record { invoke = invoke; key = key_of client x.name; entry = entry })) ∷ [];
}

abbrev pub take_control : TakeControl → RequestIn Rows
take_control x = record {
  words = at_its_moment (is_of_domain x.name) None;
  more = λ rows row. [];
  cause = λ facts rows row. semaphore.take_cause row.client x rows;
  effect = λ facts rows row invoke. taken facts.now row.client invoke x rows (semaphore.take_told row.client x rows);
}

-- ---- RelinquishControl

-- a client that waited for a token of a semaphore has one: its request waits no more, and is answered
abbrev pub grant_told : Granted → List (ℕ × Effect)
grant_told g = (g.client, Answers g.invoke) ∷ (g.client, sends (pdu.ConfirmedResponse g.invoke (answer.TakeControl g.answer))) ∷ []

abbrev pub grants_told : List Granted → List (ℕ × Effect)
grants_told grants = flat_map grant_told grants

-- a token is given back, and who is granted it is told
abbrev pub given_back : Moment → ℕ → RelinquishControl → Rows → Option (Option Granted) → OutcomeIn Rows
given_back now client x rows None = answers rows None
given_back now client x rows (Some grant) = record {
  tables = semaphore.relinquish_after client now x rows;
  answer = Some answer.RelinquishControl;
  also = grants_told (option_to_list grant);
}

abbrev pub relinquish_control : RelinquishControl → RequestIn Rows
relinquish_control x = record {
  words = at_its_moment (is_of_domain x.name) None;
  more = λ rows row. [];
  cause = λ facts rows row. semaphore.relinquish_cause row.client x rows;
  effect = λ facts rows row invoke. given_back facts.now row.client x rows (relinquish_granted row.client x rows);
}

-- ---- the others

-- DefineSemaphore
abbrev pub define_semaphore : DefineSemaphore → RequestIn Rows
define_semaphore x = record {
  words = at_its_moment (is_of_domain x.name) (domain_in x.name);
  more = λ rows row. [];
  cause = λ facts rows row. semaphore.define_cause facts.live row.client x rows;
  effect = λ facts rows row invoke. changes (semaphore.define_after row.client x rows) answer.DefineSemaphore;
}

-- DeleteSemaphore
abbrev pub delete_semaphore : ObjectName → RequestIn Rows
delete_semaphore x = record {
  words = at_its_moment (is_of_domain x) None;
  more = λ rows row. [];
  cause = λ facts rows row. semaphore.delete_cause row.client x rows;
  effect = λ facts rows row invoke. changes (semaphore.delete_after row.client x rows) answer.DeleteSemaphore;
}

-- ReportSemaphoreStatus
abbrev pub report_status : ObjectName → RequestIn Rows
report_status x = record {
  words = at_its_moment (is_of_domain x) None;
  more = λ rows row. [];
  cause = λ facts rows row. semaphore_status.status_cause row.client x rows;
  effect = λ facts rows row invoke. answers rows (option_map answer.ReportSemaphoreStatus (semaphore_status.status row.client x rows));
}

-- ReportPoolSemaphoreStatus
abbrev pub report_pool_status : ReportPoolSemaphoreStatus → RequestIn Rows
report_pool_status x = record {
  words = at_its_moment (is_of_domain x.name) None;
  more = λ rows row. [];
  cause = λ facts rows row. semaphore_status.pool_status_cause row.client x.name rows;
  effect = λ facts rows row invoke. answers rows (option_map answer.ReportPoolSemaphoreStatus (semaphore_status.pool_status_answer row.client x rows));
}

-- ReportSemaphoreEntryStatus
abbrev pub report_entry_status : ReportSemaphoreEntryStatus → RequestIn Rows
report_entry_status x = record {
  words = at_its_moment (is_of_domain x.name) None;
  more = λ rows row. [];
  cause = λ facts rows row. semaphore_status.entry_status_cause row.client x rows;
  effect = λ facts rows row invoke. answers rows (option_map answer.ReportSemaphoreEntryStatus (semaphore_status.entry_status_answer row.client facts.now x rows));
}

-- the domain that has to be live, where one has to: that of a new name
abbrev pub domain_asked : SemaphoreRequest → Option (List ℕ)
domain_asked (request.DefineSemaphore x) = domain_in x.now.name
domain_asked (request.TakeControl x) = None
domain_asked other = None

-- ---- each of them, as it is looked at

abbrev pub request_in : SemaphoreRequest → RequestIn Rows
request_in (request.TakeControl x) = take_control x.now
request_in (request.RelinquishControl x) = relinquish_control x.now
request_in (request.DefineSemaphore x) = define_semaphore x.now
request_in (request.DeleteSemaphore x) = delete_semaphore x.now
request_in (request.ReportSemaphoreStatus x) = report_status x.now
request_in (request.ReportPoolSemaphoreStatus x) = report_pool_status x.now
request_in (request.ReportSemaphoreEntryStatus x) = report_entry_status x.now

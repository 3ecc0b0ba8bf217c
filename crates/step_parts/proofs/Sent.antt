-- The parts of the device may go from thread to thread: each kind alone, since a `search` that goes down through all of
-- them runs out of steps.
use denote.Param.Send.{IsSend, sendable}
use denote.Param.SendFields.{declared_send, variants_send}
use Rattle.std.proofs.Crossing.{crosses}
use Rattle.mms_types.proofs.data.Data.TheLaws.TheKnot as data_knot
use Rattle.mms_types.proofs.type_spec.TypeSpec.TheLaws.TheKnot as type_knot
use Rattle.mms_types.specs.contracts.octets.Octets as Octets
use Rattle.mms_types.proofs.octets.Octets.TheSendSync as octets
use Rattle.mms_types.proofs.data.BitString.TheSendSync as bits
use Rattle.mms_types.proofs.identifier.Identifier.TheSendSync as identifier
use Rattle.mms_types.proofs.listed.Listed.TheSendSync as listed
use Rattle.mms_types.specs.contracts.variable.Spec as Spec
use Rattle.mms_types.proofs.variable.Spec.TheSendSync as spec
use Rattle.object_names.proofs.table.Named.TheSendSync as named
use Rattle.mms_time.specs.contracts.row.SemaphoreRow as SemaphoreRow
use Rattle.mms_time.proofs.row.SemaphoreRow.TheSendSync as semaphore
use Rattle.mms_time.specs.contracts.table.Semaphores as Semaphores
use Rattle.mms_time.specs.contracts.table.Semaphores.TheInside as semaphores
use Rattle.cell_client.proofs.client.Client.TheSendSync as client
use Rattle.cell_services.proofs.clock.Clock.TheSendSync as clock
use Rattle.variables.specs.contracts.vars.Vars as Vars
use Rattle.variables.specs.contracts.vars.Vars.TheInside as vars
use Rattle.variables.specs.contracts.rows.Variable as Variable
use Rattle.variables.proofs.rows.Variable.TheSendSync as variable
use Rattle.variables.specs.contracts.rows.StoredCell as StoredCell
use Rattle.variable_lists.specs.contracts.lists.Lists as Lists
use Rattle.variable_lists.specs.contracts.lists.Lists.TheInside as lists
use Rattle.variable_lists.specs.contracts.row.VariableList as VariableList
use Rattle.variable_services.specs.contracts.tables.VariableTables as VariableTables
use Rattle.domain_load.specs.contracts.domain.Domain as Domain
use Rattle.domain_load.specs.contracts.domains.Domains as Domains
use Rattle.domain_load.specs.contracts.domains.Domains.TheInside as domains
use Rattle.domain_load.specs.contracts.segments.Segments as Segments
use Rattle.domain_upload.specs.contracts.uploads.Uploads as Uploads
use Rattle.program_inv.specs.contracts.invocation.Invocation as Invocation
use Rattle.program_inv.specs.contracts.programs.Programs as Programs
use Rattle.program_inv.specs.contracts.programs.Programs.TheInside as programs
use Rattle.event_cond.specs.contracts.condition.Condition as Condition
use Rattle.event_cond.specs.contracts.condition.ConditionClass as ConditionClass
use Rattle.event_cond.specs.contracts.condition.Evaluation as Evaluation
use Rattle.event_cond.specs.contracts.condition.Watch as Watch
use Rattle.event_cond.specs.contracts.conditions.Conditions as Conditions
use Rattle.event_cond.specs.contracts.conditions.Conditions.TheInside as conditions
use Rattle.event_cond.specs.contracts.kept.Kept as Kept
use Rattle.event_cond.specs.contracts.kept.Kept.TheInside as kept
use Rattle.event_enrol.specs.contracts.enrolment.Enrolment as Enrolment
use Rattle.event_enrol.specs.contracts.enrolments.Enrolments as Enrolments
use Rattle.event_enrol.specs.contracts.enrolments.Enrolments.TheInside as enrolments
use Rattle.event_enrol.specs.contracts.group.Group as Group
use Rattle.event_enrol.specs.contracts.group.Group.TheInside as group
use Rattle.event_enrol.specs.contracts.group.Member as Member
use Rattle.mms_journal.specs.contracts.journal.Journal as Journal
use Rattle.mms_journal.specs.contracts.journal.Journal.TheInside as journal
use Rattle.mms_journal.specs.contracts.journal.Written as Written
use Rattle.mms_journal.specs.contracts.journals.Journals as Journals
use Rattle.mms_journal.specs.contracts.journals.Journals.TheInside as journals
use Rattle.mms_journal.specs.contracts.kept.Kept as KeptEntry
use Rattle.mms_journal.specs.contracts.kept.Kept.TheInside as kept_entry
use Rattle.serve_events.specs.contracts.tables.EventTables as EventTables
use Rattle.serve_domains.specs.contracts.tables.DomainTables as DomainTables
use Rattle.serve_domains.specs.contracts.tables.DomainTables.TheInside as tables
use Rattle.step_parts.specs.contracts.part.Part as Part

pub list_send : IsSend VariableList.the_row
list_send = declared_send VariableList.the_type (listed.the_send Spec.the_row spec.the_send, tt)

pub lists_inside : IsSend lists.the_row
lists_inside = declared_send lists.the_type (named.the_send VariableList.the_row list_send, tt)

pub lists_send : IsSend Lists.the_row
lists_send = let a = lists_inside in search sendable

pub cell_send : IsSend StoredCell.the_row
cell_send = declared_send StoredCell.the_type (search (crosses, sendable, type_knot.crosses, identifier.the_send) depth 20, (search (crosses, sendable, data_knot.crosses, octets.the_send, bits.the_send) depth 20, (search (crosses, sendable, identifier.the_send) depth 20, tt)))

pub vars_inside : IsSend vars.the_row
vars_inside = declared_send vars.the_type (let a = cell_send in search (crosses, sendable) depth 20, (named.the_send Variable.the_row variable.the_send, (search (crosses, sendable) depth 20, tt)))

pub vars_send : IsSend Vars.the_row
vars_send = let a = vars_inside in search sendable

pub variables_send : IsSend VariableTables.the_row
variables_send = declared_send VariableTables.the_type (vars_send, (lists_send, tt))

pub semaphores_inside : IsSend semaphores.the_row
semaphores_inside = declared_send semaphores.the_type (named.the_send SemaphoreRow.the_row semaphore.the_send, (search (crosses, sendable) depth 20, (search (crosses, sendable) depth 20, tt)))

pub semaphores_send : IsSend Semaphores.the_row
semaphores_send = let a = semaphores_inside in search sendable

pub segments_send : IsSend Segments.the_row
segments_send = search (crosses, sendable) depth 20

pub domain_send : IsSend Domain.the_row
domain_send = declared_send Domain.the_type (listed.the_send Octets.the_row octets.the_send, (search (crosses, sendable) depth 20, (search (crosses, sendable) depth 20, (segments_send, (search (crosses, sendable, identifier.the_send) depth 20, tt)))))

pub domains_inside : IsSend domains.the_row
domains_inside = declared_send domains.the_type (let a = domain_send in search (crosses, sendable, identifier.the_send) depth 20, tt)

pub domains_send : IsSend Domains.the_row
domains_send = let a = domains_inside in search sendable

pub uploads_send : IsSend Uploads.the_row
uploads_send = search (crosses, sendable, identifier.the_send) depth 20

pub tables_inside : IsSend tables.the_row
tables_inside = declared_send tables.the_type (domains_send, (uploads_send, tt))

pub tables_send : IsSend DomainTables.the_row
tables_send = let a = tables_inside in search sendable

pub invocation_send : IsSend Invocation.the_row
invocation_send = declared_send Invocation.the_type (search (crosses, sendable, identifier.the_send) depth 20, (search (crosses, sendable) depth 20, (search (crosses, sendable) depth 20, (search (crosses, sendable, octets.the_send) depth 20, tt))))

pub programs_inside : IsSend programs.the_row
programs_inside = declared_send programs.the_type (let a = invocation_send in search (crosses, sendable, identifier.the_send) depth 20, tt)

pub programs_send : IsSend Programs.the_row
programs_send = let a = programs_inside in search sendable

-- event conditions
evaluation_send : IsSend Evaluation.the_row
evaluation_send = search (crosses, sendable) depth 20

watch_send : IsSend Watch.the_row
watch_send = declared_send Watch.the_type (search (crosses, sendable) depth 20, (search (crosses, sendable) depth 20, (search (crosses, sendable) depth 20, (let a = evaluation_send in search (crosses, sendable) depth 20, tt))))

class_send : IsSend ConditionClass.the_row
class_send = variants_send ConditionClass.enum (tt, ((watch_send, tt), tt))

condition_send : IsSend Condition.the_row
condition_send = declared_send Condition.the_type (search (crosses, sendable) depth 20, (search (crosses, sendable) depth 20, (class_send, (search (crosses, sendable) depth 20, (search (crosses, sendable) depth 20, tt)))))

kept_inside : IsSend kept.the_row
kept_inside = declared_send kept.the_type (condition_send, tt)

kept_send : IsSend Kept.the_row
kept_send = let a = kept_inside in search sendable

conditions_inside : IsSend conditions.the_row
conditions_inside = declared_send conditions.the_type (named.the_send Kept.the_row kept_send, tt)

conditions_send : IsSend Conditions.the_row
conditions_send = let a = conditions_inside in search sendable

-- and the enrollments on them
enrolment_send : IsSend Enrolment.the_row
enrolment_send = declared_send Enrolment.the_type (search (crosses, sendable) depth 20, (search (crosses, sendable, identifier.the_send) depth 20, (search (crosses, sendable) depth 20, (search (crosses, sendable) depth 20, tt))))

member_send : IsSend Member.the_row
member_send = declared_send Member.the_type (search (crosses, sendable, identifier.the_send) depth 20, (search (crosses, sendable) depth 20, (search (crosses, sendable) depth 20, tt)))

group_inside : IsSend group.the_row
group_inside = declared_send group.the_type (let a = member_send in search (crosses, sendable) depth 20, tt)

group_send : IsSend Group.the_row
group_send = let a = group_inside in search sendable

enrolments_inside : IsSend enrolments.the_row
enrolments_inside = declared_send enrolments.the_type (let a = enrolment_send in search (crosses, sendable, identifier.the_send) depth 20, (let a = group_send in search (crosses, sendable, identifier.the_send) depth 20, tt))

enrolments_send : IsSend Enrolments.the_row
enrolments_send = let a = enrolments_inside in search sendable

pub events_send : IsSend EventTables.the_row
events_send = declared_send EventTables.the_type (conditions_send, (enrolments_send, tt))

-- journals, whose entries are octets
kept_entry_inside : IsSend kept_entry.the_row
kept_entry_inside = declared_send kept_entry.the_type (search (crosses, sendable, octets.the_send) depth 20, (search (crosses, sendable) depth 20, (search (crosses, sendable) depth 20, tt)))

kept_entry_send : IsSend KeptEntry.the_row
kept_entry_send = let a = kept_entry_inside in search sendable

written_send : IsSend Written.the_row
written_send = declared_send Written.the_type (search (crosses, sendable) depth 20, (search (crosses, sendable) depth 20, (kept_entry_send, tt)))

journal_inside : IsSend journal.the_row
journal_inside = declared_send journal.the_type (let a = written_send in search (crosses, sendable) depth 20, (search (crosses, sendable) depth 20, (search (crosses, sendable) depth 20, tt)))

journal_send : IsSend Journal.the_row
journal_send = let a = journal_inside in search sendable

journals_inside : IsSend journals.the_row
journals_inside = declared_send journals.the_type (named.the_send Journal.the_row journal_send, tt)

journals_send : IsSend Journals.the_row
journals_send = let a = journals_inside in search sendable

pub part_send : IsSend Part.the_row
part_send = variants_send Part.enum ((clock.the_send, tt), ((variables_send, tt), ((tables_send, tt), ((programs_send, tt), ((events_send, tt), ((journals_send, tt), ((client.the_send, tt), ((semaphores_send, tt), tt))))))))

-- The tables of the device as parts (this profile's choice): each has its slot.
use Rattle.std.specs.Prelude.{ℕ, []}
use Rattle.step_parts.specs.declared.part.Part.TheVariants.{Clock, Variables, Domains, Programs, Events, Journals, Semaphores}
use Rattle.mms_time.specs.Semaphores.{Rows}
use Rattle.mms_journal.specs.Journals as journal
use Rattle.program_inv.specs.Programs as program
use Rattle.serve_domains.specs.Tables.{DomainTables, no_domains}
use Rattle.serve_events.specs.Tables.{no_events}
use Rattle.serve_events.specs.declared.tables.EventTables.{EventTables}
use Rattle.variable_services.specs.declared.tables.VariableTables.{VariableTables}
use Rattle.variable_services.specs.Services.{no_variables}
use Rattle.step_parts.specs.Partition.{clock_or, variables_or, domains_or, programs_or, events_or, journals_or, semaphores_or}
use Rattle.step_parts.specs.Slots.{Slot}

abbrev pub clock_slot : Slot ℕ
clock_slot = record { wrap = Clock; shown_or = clock_or; none = 0 }

abbrev pub variables_slot : Slot VariableTables
variables_slot = record { wrap = Variables; shown_or = variables_or; none = no_variables }

abbrev pub domains_slot : Slot DomainTables
domains_slot = record { wrap = Domains; shown_or = domains_or; none = no_domains }

abbrev pub programs_slot : Slot program.Rows
programs_slot = record { wrap = Programs; shown_or = programs_or; none = [] }

abbrev pub events_slot : Slot EventTables
events_slot = record { wrap = Events; shown_or = events_or; none = no_events }

abbrev pub journals_slot : Slot journal.Rows
journals_slot = record { wrap = Journals; shown_or = journals_or; none = [] }

abbrev pub semaphores_slot : Slot Rows
semaphores_slot = record { wrap = Semaphores; shown_or = semaphores_or; none = [] }

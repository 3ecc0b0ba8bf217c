-- A part of another kind shows nothing of a table, and stays where the table is laid over it.
use Rattle.std.specs.Prelude.{◌≡◌, ℕ, Some, refl}
use Rattle.step_parts.specs.declared.part.Part.{Part}
use Rattle.step_parts.specs.declared.part.Part.TheVariants.{Clock, Variables, Domains, Programs, Events, Journals, Semaphores}
use Rattle.mms_time.specs.Semaphores.{Rows}
use Rattle.mms_journal.specs.Journals as journal
use Rattle.program_inv.specs.Programs as program
use Rattle.serve_domains.specs.Tables.{DomainTables}
use Rattle.serve_events.specs.declared.tables.EventTables.{EventTables}
use Rattle.variable_services.specs.declared.tables.VariableTables.{VariableTables}
use Rattle.step_parts.specs.Partition.{clock_or, variables_or, domains_or, programs_or, events_or, journals_or, semaphores_or}
use Rattle.step_parts.specs.Slots.{over}

pub clock_hides : (own : ℕ) (part : Part) → ((there : ℕ) → part ≡ Clock there → ⊥) → clock_or own (Some part) ≡ own
clock_hides own (Clock x) other = absurd (other x refl)
clock_hides own part other = refl

pub clock_stays : (own : ℕ) (part : Part) → ((there : ℕ) → part ≡ Clock there → ⊥) → over (Clock own) part ≡ part
clock_stays own (Clock x) other = absurd (other x refl)
clock_stays own part other = refl

pub variables_hides : (own : VariableTables) (part : Part) → ((there : VariableTables) → part ≡ Variables there → ⊥) → variables_or own (Some part) ≡ own
variables_hides own (Variables x) other = absurd (other x refl)
variables_hides own part other = refl

pub variables_stays : (own : VariableTables) (part : Part) → ((there : VariableTables) → part ≡ Variables there → ⊥) → over (Variables own) part ≡ part
variables_stays own (Variables x) other = absurd (other x refl)
variables_stays own part other = refl

pub domains_hides : (own : DomainTables) (part : Part) → ((there : DomainTables) → part ≡ Domains there → ⊥) → domains_or own (Some part) ≡ own
domains_hides own (Domains x) other = absurd (other x refl)
domains_hides own part other = refl

pub domains_stays : (own : DomainTables) (part : Part) → ((there : DomainTables) → part ≡ Domains there → ⊥) → over (Domains own) part ≡ part
domains_stays own (Domains x) other = absurd (other x refl)
domains_stays own part other = refl

pub programs_hides : (own : program.Rows) (part : Part) → ((there : program.Rows) → part ≡ Programs there → ⊥) → programs_or own (Some part) ≡ own
programs_hides own (Programs x) other = absurd (other x refl)
programs_hides own part other = refl

pub programs_stays : (own : program.Rows) (part : Part) → ((there : program.Rows) → part ≡ Programs there → ⊥) → over (Programs own) part ≡ part
programs_stays own (Programs x) other = absurd (other x refl)
programs_stays own part other = refl

pub events_hides : (own : EventTables) (part : Part) → ((there : EventTables) → part ≡ Events there → ⊥) → events_or own (Some part) ≡ own
events_hides own (Events x) other = absurd (other x refl)
events_hides own part other = refl

pub events_stays : (own : EventTables) (part : Part) → ((there : EventTables) → part ≡ Events there → ⊥) → over (Events own) part ≡ part
events_stays own (Events x) other = absurd (other x refl)
events_stays own part other = refl

pub journals_hides : (own : journal.Rows) (part : Part) → ((there : journal.Rows) → part ≡ Journals there → ⊥) → journals_or own (Some part) ≡ own
journals_hides own (Journals x) other = absurd (other x refl)
journals_hides own part other = refl

pub journals_stays : (own : journal.Rows) (part : Part) → ((there : journal.Rows) → part ≡ Journals there → ⊥) → over (Journals own) part ≡ part
journals_stays own (Journals x) other = absurd (other x refl)
journals_stays own part other = refl

pub semaphores_hides : (own : Rows) (part : Part) → ((there : Rows) → part ≡ Semaphores there → ⊥) → semaphores_or own (Some part) ≡ own
semaphores_hides own (Semaphores x) other = absurd (other x refl)
semaphores_hides own part other = refl

pub semaphores_stays : (own : Rows) (part : Part) → ((there : Rows) → part ≡ Semaphores there → ⊥) → over (Semaphores own) part ≡ part
semaphores_stays own (Semaphores x) other = absurd (other x refl)
semaphores_stays own part other = refl

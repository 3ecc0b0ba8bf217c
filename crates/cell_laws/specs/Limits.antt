-- The tables of a device: no name stands twice in one, and none has more rows than it may (ISO 9506-1, names of objects;
-- this profile's limits).
use Rattle.std.specs.Prelude.{◌≤◌, ℕ, Bool, List, length}
use Rattle.std.specs.List.{IsDistinct}
use Rattle.std.specs.Map.{keys_of}
use Rattle.mms_types.specs.Order.{key_eq}
use Rattle.variables.specs.Definitions.{most_variables}
use Rattle.variable_lists.specs.Lists.{most_lists}
use Rattle.mms_time.specs.Services.{most_semaphores}
use Rattle.event_cond.specs.Services.{most_conditions}
use Rattle.event_enrol.specs.Enrolments.{most_enrolments}
use Rattle.mms_journal.specs.Journals.{most_journals}
use Rattle.domain_load.specs.Domains.{name_eq}
use Rattle.domain_load.specs.Loading.{most_domains}
use Rattle.domain_upload.specs.Uploads.{most_uploads}
use Rattle.program_inv.specs.Programs.{most_programs}
use Rattle.step_parts.specs.State.{State}

-- no two rows have one name, and there are no more than so many
pub record AreFew {K T : Type 0} (eq : K → K → Bool) (most : ℕ) (rows : List (K × T)) : Type 0 where
  pub distinct : IsDistinct eq (keys_of rows)
  pub few : length rows ≤ most

pub record HaveLimits (s : State) : Type 0 where
  pub variables : AreFew key_eq most_variables s.variables.vars.variables
  pub lists : AreFew key_eq most_lists s.variables.lists
  pub domains : AreFew name_eq most_domains s.domains.domains
  pub uploads : length s.domains.uploads.rows ≤ most_uploads
  pub programs : AreFew name_eq most_programs s.programs
  pub conditions : AreFew key_eq most_conditions s.events.conditions
  pub enrolments : AreFew key_eq most_enrolments s.events.enrolments
  pub journals : AreFew key_eq most_journals s.journals
  pub semaphores : AreFew key_eq most_semaphores s.semaphores

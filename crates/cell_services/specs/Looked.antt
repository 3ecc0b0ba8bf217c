-- Tables of a device as code looks at them: the references are of these rows.
use Rattle.std.specs.Prelude.{◌≡◌}
use Rattle.cell_services.specs.declared.device.NameTables.{NameTables}
use Rattle.cell_services.specs.declared.others.ToldTables.{ToldTables}
use Rattle.cell_services.specs.Tables.{Tables}

-- those with the names of objects
pub record IsLookedAt (by : NameTables) (t : Tables) : Type 0 where
  pub variables : t.variables ≡ by.variables.now
  pub domains : t.domains ≡ by.domains.now
  pub programs : t.programs ≡ by.programs.now
  pub events : t.events ≡ by.events.now
  pub journals : t.journals ≡ by.journals.now
  pub semaphores : t.semaphores ≡ by.semaphores.now

-- those by which it is found who else is told something
pub record AreToldBy (by : ToldTables) (t : Tables) : Type 0 where
  pub now : t.now ≡ by.now.0
  pub variables : t.variables ≡ by.variables.now
  pub domains : t.domains ≡ by.domains.now
  pub events : t.events ≡ by.events.now
  pub semaphores : t.semaphores ≡ by.semaphores.now

-- What is heard where no table is used.
use Rattle.std.specs.Prelude.{◌≡◌, ℕ, []}
use Rattle.association.specs.Client.{ClientRow, Client as RoomyRow}
use Rattle.cell_client.specs.Effects.{felt_all, settled, tell}
use Rattle.cell_services.specs.Tables.{Tables}
use Rattle.serve_domains.specs.Tables.{no_domains}
use Rattle.serve_events.specs.Tables.{no_events}
use Rattle.variable_services.specs.Services.{no_variables}
use Rattle.cell_client.specs.Association.{Verdict}
use Rattle.cell_services.specs.Serving.{own_told, hears}

-- where no table is used, what is heard is the same with none
abbrev pub no_tables : Tables
no_tables = record { now = 0; variables = no_variables; domains = no_domains; programs = []; events = no_events; journals = []; semaphores = [] }

-- the row of a client after a verdict that uses none
abbrev pub row_after : Verdict → ClientRow → ClientRow
row_after v row = felt_all (own_told no_tables row v) row

-- the client is told all that comes of a verdict, which uses no table and tells nobody else anything
pub record IsPlainlyHeard (row : ClientRow) (new : RoomyRow) (v : Verdict) : Type 0 where
  pub is : new ≡ settled (row_after v row)
  pub alone : (t : Tables) (client : ℕ) → hears t row client v ≡ record { tables = t; told = tell client (own_told no_tables row v) }

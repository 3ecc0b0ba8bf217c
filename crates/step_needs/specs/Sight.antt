-- What an event of a client is looked at by: the part of the client, and the parts that are held.
use Rattle.std.specs.Prelude.{◌≡◌, ◌≤◌, true, length}
use Rattle.association.specs.Client.{ClientRow}
use Rattle.parted_state.specs.Lifted.{tables_shown}
use Rattle.cell_services.specs.Tables.{Tables}
use Rattle.step_parts.specs.Needs.{is_held}
use Rattle.step_parts.specs.Partition.{cell, client_place, clients_among}
use Rattle.step_needs.specs.declared.heard.Sight.{Sight}

-- there are as many clients as are told by the parts, and the client's own part is held
pub record IsSight (sight : Sight) : Type 0 where
  pub many : sight.clients ≡ clients_among (length sight.held.now)
  pub few : sight.clients ≤ 64
  pub own : is_held sight.held.now (client_place sight.part.now.row.client) ≡ true

-- the client's row, and the tables that the held parts show
abbrev pub row : Sight → ClientRow
row sight = sight.part.now.row

abbrev pub tables : Sight → Tables
tables sight = tables_shown cell sight.held.now

-- What a document says of a cell, and what holds of each configuration.
use Rattle.std.specs.Prelude.{◌≡◌, ℕ, nat_eq, nat_lt, ◌≤◌, ⊤, IsTrue, List, map, length, Option, None, Some, Result, Ok, Err}
use Rattle.std.specs.List.{list_all, list_any}
use Rattle.toml.specs.Data.{Members}
use Rattle.mms_types.specs.Matches.{matches}
use Rattle.mms_types.specs.declared.cells.CellRow.{CellRow}
use Rattle.mms_types.specs.declared.cells.NamedCell.{NamedCell}
use Rattle.mms_types.specs.declared.cells.PoolRow.{PoolRow}
use Rattle.mms_types.specs.Moments.{milliseconds, IsDated}
use Rattle.mms_types.specs.declared.identifier.Edition.{Edition}
use Rattle.cell_config.specs.declared.config.Config.{Config}
use Rattle.cell_config.specs.declared.config.BadConfig.{BadConfig}
use Rattle.cell_config.specs.declared.config.BadConfig.TheVariants.{Rule, Memory}
use Rattle.cell_config.specs.Rows.{cells_told, variables_told, pools_told}
use Rattle.cell_config.specs.Cells.{number_of, are_distinct, same_name, is_pool, cell_row, named_cell, pool_row}
use Rattle.cell_config.specs.Rules.{clients_of, day_of, ms_of, vendor_of, model_of, revision_of, is_short_text}

-- what the document says in an edition, each part by its key
abbrev pub config_of : Edition → Members → Config
config_of edition document = record {
  edition = edition;
  clients = number_of (clients_of document);
  start = record { 0 = milliseconds (number_of (day_of document)) (number_of (ms_of document)) };
  vendor = vendor_of document;
  model = model_of document;
  revision = revision_of document;
  cells = map (cell_row edition) (cells_told document);
  variables = map named_cell (variables_told document);
  pools = map pool_row (pools_told document);
}

-- each cell has a number of its own below 4,096, and a value of its type
pub record AreCells (cells : List CellRow) : Type 0 where
  pub distinct : IsTrue (are_distinct nat_eq (map (λ cell. cell.number) cells))
  pub small : IsTrue (list_all (λ cell. nat_lt cell.number 4096) cells)
  pub typed : IsTrue (list_all (λ cell. matches cell.value cell.of) cells)

-- at most 4,096 variables, each with a name of its own and a cell
pub record AreVariables (cells : List CellRow) (variables : List NamedCell) : Type 0 where
  pub distinct : IsTrue (are_distinct same_name (map (λ variable. variable.name) variables))
  pub present : IsTrue (list_all (λ variable. list_any (nat_eq variable.cell) (map (λ cell. cell.number) cells)) variables)
  pub few : length variables ≤ 4096

-- at most 256 pools, each with a name of its own and 1 to 256 tokens, no two of the same name
pub record ArePools (pools : List PoolRow) : Type 0 where
  pub distinct : IsTrue (are_distinct same_name (map (λ pool. pool.name) pools))
  pub tokens : IsTrue (list_all (λ pool. is_pool pool.tokens) pools)
  pub few : length pools ≤ 256

-- a configuration: 1 to 64 clients, a start that six octets name, three texts of 1 to 32 octets from 20 to 7E hex, cells, variables and pools
pub record IsConfig (config : Config) : Type 0 where
  pub some_client : 1 ≤ config.clients
  pub few_clients : config.clients ≤ 64
  pub dated : IsDated config.start
  pub vendor : IsTrue (is_short_text config.vendor)
  pub model : IsTrue (is_short_text config.model)
  pub revision : IsTrue (is_short_text config.revision)
  pub cells : AreCells config.cells
  pub variables : AreVariables config.cells config.variables
  pub pools : ArePools config.pools

-- it tells the least broken rule; want of memory tells nothing
abbrev pub TellsBad : BadConfig → Option ℕ → Type 0
TellsBad (Rule rule) least = least ≡ Some rule
TellsBad Memory least = ⊤

-- what is told where no rule is broken, and else the least broken rule
abbrev pub TellsRule : {X : Type 0} → Result X BadConfig → Option ℕ → Type 0
TellsRule (Ok told) least = least ≡ None
TellsRule (Err bad) least = TellsBad bad least

-- The rows of a table as the rules have them.
use Rattle.std.specs.Prelude.{map}
use Rattle.std.specs.Option.{option_copied}
use Rattle.cell_config.specs.declared.rows.CellText.{CellText}
use Rattle.cell_config.specs.declared.rows.VariableText.{VariableText}
use Rattle.cell_config.specs.declared.rows.PoolText.{PoolText}
use Rattle.cell_config.specs.Rows.{CellTold, VariableTold, PoolTold}

abbrev pub cell_seen : CellText → CellTold
cell_seen row = record { number = row.number; of = row.of.now; value = row.value.now; guard = option_copied row.guard }

abbrev pub variable_seen : VariableText → VariableTold
variable_seen row = record { name = row.name.now; cell = row.cell }

abbrev pub pool_seen : PoolText → PoolTold
pool_seen row = record { name = row.name.now; tokens = map (λ t. t.now) row.tokens.items }

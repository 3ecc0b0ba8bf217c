use Rattle.std.proofs.Common.{map}
use Rattle.cell_config.specs.Seen.{variable_seen}
use Rattle.cell_config.proofs.Walks.{in_range}
use Rattle.cell_config.proofs.read.rows_in.Goals as goal

pub named_cells-requires-clause-cells : goal.named_cells-requires-clause-cells
named_cells-requires-clause-cells c =
    in_range c.in-Some.numbers.keys (map variable_seen c.args.variables.now) (c.in_ok-last_broken.ensures.kept c.in-None.is)

use Rattle.cell_laws.proofs.FewAlong.{replay_limits}
use Rattle.cell_laws.proofs.tables.each_table_keeps_its_limit.Goals as goal

pub returns : goal.returns
returns c = replay_limits

use Rattle.cell_laws.proofs.ScopesAlong.{replay_live}
use Rattle.cell_laws.proofs.scopes.each_scope_is_live.Goals as goal

pub returns : goal.returns
returns c = replay_live

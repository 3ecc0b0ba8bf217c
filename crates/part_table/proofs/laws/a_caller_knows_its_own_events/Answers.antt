use Rattle.part_table.proofs.Own.{own_events}
use Rattle.part_table.proofs.laws.a_caller_knows_its_own_events.Goals as goal

pub returns : goal.returns
returns g c = own_events

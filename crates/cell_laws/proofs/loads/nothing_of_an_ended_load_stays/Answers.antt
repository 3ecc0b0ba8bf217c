use Rattle.cell_laws.proofs.LoadsEnded.{replay_broken_off, replay_loads_aborted, replay_loads_left}
use Rattle.cell_laws.proofs.LoadsStay.{replay_stays}
use Rattle.cell_laws.proofs.loads.nothing_of_an_ended_load_stays.Goals as goal

pub returns-clause-broken_off : goal.returns-clause-broken_off
returns-clause-broken_off c = replay_broken_off

pub returns-clause-left : goal.returns-clause-left
returns-clause-left c = replay_loads_left

pub returns-clause-aborted : goal.returns-clause-aborted
returns-clause-aborted c = replay_loads_aborted

pub returns-clause-no_other_cause : goal.returns-clause-no_other_cause
returns-clause-no_other_cause c = replay_stays

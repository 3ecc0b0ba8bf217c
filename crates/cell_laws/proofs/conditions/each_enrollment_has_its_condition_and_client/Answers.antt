use Rattle.cell_laws.proofs.Enrolled.{replay_clients, replay_conditions, replay_to_come}
use Rattle.cell_laws.proofs.conditions.each_enrollment_has_its_condition_and_client.Goals as goal

pub returns-clause-conditions : goal.returns-clause-conditions
returns-clause-conditions c = replay_conditions

pub returns-clause-clients : goal.returns-clause-clients
returns-clause-clients c = replay_clients

pub returns-clause-ahead : goal.returns-clause-ahead
returns-clause-ahead c = replay_to_come

use Rattle.std.proofs.lemmas.List.Elements.{All-from_recursion}
use Rattle.std.proofs.Common.{◌≤◌, ◌+◌, length}
use Rattle.cell_stress.specs.Stress.{stress_phases}
use Rattle.cell_stress.proofs.Sums.{configured, phases_all, phases_ms, phases_short}
use Rattle.cell_stress.proofs.laws.stress_is_recorded.Goals as goal

pub returns-clause-config : goal.returns-clause-config
returns-clause-config c = configured

pub returns-clause-recorded : goal.returns-clause-recorded
returns-clause-recorded c = λ seed clients rounds some few. phases_all clients seed rounds some

pub returns-clause-few : goal.returns-clause-few
returns-clause-few c = λ seed clients rounds. All-from_recursion (λ phase. length phase ≤ clients + 1) (stress_phases seed clients rounds) (phases_short clients seed rounds)

pub returns-clause-clock : goal.returns-clause-clock
returns-clause-clock c = λ seed clients rounds. phases_ms clients seed rounds

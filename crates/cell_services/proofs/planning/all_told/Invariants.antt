use Rattle.std.proofs.Common.{◌≡◌, ◌++◌}
use Rattle.cell_services.specs.Serving.{all_told}
use Rattle.cell_client.specs.Telling.{effects_told}
use Rattle.cell_services.proofs.planning.all_told.Given as goal

-- what is told so far, and then of what is left
abbrev pub invariant-loop-happening : goal.invariant-loop-happening
invariant-loop-happening l = effects_told l.told.items ++ all_told l.happening-iterator.rest.items ≡ all_told l.fn.happened.items

use Rattle.std.proofs.Common.{refl, ◌∙◌}
use Rattle.cell_record.specs.Report.{is_printed}
use Rattle.cell_stress.specs.Counts.{is_request}
use Rattle.cell_stress.specs.Stress.{stress_phases}
use Rattle.cell_stress.proofs.Interleaved.{as_many, history_counts}
use Rattle.cell_stress.proofs.Sums.{phases_events, phases_many, phases_requests}
use Rattle.cell_stress.proofs.laws.stress_is_counted.Goals as goal

pub returns-clause-phases : goal.returns-clause-phases
returns-clause-phases c = λ seed clients rounds bodies h. as_many bodies (stress_phases seed clients rounds) h ∙ phases_many clients seed rounds

pub returns-clause-events : goal.returns-clause-events
returns-clause-events c = λ seed clients rounds bodies h. history_counts is_printed (λ d. refl) clients bodies (stress_phases seed clients rounds) h ∙ phases_events clients seed rounds

pub returns-clause-requests : goal.returns-clause-requests
returns-clause-requests c = λ seed clients rounds bodies h. history_counts is_request (λ d. refl) clients bodies (stress_phases seed clients rounds) h ∙ phases_requests clients seed rounds

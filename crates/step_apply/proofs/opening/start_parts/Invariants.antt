use Rattle.std.proofs.Common.{◌≡◌, map, [], ◌∷◌}
use Rattle.std.specs.Box.{box_value}
use Rattle.step_parts.specs.declared.part.Part.TheVariants.{Clock, Variables, Domains, Programs, Events, Journals}
use Rattle.variable_services.specs.Services.{configured}
use Rattle.serve_domains.specs.Tables.{no_domains}
use Rattle.serve_events.specs.Tables.{no_events}
use Rattle.step_parts.specs.State.{first_rows}
use Rattle.step_parts.specs.Partition.{client_part}
use Rattle.step_apply.proofs.opening.start_parts.Given as goal

abbrev pub invariant-loop-client : goal.invariant-loop-client
invariant-loop-client l =
    map box_value l.parts.items ≡ Clock l.config.start.0 ∷ Variables (configured l.config.cells l.config.variables) ∷ Domains no_domains ∷ Programs [] ∷ Events no_events ∷ Journals []
    ∷ map client_part (first_rows l.config l.client)

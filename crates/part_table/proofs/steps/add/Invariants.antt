use Rattle.std.proofs.Common.{[], ◌∷◌}
use Rattle.part_table.proofs.steps.add.Given as goal

abbrev pub ghosts-add_chosen : goal.ghosts-add_chosen
ghosts-add_chosen g a = record { chosen = a.event.now ∷ [] }

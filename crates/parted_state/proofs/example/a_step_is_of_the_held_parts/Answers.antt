use Rattle.parted_state.specs.ShopLaws.{parts_step, others_stay}
use Rattle.parted_state.proofs.example.a_step_is_of_the_held_parts.Goals as goal

pub returns-clause-parts : goal.returns-clause-parts
returns-clause-parts c = parts_step

pub returns-clause-others : goal.returns-clause-others
returns-clause-others c = others_stay

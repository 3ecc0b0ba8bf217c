use Rattle.step_parts.proofs.Holding.{parts_step, held_determined, others_stay, shown_grows}
use Rattle.step_sound.proofs.laws.a_step_is_of_the_held_parts.Goals as goal

pub returns-clause-parts : goal.returns-clause-parts
returns-clause-parts c s event among = parts_step s event

pub returns-clause-determined : goal.returns-clause-determined
returns-clause-determined c s t hand event place of_s of_t among enough held = held_determined s t hand event place of_s of_t enough held

pub returns-clause-others : goal.returns-clause-others
returns-clause-others c s hand event place of among enough free = others_stay s hand event place of enough free

pub returns-clause-more : goal.returns-clause-more
returns-clause-more c = shown_grows

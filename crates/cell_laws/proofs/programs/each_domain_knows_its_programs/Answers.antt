use Rattle.step_sound.proofs.Sound.{replay_sound}
use Rattle.step_parts.specs.Step.{replay}
use Rattle.cell_laws.proofs.UsersLive.{all_live}
use Rattle.cell_laws.proofs.programs.each_domain_knows_its_programs.Goals as goal

pub returns-clause-names : goal.returns-clause-names
returns-clause-names c = λ config history is. (replay_sound config history is).used.names

pub returns-clause-live : goal.returns-clause-live
returns-clause-live c = λ config history is. all_live (replay config history).domains.domains (replay config history).programs (replay_sound config history is).used

pub returns-clause-alone : goal.returns-clause-alone
returns-clause-alone c = λ config history is. (replay_sound config history is).used.one

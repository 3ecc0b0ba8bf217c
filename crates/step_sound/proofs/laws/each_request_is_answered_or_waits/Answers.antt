use Rattle.step_parts.specs.Partition.{cell}
use Rattle.step_parts.specs.Step.{replay}
use Rattle.step_sound.proofs.Answering.{answered_or_waits}
use Rattle.step_sound.proofs.Sound.{replay_sound}
use Rattle.step_sound.proofs.laws.each_request_is_answered_or_waits.Goals as goal

pub returns-clause-reached : goal.returns-clause-reached
returns-clause-reached c config history is row invoke asked = answered_or_waits (cell.tables_of (replay config history)) row invoke (replay_sound config history is).uploads asked

pub returns-clause-any : goal.returns-clause-any
returns-clause-any c = answered_or_waits

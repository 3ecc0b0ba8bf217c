use Rattle.step_parts.specs.Step.{replay}
use Rattle.step_sound.proofs.ConditionsKept.{all_ahead}
use Rattle.step_sound.proofs.EventsKept.{well_before}
use Rattle.step_sound.proofs.Sound.{replay_sound}
use Rattle.std.specs.Prelude.{length}
use Rattle.step_sound.proofs.laws.every_deadline_lies_ahead.Goals as goal

pub returns-clause-deadlines : goal.returns-clause-deadlines
returns-clause-deadlines c config history is = (replay_sound config history is).ahead

pub returns-clause-awaited : goal.returns-clause-awaited
returns-clause-awaited c config history is =
    let s = replay config history in all_ahead (record { 0 = s.now }) s.events.conditions (well_before (length history) s (replay_sound config history is))

use Rattle.event_ticks.proofs.Ticked.{ends, sound_of, tick_meets, tick_rests}
use Rattle.event_ticks.proofs.laws.a_tick_meets_what_comes_next.Goals as goal

pub returns : goal.returns
returns c = record {
  rests = tick_rests;
  meets = λ cells until s t sound some. tick_meets cells until s t (sound_of s sound) some;
  ends = λ cells until s sound. ends cells until s (sound_of s sound);
}

use Rattle.sem_ticks.proofs.Turns.{enough, enough_dated, is_there, meets, none_left, rests}
use Rattle.sem_ticks.proofs.laws.a_tick_meets_what_comes_next.Goals as goal

pub returns : goal.returns
returns c = record {
  none = rests;
  next = meets;
  there = is_there;
  left = none_left;
  enough = enough;
  enough_dated = enough_dated;
}

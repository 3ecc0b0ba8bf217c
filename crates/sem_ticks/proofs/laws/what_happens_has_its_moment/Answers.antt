use Rattle.std.proofs.Common.{[]}
use Rattle.sem_ticks.proofs.Dated.{by_then, happen_from, in_order, undated_is}
use Rattle.sem_ticks.proofs.laws.what_happens_has_its_moment.Goals as goal

pub returns : goal.returns
returns c = record {
  same = λ until rows. undated_is until (record { rows = rows; happened = [] });
  in_order = in_order;
  from = λ until low rows all. happen_from low until (record { rows = rows; happened = [] }) all tt;
  by_then = by_then;
}

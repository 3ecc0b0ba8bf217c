use Rattle.std.proofs.Common.{◌≡◌, ◌≤◌, ◌+◌, ◌++◌, length, IfSome, IsTrue, IsFalse, slice_get, vec_capacity}
use Rattle.std.specs.Vec.Iter.{into_iter_items, into_iter_len}
use Rattle.cell_pool.specs.Served.{EachAt}
use Rattle.cell_pool.proofs.Taking.{IsOpen, LiesShort}
use Rattle.cell_pool.proofs.order.take_out.Given as goal

abbrev pub invariant-loop-slot : goal.invariant-loop-slot
invariant-loop-slot g l = record {
  slots : l.fn.slots.items ≡ l.yielded ++ into_iter_items l.slot-iterator;
  count : length l.jobs.items ≡ length l.yielded;
  len : length l.fn.slots.items ≡ length l.jobs.items + into_iter_len l.slot-iterator;
  room : length g.C.Given.given ≤ vec_capacity l.jobs;
  fit : EachAt (λ p job. ∥ g.C.Given.fit job ∥₁) l.jobs.items;
  made : EachAt (λ p job. ∥ IfSome (slice_get g.C.Given.given p) (λ from. g.T.Turn.made from job) ∥₁) l.jobs.items;
  done : IsTrue l.all → EachAt (λ p job. ∥ g.T.Turn.done job ∥₁) l.jobs.items;
  unended : IsFalse l.all → IsOpen (λ i. i.ended) l.fn.slots.items;
  short : EachAt (λ p job. LiesShort (λ i. i.short) l.fn.slots.items p → ∥ g.T.Turn.short job ∥₁) l.jobs.items;
}

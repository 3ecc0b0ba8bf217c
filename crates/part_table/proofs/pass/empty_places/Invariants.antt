use Rattle.std.proofs.Common.{◌≡◌, ◌≤◌, vec_len, vec_capacity}
use Rattle.part_table.specs.Held.{unboxed}
use Rattle.part_table.specs.Known.{nothing}
use Rattle.part_table.proofs.pass.empty_places.Given as goal

abbrev pub invariant-loop-place : goal.invariant-loop-place
invariant-loop-place g l = record {
  empty : unboxed l.places.items ≡ nothing l._place;
  many : vec_len l.places ≡ l._place;
  room : l.parts ≤ vec_capacity l.places;
}

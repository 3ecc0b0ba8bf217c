use Rattle.std.proofs.Common.{◌≡◌, ◌≤◌, length, map, take, vec_len, vec_capacity}
use Rattle.std.specs.Box.{box_value}
use Rattle.part_table.proofs.example.table_of.Given as goal

abbrev pub invariant-loop-number : goal.invariant-loop-number
invariant-loop-number l = record {
  many : vec_len l.parts ≡ l.number-index;
  room : length l.numbers ≤ vec_capacity l.parts;
  values : map box_value l.parts.items ≡ take l.number-index l.numbers;
}

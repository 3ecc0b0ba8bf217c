use Rattle.std.proofs.Common.{◌≡◌, ◌≤◌, ◌<◌, ◌^◌, ◌-◌, length, take, true}
use Rattle.std.specs.List.{list_all}
use Rattle.cell_record.specs.Words.{is_digit, value_of}
use Rattle.cell_record.proofs.cut.front_number.Given as goal

abbrev pub invariant-loop-count : goal.invariant-loop-count
invariant-loop-count l = record {
  within : l.count ≤ length l.text;
  few : l.count ≤ 9;
  digits : list_all is_digit (take l.count l.text) ≡ true;
  value : l.value ≡ value_of (take l.count l.text);
  small : l.value < 10 ^ l.count;
}

abbrev pub decreases-loop-count : goal.decreases-loop-count
decreases-loop-count l = length l.text - l.count

use Rattle.std.proofs.Common.{◌≡◌, ◌≤◌, ◌<◌, ◌^◌, ◌-◌, length, take, true}
use Rattle.std.specs.List.{list_all}
use Rattle.cell_record.specs.Words.{is_digit, value_of}
use Rattle.cell_record.proofs.digits.number.Given as goal

abbrev pub invariant-loop-count : goal.invariant-loop-count
invariant-loop-count l = record {
  within : l.count ≤ length l.digits;
  digits : list_all is_digit (take l.count l.digits) ≡ true;
  value : l.value ≡ value_of (take l.count l.digits);
  small : l.value < 10 ^ l.count;
}

abbrev pub decreases-loop-count : goal.decreases-loop-count
decreases-loop-count l = length l.digits - l.count

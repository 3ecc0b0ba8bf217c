use Rattle.std.proofs.Common.{◌≡◌, ◌≤◌, ◌*◌, ◌-◌, length, take, true, Some}
use Rattle.std.specs.List.{list_all}
use Rattle.cell_record.specs.Words.{is_hex, pairs_of}
use Rattle.cell_record.proofs.cut.front_pairs.Given as goal

abbrev pub invariant-loop-count : goal.invariant-loop-count
invariant-loop-count l = record {
  within : l.count ≤ l.most;
  size : length l.to ≡ length l.initial.to;
  hex : list_all is_hex (take (2 * l.count) l.text) ≡ true;
  octets : pairs_of (take (2 * l.count) l.text) ≡ Some (take l.count l.to);
}

abbrev pub decreases-loop-count : goal.decreases-loop-count
decreases-loop-count l = l.most - l.count

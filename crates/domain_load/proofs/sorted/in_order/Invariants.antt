use Rattle.std.proofs.Common.{◌≡◌, ◌≤◌, drop, length, map}
use Rattle.object_names.specs.Listing.{sorted_names}
use Rattle.domain_load.proofs.sorted.in_order.Given as goal

-- the names from that one on are in order
abbrev pub invariant-loop-left : goal.invariant-loop-left
invariant-loop-left l = record {
  within : l.left ≤ length l.names;
  sorted : map (λ name. name.now) l.sorted.items ≡ sorted_names (drop l.left l.names);
}

abbrev pub decreases-loop-left : goal.decreases-loop-left
decreases-loop-left l = l.left

use Rattle.std.proofs.Common.{◌≡◌, ◌-◌, ◌≤◌, ◌++◌, drop, length, map, take}
use Rattle.object_names.specs.Listing.{insert_name}
use Rattle.domain_load.proofs.sorted.place_of.Given as goal

-- the name is put behind those up to the place
abbrev pub invariant-loop-place : goal.invariant-loop-place
invariant-loop-place l = record {
  within : l.place ≤ length l.names;
  behind : insert_name l.name (map (λ name. name.now) l.names) ≡ take l.place (map (λ name. name.now) l.names) ++ insert_name l.name (drop l.place (map (λ name. name.now) l.names));
}

abbrev pub decreases-loop-place : goal.decreases-loop-place
decreases-loop-place l = length l.names - l.place

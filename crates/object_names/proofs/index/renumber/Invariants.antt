use Rattle.std.proofs.Common.{◌≡◌, ◌-◌, ◌++◌, drop, get_or, length, map, take}
use Rattle.object_names.proofs.index.renumber.Given as goal

-- those up to the place are numbered
abbrev pub invariant-loop-at : goal.invariant-loop-at
invariant-loop-at l = record {
  done : l.places.items ≡ map (λ place. get_or l.ranks place 0 - 1) (take l.at l.fn.places.items) ++ drop l.at l.fn.places.items;
  end : l.at-end ≡ length l.fn.places.items;
}

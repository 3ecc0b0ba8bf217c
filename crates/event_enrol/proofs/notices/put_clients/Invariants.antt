use Rattle.std.proofs.Common.{◌≡◌, ◌≤◌, ◌++◌, filter, length, map, take}
use Rattle.event_enrol.specs.Enrolments.{has_bit}
use Rattle.event_enrol.proofs.notices.put_clients.Given as goal

-- those so far, and then those of the members that are left; the given ones stand first
abbrev pub invariant-loop-member : goal.invariant-loop-member
invariant-loop-member l = record {
  told : l.clients.items ++ map (λ m. m.client) (filter (λ m. has_bit l.transition m.transitions) l.rest)
      ≡ l.initial.clients.items ++ map (λ m. m.client) (filter (λ m. has_bit l.fn.transition m.transitions) l.fn.members);
  first : take l.before l.clients.items ≡ l.initial.clients.items;
  long : l.before ≤ length l.clients.items;
}

abbrev pub decreases-loop-member : goal.decreases-loop-member
decreases-loop-member l = length l.rest

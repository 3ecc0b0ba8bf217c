use Rattle.std.proofs.Common.{◌≡◌, ◌≤◌, map, take}
use Rattle.object_names.specs.Borrowed.{key_meant}
use Rattle.object_names.specs.Deletion.{mentioned, missing}
use Rattle.event_enrol.proofs.enrolments.Enrolments.listed.Given as goal

-- the names up to the index are in the set, each once, and those that are missing are counted
abbrev pub invariant-loop-name : goal.invariant-loop-name
invariant-loop-name l = record {
  set : map key_meant l.set.keys ≡ mentioned l.client (take l.name-index l.names);
  count : l.count ≡ missing l.client (take l.name-index l.names) l.self;
  few : l.count ≤ l.name-index;
}

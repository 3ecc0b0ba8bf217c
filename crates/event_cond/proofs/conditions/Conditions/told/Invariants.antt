use Rattle.std.proofs.Common.{◌≡◌, ◌≤◌, map, take}
use Rattle.object_names.specs.Borrowed.{key_meant}
use Rattle.object_names.specs.Deletion.{mentioned, missing}
use Rattle.event_cond.specs.Deletion.{deletions}
use Rattle.event_cond.proofs.conditions.Conditions.told.Given as goal

-- the names up to the index are in the set, each once; those that are missing are counted, and what is told of the others is
abbrev pub invariant-loop-name : goal.invariant-loop-name
invariant-loop-name l = record {
  set : map key_meant l.mentioned.keys ≡ mentioned l.client (take l.name-index l.names);
  count : l.missing ≡ missing l.client (take l.name-index l.names) l.self;
  told : l.turned ≡ deletions l.client l.now (take l.name-index l.names) l.self;
  few : l.missing ≤ l.name-index;
}

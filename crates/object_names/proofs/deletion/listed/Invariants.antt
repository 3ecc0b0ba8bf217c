use Rattle.std.proofs.Common.{◌≡◌, take}
use Rattle.object_names.specs.Deletion.{is_listed_by}
use Rattle.object_names.specs.Selected.{is_among}
use Rattle.object_names.proofs.deletion.listed.Given as goal

-- the names up to the index are in the set, and no others
abbrev pub invariant-loop-name : goal.invariant-loop-name
invariant-loop-name l = is_among l.set.keys ≡ is_listed_by l.client (take l.name-index l.names)

use Rattle.std.proofs.Common.{◌≡◌, length, take}
use Rattle.object_names.specs.Deletion.{deleted, matched}
use Rattle.object_names.specs.Selected.{is_among}
use Rattle.object_names.proofs.table.Named.count_named.Given as goal

-- the names up to the place are counted
abbrev pub invariant-loop-place : goal.invariant-loop-place
invariant-loop-place g l = record {
  matched : l.counts.matched ≡ matched (is_among (take l.place l.names.keys)) l.self;
  deleted : l.counts.deleted ≡ deleted g.T.Deletable.is_fixed (is_among (take l.place l.names.keys)) l.self;
  all : l.place-end ≡ length l.names.keys;
}

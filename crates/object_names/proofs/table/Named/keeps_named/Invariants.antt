use Rattle.std.proofs.Common.{◌≡◌, length, take}
use Rattle.object_names.specs.Deletion.{deleted}
use Rattle.object_names.specs.Selected.{is_among}
use Rattle.object_names.proofs.table.Named.keeps_named.Given as goal

-- none up to the place
abbrev pub invariant-loop-place : goal.invariant-loop-place
invariant-loop-place g l = record {
  none : deleted g.T.Deletable.is_fixed (is_among (take l.place l.names.keys)) l.self ≡ 0;
  all : l.place-end ≡ length l.names.keys;
}

use Rattle.std.proofs.Common.{◌≡◌, ◌+◌, ◌≤◌, length}
use Rattle.object_names.specs.Deletion.{matched, deleted}
use Rattle.object_names.specs.Selected.{selected}
use Rattle.object_names.proofs.table.Named.count.Given as goal

-- what was counted so far, and then those that are left, are all; and they are no more than the rows
abbrev pub invariant-loop-key : goal.invariant-loop-key
invariant-loop-key g l = (l.counts.matched + matched (selected l.selection) l.key-iterator ≡ matched (selected l.selection) l.self)
    × (l.counts.deleted + deleted g.T.Deletable.is_fixed (selected l.selection) l.key-iterator ≡ deleted g.T.Deletable.is_fixed (selected l.selection) l.self)
    × (l.counts.matched + length l.key-iterator ≤ length l.self) × (l.counts.deleted + length l.key-iterator ≤ length l.self)

use Rattle.std.proofs.Common.{◌≡◌, take}
use Rattle.attach_sem.proofs.copies.copied_object_names.Given as goal

-- the names up to the index are copied
abbrev pub invariant-loop-name : goal.invariant-loop-name
invariant-loop-name l = l.names ≡ take l.name-index l.from

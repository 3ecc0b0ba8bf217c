use Rattle.std.proofs.Common.{◌≡◌, drop}
use Rattle.part_table.specs.Passes.{times}
use Rattle.part_table.proofs.pass.place_of.Given as goal

abbrev pub invariant-loop-place : goal.invariant-loop-place
invariant-loop-place l = times l.part (drop l.place l.order) ≡ 1

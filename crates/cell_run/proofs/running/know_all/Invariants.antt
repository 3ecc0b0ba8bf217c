use Rattle.std.proofs.Common.{◌≡◌, ◌<◌, ℕ, Some, slice_get}
use Rattle.part_table.specs.Known.{IsTrueOf}
use Rattle.mms_device.specs.Making.{MayMake}
use Rattle.mms_device.specs.Shared.{Caller}
use Rattle.cell_run.proofs.running.know_all.Given as goal

abbrev pub invariant-loop-pass : goal.invariant-loop-pass
invariant-loop-pass l = (i : ℕ) (p : Caller) → i < l.pass-index → slice_get l.passes i ≡ Some p → IsTrueOf MayMake p

use Rattle.std.proofs.Common.{◌≡◌, ◌++◌, ℕ, true}
use Rattle.std.specs.Prelude.{Contains}
use Rattle.step_parts.specs.Needs.{is_held}
use Rattle.mms_device.specs.Taken.{HasTaken}
use Rattle.mms_device.proofs.taking.take_each.Given as goal

abbrev pub invariant-loop-part : goal.invariant-loop-part
invariant-loop-part g l = record {
  taken : HasTaken l.parts l.initial.pass l.pass;
  held : (i : ℕ) → Contains l.yielded i → is_held l.pass.taken i ≡ true;
  lost : l.pass.lost ≡ l.initial.pass.lost;
  all : l.parts ≡ l.yielded ++ l.part-iterator;
}

use Rattle.std.proofs.Common.{◌≡◌, ◌<◌, ℕ, None}
use Rattle.part_table.specs.Held.{held_at}
use Rattle.part_table.proofs.example.give_all.Given as goal

abbrev pub invariant-loop-part : goal.invariant-loop-part
invariant-loop-part l = record {
  kept : l.pass ≡ record l.initial.pass { taken = l.pass.taken; hand = l.pass.hand; order = l.pass.order };
  hand : l.pass.hand ≡ l.pass.taken;
  idle : (i : ℕ) → i < l.part → held_at l.pass.taken i ≡ None;
}

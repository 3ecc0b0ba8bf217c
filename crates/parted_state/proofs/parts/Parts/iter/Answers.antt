use Rattle.std.proofs.Common.{List, ℕ, ◌≤◌, length, subst}
use Rattle.std.specs.List.Sorted.{IsStrictlyIncreasing}
use Rattle.parted_state.proofs.Bits.{increasing, few_numbers}
use Rattle.parted_state.proofs.parts.Parts.iter.Goals as goal

pub returns-clause-increasing : goal.returns-clause-increasing
returns-clause-increasing c = subst IsStrictlyIncreasing c.self.view_is (increasing c.self.inside.words)

pub returns-clause-few : goal.returns-clause-few
returns-clause-few c = subst (λ (l : List ℕ). length l ≤ 256) c.self.view_is (few_numbers c.self.inside.words)

-- An example of jobs: counts that go up to their goals.
use Rattle.std.specs.Prelude.{◌≡◌, ◌≤◌, ◌<◌, ◌+◌, ◌^◌, refl}
use Rattle.std.proofs.Common.{◌∙◌, arith}
use Rattle.cell_pool.specs.declared.example.Count.{Count}

-- its goal is a number of 32 bits
abbrev pub IsFit : Count → Type 0
IsFit count = count.at + count.rest < 2 ^ 32

-- it is the same caller's, has the same goal, and is no less far
pub record MadeOf (a b : Count) : Type 0 where
  pub by : b.by ≡ a.by
  pub goal : b.at + b.rest ≡ a.at + a.rest
  pub further : a.at ≤ b.at

pub made_of_itself : (a : Count) → MadeOf a a
made_of_itself a = record { by = refl; goal = refl; further = omega arith }

pub made_of_made : (a b c : Count) → MadeOf a b → MadeOf b c → MadeOf a c
made_of_made a b c m n = record {
  by = n.by ∙ m.by;
  goal = n.goal ∙ m.goal;
  further = (let i = m.further in let j = n.further in omega arith);
}

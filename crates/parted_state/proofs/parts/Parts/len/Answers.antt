use Rattle.std.proofs.Common.{inl, length, List, ℕ, ap, arith}
use Rattle.parted_state.proofs.parts.Parts.len.Goals as goal

pub count-requires-clause-fits : goal.count-requires-clause-fits
count-requires-clause-fits c =
    let same = ap (λ (l : List ℕ). length l) c.iter.ensures.numbers in
    inl (omega (arith, same, c.iter.ensures.few))

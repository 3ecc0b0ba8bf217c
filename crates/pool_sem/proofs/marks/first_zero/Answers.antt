use Rattle.std.proofs.Common.{◌≡◌, ◌+◌, ◌<◌, ◌^◌, ℕ, sym, subst, arith, w64}
use Rattle.std.specs.Int.{bit_at, trailing_ones}
use Rattle.std.proofs.lemmas.Nat.Bits.{bit_at-trailing_ones}
use Rattle.pool_sem.proofs.marks.first_zero.Goals as goal

pub returns : goal.returns
returns c =
    let same : trailing_ones w64 c.args.word ≡ c.trailing_ones.result = sym c.trailing_ones.ensures in
    let room : c.args.word + 1 < 2 ^ 64 = omega arith in
    let is = bit_at-trailing_ones w64 c.args.word room in
    record {
      within = subst (λ n. n < 64) same is.0;
      before = subst (λ (n : ℕ). (k : ℕ) → k < n → bit_at c.args.word k ≡ 1) same is.2;
      there = subst (λ n. bit_at c.args.word n ≡ 0) same is.1;
    }

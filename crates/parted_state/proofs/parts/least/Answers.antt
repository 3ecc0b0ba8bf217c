use Rattle.std.proofs.Common.{◌<◌, ◌^◌, slice_index, arith, rules}
use Rattle.parted_state.proofs.Bits.{least_found, least_first}
use Rattle.parted_state.proofs.parts.least.Goals as goal

pub returns-then-bits-ne0-clause-found : goal.returns-then-bits-ne0-clause-found
returns-then-bits-ne0-clause-found c =
    let other = c.if-bits-ne0.true in
    least_found c.args.words.now c.words.word (omega (arith, other)) (search rules)

pub returns-then-bits-ne0-clause-first : goal.returns-then-bits-ne0-clause-first
returns-then-bits-ne0-clause-first c =
    let other = c.if-bits-ne0.true in
    least_first c.args.words.now c.words.word (omega (arith, other)) (search rules) c.words.invariant

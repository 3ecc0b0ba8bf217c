use Rattle.std.proofs.Common.{List, ℕ, ◌/◌, ◌%◌, ◌*◌, ◌^◌, ap, ◌∙◌, sym, arith, slice_index, slice_set}
use Rattle.std.specs.Int.{bit_not, w64}
use Rattle.std.specs.Int.RustNames.{bit_and}
use Rattle.parted_state.proofs.Bits.{no_numbers, least_taken}
use Rattle.parted_state.proofs.parts.Parts.take_first.Goals as goal

pub returns-in-None-clause-none : goal.returns-in-None-clause-none
returns-in-None-clause-none c = sym c.self.view_is ∙ no_numbers c.self.inside.words c.in-None.ensures.none

pub returns-in-None-clause-kept : goal.returns-in-None-clause-kept
returns-in-None-clause-kept c = sym c.self.view_is ∙ no_numbers c.self.inside.words c.in-None.ensures.none

pub returns-in-Some-clause-first : goal.returns-in-Some-clause-first
returns-in-Some-clause-first c =
    let words = c.self.inside.words in
    let small = c.in-Some.ensures.within in
    let many = c.self.told in
    sym c.self.view_is
    ∙ least_taken words _ c.in-Some.number small (omega (arith, small, many)) c.in-Some.ensures.found c.in-Some.ensures.first
    (ap (λ (i : ℕ). slice_set words i (bit_and (slice_index words i) (bit_not w64 (1 * 2 ^ (c.in-Some.number % 64) % 2 ^ 64)))) c.from.ensures)

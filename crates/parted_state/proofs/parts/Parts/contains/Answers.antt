use Rattle.std.proofs.Common.{◌==◌, ◌/◌, ◌%◌, ap, List, ℕ, ◌∙◌, slice_index}
use Rattle.std.proofs.lemmas.Nat.Bits.{shr_and_one}
use Rattle.parted_state.specs.Cut.{is_in}
use Rattle.parted_state.proofs.Bits.{has_bit, has_none}
use Rattle.parted_state.proofs.parts.Parts.contains.Goals as goal

pub returns-then-part-lt256 : goal.returns-then-part-lt256
returns-then-part-lt256 c =
    ap (λ (b : ℕ). b == 1) (shr_and_one (slice_index c.self.inside.words (c.args.part / 64)) (c.args.part % 64))
    ∙ has_bit c.self.inside.words c.args.part c.if-part-lt256.true ∙ ap (λ (l : List ℕ). is_in l c.args.part) c.self.view_is

pub returns-else-part-lt256 : goal.returns-else-part-lt256
returns-else-part-lt256 c = has_none c.self.inside.words c.args.part c.if-part-lt256.false ∙ ap (λ (l : List ℕ). is_in l c.args.part) c.self.view_is

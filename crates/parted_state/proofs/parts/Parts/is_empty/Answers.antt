use Rattle.std.proofs.Common.{◌==◌, List, ℕ, ap, length, ◌∙◌, sym}
use Rattle.parted_state.proofs.Bits.{no_numbers, some_numbers}
use Rattle.parted_state.proofs.parts.Parts.is_empty.Goals as goal

pub returns-in-None : goal.returns-in-None
returns-in-None c = ap (λ (l : List ℕ). length l == 0) (sym (no_numbers c.self.inside.words c.in-None.ensures.none) ∙ c.self.view_is)

pub returns-in-Some : goal.returns-in-Some
returns-in-Some c =
    some_numbers c.self.inside.words c.in-Some.field-0 c.in-Some.ensures.within c.in-Some.ensures.found ∙ ap (λ (l : List ℕ). length l == 0) c.self.view_is

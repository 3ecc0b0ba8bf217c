use Rattle.std.proofs.Common.{ℕ, List, ◌++◌, take, ap, ap₂, ◌∙◌, arith}
use Rattle.cell_io.proofs.Digits.{copied_behind}
use Rattle.cell_io.proofs.text.put_spelled.Goals as goal

pub returns-clause-text : goal.returns-clause-text
returns-clause-text c =
    copied_behind c.args.end c.put-size.result c.room.new.buffer.len c.as_mut_slice.result.now c.put-size.new.to _ _ (omega (arith, c.requires, c.room.ensures.longer, c.as_mut_slice.ensures.len)) (omega (arith, c.put-size.ensures.within, c.put-size.ensures.length))
    (omega (arith, c.put-size.ensures.within, c.in_ok-most.ensures.end, c.in_ok-most.ensures.room))
    ∙ ap₂ (λ (front digits : List ℕ). front ++ digits) (ap (take c.args.end) c.as_mut_slice.ensures.value ∙ c.room.ensures.kept) c.put-size.ensures.digits

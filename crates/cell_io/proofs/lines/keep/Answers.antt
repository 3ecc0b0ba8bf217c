use Rattle.std.proofs.Common.{arith, ◌≡◌, ℕ, ◌-◌, ◌++◌, min, length, take, ap, ◌∙◌}
use Rattle.cell_io.proofs.Kept.{kept_part}
use Rattle.cell_io.proofs.lines.keep.Goals as goal

pub returns : goal.returns
returns c =
    let count : c.min-count.result ≡ min (196612 - length c.args.line.now.items) (length c.args.part.now) = omega (arith, c.min-count.ensures, c.len.ensures, c.args.line.now.ok) in
    c.in_ok-extend_from_slice.ensures.items ∙ ap (λ (n : ℕ). c.args.line.now.items ++ take n c.args.part.now) count ∙ kept_part 196612 c.args.line.now.items c.args.part.now c.requires

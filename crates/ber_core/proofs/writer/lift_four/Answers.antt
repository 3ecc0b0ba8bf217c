use Rattle.std.proofs.Common.{◌≡◌, ◌+◌, ◌-◌, ◌∙◌, ℕ, ap, take, drop, arith}
use Rattle.ber_core.proofs.Lifted.{lifted}
use Rattle.ber_core.proofs.writer.lift_four.Goals as goal

pub returns-clause-moved : goal.returns-clause-moved
returns-clause-moved c =
    let most : c.args.size - (c.args.size - 4) ≡ 4 = omega arith in
    lifted 4 (c.args.size - 4) c.args.size (c.args.size - 2) (c.args.size + 2 - (c.args.size - 2)) c.args.octets.now c.copy_from_slice-3.new.self c.copy_from_slice-4.new.self
    (omega arith) (omega arith) (omega arith) (omega arith) c.requires.len
    (c.copy_from_slice-3.ensures.after ∙ c.copy_from_slice.ensures.after)
    (c.copy_from_slice-4.ensures.after ∙ c.copy_from_slice-2.ensures.after ∙ ap (λ (k : ℕ). take k (drop (c.args.size - 4) c.args.octets.now)) most)

use Rattle.std.proofs.Common.{◌≡◌, ℕ, [], arith, length, sym, ◌∙◌, ap}
use Rattle.part_table.specs.Held.{held_at}
use Rattle.part_table.specs.Passes.{one_if_held}
use Rattle.part_table.proofs.Callers.{all_given}
use Rattle.part_table.proofs.Hands.{all_free, nothing_held}
use Rattle.part_table.proofs.Order.{none_stands}
use Rattle.part_table.proofs.example.give_all.Goals as goal

pub returns : goal.returns
returns c =
    let kept = c.loop-part.invariant in
    let table = ap (λ p. length p.table.opening) kept.kept ∙ ap (λ t. length t.opening) c.requires.table in
    let idle = all_free c.loop-part.pass.taken c.args.parts (c.a_pass_has_a_place_for_each_part.ensures ∙ table ∙ sym c.requires.parts) (λ i lt. kept.idle i (omega (arith, c.loop-part-test.false, lt))) in
    let none : c.loop-part.pass.order ≡ [] =
    none_stands c.loop-part.pass.order (λ i. c.a_pass_has_its_parts_in_order.ensures i ∙ ap one_if_held (ap (λ l. held_at l i) idle ∙ nothing_held ℕ c.args.parts i)) in
    all_given c.args.pass.now c.loop-part.pass c.args.parts kept.kept kept.hand idle none

use Rattle.std.proofs.Common.{◌≡◌, ◌<◌, Some, length, slice_get, arith, sym, ◌∙◌, ap}
use Rattle.part_table.specs.Amounts.{moved}
use Rattle.part_table.specs.Held.{held_at}
use Rattle.part_table.specs.HeldLaws.{held_of_list, held_set_here}
use Rattle.part_table.specs.History.{replayed}
use Rattle.part_table.specs.Passes.{one_if_held}
use Rattle.part_table.proofs.Callers.{seen_with, seen_without}
use Rattle.part_table.proofs.example.visit.Goals as goal

pub unreachable-requires : goal.unreachable-requires
unreachable-requires c =
    let t = c.in_ok-try_take.ensures.taken in
    let lt : c.args.part < length c.args.pass.now.taken = omega (arith, c.a_pass_has_a_place_for_each_part.ensures, ap (λ k. length k.opening) c.requires.table, c.requires.part) in
    let long : c.args.part < length c.args.pass.now.hand = omega (arith, lt, ap (λ l. length l) c.requires.hand) in
    c.in_default.not-Some t.0 (c.copied.ensures ∙ c.get.ensures ∙ ap (λ h. held_at h c.args.part) (c.hand.ensures ∙ ap (λ p. p.hand) t.1) ∙ held_set_here c.args.pass.now.hand c.args.part (Some t.0) long)

pub returns-clause-number : goal.returns-clause-number
returns-clause-number c =
    let t = c.in_ok-try_take.ensures.taken in
    let old = c.args.pass.now in
    let lt : c.args.part < length old.taken = omega (arith, c.a_pass_has_a_place_for_each_part.ensures, ap (λ k. length k.opening) c.requires.table, c.requires.part) in
    let long : c.args.part < length old.hand = omega (arith, lt, ap (λ l. length l) c.requires.hand) in
    let read : c.copied.result ≡ Some t.0 =
    c.copied.ensures ∙ c.get.ensures ∙ ap (λ h. held_at h c.args.part) (c.hand.ensures ∙ ap (λ p. p.hand) t.1) ∙ held_set_here old.hand c.args.part (Some t.0) long in
    let saw = seen_with old c.try_take.new.pass c.see.new.pass c.give.new.pass c.args.part t.0 t.1 c.see.ensures.kept in
    let held : held_at c.see.new.pass.taken c.args.part ≡ Some t.0 = ap (λ p. held_at p.taken c.args.part) saw ∙ held_set_here old.taken c.args.part (Some t.0) lt in
    let there = held_of_list c.see.new.pass.taken _ c.args.part t.0 c.see.ensures.parts held in
    ap (λ h. slice_get (replayed moved c.args.table.now.opening h) c.args.part) (ap (λ p. p.seen) c.give.ensures.given)
    ∙ ap (λ k. slice_get (replayed moved k.opening c.see.new.pass.seen) c.args.part) (sym (ap (λ p. p.table) saw ∙ c.requires.table))
    ∙ there ∙ sym read ∙ c.in-Some.is

pub returns-clause-seen : goal.returns-clause-seen
returns-clause-seen c =
    let t = c.in_ok-try_take.ensures.taken in
    seen_without c.args.pass.now c.try_take.new.pass c.see.new.pass c.give.new.pass c.args.part t.0 t.1 c.see.ensures.kept c.give.ensures.given c.requires.hand c.requires.free (c.a_pass_has_its_parts_in_order.ensures c.args.part ∙ ap one_if_held c.requires.free) c.see.ensures.seen

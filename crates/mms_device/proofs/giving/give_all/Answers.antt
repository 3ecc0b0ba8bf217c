use Rattle.std.proofs.Common.{◌≡◌, ℕ, List, [], ◌∷◌, None, slice_get, ◌∙◌, ap, refl, length, arith}
use Rattle.part_table.proofs.Callers.{all_given}
use Rattle.part_table.proofs.Hands.{all_free, count_taken}
use Rattle.part_table.specs.Passes.{held_count}
use Rattle.mms_device.specs.Shared.{Caller}
use Rattle.mms_device.proofs.Steps.{the_held}
use Rattle.mms_device.proofs.giving.give_all.Goals as goal

pub loop-part-smaller : goal.loop-part-smaller
loop-part-smaller c =
    let p = c.loop-part.pass in
    let x = the_held p.taken c.in-Some.part c.in-Some.ensures.held in
    let fewer = count_taken p.taken c.in-Some.part x.0 x.1 in
    let given = ap (λ (y : Caller). held_count y.taken) c.give.ensures.given in
    omega (arith, fewer, given)

none_first : (parts : List ℕ) → None ≡ slice_get parts 0 → parts ≡ []
none_first [] e = refl
none_first (part ∷ parts) e = absurd (cc e)

pub returns : goal.returns
returns c =
    let p = c.loop-part.pass in
    let kept = c.loop-part.invariant in
    all_given c.args.pass.now p (length c.args.pass.now.table.opening) kept.kept kept.hand
    (all_free p.taken (length c.args.pass.now.table.opening) (c.a_pass_has_a_place_for_each_part.ensures ∙ ap (λ (y : Caller). length y.table.opening) kept.kept) (λ i lt. c.in_default.ensures.none i))
    (none_first p.order c.in_default.ensures.last)

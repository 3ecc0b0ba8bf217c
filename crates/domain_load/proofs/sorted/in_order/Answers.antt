use Rattle.std.proofs.Common.{◌≡◌, ◌∙◌, ◌-◌, ◌+◌, ◌<◌, ◌≤◌, ◌∷◌, ap, arith, drop, length, suc, sym}
use Rattle.std.proofs.lemmas.List.{drop_more, length-drop}
use Rattle.object_names.specs.Listing.{sorted_names}
use Rattle.domain_load.proofs.FirstNames.{more_sorted}
use Rattle.domain_load.proofs.sorted.in_order.Goals as goal

pub loop-left-preserved : goal.loop-left-preserved
loop-left-preserved c =
    let given = c.args.names.now in
    let left = c.loop-left.left in
    let name = c.index-names-left.result in
    let within = c.loop-left.invariant.within in
    let there : left - 1 < length given = omega (arith, within, c.loop-left-test.true) in
    let next : left - 1 + 1 ≡ left = omega (arith, c.loop-left-test.true) in
    let here : drop (left - 1) given ≡ name ∷ drop left given =
    drop_more given (left - 1) name there ∙ ap (λ x. x ∷ drop (left - 1 + 1) given) (sym c.index-names-left.is) ∙ ap (λ n. name ∷ drop n given) next in
    let rest = length-drop left given in
    let enough : suc (length (drop left given)) ≤ length given = omega (arith, rest, there, within, c.loop-left-test.true) in
    record {
      within = omega (arith, within);
      sorted = more_sorted name (drop left given) _ _ (length given) c.loop-left.invariant.sorted c.in_ok-put_name.ensures.placed enough ∙ ap sorted_names (sym here);
    }

use Rattle.std.proofs.Common.{◌≡◌, ◌∙◌, ◌-◌, ◌+◌, ◌∷◌, List, ℕ, ap, arith, drop, map, slice_get, subst, suc, sym}
use Rattle.std.specs.Option.{option_copied}
use Rattle.domain_load.specs.declared.domain.Domain.{Domain}
use Rattle.domain_load.proofs.FirstNames.{AreFirst, none_more, one_more, row_before}
use Rattle.domain_load.proofs.domains.Domains.names_after.Goals as goal

pub loop-left-preserved-then-comes_after : goal.loop-left-preserved-then-comes_after
loop-left-preserved-then-comes_after c =
    let rows = c.args.self.now in
    let left = c.loop-left.left in
    let after = option_copied c.args.after in
    let row : List ℕ × Domain = (c.in-Some.name.now, c.in-Some.field-0-1.now) in
    let next : suc (left - 1) ≡ left = omega (arith, c.loop-left-test.true) in
    let here : drop (left - 1) rows ≡ row ∷ drop left rows =
    row_before rows (left - 1) row (ap (λ rs. slice_get rs (left - 1)) (sym c.self.view_is) ∙ sym c.in-Some.ensures.entry)
    ∙ ap (λ n. row ∷ drop n rows) next in
    let within = c.loop-left.invariant.within in
    record {
      within = omega (arith, within);
      are = subst (λ rs. AreFirst c.args.most after rs (map (λ name. name.now) c.put_name.new.names.items) (c.loop-left.count + 1)) (sym here)
          (one_more c.args.most after row (drop left rows) _ _ c.loop-left.count c.loop-left.invariant.are
          (sym c.comes_after.ensures ∙ c.if-comes_after.true) c.in_ok-put_name.ensures.placed);
    }

pub loop-left-preserved : goal.loop-left-preserved
loop-left-preserved c =
    let rows = c.args.self.now in
    let left = c.loop-left.left in
    let after = option_copied c.args.after in
    let row : List ℕ × Domain = (c.in-Some.name.now, c.in-Some.field-0-1.now) in
    let next : suc (left - 1) ≡ left = omega (arith, c.loop-left-test.true) in
    let here : drop (left - 1) rows ≡ row ∷ drop left rows =
    row_before rows (left - 1) row (ap (λ rs. slice_get rs (left - 1)) (sym c.self.view_is) ∙ sym c.in-Some.ensures.entry)
    ∙ ap (λ n. row ∷ drop n rows) next in
    let within = c.loop-left.invariant.within in
    record {
      within = omega (arith, within);
      are = subst (λ rs. AreFirst c.args.most after rs (map (λ name. name.now) c.loop-left.first.items) c.loop-left.count) (sym here)
          (none_more c.args.most after row (drop left rows) _ c.loop-left.count c.loop-left.invariant.are (sym c.comes_after.ensures ∙ c.if-comes_after.false));
    }

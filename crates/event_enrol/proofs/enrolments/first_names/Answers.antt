use Rattle.std.proofs.Common.{◌≡◌, ◌∙◌, ◌-◌, ◌+◌, ◌∷◌, ap, arith, drop, map, subst, suc, sym}
use Rattle.std.specs.Option.{option_copied}
use Rattle.mms_types.specs.declared.key.Key.{Key}
use Rattle.domain_load.proofs.FirstNames.{row_before}
use Rattle.event_enrol.specs.declared.enrolment.Enrolment.{Enrolment}
use Rattle.event_enrol.proofs.FirstKeys.{AreFirst, none_more, one_more}
use Rattle.event_enrol.proofs.enrolments.first_names.Goals as goal

pub loop-left-preserved-then-is_listed : goal.loop-left-preserved-then-is_listed
loop-left-preserved-then-is_listed c =
    let rows = c.args.rows.now.entries in
    let left = c.loop-left.left in
    let after = option_copied c.args.after in
    let row : Key × Enrolment = (c.in-Some.key.now, c.in-Some.field-0-1.now) in
    let next : suc (left - 1) ≡ left = omega (arith, c.loop-left-test.true) in
    let here : drop (left - 1) rows ≡ row ∷ drop left rows =
    row_before rows (left - 1) row (sym c.in-Some.ensures.entry) ∙ ap (λ n. row ∷ drop n rows) next in
    let within = c.loop-left.invariant.within in
    record {
      within = omega (arith, within);
      are = subst (λ rs. AreFirst c.args.most c.args.scope.now after rs (map (λ name. name.now) c.put_name.new.names.items) (c.loop-left.count + 1)) (sym here)
          (one_more c.args.most c.args.scope.now after row (drop left rows) _ _ c.loop-left.count c.loop-left.invariant.are
          (sym c.is_listed.ensures ∙ c.if-is_listed.true) c.in_ok-put_name.ensures.placed);
    }

pub loop-left-preserved : goal.loop-left-preserved
loop-left-preserved c =
    let rows = c.args.rows.now.entries in
    let left = c.loop-left.left in
    let after = option_copied c.args.after in
    let row : Key × Enrolment = (c.in-Some.key.now, c.in-Some.field-0-1.now) in
    let next : suc (left - 1) ≡ left = omega (arith, c.loop-left-test.true) in
    let here : drop (left - 1) rows ≡ row ∷ drop left rows =
    row_before rows (left - 1) row (sym c.in-Some.ensures.entry) ∙ ap (λ n. row ∷ drop n rows) next in
    let within = c.loop-left.invariant.within in
    record {
      within = omega (arith, within);
      are = subst (λ rs. AreFirst c.args.most c.args.scope.now after rs (map (λ name. name.now) c.loop-left.first.items) c.loop-left.count) (sym here)
          (none_more c.args.most c.args.scope.now after row (drop left rows) _ c.loop-left.count c.loop-left.invariant.are (sym c.is_listed.ensures ∙ c.if-is_listed.false));
    }

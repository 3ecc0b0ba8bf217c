use Rattle.std.proofs.Common.{◌≡◌, ◌∙◌, Some, ap, arith, option_map, slice_get, subst, sym}
use Rattle.std.specs.List.{IsDistinct}
use Rattle.std.specs.List.Sorted.{IsStrictlySortedBy}
use Rattle.std.specs.Map.{keys_of}
use Rattle.std.specs.declared.cmp.Ordering.TheVariants.{Less}
use Rattle.mms_types.specs.Order.{key_eq, key_order}
use Rattle.object_names.specs.Ranked.{by_name}
use Rattle.event_cond.specs.Evaluations.{evaluation_meant, next_evaluation, next_of, sooner_if}
use Rattle.event_cond.proofs.ByName.{ahead_here, ahead_more, all_met, meant, next_stands}
use Rattle.event_cond.proofs.Soonest.{Stands, first_more}
use Rattle.event_cond.proofs.conditions.Conditions.next_evaluation.Goals as goal

pub sooner_of-first-requires : goal.sooner_of-first-requires
sooner_of-first-requires c =
    let rows = by_name c.args.self.now in
    let key = c.in-Some.key.now in
    let at : slice_get rows c.loop-rank.rank ≡ Some (key, c.in-Some.kept.now) = ap (λ rs. slice_get (by_name rs) c.loop-rank.rank) (sym c.self.view_is) ∙ c.in-Some.ensures.row in
    meant (λ e. key_order e.1 key ≡ Less) c.loop-rank.first
    (ahead_here rows c.loop-rank.rank key c.in-Some.kept.now at (option_map evaluation_meant c.loop-rank.first) c.loop-rank.invariant.ahead)

pub loop-rank-preserved : goal.loop-rank-preserved
loop-rank-preserved c =
    let rows = by_name c.args.self.now in
    let rank = c.loop-rank.rank in
    let key = c.in-Some.key.now in
    let condition = c.in-Some.kept.now in
    let first = option_map evaluation_meant c.loop-rank.first in
    let next = option_map evaluation_meant c.sooner_of-first.result in
    let at : slice_get rows rank ≡ Some (key, condition) = ap (λ rs. slice_get (by_name rs) rank) (sym c.self.view_is) ∙ c.in-Some.ensures.row in
    let is : next ≡ sooner_if first (option_map (λ at. (at, key)) (next_of condition)) =
    c.sooner_of-first.ensures ∙ ap (λ o. sooner_if first (option_map (λ at. (at, key)) o)) (c.next.ensures ∙ ap next_of c.kept.view_is) in
    let sorted : IsStrictlySortedBy key_order (keys_of rows) = subst (λ rs. IsStrictlySortedBy key_order (keys_of (by_name rs))) c.self.view_is c.rows_stand_in_order.ensures.ascend in
    record {
      least = first_more rows rank key condition first next at c.loop-rank.invariant.least is;
      ahead = ahead_more rows rank key condition at first next sorted c.loop-rank.invariant.ahead is;
      end = c.loop-rank.invariant.end;
    }

pub returns-clause-least : goal.returns-clause-least
returns-clause-least c =
    all_met c.args.self.now c.loop-rank.rank (option_map evaluation_meant c.loop-rank.first) (omega (arith, c.loop-rank.invariant.end, c.loop-rank-test.false)) c.loop-rank.invariant.least

pub returns-clause-stands : goal.returns-clause-stands
returns-clause-stands c =
    let rows = c.args.self.now in
    let first = option_map evaluation_meant c.loop-rank.first in
    let least : first ≡ next_evaluation rows = all_met rows c.loop-rank.rank first (omega (arith, c.loop-rank.invariant.end, c.loop-rank-test.false)) c.loop-rank.invariant.least in
    let distinct : IsDistinct key_eq (keys_of rows) = subst (λ rs. IsDistinct key_eq (keys_of rs)) c.self.view_is c.len-rank-end.ensures.distinct in
    meant (Stands rows) c.loop-rank.first (next_stands rows distinct first least)

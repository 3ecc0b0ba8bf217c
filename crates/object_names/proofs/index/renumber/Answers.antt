use Rattle.std.proofs.Common.{◌∙◌, ◌-◌, ◌++◌, ◌<◌, ◌≤◌, append-nil, ap, arith, drop, get_or, length, map, set}
use Rattle.std.proofs.lemmas.List.{take_all, drop_all}
use Rattle.std.proofs.lemmas.List.Edits.{map_over_more}
use Rattle.object_names.proofs.index.renumber.Goals as goal

pub loop-at-preserved : goal.loop-at-preserved
loop-at-preserved c =
    let old = c.args.places.now.items in
    let small : c.loop-at.at < length old = omega (arith, c.loop-at-test.true, c.loop-at.invariant.end) in
    record {
      done = ap (λ v. set c.loop-at.places.items c.loop-at.at v) (c.saturating_sub.ensures ∙ ap (λ n. n - 1) c.rank_at.ensures)
          ∙ map_over_more (λ place. get_or c.args.ranks.now place 0 - 1) old c.loop-at.places.items c.loop-at.at c.index.result.now small c.loop-at.invariant.done c.index.ensures;
      end = c.loop-at.invariant.end;
    }

pub returns : goal.returns
returns c =
    let old = c.args.places.now.items in
    let full : length old ≤ c.loop-at.at = omega (arith, c.loop-at-test.false, c.loop-at.invariant.end) in
    c.loop-at.invariant.done
    ∙ ap (λ l. map (λ place. get_or c.args.ranks.now place 0 - 1) l ++ drop c.loop-at.at old) (take_all c.loop-at.at old full)
    ∙ ap (λ l. map (λ place. get_or c.args.ranks.now place 0 - 1) old ++ l) (drop_all c.loop-at.at old full)
    ∙ append-nil (map (λ place. get_or c.args.ranks.now place 0 - 1) old)

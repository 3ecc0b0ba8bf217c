use Rattle.std.proofs.Common.{◌≡◌, cond, sym, ◌∙◌, arith, true, false}
use Rattle.cell_stress.specs.Counts.{is_request}
use Rattle.cell_stress.proofs.Counted.{one_summed}
use Rattle.cell_stress.proofs.counts.count_requests.Goals.{then-is_request, else-is_request}
use Rattle.cell_stress.proofs.counts.count_requests.Goals as goal

pub loop-index-preserved : goal.loop-index-preserved
loop-index-preserved c =
    let at = c.at-place in
    let more = one_summed (λ placed. cond (is_request placed.1) 1 0) c.args.served.now c.loop-index.index _ at.ensures in
    let count = c.loop-index.invariant.count in
    let few = c.loop-index.invariant.few in
    elim c.if-is_request.branch [
      | then-is_request w ↦
          let is : is_request at.result.1.now ≡ true = sym c.is_request.ensures ∙ w.if-is_request.true in
          let next = rw is at more in
          let now = w.count-is in
          record { count = omega (arith, next, now, count); few = omega (arith, now, few) }
      | else-is_request w ↦
          let is : is_request at.result.1.now ≡ false = sym c.is_request.ensures ∙ w.if-is_request.false in
          let next = rw is at more in
          let now = w.count-is in
          record { count = omega (arith, next, now, count); few = omega (arith, now, few) }
    ]

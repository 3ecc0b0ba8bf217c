use Rattle.std.proofs.Common.{◌<◌, ◌-◌, length, length-set, ap, arith, ◌∙◌}
use Rattle.cell_run.proofs.Laid.{has_before, has_last, in_slots, laid_end, laid_one}
use Rattle.cell_pool.proofs.Lists.{popped}
use Rattle.cell_run.proofs.laying.lay.Goals as goal

pub overflow_sub-index : goal.overflow_sub-index
overflow_sub-index c =
    let i = c.loop-ticket.invariant in
    let less = popped _ _ c.pop.result _ c.pop.ensures.items c.in-Some.is in
    (c.requires.2 _ (i.still _ (has_last _ _ _ less))).0

pub put-requires : goal.put-requires
put-requires c =
    let i = c.loop-ticket.invariant in
    let less = popped _ _ c.pop.result _ c.pop.ensures.items c.in-Some.is in
    let n = i.count in
    let size = c.requires.1 in
    in_slots c.args.first c.requires.0 (length c.loop-ticket.slots) c.in-Some.ticket (omega arith) (c.requires.2 _ (i.still _ (has_last _ _ _ less)))

pub loop-ticket-preserved : goal.loop-ticket-preserved
loop-ticket-preserved c =
    let i = c.loop-ticket.invariant in
    let less = popped _ _ c.pop.result _ c.pop.ensures.items c.in-Some.is in
    let n = i.count in
    let size = c.requires.1 in
    let last = has_last _ _ _ less in
    let within : c.in-Some.ticket.0 - c.args.first < length c.loop-ticket.slots =
    in_slots c.args.first c.requires.0 (length c.loop-ticket.slots) c.in-Some.ticket (omega arith) (c.requires.2 _ (i.still _ last)) in
    record {
      count = ap length c.put.ensures ∙ length-set _ _ _ ∙ i.count;
      still = λ q h. i.still q (has_before _ _ _ less q h);
      laid = λ all index stands before. laid_one _ _ _ less c.args.first index c.loop-ticket.slots c.put.new.slots all c.put.ensures within (stands _ (i.still _ last)) (i.laid all index stands before);
    }

pub returns-clause-laid : goal.returns-clause-laid
returns-clause-laid c all index stands before =
    let i = c.loop-ticket.invariant in
    laid_end c.args.first index c.loop-ticket.slots all c.loop-ticket.log.items (omega (arith, c.loop-ticket.log.ok, c.in_default.ensures.cases.0)) (i.laid all index stands before)

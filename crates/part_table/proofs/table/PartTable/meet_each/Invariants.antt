use Rattle.part_table.proofs.Gathering.{HasMetBefore}
use Rattle.part_table.proofs.table.PartTable.meet_each.Given as goal

abbrev pub invariant-loop-other : goal.invariant-loop-other
invariant-loop-other g l = HasMetBefore g.O.Object.may_make l.initial.first l.first l.fn.others l.others l.other-index

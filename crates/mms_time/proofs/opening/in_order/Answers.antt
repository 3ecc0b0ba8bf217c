use Rattle.mms_time.proofs.TokenNames.{sorted_are}
use Rattle.mms_time.proofs.opening.in_order.Goals as goal

pub returns : goal.returns
returns c = sorted_are c.args.names.items c.sort_unstable.new.self.items c.sort_unstable.ensures.permutation c.sort_unstable.ensures.sorted

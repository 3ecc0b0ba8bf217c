use Rattle.domain_upload.proofs.InOrder.{all_with_last, full_before_last, in_order, leaves_room, some_while_left}
use Rattle.domain_upload.proofs.laws.pieces_are_the_octets.Goals as goal

pub returns : goal.returns
returns c = record { in_order = in_order; last = all_with_last; full = full_before_last; some = some_while_left; fits = leaves_room }

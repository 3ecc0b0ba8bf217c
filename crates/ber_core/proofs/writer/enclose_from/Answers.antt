use Rattle.std.proofs.Common.{arith, length-drop, ◌-◌}
use Rattle.ber_core.proofs.Short.{enclosed_short}
use Rattle.ber_core.proofs.writer.enclose_from.Goals as goal

pub returns-then-has_room-clause-ok : goal.returns-then-has_room-clause-ok
returns-then-has_room-clause-ok c = grind (
  arith,
  enclosed_short c.args.bytes.now.items c.insert_two.new.bytes.items c.args.tag c.args.since c.head.result (c.len.result - c.args.since)
      (omega arith) (omega arith) (omega arith) (omega (arith, length-drop c.args.since c.args.bytes.now.items)),
)

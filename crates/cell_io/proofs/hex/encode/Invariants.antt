use Rattle.std.proofs.Common.{◌≡◌, ◌*◌, take}
use Rattle.cell_io.specs.Hex.{upper}
use Rattle.cell_io.proofs.hex.encode.Given as goal

abbrev pub invariant-loop-i : goal.invariant-loop-i
invariant-loop-i l = take (2 * l.i) l.to ≡ upper (take l.i l.octets)

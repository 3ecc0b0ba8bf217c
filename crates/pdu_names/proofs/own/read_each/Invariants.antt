use Rattle.std.proofs.Common.{map, length}
use Rattle.pdu_names.specs.Editions.{lengths_of}
use Rattle.ber_forms.proofs.Loop.{ReadSoFar}
use Rattle.pdu_names.proofs.own.read_each.Given as goal

abbrev pub invariant-loop-parts : goal.invariant-loop-parts
invariant-loop-parts g l = ReadSoFar (lengths_of l.edition) (g.T.Own.item.member l.edition) (map g.T.Own.item.value l.found.items) l.parts l.contents

abbrev pub decreases-loop-parts : goal.decreases-loop-parts
decreases-loop-parts g l = length l.parts.octets

use Rattle.std.proofs.Common.{◌≡◌, length}
use Rattle.ber_forms.proofs.Loop.{Passed}
use Rattle.ber_forms.proofs.cursor.elements.Given as goal

abbrev pub invariant-loop-parts : goal.invariant-loop-parts
invariant-loop-parts l = (l.parts.lengths ≡ l.fn.lengths) × Passed l.fn.lengths l.parts.octets l.contents

abbrev pub decreases-loop-parts : goal.decreases-loop-parts
decreases-loop-parts l = length l.parts.octets

use Rattle.std.proofs.Common.{◌+◌, ◌≡◌, ◌≤◌, [], length}
use Rattle.mms_types.specs.declared.identifier.Edition.{Edition}
use Rattle.cell_record.specs.Numbered.{IsPart, setup}
use Rattle.cell_io.specs.Held.{IsEndSeen}
use Rattle.cell_record.specs.ToRead.{to_read, Follows}
use Rattle.cell_record.proofs.opening.read_setup.Given as goal

abbrev pub invariant-loop-turn : goal.invariant-loop-turn
invariant-loop-turn g l = record {
  rest : (edition : Edition) → Follows (to_read (setup edition []) l.initial.lines (g.S.Source.left l.initial.input)) (λ r. r) (to_read (setup edition l.text.items) l.lines (g.S.Source.left l.input));
  seen : IsEndSeen l.initial.lines.held (g.S.Source.left l.initial.input) → IsEndSeen l.lines.held (g.S.Source.left l.input);
  size : length l.text.items ≤ 1048576;
  turns : l._turn + l.initial.lines.held.given ≤ l.lines.held.given;
  most : l.lines.held.given ≤ 4294967296;
  left : IsPart (g.S.Source.left l.initial.input) (g.S.Source.left l.input);
  faults : g.S.Source.faults l.input ≡ g.S.Source.faults l.initial.input;
}

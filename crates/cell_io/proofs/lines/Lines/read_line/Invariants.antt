use Rattle.std.proofs.Common.{◌≡◌, ◌+◌, ◌≤◌, false, min, length}
use Rattle.std.specs.Io.KnownBytes.{prepend_known}
use Rattle.cell_io.specs.Held.{IsLaterPart}
use Rattle.cell_io.proofs.Reading.{Passed}
use Rattle.cell_io.proofs.lines.Lines.read_line.Given as goal

abbrev pub invariant-loop-turn : goal.invariant-loop-turn
invariant-loop-turn g l = record {
  passed : Passed (prepend_known l.initial.self.octets (g.S.Source.left l.initial.input)) (prepend_known l.self.octets (g.S.Source.left l.input)) l.initial.self.given l.self.given l.line.items;
  unended : l.self.ended ≡ false;
  before : l.before ≡ l.initial.self.given;
  turns : l._turn + l.initial.self.given ≤ l.self.given + min 1 (length l.self.octets);
  order : l.initial.self.given ≤ l.self.given;
  most : l.self.given ≤ 4294967296;
  left : IsLaterPart (g.S.Source.left l.initial.input) (g.S.Source.left l.input);
  faults : g.S.Source.faults l.input ≡ g.S.Source.faults l.initial.input;
}

use Rattle.std.proofs.Common.{◌≡◌, ◌+◌, ◌≤◌, length}
use Rattle.std.specs.List.{All}
use Rattle.cell_record.specs.EventLine.{IsRecorded}
use Rattle.cell_record.specs.Grammar.{phase_ms}
use Rattle.cell_record.specs.Numbered.{IsPart, phases, IsWithin}
use Rattle.cell_io.specs.Held.{IsEndSeen}
use Rattle.cell_record.specs.ToRead.{to_read, Follows}
use Rattle.cell_record.proofs.Readings.{with_events}
use Rattle.cell_record.proofs.phase_lines.read_phase.Given as goal

abbrev pub invariant-loop-turn : goal.invariant-loop-turn
invariant-loop-turn g l = record {
  rest : Follows (to_read (phases l.config l.initial.counts) l.initial.lines (g.S.Source.left l.initial.input)) (with_events l.events) (to_read (phases l.config l.counts) l.lines (g.S.Source.left l.input));
  seen : IsEndSeen l.initial.lines.held (g.S.Source.left l.initial.input) → IsEndSeen l.lines.held (g.S.Source.left l.input);
  recorded : All (IsRecorded l.config) l.events;
  size : length l.events ≡ l.counts.events;
  within : IsWithin l.counts;
  moment : l.counts.moment ≡ l.initial.counts.moment + phase_ms l.events;
  turns : l._turn + l.initial.lines.held.given ≤ l.lines.held.given;
  lines : l.initial.lines.held.given + length l.events ≤ l.lines.held.given;
  most : l.lines.held.given ≤ 4294967296;
  left : IsPart (g.S.Source.left l.initial.input) (g.S.Source.left l.input);
  faults : g.S.Source.faults l.input ≡ g.S.Source.faults l.initial.input;
}

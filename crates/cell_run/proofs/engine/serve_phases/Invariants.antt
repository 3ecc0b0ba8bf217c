use Rattle.std.proofs.Common.{◌≡◌, ◌+◌, ◌<◌, ◌^◌, true, List, length, None}
use Rattle.std.specs.Io.KnownBytes.{Appends}
use Rattle.cell_io.specs.Held.{IsEndSeen, IsLaterPart}
use Rattle.mms_types.specs.declared.event.CellEvent.{CellEvent}
use Rattle.cell_record.specs.Grammar.{all_ms}
use Rattle.cell_record.specs.Progress.{place_of, rest_in, rest_of, Becomes}
use Rattle.cell_record.specs.Stops.{Leads}
use Rattle.cell_run.specs.Outcome.{report_of}
use Rattle.cell_run.proofs.Fronts.{with_phases}
use Rattle.cell_run.proofs.engine.serve_phases.Given as goal

abbrev pub invariant-loop-turn : goal.invariant-loop-turn
invariant-loop-turn g l = record {
  done : (phases : List (List CellEvent)) × (bodies : List (List CellEvent)) × (length phases ≡ l._turn) × g.V.Server.has_served l.server l.initial.recording.config phases bodies
      × Appends (g.K.Sink.held l.initial.out) (g.K.Sink.held l.out) (report_of l.initial.recording.config bodies)
      × Becomes (rest_of l.initial.recording (g.S.Source.left l.initial.input)) (with_phases phases) (rest_of l.recording (g.S.Source.left l.input))
      × Leads (rest_in l.initial.recording) l.initial.recording.held (place_of l.initial.recording) (g.S.Source.left l.initial.input) (with_phases phases) (rest_in l.recording) l.recording.held (place_of l.recording) (g.S.Source.left l.input)
      × (l.recording.moment ≡ l.initial.recording.config.start.0 + all_ms phases);
  refusal : l.recording.refusal ≡ None;
  config : l.recording.config ≡ l.initial.recording.config;
  over : l.recording.over ≡ true → l.recording.held.ended ≡ true;
  seen : IsEndSeen l.recording.held (g.S.Source.left l.input);
  left : IsLaterPart (g.S.Source.left l.initial.input) (g.S.Source.left l.input);
  number : l.recording.number ≡ l._turn;
  few : l._turn < 2 ^ 32;
  reads : g.S.Source.faults l.input ≡ g.S.Source.faults l.initial.input;
  writes : g.K.Sink.faults l.out ≡ g.K.Sink.faults l.initial.out;
}

use Rattle.std.proofs.Common.{◌≡◌, ◌<◌, ◌^◌, ℕ, List, length}
use Rattle.std.specs.declared.option.Option.{Option}
use Rattle.cell_io.specs.Prefix.{AppendsBefore}
use Rattle.mms_types.specs.declared.event.CellEvent.{CellEvent}
use Rattle.cell_record.specs.Progress.{Progress}
use Rattle.cell_run.specs.Ahead.{HasRead, text_told}
use Rattle.cell_run.specs.Outcome.{report_of}
use Rattle.cell_run.specs.Running.{HasRun}
use Rattle.cell_run.proofs.Beside.{Behind}
use Rattle.cell_run.proofs.workers.run_phases.Given as goal

abbrev pub invariant-loop-turn : goal.invariant-loop-turn
invariant-loop-turn g l = record {
  done : (phases : List (List CellEvent)) × (bodies : List (List CellEvent)) × (length phases ≡ l._turn) × HasRun l.crew l.fn.recording.config phases bodies
      × AppendsBefore (g.K.Sink.held l.fn.out) (g.K.Sink.held l.out) (text_told l.told) (report_of l.fn.recording.config bodies);
  read : (p : Progress) × (left : Option (List ℕ)) × Behind l.fn.recording (g.S.Source.left l.fn.input) done.0 l._turn p left
      × HasRead p left (g.S.Source.faults l.fn.input) l.next l.recording (g.S.Source.left l.input) (g.S.Source.faults l.input);
  few : l._turn < 2 ^ 32;
  writes : g.K.Sink.faults l.out ≡ g.K.Sink.faults l.fn.out;
}

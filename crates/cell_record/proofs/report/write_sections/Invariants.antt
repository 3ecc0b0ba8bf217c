use Rattle.std.proofs.Common.{◌≡◌, ◌++◌, take}
use Rattle.cell_io.specs.Prefix.{AppendsBefore}
use Rattle.cell_record.specs.Report.{sections}
use Rattle.cell_record.proofs.report.write_sections.Given as goal

abbrev pub invariant-loop-place : goal.invariant-loop-place
invariant-loop-place g l = record {
  text : AppendsBefore (g.K.Sink.held l.initial.out) (g.K.Sink.held l.out) l.text (l.initial.text ++ sections 1 (take l.place l.outputs));
  faults : g.K.Sink.faults l.out ≡ g.K.Sink.faults l.initial.out;
}

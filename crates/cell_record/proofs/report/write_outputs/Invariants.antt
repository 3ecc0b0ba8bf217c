use Rattle.std.proofs.Common.{◌≡◌, ◌++◌, take}
use Rattle.std.specs.List.{flat_map}
use Rattle.cell_io.specs.Prefix.{AppendsBefore}
use Rattle.cell_record.specs.Report.{output_text}
use Rattle.cell_record.proofs.report.write_outputs.Given as goal

abbrev pub invariant-loop-output : goal.invariant-loop-output
invariant-loop-output g l = record {
  text : AppendsBefore (g.K.Sink.held l.initial.out) (g.K.Sink.held l.out) l.text (l.initial.text ++ flat_map output_text (take l.output-index l.outputs));
  faults : g.K.Sink.faults l.out ≡ g.K.Sink.faults l.initial.out;
}

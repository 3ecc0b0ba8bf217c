use Rattle.std.proofs.Common.{◌≡◌, ◌++◌, take}
use Rattle.std.specs.List.{flat_map}
use Rattle.cell_io.specs.Prefix.{AppendsBefore}
use Rattle.cell_record.specs.Report.{served_line}
use Rattle.cell_record.proofs.report.write_served.Given as goal

abbrev pub invariant-loop-index : goal.invariant-loop-index
invariant-loop-index g l = record {
  text : AppendsBefore (g.K.Sink.held l.initial.out) (g.K.Sink.held l.out) l.text (l.initial.text ++ flat_map served_line (take l.index l.served));
  faults : g.K.Sink.faults l.out ≡ g.K.Sink.faults l.initial.out;
}

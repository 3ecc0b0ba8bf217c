use Rattle.std.proofs.Common.{◌+◌, ◌++◌, take, drop, ap, sym, ◌∙◌}
use Rattle.std.specs.List.{flat_map}
use Rattle.mms_types.specs.declared.event.What.{What}
use Rattle.cell_record.specs.Report.{output_text}
use Rattle.cell_io.proofs.Writing.{wrote_more, wrote_partly, wrote_between}
use Rattle.cell_record.proofs.ReportLemmas.{flat_more, flat_rest}
use Rattle.cell_io.proofs.Prefixes.{on_err}
use Rattle.cell_record.proofs.report.write_outputs.Goals as goal

pub returns-in_err-put_output-clause-part : goal.returns-in_err-put_output-clause-part
returns-in_err-put_output-clause-part g c =
    let i = c.loop-output.output-index in
    let os = c.args.outputs.now in
    on_err c.from_residual.result (wrote_between (g.K.Sink.held c.args.out.now) (g.K.Sink.held c.loop-output.out) c.loop-output.text c.args.text.now (flat_map output_text (take i os)) (flat_map output_text (drop i os))
    (flat_map output_text os) c.loop-output.invariant.text (flat_rest output_text os i))

pub returns-in_err-pass-clause-part : goal.returns-in_err-pass-clause-part
returns-in_err-pass-clause-part g c =
    let i = c.loop-output.output-index in
    let os = c.args.outputs.now in
    on_err c.from_residual-in_err-pass.result (wrote_partly (g.K.Sink.held c.args.out.now) (g.K.Sink.held c.loop-output.out) (g.K.Sink.held c.pass.new.out) c.loop-output.text c.put_output.new.text c.args.text.now (flat_map output_text (take i os))
    (flat_map output_text (take (i + 1) os)) (output_text c.output-item.result) (flat_map output_text (drop (i + 1) os)) (flat_map output_text os)
    c.loop-output.invariant.text c.in_ok-put_output.ensures c.in_err-pass.ensures.part
    (flat_more output_text os i c.output-item.result c.loop-output-test.true ∙ ap (λ (o : What). flat_map output_text (take i os) ++ output_text o) (sym c.output-item.is)) (flat_rest output_text os (i + 1)))

pub loop-output-preserved : goal.loop-output-preserved
loop-output-preserved g c =
    let i = c.loop-output.output-index in
    let os = c.args.outputs.now in
    record {
      text = wrote_more (g.K.Sink.held c.args.out.now) (g.K.Sink.held c.loop-output.out) (g.K.Sink.held c.pass.new.out) c.loop-output.text c.put_output.new.text c.pass.new.self c.args.text.now
          (flat_map output_text (take i os)) (flat_map output_text (take (i + 1) os)) (output_text c.output-item.result) c.loop-output.invariant.text c.in_ok-put_output.ensures c.in_ok-pass.ensures.whole
          (flat_more output_text os i c.output-item.result c.loop-output-test.true ∙ ap (λ (o : What). flat_map output_text (take i os) ++ output_text o) (sym c.output-item.is));
      faults = c.in_ok-pass.ensures.cause.steady ∙ c.loop-output.invariant.faults;
    }

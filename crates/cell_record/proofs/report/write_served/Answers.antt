use Rattle.std.proofs.Common.{◌+◌, ◌++◌, ℕ, take, drop, ap, ◌∙◌, arith}
use Rattle.std.specs.List.{flat_map}
use Rattle.std.proofs.lemmas.Option.{get_or_from_slice_get}
use Rattle.mms_types.specs.declared.event.CellEvent.{CellEvent}
use Rattle.cell_record.specs.Report.{served_line}
use Rattle.cell_io.proofs.Writing.{wrote_more, wrote_partly, wrote_between}
use Rattle.cell_record.proofs.ReportLemmas.{flat_more, flat_rest}
use Rattle.cell_io.proofs.Prefixes.{on_err}
use Rattle.cell_record.proofs.report.write_served.Goals as goal

pub returns-in_err-put_placed-clause-part : goal.returns-in_err-put_placed-clause-part
returns-in_err-put_placed-clause-part g c =
    let i = c.loop-index.index in
    let os = c.args.served.now in
    on_err c.from_residual.result (wrote_between (g.K.Sink.held c.args.out.now) (g.K.Sink.held c.loop-index.out) c.loop-index.text c.args.text.now (flat_map served_line (take i os)) (flat_map served_line (drop i os))
    (flat_map served_line os) c.loop-index.invariant.text (flat_rest served_line os i))

pub returns-in_err-pass-clause-part : goal.returns-in_err-pass-clause-part
returns-in_err-pass-clause-part g c =
    let i = c.loop-index.index in
    let os = c.args.served.now in
    let one : ℕ × CellEvent = (c.at-place.result.0, c.at-place.result.1.now) in
    on_err c.from_residual-in_err-pass.result (wrote_partly (g.K.Sink.held c.args.out.now) (g.K.Sink.held c.loop-index.out) (g.K.Sink.held c.pass.new.out) c.loop-index.text c.put_placed.new.text c.args.text.now (flat_map served_line (take i os))
    (flat_map served_line (take (i + 1) os)) (served_line one) (flat_map served_line (drop (i + 1) os)) (flat_map served_line os)
    c.loop-index.invariant.text c.in_ok-put_placed.ensures c.in_err-pass.ensures.part
    (flat_more served_line os i one (omega (arith, c.loop-index-test.true, c.len-index-end.ensures)) ∙ ap (λ (o : ℕ × CellEvent). flat_map served_line (take i os) ++ served_line o) (get_or_from_slice_get os i one one c.at-place.ensures))
    (flat_rest served_line os (i + 1)))

pub loop-index-preserved : goal.loop-index-preserved
loop-index-preserved g c =
    let i = c.loop-index.index in
    let os = c.args.served.now in
    let one : ℕ × CellEvent = (c.at-place.result.0, c.at-place.result.1.now) in
    record {
      text = wrote_more (g.K.Sink.held c.args.out.now) (g.K.Sink.held c.loop-index.out) (g.K.Sink.held c.pass.new.out) c.loop-index.text c.put_placed.new.text c.pass.new.self c.args.text.now
          (flat_map served_line (take i os)) (flat_map served_line (take (i + 1) os)) (served_line one) c.loop-index.invariant.text c.in_ok-put_placed.ensures c.in_ok-pass.ensures.whole
          (flat_more served_line os i one (omega (arith, c.loop-index-test.true, c.len-index-end.ensures)) ∙ ap (λ (o : ℕ × CellEvent). flat_map served_line (take i os) ++ served_line o) (get_or_from_slice_get os i one one c.at-place.ensures));
      faults = c.in_ok-pass.ensures.cause.steady ∙ c.loop-index.invariant.faults;
    }

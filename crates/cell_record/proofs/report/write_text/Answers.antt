use Rattle.std.proofs.lemmas.Result.{on_ok_weaker, on_err_weaker}
use Rattle.std.specs.List.{flat_map}
use Rattle.cell_record.specs.Report.{served_line, phase_head, sections}
use Rattle.cell_record.proofs.ReportLemmas.{phase_more, phase_partly, phase_last}
use Rattle.cell_io.proofs.Prefixes.{on_err}
use Rattle.cell_record.proofs.report.write_text.Goals as goal

pub returns-in_err-write_served-clause-part : goal.returns-in_err-write_served-clause-part
returns-in_err-write_served-clause-part g c =
    let head = phase_head c.args.phase.now.number in
    let tail = sections 1 c.args.phase.now.outputs in
    on_err c.from_residual-in_err-write_served.result (phase_partly (g.K.Sink.held c.args.out.now) (g.K.Sink.held c.write_served.new.out) c.put_phase.new.text c.args.text.now head (flat_map served_line c.args.phase.now.served) tail c.in_ok-put_phase.ensures c.in_err-write_served.ensures.part)

pub returns-clause-whole : goal.returns-clause-whole
returns-clause-whole g c =
    let head = phase_head c.args.phase.now.number in
    let tail = sections 1 c.args.phase.now.outputs in
    on_ok_weaker c.write_sections.result (phase_more (g.K.Sink.held c.args.out.now) (g.K.Sink.held c.write_served.new.out) (g.K.Sink.held c.write_sections.new.out)
    c.put_phase.new.text c.write_served.new.text c.write_sections.new.text c.args.text.now head (flat_map served_line c.args.phase.now.served) tail
    c.in_ok-put_phase.ensures c.in_ok-write_served.ensures.whole) c.write_sections.ensures.whole

pub returns-clause-part : goal.returns-clause-part
returns-clause-part g c =
    let head = phase_head c.args.phase.now.number in
    let tail = sections 1 c.args.phase.now.outputs in
    on_err_weaker c.write_sections.result (phase_last (g.K.Sink.held c.args.out.now) (g.K.Sink.held c.write_served.new.out) (g.K.Sink.held c.write_sections.new.out)
    c.put_phase.new.text c.write_served.new.text c.args.text.now head (flat_map served_line c.args.phase.now.served) tail
    c.in_ok-put_phase.ensures c.in_ok-write_served.ensures.whole) c.write_sections.ensures.part

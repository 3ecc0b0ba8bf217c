use Rattle.std.proofs.Common.{◌≡◌, ◌+◌, ◌++◌, List, ℕ, length, take, drop, ap, sym, ◌∙◌, arith}
use Rattle.mms_types.specs.declared.event.What.{What}
use Rattle.cell_record.specs.Report.{section, sections}
use Rattle.cell_io.proofs.Writing.{wrote_piece, wrote_pieces}
use Rattle.cell_record.proofs.ReportLemmas.{sections_more, sections_rest}
use Rattle.cell_io.proofs.Prefixes.{on_err}
use Rattle.cell_record.proofs.report.write_sections.Goals as goal

pub returns-in_err-write_section-clause-part : goal.returns-in_err-write_section-clause-part
returns-in_err-write_section-clause-part g c =
    let i = c.loop-place.place in
    let os = c.args.outputs.now in
    let more : sections 1 (take (i + 1) os) ≡ sections 1 (take i os) ++ section (i + 1) c.at.result.now =
    sections_more os i (omega (arith, c.loop-place-test.true, c.len-clients.ensures)) ∙ ap (λ (l : List What). sections 1 (take i os) ++ section (i + 1) l) (sym c.at.ensures) in
    on_err c.from_residual.result (wrote_piece (g.K.Sink.held c.args.out.now) (g.K.Sink.held c.loop-place.out) (g.K.Sink.held c.write_section.new.out) c.loop-place.text c.args.text.now (sections 1 (take i os))
    (section (i + 1) c.at.result.now) (sections (1 + length (take (i + 1) os)) (drop (i + 1) os)) (sections 1 os) c.loop-place.invariant.text c.in_err-write_section.ensures.part
    (sections_rest os (i + 1) ∙ ap (λ (l : List ℕ). l ++ sections (1 + length (take (i + 1) os)) (drop (i + 1) os)) more))

pub loop-place-preserved : goal.loop-place-preserved
loop-place-preserved g c =
    let i = c.loop-place.place in
    let os = c.args.outputs.now in
    let more : sections 1 (take (i + 1) os) ≡ sections 1 (take i os) ++ section (i + 1) c.at.result.now =
    sections_more os i (omega (arith, c.loop-place-test.true, c.len-clients.ensures)) ∙ ap (λ (l : List What). sections 1 (take i os) ++ section (i + 1) l) (sym c.at.ensures) in
    record {
      text = wrote_pieces (g.K.Sink.held c.args.out.now) (g.K.Sink.held c.loop-place.out) (g.K.Sink.held c.write_section.new.out) c.loop-place.text c.write_section.new.text c.args.text.now
          (sections 1 (take i os)) (section (i + 1) c.at.result.now) (sections 1 (take (i + 1) os)) c.loop-place.invariant.text c.in_ok-write_section.ensures.whole more;
      faults = c.in_ok-write_section.ensures.steady ∙ c.loop-place.invariant.faults;
    }

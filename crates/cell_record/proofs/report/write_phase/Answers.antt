use Rattle.std.proofs.Common.{◌++◌, List, ℕ, subst, ap}
use Rattle.cell_io.specs.Prefix.{AppendsBefore}
use Rattle.cell_io.proofs.Prefixes.{prefix_last, on_err}
use Rattle.cell_record.specs.Report.{phase_text}
use Rattle.cell_record.proofs.report.write_phase.Goals as goal

pub returns-in_err-flush-clause-part : goal.returns-in_err-flush-clause-part
returns-in_err-flush-clause-part g c =
    let text = phase_text c.args.phase.now.number c.args.phase.now.served c.args.phase.now.outputs in
    on_err c.from_residual-in_err-flush.result (prefix_last (g.K.Sink.held c.args.out.now) (g.K.Sink.held c.write_text.new.out) (g.K.Sink.held c.flush.new.out) c.write_text.new.text text
    (subst (AppendsBefore (g.K.Sink.held c.args.out.now) (g.K.Sink.held c.write_text.new.out) c.write_text.new.text) (ap (λ (l : List ℕ). l ++ text) c.in_ok-text.ensures) c.in_ok-write_text.ensures.whole) c.in_err-flush.ensures.part)

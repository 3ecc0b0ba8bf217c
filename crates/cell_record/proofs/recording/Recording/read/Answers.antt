use Rattle.std.proofs.Common.{◌+◌, ◌∙◌, ap, subst, refl}
use Rattle.std.proofs.lemmas.Result.{err_from_is_err_and}
use Rattle.cell_record.specs.Grammar.{phase_ms}
use Rattle.cell_record.specs.Progress.{Progress}
use Rattle.cell_record.specs.ToRead.{rest_to_read, FailsInPhase, IsNextPhase}
use Rattle.cell_record.specs.declared.counts.Counts.{Counts}
use Rattle.cell_record.specs.contracts.recording.Recording.{the_view}
use Rattle.cell_record.proofs.Following.{read_fails, read_follows}
use Rattle.cell_record.proofs.recording.Recording.read.Goals as goal

pub returns-in_err-piece-clause-fails : goal.returns-in_err-piece-clause-fails
returns-in_err-piece-clause-fails g c =
    let r = err_from_is_err_and c.from_residual.result c.from_residual.ensures.1 in
    let over = ap (λ (s : Progress). s.over) c.self.view_is ∙ c.requires.open in
    let unrefused = ap (λ (s : Progress). s.refusal) c.self.view_is ∙ c.requires.unrefused in
    let e = c.in_err-piece.field-0.0 in
    rw (r.1, r.2) (subst (λ (s : Progress). FailsInPhase (rest_to_read s (g.S.Source.left c.args.input.now)) e (g.S.Source.left c.read_phase.new.input)) c.self.view_is
    (read_fails (the_view c.self.inside) c.fresh-counts.result (g.S.Source.left c.args.input.now) (g.S.Source.left c.read_phase.new.input) e over unrefused c.fresh-counts.ensures c.in_err-piece.ensures.fails))

pub returns-clause-phase : goal.returns-clause-phase
returns-clause-phase g c =
    let over = ap (λ (s : Progress). s.over) c.self.view_is ∙ c.requires.open in
    let unrefused = ap (λ (s : Progress). s.refusal) c.self.view_is ∙ c.requires.unrefused in
    let events = c.in_ok-piece.piece.events in
    let read = c.in_ok-piece.ensures.phase in
    let after : Progress = record {
      held = c.read_phase.new.lines.held;
      config = c.self.inside.config;
      lines = c.read_phase.new.lines.lines;
      moment = c.read_phase.new.counts.moment;
      number = c.self.inside.number + 1;
      over = c.in_ok-piece.piece.last;
      refusal = c.self.inside.refusal;
    } in
    subst (λ (s : Progress). IsNextPhase s.config events (rest_to_read s (g.S.Source.left c.args.input.now)) s.moment (rest_to_read after (g.S.Source.left c.read_phase.new.input)) after.moment) c.self.view_is
    (record {
      phase = read_follows (the_view c.self.inside) after c.fresh-counts.result events c.in_ok-piece.piece.last (g.S.Source.left c.args.input.now) (g.S.Source.left c.read_phase.new.input) over unrefused c.fresh-counts.ensures unrefused refl refl
          read.phase;
      recorded = read.recorded;
      few = read.few;
      lines = read.lines;
      most = read.most;
      moment = read.moment ∙ ap (λ (x : Counts). x.moment + phase_ms events) c.fresh-counts.ensures;
    })

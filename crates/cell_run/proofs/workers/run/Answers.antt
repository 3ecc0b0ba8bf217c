use Rattle.std.proofs.Common.{refl, ◌∙◌}
use Rattle.cell_words.specs.declared.words.Command.TheVariants.{Run}
use Rattle.cell_run.specs.declared.status.Status.TheVariants as status
use Rattle.cell_record.specs.Progress.{place_of, rest_in, rest_of}
use Rattle.cell_run.proofs.Fronts.{cut_in_opening, none_written, opening_partly, opening_written}
use Rattle.cell_run.proofs.Endings.{cut_said, phases_end, opening_ends, once_first, rose_first, told_fault, unfailed_run}
use Rattle.cell_run.proofs.workers.run.Goals as goal

pub returns-in-Err : goal.returns-in-Err
returns-in-Err g c =
    let r = c.refuse.ensures in
    let left = g.S.Source.left c.args.input.now in
    record {
      ends =
          opening_ends (Run c.args.workers) c.refuse.result _ _ _ _ r.known.1
          (opening_written c.refuse.result left c.in-Err.refusal (g.K.Sink.held c.args.out.now) (g.K.Sink.held c.refuse.new.out) c.in-Err.ensures.fails.refused r.stated)
          (opening_partly left c.in-Err.refusal (g.K.Sink.held c.args.out.now) (g.K.Sink.held c.refuse.new.out) c.in-Err.ensures.fails.refused r.partly)
          (λ e. absurd (r.known.0 e)) (λ e. c.in-Err.ensures.fault (r.read e).0) (λ n. c.in-Err.ensures.steady (λ is. n (told_fault c.refuse.result c.in-Err.refusal _ r.unstated is)))
          (λ e. cut_in_opening (Run c.args.workers) left (g.S.Source.left c.open.new.input) (g.K.Sink.held c.args.out.now) (g.K.Sink.held c.refuse.new.out) (r.read e).1 (c.in-Err.ensures.fails.stops (r.read e).0)) r.write r.accepted;
    }

pub returns-in_default : goal.returns-in_default
returns-in_default g c =
    record {
      ends =
          opening_ends (Run c.args.workers) status.Memory _ _ _ _ (λ e. cc) (λ f. absurd f) (none_written (g.S.Source.left c.args.input.now) (g.K.Sink.held c.args.out.now)) (λ e. cc) (λ e. cc) (λ _. c.in-Ok.ensures.steady) (λ e. cc) (λ e. cc) (λ _. refl);
    }

pub returns : goal.returns
returns g c =
    let r = c.run_phases.ensures in
    let s = r.ends (Run c.args.workers) tt in
    let config = c.in-Ok.recording.config in
    record {
      ends =
          phases_end (Run c.args.workers) config c.run_phases.result _ _ _ _ (rest_of c.in-Ok.recording (g.S.Source.left c.open.new.input)) c.in-Ok.ensures.opens.begins c.in-Ok.ensures.opens.tells s.known s.whole s.part s.ended
          (λ e. rose_first _ _ _ c.in-Ok.ensures.steady (s.read e)) (unfailed_run c.args.workers c.run_phases.result _ _ (λ final. r.unfailed final ∙ c.in-Ok.ensures.steady)) (once_first _ _ _ c.in-Ok.ensures.steady r.once)
          (λ e. cut_said (Run c.args.workers) config (rest_in c.in-Ok.recording) c.in-Ok.recording.held (place_of c.in-Ok.recording) (g.S.Source.left c.args.input.now) (g.S.Source.left c.open.new.input) (g.S.Source.left c.run_phases.new.input)
          (g.K.Sink.held c.args.out.now) (g.K.Sink.held c.run_phases.new.out) s.left c.in-Ok.ensures.opens.leads (s.stop e)) s.write s.accepted;
    }

use Rattle.std.proofs.Common.{refl, ◌∙◌}
use Rattle.cell_words.specs.declared.words.Command.TheVariants.{Replay}
use Rattle.cell_run.specs.declared.status.Status.TheVariants as status
use Rattle.cell_record.specs.Progress.{place_of, rest_in, rest_of}
use Rattle.cell_run.proofs.Fronts.{cut_in_opening, none_written, opening_partly, opening_written}
use Rattle.cell_run.proofs.Endings.{cut_said, done_or_memory, phases_end, opening_ends, once_of, rose_first, told_fault}
use Rattle.cell_run.proofs.engine.serve_alone.Goals as goal

pub returns-in-Err-clause-ends : goal.returns-in-Err-clause-ends
returns-in-Err-clause-ends g c =
    let r = c.refuse.ensures in
    let left = g.S.Source.left c.args.input.now in
    opening_ends Replay c.refuse.result _ _ _ _ r.known.1
    (opening_written c.refuse.result left c.in-Err.refusal (g.K.Sink.held c.args.out.now) (g.K.Sink.held c.refuse.new.out) c.in-Err.ensures.fails.refused r.stated)
    (opening_partly left c.in-Err.refusal (g.K.Sink.held c.args.out.now) (g.K.Sink.held c.refuse.new.out) c.in-Err.ensures.fails.refused r.partly)
    (λ e. absurd (r.known.0 e)) (λ e. c.in-Err.ensures.fault (r.read e).0) (λ n. c.in-Err.ensures.steady (λ is. n (told_fault c.refuse.result c.in-Err.refusal _ r.unstated is)))
    (λ e. cut_in_opening Replay left (g.S.Source.left c.open.new.input) (g.K.Sink.held c.args.out.now) (g.K.Sink.held c.refuse.new.out) (r.read e).1 (c.in-Err.ensures.fails.stops (r.read e).0)) r.write r.accepted

pub returns-in_default-clause-ends : goal.returns-in_default-clause-ends
returns-in_default-clause-ends g c =
    opening_ends Replay status.Memory _ _ _ _ (λ e. cc) (λ f. absurd f) (none_written (g.S.Source.left c.args.input.now) (g.K.Sink.held c.args.out.now)) (λ e. cc) (λ e. cc) (λ _. c.in-Ok.ensures.steady) (λ e. cc) (λ e. cc) (λ _. refl)

pub returns-clause-ends : goal.returns-clause-ends
returns-clause-ends g c =
    let s = c.serve_phases.ensures.ends in
    let unfailed = c.serve_phases.ensures.unfailed in
    let config = c.in-Ok.recording.config in
    phases_end Replay config c.serve_phases.result _ _ _ _ (rest_of c.in-Ok.recording (g.S.Source.left c.open.new.input)) c.in-Ok.ensures.opens.begins c.in-Ok.ensures.opens.tells s.known s.whole s.part s.ended
    (λ e. rose_first _ _ _ c.in-Ok.ensures.steady (s.read e)) (λ n ahead. unfailed n ∙ c.in-Ok.ensures.steady)
    (once_of c.serve_phases.result (record { octets = g.S.Source.left c.args.input.now; faults = g.S.Source.faults c.args.input.now })
    (record { octets = g.S.Source.left c.serve_phases.new.input; faults = g.S.Source.faults c.serve_phases.new.input }) (λ e. rose_first _ _ _ c.in-Ok.ensures.steady (s.read e)) (λ n. unfailed n ∙ c.in-Ok.ensures.steady))
    (λ e. cut_said Replay config (rest_in c.in-Ok.recording) c.in-Ok.recording.held (place_of c.in-Ok.recording) (g.S.Source.left c.args.input.now) (g.S.Source.left c.open.new.input) (g.S.Source.left c.serve_phases.new.input)
    (g.K.Sink.held c.args.out.now) (g.K.Sink.held c.serve_phases.new.out) s.left c.in-Ok.ensures.opens.leads (s.stop e)) s.write s.accepted

pub returns-in-Err-clause-complete : goal.returns-in-Err-clause-complete
returns-in-Err-clause-complete g c = done_or_memory Replay c.refuse.result _ _ _ _ (returns-in-Err-clause-ends g c)

pub returns-in_default-clause-complete : goal.returns-in_default-clause-complete
returns-in_default-clause-complete g c = done_or_memory Replay status.Memory _ _ _ _ (returns-in_default-clause-ends g c)

pub returns-clause-complete : goal.returns-clause-complete
returns-clause-complete g c = done_or_memory Replay c.serve_phases.result _ _ _ _ (returns-clause-ends g c)

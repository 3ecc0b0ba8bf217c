use Rattle.std.proofs.Common.{◌≡◌, ◌+◌, ◌∷◌, ◌++◌, [], length, None, ◌∙◌, ap, inl, refl, rules, subst, sym, arith, length-append}
use Rattle.std.proofs.KnownBytes.{Appends-nil}
use Rattle.std.specs.Io.KnownBytes.{IsAtEnd}
use Rattle.cell_record.specs.Recording.{Reading}
use Rattle.cell_record.specs.Progress.{rest_of}
use Rattle.cell_record.specs.History.{Interleaves}
use Rattle.cell_run.specs.Ahead.{text_told}
use Rattle.cell_run.specs.Bodies.{Serves}
use Rattle.cell_run.specs.Outcome.{IsFinal}
use Rattle.cell_run.specs.Running.{run_interleaves, run_serves}
use Rattle.cell_run.proofs.Beside.{behind_more, behind_none, done_end, end_all, end_some, may_run, memory_no_fault, once_read, owes, then_some, then_told, unfailed_end}
use Rattle.cell_run.proofs.Endings.{once_first, rose_first}
use Rattle.cell_run.proofs.Fronts.{later_then}
use Rattle.cell_run.proofs.Phases.{interleaves_length, some_of, text_is, whole_report}
use Rattle.cell_run.proofs.workers.run_phases.Goals as goal

pub returns-in-End-clause-ends : goal.returns-in-End-clause-ends
returns-in-End-clause-ends g c = λ command asked.
    let d = c.loop-turn.invariant.done in
    let r = c.loop-turn.invariant.read in
    let config = c.args.recording.now.config in
    let serves : Interleaves d.1 d.0 × Serves command d.1 d.0 = (run_interleaves _ config d.0 d.1 d.3, run_serves command d.0 d.1 asked) in
    let h = rw c.in-End.is at r.3 in
    let f = c.finish.ensures in
    record {
      known = f.known;
      whole = end_all command config c.finish.result (rest_of c.args.recording.now (g.S.Source.left c.args.input.now)) (rest_of r.0 r.1) d.0 d.1 c.in-End.refusal _ _ _ (text_told c.loop-turn.told) r.2.becomes h.comes.said serves d.4 f.stated;
      part = end_some command config (rest_of c.args.recording.now (g.S.Source.left c.args.input.now)) (rest_of r.0 r.1) d.0 d.1 c.in-End.refusal _ _ _ (text_told c.loop-turn.told) r.2.becomes h.comes.said serves d.4 f.partly;
      ended = λ done.
          let none = done_end c.finish.result c.in-End.refusal done (f.stated (subst IsFinal (sym done) tt)).0 in
          let e = h.comes.ended none in
          subst IsAtEnd (sym e.1) (r.2.seen (r.2.over e.0));
      left = later_then _ _ _ r.2.later r.3.later;
      read = λ is. h.comes.fault (f.read is).0 r.2.refusal;
      stop = λ is.
          let fault = f.read is in
          let s = h.comes.stops fault.0 r.2.refusal in
          let part : Reading = record { phases = s.events ∷ []; refusal = None } in
          record {
            done = d.0;
            events = s.events;
            end = s.end;
            most = s.most;
            stops = r.2.leads (g.S.Source.left c.loop-turn.input) s.end part s.stops;
            bodies = d.1;
            interleave = serves.0;
            serve = serves.1;
            written = then_told _ _ _ _ _ d.4 fault.1;
          };
      write = λ is. rose_first _ _ _ c.loop-turn.invariant.writes (f.write is);
      accepted = λ n. f.accepted n ∙ c.loop-turn.invariant.writes;
    }

pub returns-in-End-clause-unfailed : goal.returns-in-End-clause-unfailed
returns-in-End-clause-unfailed g c = λ final.
    let r = c.loop-turn.invariant.read in
    let h = rw c.in-End.is at r.3 in
    unfailed_end r.0 r.1 _ _ _ c.finish.result c.in-End.refusal h.comes final (c.finish.ensures.stated final).0

pub returns-in-End-clause-once : goal.returns-in-End-clause-once
returns-in-End-clause-once g c =
    let r = c.loop-turn.invariant.read in once_read r.0 _ r.1 _ _ _ _ r.3 r.2.refusal

pub serve_beside-served-requires-clause-next : goal.serve_beside-served-requires-clause-next
serve_beside-served-requires-clause-next g c κs within =
    let d = c.loop-turn.invariant.done in
    let r = c.loop-turn.invariant.read in
    let h = rw c.in-Phase.is at r.3 in
    may_run c.loop-turn.crew c.args.recording.now r.0 c.loop-turn.recording _ r.1 _ d.0 d.1 _ _ _ c.in-Phase.phase d.3 d.2 r.2 h.comes.0 h

pub loop-turn-init : goal.loop-turn-init
loop-turn-init g c =
    let b = c.requires.begins in
    let h = c.read_next-next.ensures in
    record {
      done = ([], [], refl, c.requires.fresh, record { written = []; appended = Appends-nil _; parts = refl });
      read = (
        c.args.recording.now,
        g.S.Source.left c.args.input.now,
        behind_none c.args.recording.now (g.S.Source.left c.args.input.now) b.0 b.1 b.2 b.3 c.requires.seen,
        record { comes = h.comes; config = h.config; dated = h.dated; seen = h.seen; later = h.later },
      );
      few = omega arith;
      writes = refl;
    }

pub returns-in-Err-Fault-clause-ends : goal.returns-in-Err-Fault-clause-ends
returns-in-Err-Fault-clause-ends g c = λ command asked.
    let d = c.loop-turn.invariant.done in
    let r = c.loop-turn.invariant.read in
    let config = c.args.recording.now.config in
    let serves : Interleaves d.1 d.0 × Serves command d.1 d.0 = (run_interleaves _ config d.0 d.1 d.3, run_serves command d.0 d.1 asked) in
    let w = c.serve_beside-served.ensures.written in
    let part = rw c.in-Err-Fault.is at w.part in
    let unread = rw c.in-Err-Fault.is at c.serve_beside-served.ensures.unread in
    let cause = rw c.in-Err-Fault.is at w.cause in
    record {
      known = λ e. cc;
      whole = λ final. absurd final;
      part = some_of command config (rest_of c.args.recording.now (g.S.Source.left c.args.input.now)) (rest_of r.0 r.1) d.0 d.1 _ _ r.2.becomes serves (then_some _ _ _ (text_told c.loop-turn.told) _ d.4 part);
      ended = λ e. cc;
      left = rw unread.1 (later_then _ _ _ r.2.later r.3.later);
      read = λ e. cc;
      stop = λ e. cc;
      write = λ e. rose_first _ _ _ c.loop-turn.invariant.writes (cause (rw c.in-Err-Fault.is at c.in-Err-Fault.field-0-is));
      accepted = λ n. absurd (n refl);
    }

pub returns-in-Err-Memory-clause-ends : goal.returns-in-Err-Memory-clause-ends
returns-in-Err-Memory-clause-ends g c = λ command asked.
    let d = c.loop-turn.invariant.done in
    let r = c.loop-turn.invariant.read in
    let config = c.args.recording.now.config in
    let serves : Interleaves d.1 d.0 × Serves command d.1 d.0 = (run_interleaves _ config d.0 d.1 d.3, run_serves command d.0 d.1 asked) in
    let w = c.serve_beside-served.ensures.written in
    let part = rw c.in-Err-Memory.is at w.part in
    let unread = rw c.in-Err-Memory.is at c.serve_beside-served.ensures.unread in
    let steady = rw c.in-Err-Memory.is at w.steady in
    record {
      known = λ e. cc;
      whole = λ final. absurd final;
      part = some_of command config (rest_of c.args.recording.now (g.S.Source.left c.args.input.now)) (rest_of r.0 r.1) d.0 d.1 _ _ r.2.becomes serves (then_some _ _ _ (text_told c.loop-turn.told) _ d.4 part);
      ended = λ e. cc;
      left = rw unread.1 (later_then _ _ _ r.2.later r.3.later);
      read = λ e. cc;
      stop = λ e. cc;
      write = λ e. cc;
      accepted = λ n. steady (memory_no_fault _ (search rules)) ∙ c.loop-turn.invariant.writes;
    }

pub returns-in_default-clause-ends : goal.returns-in_default-clause-ends
returns-in_default-clause-ends g c = λ command asked.
    let d = c.loop-turn.invariant.done in
    let r = c.loop-turn.invariant.read in
    let config = c.args.recording.now.config in
    let serves : Interleaves d.1 d.0 × Serves command d.1 d.0 = (run_interleaves _ config d.0 d.1 d.3, run_serves command d.0 d.1 asked) in
    let w = c.serve_beside-served.ensures.written in
    let whole = rw c.in-Ok.is at w.whole in
    let steady = rw c.in-Ok.is at w.steady in
    let h = rw c.in-Ok.is at c.serve_beside-served.ensures.read in
    record {
      known = λ e. cc;
      whole = λ final. absurd final;
      part = some_of command config (rest_of c.args.recording.now (g.S.Source.left c.args.input.now)) (rest_of r.0 r.1) d.0 d.1 _ _ r.2.becomes serves (whole_report _ _ _ (then_told _ _ _ (text_told c.loop-turn.told) _ d.4 whole));
      ended = λ e. cc;
      left = later_then _ _ _ (later_then _ _ _ r.2.later r.3.later) h.later;
      read = λ e. cc;
      stop = λ e. cc;
      write = λ e. cc;
      accepted = λ n. steady ∙ c.loop-turn.invariant.writes;
    }

pub returns-in-Err-Fault-clause-once : goal.returns-in-Err-Fault-clause-once
returns-in-Err-Fault-clause-once g c =
    let r = c.loop-turn.invariant.read in
    let h = rw c.in-Phase.is at r.3 in
    let unread = rw c.in-Err-Fault.is at c.serve_beside-served.ensures.unread in
    inl (ap g.S.Source.faults unread.1 ∙ h.comes.1)

pub returns-in-Err-Memory-clause-once : goal.returns-in-Err-Memory-clause-once
returns-in-Err-Memory-clause-once g c =
    let r = c.loop-turn.invariant.read in
    let h = rw c.in-Phase.is at r.3 in
    let unread = rw c.in-Err-Memory.is at c.serve_beside-served.ensures.unread in
    inl (ap g.S.Source.faults unread.1 ∙ h.comes.1)

pub returns-in_default-clause-once : goal.returns-in_default-clause-once
returns-in_default-clause-once g c =
    let r = c.loop-turn.invariant.read in
    let h = rw c.in-Phase.is at r.3 in
    let next = rw c.in-Ok.is at c.serve_beside-served.ensures.read in
    once_first _ _ _ h.comes.1 (once_read c.loop-turn.recording _ _ _ _ _ _ next h.comes.0.unrefused)

pub loop-turn-preserved : goal.loop-turn-preserved
loop-turn-preserved g c =
    let d = c.loop-turn.invariant.done in
    let r = c.loop-turn.invariant.read in
    let config = c.args.recording.now.config in
    let phase = c.in-Phase.phase in
    let h = rw c.in-Phase.is at r.3 in
    let whole = rw c.in-Ok.is at c.serve_beside-served.ensures.written.whole in
    let read = rw c.in-Ok.is at c.serve_beside-served.ensures.read in
    let steady = rw c.in-Ok.is at c.serve_beside-served.ensures.written.steady in
    let t = rw c.in-Ok-served.is at (c.serve_beside-served.ensures.told config d.0 d.1 d.3) in
    let one = length-append d.0 (phase.events ∷ []) in
    let same = interleaves_length d.1 d.0 (run_interleaves _ config d.0 d.1 d.3) in
    let many : phase.number ≡ 1 + length d.1 = omega (arith, h.comes.0.number.0, r.2.number, d.2, same) in
    record {
      done = (
        d.0 ++ phase.events ∷ [],
        d.1 ++ t.body ∷ [],
        omega (arith, one, d.2),
        t.served,
        owes config d.1 phase.number t.body _ _ _ (text_is config d.0 d.1 _ _ _ _ t) many (then_told _ _ _ (text_told c.loop-turn.told) _ d.4 whole),
      );
      read = (c.loop-turn.recording, g.S.Source.left c.loop-turn.input, behind_more c.args.recording.now r.0 c.loop-turn.recording _ r.1 _ d.0 _ _ _ phase r.2 h.comes.0 h, rw h.comes.1 at read);
      few = omega (arith, h.comes.0.number.0, h.comes.0.number.2, r.2.number);
      writes = steady ∙ c.loop-turn.invariant.writes;
    }

use Rattle.std.proofs.Common.{◌≡◌, ◌+◌, ◌∷◌, ◌++◌, [], length, None, ◌∙◌, refl, rules, arith, length-append}
use Rattle.std.proofs.KnownBytes.{Appends-kept, Appends-nil}
use Rattle.cell_record.specs.Recording.{Reading, with_phase}
use Rattle.cell_record.specs.Progress.{rest_of}
use Rattle.cell_record.proofs.Readings.{then}
use Rattle.cell_run.proofs.Fronts.{with_phases, phases-then, later_then, leads_phases}
use Rattle.cell_run.proofs.Phases.{all_of, some_of, refusal_all, refusal_of, whole_report, body_whole, body_part, interleaves_length, all_ms-append, text_is}
use Rattle.cell_run.proofs.Endings.{told_fault}
use Rattle.cell_run.specs.declared.status.Status.TheVariants as status
use Rattle.cell_run.proofs.engine.serve_phases.Goals as goal

pub returns-in-Ok-None-clause-ends : goal.returns-in-Ok-None-clause-ends
returns-in-Ok-None-clause-ends g c =
    let d = c.loop-turn.invariant.done in
    let config = c.args.recording.now.config in
    let serves = g.met.V.Server.serves _ config d.0 d.1 d.3 in
    let none = rw c.in-Ok-None.field-0-is at c.in-Ok-None.ensures.none in
    record {
      known = search rules;
      whole = λ final. all_of g.V.Server.command config status.Done (rest_of c.args.recording.now (g.S.Source.left c.args.input.now)) (rest_of c.loop-turn.recording (g.S.Source.left c.loop-turn.input)) d.0 d.1 None _ _ _ d.5 none.1 refl serves d.4 (Appends-nil _);
      part = some_of g.V.Server.command config (rest_of c.args.recording.now (g.S.Source.left c.args.input.now)) (rest_of c.loop-turn.recording (g.S.Source.left c.loop-turn.input)) d.0 d.1 _ _ d.5 serves (whole_report _ _ _ d.4);
      ended = search rules;
      left = search rules;
      read = search rules;
      stop = λ e. cc;
      write = search rules;
      accepted = search rules;
    }

pub returns-in-Err-clause-ends : goal.returns-in-Err-clause-ends
returns-in-Err-clause-ends g c =
    let d = c.loop-turn.invariant.done in
    let config = c.args.recording.now.config in
    let serves = g.met.V.Server.serves _ config d.0 d.1 d.3 in
    let r = c.refuse.ensures in
    record {
      known = r.known.1;
      whole = refusal_all g.V.Server.command config c.refuse.result (rest_of c.args.recording.now (g.S.Source.left c.args.input.now)) (rest_of c.loop-turn.recording (g.S.Source.left c.loop-turn.input)) d.0 d.1 c.in-Err.refusal _ _ _ d.5 c.in-Err.ensures.refused serves d.4 r.stated;
      part = refusal_of g.V.Server.command config (rest_of c.args.recording.now (g.S.Source.left c.args.input.now)) (rest_of c.loop-turn.recording (g.S.Source.left c.loop-turn.input)) d.0 d.1 c.in-Err.refusal _ _ _ d.5 c.in-Err.ensures.refused serves d.4 r.partly;
      ended = λ e. absurd (r.known.0 e);
      left = later_then _ _ _ c.loop-turn.invariant.left c.next_phase.ensures.goes.left;
      read = search rules;
      stop = λ fault.
          let told = r.read fault in
          let s = c.in-Err.ensures.stops told.0 c.loop-turn.invariant.refusal in
          let part : Reading = record { phases = s.events ∷ []; refusal = None } in
          record {
            done = d.0;
            events = s.events;
            end = s.end;
            most = s.most;
            stops = d.6 (g.S.Source.left c.next_phase.new.input) s.end part s.stops;
            bodies = d.1;
            interleave = serves.0;
            serve = serves.1;
            written = Appends-kept _ _ _ _ d.4 told.1;
          };
      write = search rules;
      accepted = λ n. r.accepted n ∙ c.loop-turn.invariant.writes;
    }

pub returns-in-Err-clause-unfailed : goal.returns-in-Err-clause-unfailed
returns-in-Err-clause-unfailed g c = λ n. c.in-Err.ensures.steady (λ is. n (told_fault c.refuse.result c.in-Err.refusal _ c.refuse.ensures.unstated is)) ∙ c.loop-turn.invariant.reads

pub returns-in_default-clause-ends : goal.returns-in_default-clause-ends
returns-in_default-clause-ends g c =
    let d = c.loop-turn.invariant.done in
    let config = c.args.recording.now.config in
    let serves = g.met.V.Server.serves _ config d.0 d.1 d.3 in
    record {
      known = search rules;
      whole = λ final. absurd final;
      part = some_of g.V.Server.command config (rest_of c.args.recording.now (g.S.Source.left c.args.input.now)) (rest_of c.loop-turn.recording (g.S.Source.left c.loop-turn.input)) d.0 d.1 _ _ d.5 serves (whole_report _ _ _ d.4);
      ended = λ e. cc;
      left = later_then _ _ _ c.loop-turn.invariant.left c.next_phase.ensures.goes.left;
      read = λ e. cc;
      stop = λ e. cc;
      write = λ e. cc;
      accepted = search rules;
    }

pub returns-in-Err-Fault-clause-ends : goal.returns-in-Err-Fault-clause-ends
returns-in-Err-Fault-clause-ends g c =
    let d = c.loop-turn.invariant.done in
    let config = c.args.recording.now.config in
    let es = c.in-Ok-Some.phase.events in
    let given = rw c.in-Ok-Some.field-0-is at c.in-Ok-Some.ensures.phase in
    let number = given.number in
    let t = c.in-Ok.ensures.told config d.0 d.1 d.3 in
    let before = g.met.V.Server.serves _ config d.0 d.1 d.3 in
    let serves = g.met.V.Server.serves _ config _ _ t.served in
    let many : c.in-Ok-Some.phase.number ≡ 1 + length d.1 = omega (arith, number.0, c.loop-turn.invariant.number, d.2, interleaves_length d.1 d.0 before.0) in
    record {
      known = search rules;
      whole = λ final. absurd final;
      part = some_of g.V.Server.command config (rest_of c.args.recording.now (g.S.Source.left c.args.input.now)) (rest_of c.next_phase.new.self (g.S.Source.left c.next_phase.new.input)) (d.0 ++ es ∷ []) (d.1 ++ t.body ∷ []) _ _
          (then _ _ _ (with_phases d.0) (with_phase es) (with_phases (d.0 ++ es ∷ [])) (phases-then d.0 es) d.5 given.phase.phase.says) serves
          (body_part config d.1 c.in-Ok-Some.phase.number t.body _ _ _ _ (text_is config d.0 d.1 _ _ _ _ t) many d.4 c.in-Err-Fault.ensures.part);
      ended = λ e. cc;
      left = later_then _ _ _ c.loop-turn.invariant.left c.next_phase.ensures.goes.left;
      read = λ e. cc;
      stop = λ e. cc;
      write = search rules;
      accepted = search rules;
    }

pub returns-in-Err-Memory-clause-ends : goal.returns-in-Err-Memory-clause-ends
returns-in-Err-Memory-clause-ends g c =
    let d = c.loop-turn.invariant.done in
    let config = c.args.recording.now.config in
    let es = c.in-Ok-Some.phase.events in
    let given = rw c.in-Ok-Some.field-0-is at c.in-Ok-Some.ensures.phase in
    let number = given.number in
    let t = c.in-Ok.ensures.told config d.0 d.1 d.3 in
    let before = g.met.V.Server.serves _ config d.0 d.1 d.3 in
    let serves = g.met.V.Server.serves _ config _ _ t.served in
    let many : c.in-Ok-Some.phase.number ≡ 1 + length d.1 = omega (arith, number.0, c.loop-turn.invariant.number, d.2, interleaves_length d.1 d.0 before.0) in
    record {
      known = search rules;
      whole = λ final. absurd final;
      part = some_of g.V.Server.command config (rest_of c.args.recording.now (g.S.Source.left c.args.input.now)) (rest_of c.next_phase.new.self (g.S.Source.left c.next_phase.new.input)) (d.0 ++ es ∷ []) (d.1 ++ t.body ∷ []) _ _
          (then _ _ _ (with_phases d.0) (with_phase es) (with_phases (d.0 ++ es ∷ [])) (phases-then d.0 es) d.5 given.phase.phase.says) serves
          (body_part config d.1 c.in-Ok-Some.phase.number t.body _ _ _ _ (text_is config d.0 d.1 _ _ _ _ t) many d.4 c.in-Err-Memory.ensures.part);
      ended = λ e. cc;
      left = later_then _ _ _ c.loop-turn.invariant.left c.next_phase.ensures.goes.left;
      read = λ e. cc;
      stop = λ e. cc;
      write = λ e. cc;
      accepted = search rules;
    }

pub loop-turn-preserved : goal.loop-turn-preserved
loop-turn-preserved g c =
    let d = c.loop-turn.invariant.done in
    let config = c.args.recording.now.config in
    let es = c.in-Ok-Some.phase.events in
    let given = rw c.in-Ok-Some.field-0-is at c.in-Ok-Some.ensures.phase in
    let number = given.number in
    let moment = given.phase.moment in
    let t = c.in-Ok.ensures.told config d.0 d.1 d.3 in
    let before = g.met.V.Server.serves _ config d.0 d.1 d.3 in
    let many : c.in-Ok-Some.phase.number ≡ 1 + length d.1 = omega (arith, number.0, c.loop-turn.invariant.number, d.2, interleaves_length d.1 d.0 before.0) in
    let one = length-append d.0 (es ∷ []) in
    let clock = all_ms-append d.0 es in
    record {
      done = (
        d.0 ++ es ∷ [],
        d.1 ++ t.body ∷ [],
        omega (arith, one, d.2),
        t.served,
        body_whole config d.1 c.in-Ok-Some.phase.number t.body _ _ _ _ (text_is config d.0 d.1 _ _ _ _ t) many d.4 c.in-Ok-write_phase.ensures.whole,
        then _ _ _ (with_phases d.0) (with_phase es) (with_phases (d.0 ++ es ∷ [])) (phases-then d.0 es) d.5 given.phase.phase.says,
        leads_phases c.args.recording.now c.loop-turn.recording c.next_phase.new.self _ _ _ d.0 es d.6 given.phase.phase.leads,
        omega (arith, moment, d.7, clock),
      );
      refusal = c.in-Ok-Some.ensures.kept;
      config = c.next_phase.ensures.goes.config ∙ c.loop-turn.invariant.config;
      over = given.ended;
      seen = c.next_phase.ensures.goes.seen c.loop-turn.invariant.seen;
      left = later_then _ _ _ c.loop-turn.invariant.left c.next_phase.ensures.goes.left;
      number = omega (arith, number.1, number.0, c.loop-turn.invariant.number);
      few = omega (arith, number.0, number.2, c.loop-turn.invariant.number);
      reads = c.in-Ok-Some.ensures.steady ∙ c.loop-turn.invariant.reads;
      writes = c.in-Ok-write_phase.ensures.steady ∙ c.loop-turn.invariant.writes;
    }

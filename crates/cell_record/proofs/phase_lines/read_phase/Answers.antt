use Rattle.std.proofs.Common.{arith, [], ◌∷◌, ◌++◌, refl, sym, ap, ◌∙◌, rules}
use Rattle.cell_record.specs.declared.counts.Counts.{Counts}
use Rattle.cell_record.proofs.Readings.{with_events, event_after, phase_after, part_then, recorded_more, size_more, moment_more, one_line}
use Rattle.std.proofs.lemmas.Result.{err_from_is_err_and}
use Rattle.cell_record.specs.Recording.{with_event, with_phase}
use Rattle.cell_record.specs.Numbered.{phases}
use Rattle.cell_record.specs.ToRead.{to_read}
use Rattle.cell_record.proofs.Following.{follows_then, follows_end, fails_then, memory_in_phase}
use Rattle.cell_record.proofs.phase_lines.read_phase.Goals as goal

pub loop-turn-preserved-in-Some-Nothing : goal.loop-turn-preserved-in-Some-Nothing
loop-turn-preserved-in-Some-Nothing g c =
    let line = rw (c.in-Some-Nothing.is, c.in-Some-Nothing.field-0-is) at c.in_ok-next_said.ensures.says in
    let goes = c.next_said.ensures.goes in
    record {
      rest = follows_then _ _ _ (with_events c.loop-turn.events) (λ r. r) (with_events c.loop-turn.events) (λ r. refl) c.loop-turn.invariant.rest line.line;
      seen = λ first. goes.seen (c.loop-turn.invariant.seen first);
      recorded = c.loop-turn.invariant.recorded;
      size = c.loop-turn.invariant.size ∙ ap (λ (x : Counts). x.events) (sym line.counts);
      within = line.within;
      moment = ap (λ (x : Counts). x.moment) line.counts ∙ c.loop-turn.invariant.moment;
      turns = omega (arith, c.loop-turn.invariant.turns, line.grows);
      lines = omega (arith, c.loop-turn.invariant.lines, line.grows);
      most = goes.most;
      left = part_then _ _ _ c.loop-turn.invariant.left goes.left;
      faults = c.in_ok-next_said.ensures.faults.steady ∙ c.loop-turn.invariant.faults;
    }

pub loop-turn-preserved : goal.loop-turn-preserved
loop-turn-preserved g c =
    let line = rw (c.in-Some-Happens.is, c.in-Some-Happens.field-0-is) at c.in_ok-next_said.ensures.says in
    let goes = c.next_said.ensures.goes in
    let event = c.in-Some-Happens.event in
    let added = c.in_ok-push-in-Some-Happens.ensures.appended in
    record {
      rest = rw added (follows_then _ _ _ (with_events c.loop-turn.events) (with_event event) (with_events (c.loop-turn.events ++ event ∷ [])) (event_after c.loop-turn.events event) c.loop-turn.invariant.rest line.line);
      seen = λ first. goes.seen (c.loop-turn.invariant.seen first);
      recorded = recorded_more c.args.config.now c.loop-turn.events _ event added c.loop-turn.invariant.recorded line.may;
      size = size_more c.loop-turn.events _ event c.loop-turn.counts _ added c.loop-turn.invariant.size line.counts;
      within = line.within;
      moment = moment_more c.loop-turn.events _ event c.loop-turn.counts _ c.args.counts.now.moment added c.loop-turn.invariant.moment line.counts;
      turns = omega (arith, c.loop-turn.invariant.turns, line.grows);
      lines = one_line c.loop-turn.events _ event _ _ _ added c.loop-turn.invariant.lines line.grows;
      most = goes.most;
      left = part_then _ _ _ c.loop-turn.invariant.left goes.left;
      faults = c.in_ok-next_said.ensures.faults.steady ∙ c.loop-turn.invariant.faults;
    }

pub returns-in-Some-Phase-clause-phase : goal.returns-in-Some-Phase-clause-phase
returns-in-Some-Phase-clause-phase g c =
    let line = rw (c.in-Some-Phase.is, c.in-Some-Phase.field-0-is) at c.in_ok-next_said.ensures.says in
    record {
      phase = rw line.counts (follows_then _ _ _ (with_events c.loop-turn.events) (with_phase []) (with_phase c.loop-turn.events) (phase_after c.loop-turn.events) c.loop-turn.invariant.rest (rw line.counts at line.line));
      recorded = c.loop-turn.invariant.recorded;
      few = search rules;
      lines = omega (arith, c.loop-turn.invariant.lines, line.grows);
      most = c.next_said.ensures.goes.most;
      moment = ap (λ (x : Counts). x.moment) line.counts ∙ c.loop-turn.invariant.moment;
    }

pub returns-in-None-clause-phase : goal.returns-in-None-clause-phase
returns-in-None-clause-phase g c =
    let end = rw c.in-None.is at c.in_ok-next_said.ensures.none in
    record {
      phase = follows_end _ _ c.loop-turn.events (phases c.args.config.now c.loop-turn.counts) c.next_said.new.lines (g.S.Source.left c.next_said.new.input) c.args.config.now c.next_said.new.counts.moment c.loop-turn.invariant.rest end.last end.over;
      recorded = c.loop-turn.invariant.recorded;
      few = search rules;
      lines = omega (arith, c.loop-turn.invariant.lines, c.next_said.ensures.goes.order);
      most = c.next_said.ensures.goes.most;
      moment = ap (λ (x : Counts). x.moment) end.counts ∙ c.loop-turn.invariant.moment;
    }

pub returns-in_err-next_said-clause-fails : goal.returns-in_err-next_said-clause-fails
returns-in_err-next_said-clause-fails g c =
    let r = err_from_is_err_and c.from_residual.result c.from_residual.ensures.1 in
    rw (r.1, r.2) (fails_then _ _ c.loop-turn.events _ _ c.loop-turn.invariant.rest c.in_err-next_said.ensures.fails)

pub returns-in_err-push-in-Some-Happens-clause-fails : goal.returns-in_err-push-in-Some-Happens-clause-fails
returns-in_err-push-in-Some-Happens-clause-fails g c =
    let r = err_from_is_err_and c.from_residual-in_err-push-in-Some-Happens.result c.from_residual-in_err-push-in-Some-Happens.ensures.1 in
    rw (r.1, r.2) (memory_in_phase (to_read (phases c.args.config.now c.args.counts.now) c.args.lines.now (g.S.Source.left c.args.input.now)) (g.S.Source.left c.next_said.new.input))

pub returns-in-Some-Phase-clause-goes : goal.returns-in-Some-Phase-clause-goes
returns-in-Some-Phase-clause-goes g c = record {
  order = search rules;
  most = c.next_said.ensures.goes.most;
  seen = λ first. c.next_said.ensures.goes.seen (c.loop-turn.invariant.seen first);
  left = part_then _ _ _ c.loop-turn.invariant.left c.next_said.ensures.goes.left;
}

pub returns-in_err-push-in-Some-Happens-clause-goes : goal.returns-in_err-push-in-Some-Happens-clause-goes
returns-in_err-push-in-Some-Happens-clause-goes g c = record {
  order = search rules;
  most = c.next_said.ensures.goes.most;
  seen = λ first. c.next_said.ensures.goes.seen (c.loop-turn.invariant.seen first);
  left = part_then _ _ _ c.loop-turn.invariant.left c.next_said.ensures.goes.left;
}

pub returns-in-None-clause-goes : goal.returns-in-None-clause-goes
returns-in-None-clause-goes g c = record {
  order = search rules;
  most = c.next_said.ensures.goes.most;
  seen = λ first. c.next_said.ensures.goes.seen (c.loop-turn.invariant.seen first);
  left = part_then _ _ _ c.loop-turn.invariant.left c.next_said.ensures.goes.left;
}

pub returns-in_err-next_said-clause-goes : goal.returns-in_err-next_said-clause-goes
returns-in_err-next_said-clause-goes g c = record {
  order = search rules;
  most = c.next_said.ensures.goes.most;
  seen = λ first. c.next_said.ensures.goes.seen (c.loop-turn.invariant.seen first);
  left = part_then _ _ _ c.loop-turn.invariant.left c.next_said.ensures.goes.left;
}

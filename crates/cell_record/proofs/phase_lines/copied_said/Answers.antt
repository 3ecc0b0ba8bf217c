use Rattle.std.proofs.Common.{◌+◌, ℕ, List, refl, sym, subst, ◌∙◌, ap, arith, rules}
use Rattle.std.proofs.lemmas.Result.{err_from_is_err_and}
use Rattle.cell_io.specs.Held.{ahead}
use Rattle.cell_record.specs.EventLine.{said_of, IsCause}
use Rattle.cell_record.specs.Progress.{IsStated}
use Rattle.cell_record.specs.Turned.{line_told}
use Rattle.cell_record.specs.Recording.{refused, makes, refusal_of}
use Rattle.cell_record.specs.Numbered.{place_at, phases}
use Rattle.cell_record.specs.declared.refusal.RecordError.TheVariants.{TooMuch}
use Rattle.cell_record.proofs.Stopping.{leads_there, phase_stops}
use Rattle.cell_record.proofs.Steps.{there, is, much, says, says_nothing, says_much, much_says}
use Rattle.cell_record.proofs.phase_lines.copied_said.Goals as goal

pub returns-in_err-next-clause-fails : goal.returns-in_err-next-clause-fails
returns-in_err-next-clause-fails g c =
    let r = err_from_is_err_and c.from_residual.result c.from_residual.ensures.1 in
    let p = place_at c.args.lines.now in
    rw (r.1, r.2) (record {
      refused = λ s.
          let m = c.in_err-next.ensures.fails.too_much s in
          rw m.told (much (phases c.args.config.now c.args.counts.now) (refused (TooMuch (p.lines + 1))) (ahead c.args.lines.now.held (g.S.Source.left c.args.input.now)) p (omega (arith, c.given-given.ensures.given, c.given-given.ensures.most)) m.octets
          (λ l rest f. much_says c.args.config.now c.args.counts.now p l rest f));
      stops = λ s.
          phase_stops (phases c.args.config.now c.args.counts.now) c.args.lines.now.held (g.S.Source.left c.args.input.now) (g.S.Source.left c.next.new.input) c.next.new.self.held.given c.args.lines.now.lines c.next.ensures.goes.most refl
          (c.in_err-next.ensures.fails.stops s);
    })

pub returns-in-None-clause-says : goal.returns-in-None-clause-says
returns-in-None-clause-says g c =
    let p = place_at c.args.lines.now in
    let next = c.in_ok-next.ensures.line c.if-not-branch.false in
    let e = ap (said_of c.args.config.now) (sym c.content.ensures) ∙ c.in-Ok.ensures.says in
    let none = c.in-None.ensures.refusal ∙ ap (λ (n : ℕ). refusal_of (n + 1) c.count.new.self c.in-Ok.said) c.count-number.ensures.count in
    record {
      line = record {
        says = rw next.count (there (phases c.args.config.now c.args.counts.now) (phases c.args.config.now c.count.new.self) (makes c.in-Ok.said) (ahead c.args.lines.now.held (g.S.Source.left c.args.input.now))
            (ahead c.next.new.self.held (g.S.Source.left c.next.new.input)) c.next.new.self.line p c.next.new.self.held.given c.next.ensures.goes.most next.gives
            (λ l rest k n f. says c.args.config.now c.args.counts.now c.count.new.self p c.next.new.self.line l rest c.in-Ok.said e c.in-None.ensures.counts none k f));
        leads = rw next.count (leads_there (phases c.args.config.now c.args.counts.now) (phases c.args.config.now c.count.new.self) (makes c.in-Ok.said) c.args.lines.now.held c.next.new.self.held
            (g.S.Source.left c.args.input.now) (g.S.Source.left c.next.new.input) c.next.new.self.line p next.unended c.next.ensures.goes.most next.gives next.feed
            (λ l rest k n f. says c.args.config.now c.args.counts.now c.count.new.self p c.next.new.self.line l rest c.in-Ok.said e c.in-None.ensures.counts none k f));
      };
      may = c.in-Ok.ensures.may;
      counts = c.in-None.ensures.counts;
      within = c.in-None.ensures.within;
      grows = next.grows;
    }

pub returns-in-Some-clause-fails : goal.returns-in-Some-clause-fails
returns-in-Some-clause-fails g c =
    let p = place_at c.args.lines.now in
    let next = c.in_ok-next.ensures.line c.if-not-branch.false in
    let e = ap (said_of c.args.config.now) (sym c.content.ensures) ∙ c.in-Ok.ensures.says in
    let there = c.in-Some.ensures.refusal ∙ ap (λ (n : ℕ). refusal_of (n + 1) c.count.new.self c.in-Ok.said) c.count-number.ensures.count in
    record {
      refused = λ _. is (phases c.args.config.now c.args.counts.now) (refused c.in-Some.refusal) (ahead c.args.lines.now.held (g.S.Source.left c.args.input.now))
          (ahead c.next.new.self.held (g.S.Source.left c.next.new.input)) c.next.new.self.line p c.next.new.self.held.given c.next.ensures.goes.most next.gives
          (λ l rest k n f. says_much c.args.config.now c.args.counts.now c.count.new.self p c.next.new.self.line l rest c.in-Ok.said c.in-Some.refusal e c.in-Some.ensures.counts there k f);
      stops = search rules;
    }

pub returns-in-Err-clause-fails : goal.returns-in-Err-clause-fails
returns-in-Err-clause-fails g c =
    let p = place_at c.args.lines.now in
    let next = c.in_ok-next.ensures.line c.if-not-branch.false in
    let told = c.at_line.ensures ∙ ap (λ (n : ℕ). line_told (n + 1) c.in-Err.error) c.count-number.ensures.count in
    record {
      refused = λ s. rw told (is (phases c.args.config.now c.args.counts.now) (refused (line_told (p.lines + 1) c.in-Err.error)) (ahead c.args.lines.now.held (g.S.Source.left c.args.input.now))
          (ahead c.next.new.self.held (g.S.Source.left c.next.new.input)) c.next.new.self.line p c.next.new.self.held.given c.next.ensures.goes.most next.gives
          (λ l rest k n f. says_nothing c.args.config.now c.args.counts.now p c.next.new.self.line l rest c.in-Err.error (subst (λ (x : List ℕ). IsCause (said_of c.args.config.now x) c.in-Err.error) c.content.ensures c.in-Err.ensures.bad) (subst IsStated told s) k f));
      stops = search rules;
    }

use Rattle.std.proofs.Common.{◌+◌, ℕ, ◌∙◌, sym, ap, rules}
use Rattle.cell_io.specs.Held.{ahead}
use Rattle.cell_io.specs.Lines.{first_line}
use Rattle.cell_record.specs.Recording.{refused, makes, refusal_of}
use Rattle.cell_record.specs.Numbered.{place_at, phases}
use Rattle.cell_record.specs.declared.refusal.RecordError.TheVariants.{Bad}
use Rattle.cell_record.proofs.Stopping.{leads_there}
use Rattle.cell_record.proofs.Steps.{there, is, says, says_bad, says_much}
use Rattle.cell_record.proofs.phase_lines.held_said.Goals as goal

pub returns-in-None-clause-says : goal.returns-in-None-clause-says
returns-in-None-clause-says c = λ left.
    let p = place_at c.args.lines.now in
    let line = first_line c.args.lines.now.held.octets in
    let e = c.requires.says c.args.config.now ∙ sym c.in-Ok.ensures.says in
    let none = c.in-None.ensures.refusal ∙ ap (λ (n : ℕ). refusal_of (n + 1) c.count.new.self c.in-Ok.said) c.count-number.ensures.count in
    record {
      line = record {
        says = rw c.pass.ensures.count (there (phases c.args.config.now c.args.counts.now) (phases c.args.config.now c.count.new.self) (makes c.in-Ok.said) (ahead c.args.lines.now.held left)
            (ahead c.pass.new.self.held left) line p c.pass.new.self.held.given c.pass.ensures.most (c.pass.ensures.gives left)
            (λ l rest k n f. says c.args.config.now c.args.counts.now c.count.new.self p line l rest c.in-Ok.said e c.in-None.ensures.counts none k f));
        leads = rw c.pass.ensures.count (leads_there (phases c.args.config.now c.args.counts.now) (phases c.args.config.now c.count.new.self) (makes c.in-Ok.said) c.args.lines.now.held c.pass.new.self.held
            left left line p c.requires.line.unended c.pass.ensures.most (c.pass.ensures.gives left) (λ _. c.pass.ensures.feed left)
            (λ l rest k n f. says c.args.config.now c.args.counts.now c.count.new.self p line l rest c.in-Ok.said e c.in-None.ensures.counts none k f));
      };
      may = c.in-Ok.ensures.may;
      counts = c.in-None.ensures.counts;
      within = c.in-None.ensures.within;
      grows = c.pass.ensures.grows;
    }

pub returns-in-Some-clause-refused : goal.returns-in-Some-clause-refused
returns-in-Some-clause-refused c =
    let p = place_at c.args.lines.now in
    let line = first_line c.args.lines.now.held.octets in
    let e = c.requires.says c.args.config.now ∙ sym c.in-Ok.ensures.says in
    let there = c.in-Some.ensures.refusal ∙ ap (λ (n : ℕ). refusal_of (n + 1) c.count.new.self c.in-Ok.said) c.count-number.ensures.count in
    record {
      stated = search rules;
      refused = λ left. is (phases c.args.config.now c.args.counts.now) (refused c.in-Some.refusal) (ahead c.args.lines.now.held left) (ahead c.pass.new.self.held left) line p c.pass.new.self.held.given c.pass.ensures.most (c.pass.ensures.gives left)
          (λ l rest k n f. says_much c.args.config.now c.args.counts.now c.count.new.self p line l rest c.in-Ok.said c.in-Some.refusal e c.in-Some.ensures.counts there k f);
    }

pub returns-in-Err-clause-refused : goal.returns-in-Err-clause-refused
returns-in-Err-clause-refused c =
    let p = place_at c.args.lines.now in
    let line = first_line c.args.lines.now.held.octets in
    let e = c.requires.says c.args.config.now ∙ sym c.in-Err.ensures.says in
    record {
      stated = search rules;
      refused = λ left. rw c.count-number.ensures.count (is (phases c.args.config.now c.args.counts.now) (refused (Bad (p.lines + 1) c.in-Err.word)) (ahead c.args.lines.now.held left)
          (ahead c.pass.new.self.held left) line p c.pass.new.self.held.given c.pass.ensures.most (c.pass.ensures.gives left)
          (λ l rest k n f. says_bad c.args.config.now c.args.counts.now p line l rest c.in-Err.word e k f));
    }

use Rattle.std.proofs.Common.{◌≡◌, ◌+◌, true, false, refl, sym, Err, arith}
use Rattle.std.proofs.lemmas.Result.{err_from_is_err_and}
use Rattle.cell_io.specs.Held.{ahead}
use Rattle.cell_record.specs.Words.{content}
use Rattle.cell_record.specs.EventLine.{same}
use Rattle.cell_record.specs.Recording.{expected}
use Rattle.cell_record.specs.Numbered.{place_at}
use Rattle.cell_record.specs.declared.refusal.RecordError.TheVariants.{Bad, TooMuch}
use Rattle.cell_record.proofs.Stopping.{leads_there, opening_stops}
use Rattle.cell_record.proofs.Steps.{there, is, much, wanted, unwanted, much_wanted}
use Rattle.cell_record.proofs.opening.expect.Goals as goal

pub returns-in_err-next-clause-fails : goal.returns-in_err-next-clause-fails
returns-in_err-next-clause-fails g c =
    let r = err_from_is_err_and c.from_residual.result c.from_residual.ensures.1 in
    let p = place_at c.args.lines.now in
    rw (r.1, r.2) (λ next. record {
      refused = λ s.
          let m = c.in_err-next.ensures.fails.too_much s in
          rw m.told (much (expected c.args.want.now c.args.word next) (Err (TooMuch (p.lines + 1))) (ahead c.args.lines.now.held (g.S.Source.left c.args.input.now)) p (omega (arith, c.given-given.ensures.given, c.given-given.ensures.most)) m.octets
          (λ l rest f. much_wanted c.args.want.now c.args.word next p l rest f));
      stops = λ s.
          opening_stops (expected c.args.want.now c.args.word next) c.args.lines.now.held (g.S.Source.left c.args.input.now) (g.S.Source.left c.next.new.input) c.next.new.self.held.given c.args.lines.now.lines c.args.word c.next.ensures.goes.most refl
          (c.in_err-next.ensures.fails.stops s);
    })

pub returns-then-is-clause-there : goal.returns-then-is-clause-there
returns-then-is-clause-there g c = λ next.
    let p = place_at c.args.lines.now in
    let line = c.in_ok-next.ensures.line c.if-not-branch.false in
    let e : same (content c.next.new.self.line) c.args.want.now ≡ true = sym c.if-is.ensures in
    record {
      says = rw line.count (there (expected c.args.want.now c.args.word next) next (λ r. r) (ahead c.args.lines.now.held (g.S.Source.left c.args.input.now))
          (ahead c.next.new.self.held (g.S.Source.left c.next.new.input)) c.next.new.self.line p c.next.new.self.held.given c.next.ensures.goes.most line.gives
          (λ l rest k n f. wanted c.args.want.now c.args.word next p c.next.new.self.line l rest c.requires.short e k f));
      leads = rw line.count (leads_there (expected c.args.want.now c.args.word next) next (λ r. r) c.args.lines.now.held c.next.new.self.held (g.S.Source.left c.args.input.now) (g.S.Source.left c.next.new.input)
          c.next.new.self.line p line.unended c.next.ensures.goes.most line.gives line.feed
          (λ l rest k n f. wanted c.args.want.now c.args.word next p c.next.new.self.line l rest c.requires.short e k f));
    }

pub returns-else-is-clause-fails : goal.returns-else-is-clause-fails
returns-else-is-clause-fails g c = λ next.
    let p = place_at c.args.lines.now in
    let line = c.in_ok-next.ensures.line c.if-not-branch.false in
    let e : same (content c.next.new.self.line) c.args.want.now ≡ false = sym c.if-is.ensures in
    record {
      refused = λ _. rw c.count-number.ensures.count (is (expected c.args.want.now c.args.word next) (Err (Bad (p.lines + 1) c.args.word)) (ahead c.args.lines.now.held (g.S.Source.left c.args.input.now))
          (ahead c.next.new.self.held (g.S.Source.left c.next.new.input)) c.next.new.self.line p c.next.new.self.held.given c.next.ensures.goes.most line.gives
          (λ l rest k n f. unwanted c.args.want.now c.args.word next p c.next.new.self.line l rest c.requires.short e k f));
      stops = λ x. cc;
    }

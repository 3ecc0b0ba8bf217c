use Rattle.std.proofs.Common.{◌≡◌, ◌+◌, refl, sym, ap, ◌∙◌, Some, None, Err, arith}
use Rattle.std.proofs.lemmas.Result.{err_from_is_err_and, IfOk-weaker, IfErr-weaker}
use Rattle.cell_io.specs.Held.{ahead}
use Rattle.cell_record.specs.Words.{content}
use Rattle.cell_record.specs.Recording.{header_of, headed}
use Rattle.cell_record.specs.Numbered.{place_at}
use Rattle.cell_record.specs.declared.refusal.BadWord.TheVariants as bad
use Rattle.cell_record.specs.declared.refusal.RecordError.TheVariants.{Bad, TooMuch}
use Rattle.cell_record.proofs.Stopping.{leads_there, opening_stops}
use Rattle.cell_record.proofs.Steps.{there, is, much, is_headed, much_headed}
use Rattle.cell_record.proofs.opening.read_header.Goals as goal

pub returns-in_err-next-clause-fails : goal.returns-in_err-next-clause-fails
returns-in_err-next-clause-fails g c =
    let r = err_from_is_err_and c.from_residual.result c.from_residual.ensures.1 in
    let p = place_at c.args.lines.now in
    rw (r.1, r.2) (λ next. record {
      refused = λ s.
          let m = c.in_err-next.ensures.fails.too_much s in
          rw m.told (much (headed next) (Err (TooMuch (p.lines + 1))) (ahead c.args.lines.now.held (g.S.Source.left c.args.input.now)) p (omega (arith, c.given-given.ensures.given, c.given-given.ensures.most)) m.octets
          (λ l rest f. much_headed next p l rest f));
      stops = λ s.
          opening_stops (headed next) c.args.lines.now.held (g.S.Source.left c.args.input.now) (g.S.Source.left c.next.new.input) c.next.new.self.held.given c.args.lines.now.lines bad.Header c.next.ensures.goes.most refl
          (c.in_err-next.ensures.fails.stops s);
    })

pub returns-clause-there : goal.returns-clause-there
returns-clause-there g c =
    let p = place_at c.args.lines.now in
    let line = c.in_ok-next.ensures.line c.if-not-branch.false in
    IfOk-weaker c.header.result _ _ (λ edition named next.
    let e : header_of (content c.next.new.self.line) ≡ Some edition = ap header_of (sym c.content.ensures) ∙ named in
    record {
      says = rw line.count (there (headed next) (next edition) (λ r. r) (ahead c.args.lines.now.held (g.S.Source.left c.args.input.now))
          (ahead c.next.new.self.held (g.S.Source.left c.next.new.input)) c.next.new.self.line p c.next.new.self.held.given c.next.ensures.goes.most line.gives
          (λ l rest k n f. is_headed next p c.next.new.self.line l rest (Some edition) e k f));
      leads = rw line.count (leads_there (headed next) (next edition) (λ r. r) c.args.lines.now.held c.next.new.self.held (g.S.Source.left c.args.input.now) (g.S.Source.left c.next.new.input)
          c.next.new.self.line p line.unended c.next.ensures.goes.most line.gives line.feed
          (λ l rest k n f. is_headed next p c.next.new.self.line l rest (Some edition) e k f));
    }) c.header.ensures.named

pub returns-clause-fails : goal.returns-clause-fails
returns-clause-fails g c =
    let p = place_at c.args.lines.now in
    let line = c.in_ok-next.ensures.line c.if-not-branch.false in
    IfErr-weaker c.header.result _ _ (λ x unnamed next.
    let e : header_of (content c.next.new.self.line) ≡ None = ap header_of (sym c.content.ensures) ∙ unnamed.0 in
    record {
      refused = λ s. rw (unnamed.1, c.count-line.ensures.count) (is (headed next) (Err (Bad (p.lines + 1) bad.Header)) (ahead c.args.lines.now.held (g.S.Source.left c.args.input.now))
          (ahead c.next.new.self.held (g.S.Source.left c.next.new.input)) c.next.new.self.line p c.next.new.self.held.given c.next.ensures.goes.most line.gives
          (λ l rest k n f. is_headed next p c.next.new.self.line l rest None e k f));
      stops = λ s. let is = unnamed.1 in cc (s, is);
    }) c.header.ensures.unnamed

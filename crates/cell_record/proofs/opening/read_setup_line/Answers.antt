use Rattle.std.proofs.Common.{◌≡◌, ◌+◌, ◌-◌, ◌++◌, true, false, ℕ, List, refl, sym, ◌∙◌, ap, Err, codes, arith, length, Some, None}
use Rattle.std.proofs.lemmas.Result.{err_from_is_err_and}
use Rattle.cell_io.specs.Held.{ahead}
use Rattle.cell_record.specs.EventLine.{same}
use Rattle.cell_record.specs.Words.{content}
use Rattle.cell_record.specs.Recording.{in_text, setup_word, size_by, configured}
use Rattle.cell_record.specs.Numbered.{place_at, setup}
use Rattle.cell_record.specs.declared.refusal.RecordError.TheVariants.{Bad, TooMuch}
use Rattle.cell_record.specs.declared.refusal.BadWord.TheVariants as bad
use Rattle.cell_record.proofs.Stopping.{leads_there, opening_stops}
use Rattle.cell_record.proofs.Steps.{there, is, much, at_end, not_end, bad_setup, much_setup}
use Rattle.cell_record.proofs.opening.read_setup_line.Goals as goal

pub returns-in_err-next-clause-fails : goal.returns-in_err-next-clause-fails
returns-in_err-next-clause-fails g c =
    let r = err_from_is_err_and c.from_residual.result c.from_residual.ensures.1 in
    let p = place_at c.args.lines.now in
    rw (r.1, r.2) (λ edition. record {
      refused = λ s.
          let m = c.in_err-next.ensures.fails.too_much s in
          rw m.told (much (setup edition c.args.text.now.items) (Err (TooMuch (p.lines + 1))) (ahead c.args.lines.now.held (g.S.Source.left c.args.input.now)) p (omega (arith, c.given-before.ensures.given, c.given-before.ensures.most)) m.octets
          (λ l rest f. much_setup edition c.args.text.now.items p l rest f));
      stops = λ s.
          opening_stops (setup edition c.args.text.now.items) c.args.lines.now.held (g.S.Source.left c.args.input.now) (g.S.Source.left c.next.new.input) c.next.new.self.held.given c.args.lines.now.lines bad.Config c.next.ensures.goes.most refl
          (c.in_err-next.ensures.fails.stops s);
    })

pub returns-then-is-clause-end : goal.returns-then-is-clause-end
returns-then-is-clause-end g c = λ _ edition.
    let p = place_at c.args.lines.now in
    let next = c.in_ok-next.ensures.line c.if-not-branch.false in
    let e : same (content c.next.new.self.line) (codes "end") ≡ true = sym c.if-is.ensures in
    record {
      says = rw next.count (there (setup edition c.args.text.now.items) (configured edition c.args.text.now.items) (λ r. r) (ahead c.args.lines.now.held (g.S.Source.left c.args.input.now))
          (ahead c.next.new.self.held (g.S.Source.left c.next.new.input)) c.next.new.self.line p c.next.new.self.held.given c.next.ensures.goes.most next.gives
          (λ l rest k n f. at_end edition c.args.text.now.items p c.next.new.self.line l rest e k f));
      leads = rw next.count (leads_there (setup edition c.args.text.now.items) (configured edition c.args.text.now.items) (λ r. r) c.args.lines.now.held c.next.new.self.held (g.S.Source.left c.args.input.now) (g.S.Source.left c.next.new.input)
          c.next.new.self.line p next.unended c.next.ensures.goes.most next.gives next.feed
          (λ l rest k n f. at_end edition c.args.text.now.items p c.next.new.self.line l rest e k f));
    }

pub returns-in-Some-clause-fails : goal.returns-in-Some-clause-fails
returns-in-Some-clause-fails g c = λ edition.
    let p = place_at c.args.lines.now in
    let next = c.in_ok-next.ensures.line c.if-not-branch.false in
    let text = c.args.text.now.items in
    let line = c.next.new.self.line in
    let e : same (content line) (codes "end") ≡ false = sym c.if-is.ensures in
    let whole = c.given.result - c.given-before.result in
    let len : c.len.result ≡ length text = omega (arith, c.len.ensures, c.args.text.now.ok) in
    let size : c.size_in_text.result ≡ size_by whole line = c.size_in_text.ensures.size ∙ ap (size_by whole) c.line.ensures in
    let word : Some c.in-Some.word ≡ setup_word (length text + size_by whole line) line = c.in-Some.ensures ∙ ap (λ (n : ℕ). setup_word (n + c.size_in_text.result) c.line-2.result.now) len ∙ ap (λ (n : ℕ). setup_word (length text + n) c.line-2.result.now) size ∙ ap (setup_word (length text + size_by whole line)) c.line-2.ensures in
    record {
      refused = λ _. rw c.count-number.ensures.count (is (setup edition text) (Err (Bad (p.lines + 1) c.in-Some.word)) (ahead c.args.lines.now.held (g.S.Source.left c.args.input.now))
          (ahead c.next.new.self.held (g.S.Source.left c.next.new.input)) line p c.next.new.self.held.given c.next.ensures.goes.most next.gives
          (λ l rest k n f. bad_setup edition text whole p c.next.new.self.held.given line l rest c.in-Some.word e word (omega (arith, c.given.ensures.given, c.given-before.ensures.given)) k n f));
      stops = λ x. cc;
    }

pub returns-clause-more : goal.returns-clause-more
returns-clause-more g c = λ _ edition.
    let p = place_at c.args.lines.now in
    let next = c.in_ok-next.ensures.line c.if-not-branch.false in
    let text = c.args.text.now.items in
    let line = c.next.new.self.line in
    let e : same (content line) (codes "end") ≡ false = sym c.if-is.ensures in
    let whole = c.given.result - c.given-before.result in
    let len : c.len.result ≡ length text = omega (arith, c.len.ensures, c.args.text.now.ok) in
    let size : c.size_in_text.result ≡ size_by whole line = c.size_in_text.ensures.size ∙ ap (size_by whole) c.line.ensures in
    let none : None ≡ setup_word (length text + size_by whole line) line = c.in-None.ensures ∙ ap (λ (n : ℕ). setup_word (n + c.size_in_text.result) c.line-2.result.now) len ∙ ap (λ (n : ℕ). setup_word (length text + n) c.line-2.result.now) size ∙ ap (setup_word (length text + size_by whole line)) c.line-2.ensures in
    let added : c.add_line.new.text.items ≡ text ++ in_text line = c.in_ok-add_line.ensures.text ∙ ap (λ (x : List ℕ). text ++ in_text x) c.line-3.ensures in
    record {
      says = rw (next.count, added) (there (setup edition text) (setup edition (text ++ in_text line)) (λ r. r) (ahead c.args.lines.now.held (g.S.Source.left c.args.input.now))
          (ahead c.next.new.self.held (g.S.Source.left c.next.new.input)) line p c.next.new.self.held.given c.next.ensures.goes.most next.gives
          (λ l rest k n f. not_end edition text whole p c.next.new.self.held.given line l rest e none (omega (arith, c.given.ensures.given, c.given-before.ensures.given)) k n f));
      leads = rw (next.count, added) (leads_there (setup edition text) (setup edition (text ++ in_text line)) (λ r. r) c.args.lines.now.held c.next.new.self.held (g.S.Source.left c.args.input.now) (g.S.Source.left c.next.new.input)
          line p next.unended c.next.ensures.goes.most next.gives next.feed
          (λ l rest k n f. not_end edition text whole p c.next.new.self.held.given line l rest e none (omega (arith, c.given.ensures.given, c.given-before.ensures.given)) k n f));
    }

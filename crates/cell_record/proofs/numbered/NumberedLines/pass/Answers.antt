use Rattle.std.proofs.Common.{◌≡◌, ap, ◌∙◌, drop, ◌+◌}
use Rattle.cell_io.specs.Held.{Held}
use Rattle.cell_record.specs.Numbered.{Numbered}
use Rattle.cell_record.proofs.Plain.{passed_gives, passed_feed}
use Rattle.cell_record.proofs.numbered.NumberedLines.pass.Goals as goal

pub returns-clause-gives : goal.returns-clause-gives
returns-clause-gives c = λ left.
    let same : c.self.inside.lines ≡ c.args.self.now.held = ap (λ (n : Numbered). n.held) c.self.view_is in
    passed_gives c.args.self.now.held c.pass.new.self c.args.size left c.requires.unended (c.pass.ensures.ended ∙ ap (λ (h : Held). h.ended) same) (c.pass.ensures.octets ∙ ap (λ (h : Held). drop c.args.size h.octets) same)
    (c.pass.ensures.given ∙ ap (λ (h : Held). h.given + c.args.size) same) c.requires.line.feed c.requires.line.line c.requires.line.rest c.requires.line.some c.requires.line.held c.requires.line.short

pub returns-clause-feed : goal.returns-clause-feed
returns-clause-feed c = λ left. passed_feed c.args.self.now.held left c.requires.unended c.requires.line.feed

use Rattle.std.proofs.Common.{rules, arith, ◌∙◌}
use Rattle.cell_io.proofs.Digits.{digit_and_blank, two_and_blank, last_and_blank, front_kept}
use Rattle.cell_io.proofs.Prefixes.{on_err}
use Rattle.cell_io.proofs.text.Text.put_number_before_blank.Goals as goal

pub returns-then-n-lt10 : goal.returns-then-n-lt10
returns-then-n-lt10 c = rw (digit_and_blank c.args.self.now c.args.n c.if-n-lt10.true) (search rules)

pub returns-then-n-lt100 : goal.returns-then-n-lt100
returns-then-n-lt100 c = rw (two_and_blank c.args.self.now c.args.n (omega (arith, c.if-n-lt10.false)) c.if-n-lt100.true) (search rules)

pub returns : goal.returns
returns c = rw (last_and_blank c.args.self.now c.args.n (omega (arith, c.if-n-lt10.false)) (omega (arith, c.ranges.n))) (search rules)

pub returns-in_err-self-inside-clause-err : goal.returns-in_err-self-inside-clause-err
returns-in_err-self-inside-clause-err c =
    on_err c.from_residual-in_err-self-inside.result
    (front_kept c.self.inside.buffer.items c.put_spelled.new.buffer.items c.put_octets.new.buffer.items _ c.self.inside.end c.in_ok-end.end c.self.invariant c.in_ok-end.ensures.order c.in_err-self-inside.ensures.kept c.in_ok-end.ensures.text
    ∙ c.self.view_is)

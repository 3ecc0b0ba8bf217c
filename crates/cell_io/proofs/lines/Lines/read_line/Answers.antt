use Rattle.std.proofs.Common.{arith, ap, length, ◌∙◌}
use Rattle.std.proofs.lemmas.Result.{err_from_is_err_and}
use Rattle.std.proofs.lemmas.Bool.Decides.{nat_tests}
use Rattle.cell_io.proofs.Kept.{kept_length}
use Rattle.cell_io.proofs.Texts.{first_all}
use Rattle.cell_io.proofs.Reading.{goes_on, gives_ended, had_ended, gives_open, had_open, had_none, held_end, stops_at_part, stops_at_read, later_kept, later_held, goes_unended, goes_ended}
use Rattle.cell_io.proofs.lines.Lines.read_line.Goals as goal

pub give_part-requires : goal.give_part-requires
give_part-requires g c = kept_length 196612 _ _ c.loop-turn.invariant.passed.kept

-- ---- what is held of the line isn't given

pub returns-in_err-give_part-clause-stops : goal.returns-in_err-give_part-clause-stops
returns-in_err-give_part-clause-stops g c =
    let i = c.loop-turn.invariant in
    let r = err_from_is_err_and c.from_residual.result c.from_residual.ensures.1 in
    rw (r.1, r.2) (stops_at_part c.in_err-give_part.field-0.0 c.args.self.now c.loop-turn.self c.give_part.new.self (g.S.Source.left c.args.input.now) (g.S.Source.left c.loop-turn.input) _ c.requires.unended i.unended i.passed
    c.in_err-give_part.ensures.stops)

pub returns-in_err-give_part-clause-goes : goal.returns-in_err-give_part-clause-goes
returns-in_err-give_part-clause-goes g c =
    let i = c.loop-turn.invariant in
    goes_unended _ c.give_part.new.self _ _ (omega (arith, i.order, c.give_part.ensures.order)) c.give_part.ensures.most (c.give_part.ensures.same ∙ i.unended) i.left

pub returns-in_err-give_part-clause-faults : goal.returns-in_err-give_part-clause-faults
returns-in_err-give_part-clause-faults g c =
    let r = err_from_is_err_and c.from_residual.result c.from_residual.ensures.1 in
    rw (r.1, r.2) (record {
      steady = λ _. c.loop-turn.invariant.faults;
      fault = λ e. absurd (c.in_err-give_part.ensures.stops.cause e);
    })

-- ---- the line ends in what is held

pub returns-then-branch-clause-line : goal.returns-then-branch-clause-line
returns-then-branch-clause-line g c =
    let i = c.loop-turn.invariant in
    gives_ended c.args.self.now c.loop-turn.self c.give_part.new.self (g.S.Source.left c.args.input.now) (g.S.Source.left c.loop-turn.input) _ _ c.requires.unended (c.give_part.ensures.same ∙ i.unended) i.passed
    (c.in_ok-give_part.ensures.ended ∙ c.if-branch.true) c.in_ok-give_part.ensures.part

pub returns-then-branch-clause-there : goal.returns-then-branch-clause-there
returns-then-branch-clause-there g c = λ _.
    let i = c.loop-turn.invariant in
    had_ended c.args.self.now c.loop-turn.self c.give_part.new.self (g.S.Source.left c.args.input.now) (g.S.Source.left c.loop-turn.input) _ _ c.requires.unended i.order i.passed
    (c.in_ok-give_part.ensures.ended ∙ c.if-branch.true) c.in_ok-give_part.ensures.part

pub returns-then-branch-clause-goes : goal.returns-then-branch-clause-goes
returns-then-branch-clause-goes g c =
    let i = c.loop-turn.invariant in
    goes_unended _ c.give_part.new.self _ _ (omega (arith, i.order, c.give_part.ensures.order)) c.give_part.ensures.most (c.give_part.ensures.same ∙ i.unended) i.left

-- ---- the source fails

pub returns-in_err-fill-clause-stops : goal.returns-in_err-fill-clause-stops
returns-in_err-fill-clause-stops g c =
    let i = c.loop-turn.invariant in
    let r = err_from_is_err_and c.from_residual-in_err-fill.result c.from_residual-in_err-fill.ensures.1 in
    let fails = c.in_err-fill.ensures.fails in
    let p = goes_on _ _ _ _ _ _ c.fill.new.self.given _ _ i.passed (c.in_ok-give_part.ensures.ended ∙ c.if-branch.false) c.in_ok-give_part.ensures.part c.fill.ensures.given fails.kept in
    rw (r.1, r.2) (stops_at_read c.args.self.now c.give_part.new.self c.fill.new.self (g.S.Source.left c.args.input.now) (g.S.Source.left c.loop-turn.input) (g.S.Source.left c.fill.new.input) _ c.requires.unended
    (c.give_part.ensures.same ∙ i.unended) p fails)

pub returns-in_err-fill-clause-goes : goal.returns-in_err-fill-clause-goes
returns-in_err-fill-clause-goes g c =
    let i = c.loop-turn.invariant in
    let fails = c.in_err-fill.ensures.fails in
    goes_unended _ c.fill.new.self _ _ (omega (arith, i.order, c.give_part.ensures.order, c.fill.ensures.given)) (omega (arith, c.give_part.ensures.most, c.fill.ensures.given)) (fails.same ∙ c.give_part.ensures.same ∙ i.unended)
    (later_kept _ _ _ i.left fails.kept)

-- ---- the line ends with the input

pub returns-then-not-branch-clause-line : goal.returns-then-not-branch-clause-line
returns-then-not-branch-clause-line g c =
    let none = c.in_ok-fill.ensures.none c.if-not-branch.true in
    gives_open c.args.self.now c.fill.new.self (g.S.Source.left c.args.input.now) (g.S.Source.left c.fill.new.input) _ _ c.requires.unended none.ended
    (goes_on _ _ _ _ _ _ c.fill.new.self.given _ _ c.loop-turn.invariant.passed (c.in_ok-give_part.ensures.ended ∙ c.if-branch.false) c.in_ok-give_part.ensures.part c.fill.ensures.given c.in_ok-fill.ensures.moved)
    (held_end _ _ none.none none.at_end)

pub returns-then-not-branch-clause-there : goal.returns-then-not-branch-clause-there
returns-then-not-branch-clause-there g c = λ e.
    let none = c.in_ok-fill.ensures.none c.if-not-branch.true in
    had_open c.args.self.now c.fill.new.self (g.S.Source.left c.args.input.now) _ _ c.requires.unended none.ended
    (goes_on _ _ _ _ _ _ c.fill.new.self.given _ _ c.loop-turn.invariant.passed (c.in_ok-give_part.ensures.ended ∙ c.if-branch.false) c.in_ok-give_part.ensures.part c.fill.ensures.given c.in_ok-fill.ensures.moved)
    (grind (arith, nat_tests, e, c.loop-turn.invariant.before, c.given.ensures.given))

pub returns-then-not-branch-clause-none : goal.returns-then-not-branch-clause-none
returns-then-not-branch-clause-none g c = λ e.
    let none = c.in_ok-fill.ensures.none c.if-not-branch.true in
    had_none c.args.self.now c.fill.new.self (g.S.Source.left c.args.input.now) _ _ c.requires.unended none.ended
    (goes_on _ _ _ _ _ _ c.fill.new.self.given _ _ c.loop-turn.invariant.passed (c.in_ok-give_part.ensures.ended ∙ c.if-branch.false) c.in_ok-give_part.ensures.part c.fill.ensures.given c.in_ok-fill.ensures.moved)
    (held_end _ _ none.none none.at_end)
    (λ more. grind (arith, nat_tests, e, more, c.loop-turn.invariant.before, c.given.ensures.given))

pub returns-then-not-branch-clause-goes : goal.returns-then-not-branch-clause-goes
returns-then-not-branch-clause-goes g c =
    let i = c.loop-turn.invariant in
    goes_ended _ c.fill.new.self _ _ (omega (arith, i.order, c.give_part.ensures.order, c.fill.ensures.given)) (omega (arith, c.give_part.ensures.most, c.fill.ensures.given)) (c.in_ok-fill.ensures.none c.if-not-branch.true).at_end
    (later_held _ _ _ _ i.left c.in_ok-fill.ensures.moved)

-- ---- the line goes on

pub loop-turn-preserved : goal.loop-turn-preserved
loop-turn-preserved g c =
    let i = c.loop-turn.invariant in
    let no_feed = c.in_ok-give_part.ensures.ended ∙ c.if-branch.false in
    let some = c.in_ok-fill.ensures.some c.if-not-branch.false in
    record {
      passed = goes_on _ _ _ _ _ _ c.fill.new.self.given _ _ i.passed no_feed c.in_ok-give_part.ensures.part c.fill.ensures.given c.in_ok-fill.ensures.moved;
      unended = some.unended;
      before = i.before;
      turns = omega (arith, some.some, i.turns, c.fill.ensures.given, c.in_ok-give_part.ensures.part.size, ap length (first_all c.loop-turn.self.octets no_feed));
      order = omega (arith, i.order, c.give_part.ensures.order, c.fill.ensures.given);
      most = omega (arith, c.give_part.ensures.most, c.fill.ensures.given);
      left = later_held _ _ _ _ i.left c.in_ok-fill.ensures.moved;
      faults = c.in_ok-fill.ensures.cause.steady ∙ i.faults;
    }

use Rattle.std.proofs.Common.{◌≡◌, ◌≢◌, ◌∙◌, ◌-◌, None, Option, Some, ap, arith, drop, filter_map, slice_get, subst, suc, sym}
use Rattle.mms_types.specs.declared.condition.Turned.{Turned}
use Rattle.mms_types.specs.declared.key.Key.{Key}
use Rattle.event_cond.specs.Skips.{IsInOrder, first_turn, with_turn}
use Rattle.event_cond.specs.declared.condition.Condition.{Condition}
use Rattle.event_cond.proofs.Orders.{ordered}
use Rattle.event_cond.proofs.Passing.{on_err, some_turn, turns_more}
use Rattle.event_cond.proofs.conditions.Conditions.first_turns.Goals as goal

pub put_turn-requires : goal.put_turn-requires
put_turn-requires g c =
    let cells = g.C.Cells.says c.args.cells.now in
    subst IsInOrder (sym c.loop-left.invariant.turns) (ordered (filter_map (first_turn c.args.until cells) (drop c.loop-left.left c.args.self.now)))

pub loop-left-preserved-in-Continue-branch-3 : goal.loop-left-preserved-in-Continue-branch-3
loop-left-preserved-in-Continue-branch-3 g c =
    let cells = g.C.Cells.says c.args.cells.now in
    let left = c.loop-left.left in
    let row : Key × Condition = (c.in-Some.key.now, c.in-Some.kept.now) in
    let at : slice_get c.args.self.now (left - 1) ≡ Some row = ap (λ rs. slice_get rs (left - 1)) (sym c.self.view_is) ∙ c.in-Some.ensures.row in
    let next : suc (left - 1) ≡ left = omega (arith, c.loop-left-test.true) in
    let told : Some c.in-Some-2.turn ≡ first_turn c.args.until cells row = sym c.in-Some-2.is ∙ c.in_ok-turn.ensures.told in
    let within = c.loop-left.invariant.within in
    record {
      within = omega (arith, within);
      turns = c.in_ok-put_turn.ensures ∙ ap (with_turn c.in-Some-2.turn) c.loop-left.invariant.turns
          ∙ sym (turns_more c.args.until cells c.args.self.now left (left - 1) row next at (Some c.in-Some-2.turn) told);
    }

pub loop-left-preserved : goal.loop-left-preserved
loop-left-preserved g c =
    let cells = g.C.Cells.says c.args.cells.now in
    let left = c.loop-left.left in
    let row : Key × Condition = (c.in-Some.key.now, c.in-Some.kept.now) in
    let at : slice_get c.args.self.now (left - 1) ≡ Some row = ap (λ rs. slice_get rs (left - 1)) (sym c.self.view_is) ∙ c.in-Some.ensures.row in
    let next : suc (left - 1) ≡ left = omega (arith, c.loop-left-test.true) in
    let nothing : Option Turned = None in
    let none : nothing ≡ first_turn c.args.until cells row = sym c.in_default-2.is ∙ c.in_ok-turn.ensures.told in
    let within = c.loop-left.invariant.within in
    record {
      within = omega (arith, within);
      turns = c.loop-left.invariant.turns ∙ sym (turns_more c.args.until cells c.args.self.now left (left - 1) row next at None none);
    }

pub returns-in_err-turn-clause-wants : goal.returns-in_err-turn-clause-wants
returns-in_err-turn-clause-wants g c =
    let cells = g.C.Cells.says c.args.cells.now in
    let left = c.loop-left.left in
    let row : Key × Condition = (c.in-Some.key.now, c.in-Some.kept.now) in
    let at : slice_get c.args.self.now (left - 1) ≡ Some row = ap (λ rs. slice_get rs (left - 1)) (sym c.self.view_is) ∙ c.in-Some.ensures.row in
    on_err c.from_residual.result (some_turn c.args.until cells c.args.self.now (left - 1) row at c.in_err-turn.ensures.wants)

pub returns-in_err-put_turn-clause-wants : goal.returns-in_err-put_turn-clause-wants
returns-in_err-put_turn-clause-wants g c =
    let cells = g.C.Cells.says c.args.cells.now in
    let left = c.loop-left.left in
    let row : Key × Condition = (c.in-Some.key.now, c.in-Some.kept.now) in
    let at : slice_get c.args.self.now (left - 1) ≡ Some row = ap (λ rs. slice_get rs (left - 1)) (sym c.self.view_is) ∙ c.in-Some.ensures.row in
    let told : Some c.in-Some-2.turn ≡ first_turn c.args.until cells row = sym c.in-Some-2.is ∙ c.in_ok-turn.ensures.told in
    let some : first_turn c.args.until cells row ≢ None = λ none. absurd (cc (told ∙ none)) in
    on_err c.from_residual-in_err-put_turn.result (some_turn c.args.until cells c.args.self.now (left - 1) row at some)

use Rattle.std.proofs.Common.{◌≡◌, ◌∙◌, IfOk, List, length, rules, subst}
use Rattle.event_ticks.specs.declared.ticks.TurnTold.{TurnTold}
use Rattle.event_ticks.proofs.Ticked.{nothing_is, told_is}
use Rattle.event_ticks.proofs.ticking.tick_told.Goals as goal

pub returns-then-is_empty-clause-told : goal.returns-then-is_empty-clause-told
returns-then-is_empty-clause-told g c =
    let cells = g.C.Cells.says c.args.cells.now in
    let turns = c.in_ok-turns.turns.items in
    let test = c.is_empty.ensures in
    let yes = c.if-is_empty.true in
    let none : length turns ≡ 0 = search rules in
    c.new.ensures.items
    ∙ nothing_is cells c.args.until c.args.conditions.now c.args.enrolments.now c.args.losses.now c.len-distinct.ensures.distinct c.each_condition_is_sound.ensures
    turns c.in_ok-turns.ensures.told none

pub returns-clause-told : goal.returns-clause-told
returns-clause-told g c =
    let cells = g.C.Cells.says c.args.cells.now in
    subst (λ (l : List TurnTold). IfOk c.all_told.result (λ told. told.items ≡ l))
    (told_is cells c.args.until c.args.conditions.now c.args.enrolments.now c.args.losses.now c.len-distinct.ensures.distinct c.each_condition_is_sound.ensures
    c.in_ok-turns.turns.items c.in_ok-turns.ensures.told)
    c.all_told.ensures

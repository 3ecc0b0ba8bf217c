use Rattle.std.proofs.Common.{◌∙◌, ap, length}
use Rattle.call_tests.proofs.Asked.{asked_next}
use Rattle.call_tests.proofs.waiting.ask_for.Goals as goal

pub returns-clause-tokens : goal.returns-clause-tokens
returns-clause-tokens c =
    let next = asked_next c.take.result c.args.pool.now c.take.new.self _ _ c.take.ensures.state c.take.ensures.memory in
    ap (λ l. length l) next.0 ∙ c.requires.tokens

pub returns-clause-made : goal.returns-clause-made
returns-clause-made c =
    let next = asked_next c.take.result c.args.pool.now c.take.new.self _ _ c.take.ensures.state c.take.ensures.memory in
    next.1

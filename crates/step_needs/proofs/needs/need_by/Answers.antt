use Rattle.std.proofs.Common.{sym, ◌∙◌}
use Rattle.step_parts.proofs.Needed.{need_by_test, words_by_test}
use Rattle.step_needs.proofs.needs.need_by.Goals as goal

pub need_more-requires-clause-words : goal.need_more-requires-clause-words
need_more-requires-clause-words c =
    words_by_test c.args.held.now c.args.event.now c.clients_of-clients.result c.footprint.result c.missing-missing.result c.footprint.ensures
    c.missing-missing.ensures (sym c.is_empty.ensures ∙ c.if-is_empty.true)

pub returns-else-is_empty : goal.returns-else-is_empty
returns-else-is_empty c =
    need_by_test c.args.held.now c.args.event.now c.clients_of-clients.result c.footprint.result c.missing-missing.result c.clients_of-clients.ensures
    c.footprint.ensures c.missing-missing.ensures (sym c.is_empty.ensures ∙ c.if-is_empty.false)

use Rattle.cell_laws.proofs.Sent.{is_drained, is_emptied, is_sent}
use Rattle.cell_laws.proofs.laws.what_is_sent_is_in_the_outbox.Goals as goal

pub returns-clause-sent : goal.returns-clause-sent
returns-clause-sent c = is_sent

pub returns-clause-taken : goal.returns-clause-taken
returns-clause-taken c = is_emptied

pub returns-clause-history : goal.returns-clause-history
returns-clause-history c = is_drained

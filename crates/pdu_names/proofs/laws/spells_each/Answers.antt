use Rattle.pdu_names.proofs.laws.spells_each.Goals as goal
use Rattle.pdu_names.proofs.KindLaws.{spells}

pub returns-clause-one : goal.returns-clause-one
returns-clause-one g c edition = spells g.F.Formed.kind edition (g.met.F.Formed.sound edition)

pub returns-clause-told : goal.returns-clause-told
returns-clause-told g c x = g.F.Formed.kind.again x

pub returns-clause-alike : goal.returns-clause-alike
returns-clause-alike g c edition x = (g.F.Formed.kind.alike edition).1 (g.F.Formed.kind.value x)

use Rattle.cell_io.proofs.Texts.{lines_joined, lines_first, first-after}
use Rattle.cell_io.proofs.laws.lines_are_the_text.Goals as goal

pub returns-clause-joined : goal.returns-clause-joined
returns-clause-joined c = lines_joined

pub returns-clause-first : goal.returns-clause-first
returns-clause-first c = lines_first

pub returns-clause-parted : goal.returns-clause-parted
returns-clause-parted c = first-after

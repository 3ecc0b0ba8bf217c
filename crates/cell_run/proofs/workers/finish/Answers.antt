use Rattle.std.proofs.Common.{Some}
use Rattle.cell_run.proofs.Phases.{longer_part}
use Rattle.cell_run.specs.Ahead.{text_told}
use Rattle.cell_run.specs.Outcome.{last_line}
use Rattle.cell_run.proofs.workers.finish.Goals as goal

pub returns-in-Some-clause-partly : goal.returns-in-Some-clause-partly
returns-in-Some-clause-partly g c =
    rw c.in-Some.is (longer_part _ _ _ (text_told c.args.told.now) (last_line (Some c.in-Some.refusal)) c.in-Ok.ensures.written.whole c.refuse.ensures.partly)

use Rattle.cell_client.specs.Meant.{meant}
use Rattle.cell_services.proofs.PlanLaws.{heard_plainly}
use Rattle.cell_services.proofs.hearing.hear.Goals as goal

pub returns-clause-done : goal.returns-clause-done
returns-clause-done c =
    heard_plainly c.in_ok-_none._none c.args.own.now.row c.hear.new.self (meant c.args.found.now) c.requires.alone c.in_ok-_none.ensures.done c.in_ok-_none.ensures.exact

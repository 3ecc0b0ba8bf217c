use Rattle.cell_services.proofs.TimeLaws.{client_lost}
use Rattle.cell_services.proofs.tables.Tables.lose.Goals as goal

pub returns-clause-done : goal.returns-clause-done
returns-clause-done c =
    client_lost c.args.client _ c.args.self.now c.self.view_is c.moment-now.result c.moment-now.ensures.moment _ c.lose-2.ensures _ c.lose-3.ensures _ c.lose-4.ensures _ c.lose-5.ensures _
    c.in_ok-_grants.ensures.lost

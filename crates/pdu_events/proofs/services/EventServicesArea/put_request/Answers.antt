use Rattle.std.specs.Prelude.{◌≡◌}
use Rattle.pdu_events.proofs.Own.{own_put}
use Rattle.pdu_events.proofs.services.EventServicesArea.put_request.Goals as goal

pub returns-in-ReportJournalStatus-clause-ok : goal.returns-in-ReportJournalStatus-clause-ok
returns-in-ReportJournalStatus-clause-ok c =
    rw c.in-ReportJournalStatus.is (own_put c.own-in-ReportJournalStatus.result c.put_part-in-ReportJournalStatus.result _ c.own-in-ReportJournalStatus.ensures.same c.put_part-in-ReportJournalStatus.ensures.ok)

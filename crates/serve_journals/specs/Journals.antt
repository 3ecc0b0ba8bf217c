-- Requests for journals (ISO 9506-1, journal management): the services on the table of journals.
use Rattle.std.specs.Prelude.{ℕ, List, [], ◌∷◌, Option, None}
use Rattle.std.specs.Option.{option_map}
use Rattle.mms_types.specs.declared.area.JournalRequest.{JournalRequest}
use Rattle.mms_types.specs.declared.area.JournalRequest.TheVariants as request
use Rattle.mms_types.specs.declared.journal.InitializeJournal.{InitializeJournal}
use Rattle.mms_types.specs.declared.journal.ReadJournal.{ReadJournal}
use Rattle.mms_types.specs.declared.journal.WriteJournal.{WriteJournal}
use Rattle.mms_types.specs.declared.object_name.ObjectName.{ObjectName}
use Rattle.mms_types.specs.declared.pdu.Answer.TheVariants as answer
use Rattle.mms_journal.specs.Journals.{Rows}
use Rattle.mms_journal.specs.Services as journal
use Rattle.cell_client.specs.Areas.{RequestIn, answers, changes, domain_in, is_of_domain}
use Rattle.cell_client.specs.Facts.{Live}

-- Each asks the domains where the name of one is written. Times are those of the clients, so none asks the moment.

-- ReadJournal
abbrev pub read : ReadJournal → RequestIn Rows
read x = record {
  words = Live (is_of_domain x.name) None ∷ [];
  more = λ rows row. [];
  cause = λ facts rows row. journal.missing_cause row.client x.name rows;
  effect = λ facts rows row invoke. answers rows (option_map answer.ReadJournal (journal.read_answer row.client x rows));
}

-- WriteJournal
abbrev pub write : WriteJournal → RequestIn Rows
write x = record {
  words = Live (is_of_domain x.name) None ∷ [];
  more = λ rows row. [];
  cause = λ facts rows row. journal.write_cause row.client x.name x.entries rows;
  effect = λ facts rows row invoke. changes (journal.after_write row.client x.name x.entries rows) answer.WriteJournal;
}

-- InitializeJournal: it is told how many entries go
abbrev pub initialize : InitializeJournal → RequestIn Rows
initialize x = record {
  words = Live (is_of_domain x.name) None ∷ [];
  more = λ rows row. [];
  cause = λ facts rows row. journal.missing_cause row.client x.name rows;
  effect = λ facts rows row invoke. record {
    tables = journal.after_initialize row.client x rows;
    answer = option_map answer.InitializeJournal (journal.removed row.client x rows);
    also = [];
  };
}

-- ReportJournalStatus
abbrev pub report_status : ObjectName → RequestIn Rows
report_status name = record {
  words = Live (is_of_domain name) None ∷ [];
  more = λ rows row. [];
  cause = λ facts rows row. journal.missing_cause row.client name rows;
  effect = λ facts rows row invoke. answers rows (option_map answer.ReportJournalStatus (journal.status row.client name rows));
}

-- CreateJournal
abbrev pub create : ObjectName → RequestIn Rows
create name = record {
  words = Live (is_of_domain name) (domain_in name) ∷ [];
  more = λ rows row. [];
  cause = λ facts rows row. journal.create_cause facts.live row.client name rows;
  effect = λ facts rows row invoke. changes (journal.after_create row.client name rows) answer.CreateJournal;
}

-- DeleteJournal
abbrev pub delete : ObjectName → RequestIn Rows
delete name = record {
  words = Live (is_of_domain name) None ∷ [];
  more = λ rows row. [];
  cause = λ facts rows row. journal.missing_cause row.client name rows;
  effect = λ facts rows row invoke. changes (journal.after_delete row.client name rows) answer.DeleteJournal;
}

-- the domain that has to be live, where one has to: that of a new name
abbrev pub domain_asked : JournalRequest → Option (List ℕ)
domain_asked (request.CreateJournal x) = domain_in x.now
domain_asked (request.ReadJournal x) = None
domain_asked other = None

-- ---- each of them, as it is looked at

abbrev pub request_in : JournalRequest → RequestIn Rows
request_in (request.ReadJournal x) = read x.now
request_in (request.WriteJournal x) = write x.now
request_in (request.InitializeJournal x) = initialize x.now
request_in (request.ReportJournalStatus x) = report_status x.now
request_in (request.CreateJournal x) = create x.now
request_in (request.DeleteJournal x) = delete x.now

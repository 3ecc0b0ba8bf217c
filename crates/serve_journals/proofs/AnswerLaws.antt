-- Each request for journals that is not refused is answered at once, and nobody else is told anything.
use Rattle.std.specs.Prelude.{◌≡◌, ℕ, Option, None, Some, List, [], ◌∷◌, is_none, refl}
use Rattle.std.specs.Option.{option_map}
use Rattle.std.proofs.Common.{inl}
use Rattle.mms_types.specs.Errors.{first_of, object_non_existent}
use Rattle.mms_types.specs.declared.area.JournalRequest.{JournalRequest}
use Rattle.mms_types.specs.declared.area.JournalRequest.TheVariants as request
use Rattle.mms_types.specs.declared.pdu.Answer.{Answer}
use Rattle.mms_types.specs.declared.pdu.Answer.TheVariants as answer
use Rattle.mms_journal.specs.Journals.{Log, Rows, journal}
use Rattle.mms_journal.specs.Selection.{read as entries_read}
use Rattle.mms_journal.specs.Services.{after_initialize, removed_of, status_of}
use Rattle.association.specs.Client.{ClientRow}
use Rattle.cell_client.specs.Areas.{AnswersOrWaitsIn}
use Rattle.cell_client.specs.Facts.{Facts}
use Rattle.serve_journals.specs.Journals.{request_in}

module _ (facts : Facts) (row : ClientRow) (invoke : ℕ) where
  -- there is a journal to be told of
  found_one : {X : Type 0} (told : X → Answer) (of : Log → X) (t : Rows) (o : Option Log) → first_of ((is_none o, object_non_existent) ∷ []) ≡ None
      → AnswersOrWaitsIn row.client invoke (record { tables = t; answer = option_map told (option_map of o); also = [] })
  found_one told of t None e = absurd (cc e)
  found_one told of t (Some j) e = inl (_, refl, refl)

  pub answers_or_waits : (t : Rows) (asked : JournalRequest) → (request_in asked).cause facts t row ≡ None → AnswersOrWaitsIn row.client invoke ((request_in asked).effect facts t row invoke)
  answers_or_waits t (request.ReadJournal x) none = found_one answer.ReadJournal (entries_read x.now) t (journal row.client x.now.name t) none
  answers_or_waits t (request.WriteJournal x) none = inl (_, refl, refl)
  answers_or_waits t (request.InitializeJournal x) none = found_one answer.InitializeJournal (removed_of x.now.limit) (after_initialize row.client x.now t) (journal row.client x.now.name t) none
  answers_or_waits t (request.ReportJournalStatus x) none = found_one answer.ReportJournalStatus status_of t (journal row.client x.now t) none
  answers_or_waits t (request.CreateJournal x) none = inl (_, refl, refl)
  answers_or_waits t (request.DeleteJournal x) none = inl (_, refl, refl)

  -- nobody else is told anything
  pub journals_alone : (t : Rows) (asked : JournalRequest) → ((request_in asked).effect facts t row invoke).also ≡ []
  journals_alone t (request.ReadJournal x) = refl
  journals_alone t (request.WriteJournal x) = refl
  journals_alone t (request.InitializeJournal x) = refl
  journals_alone t (request.ReportJournalStatus x) = refl
  journals_alone t (request.CreateJournal x) = refl
  journals_alone t (request.DeleteJournal x) = refl

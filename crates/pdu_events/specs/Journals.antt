-- Journals (ISO 9506-2, journal management): what is read of them and written into them, and what they are.
use Rattle.std.specs.Prelude.{◌≡◌, List, refl}
use Rattle.ber_forms.specs.Value.{Value, chosen}
use Rattle.ber_forms.specs.Form.{any_number, from_to}
use Rattle.mms_types.specs.declared.journal.EntryToStartAfter.{EntryToStartAfter}
use Rattle.mms_types.specs.declared.journal.InitializeJournal.{InitializeJournal}
use Rattle.mms_types.specs.declared.journal.JournalEntry.{JournalEntry}
use Rattle.mms_types.specs.declared.journal.JournalLimit.{JournalLimit}
use Rattle.mms_types.specs.declared.journal.JournalStart.{JournalStart}
use Rattle.mms_types.specs.declared.journal.JournalStart.TheVariants as start
use Rattle.mms_types.specs.declared.journal.JournalStatus.{JournalStatus}
use Rattle.mms_types.specs.declared.journal.JournalStop.{JournalStop}
use Rattle.mms_types.specs.declared.journal.JournalStop.TheVariants as stop
use Rattle.mms_types.specs.declared.journal.ReadEntry.{ReadEntry}
use Rattle.mms_types.specs.declared.journal.ReadJournal.{ReadJournal}
use Rattle.mms_types.specs.declared.journal.ReadJournalAnswer.{ReadJournalAnswer}
use Rattle.mms_types.specs.declared.journal.WriteJournal.{WriteJournal}
use Rattle.mms_types.specs.declared.object_name.ObjectName.{ObjectName}
use Rattle.pdu_names.specs.Names.{names}
use Rattle.pdu_names.specs.Kinds.{Kind, Choice, Arms, natural, boolean, unsigned32, octet_string, application_reference, explicit, context, universal, list_of, choice, sequence, required, optional, no_more, alternatives, made_of, or, no_other}
use Rattle.pdu_programs.specs.Texts.{texts}
use Rattle.pdu_sems.specs.Entries.{entry_number}
use Rattle.pdu_events.specs.Entries.{journal_entry}
use Rattle.pdu_events.specs.Times.{time_of_day, time_again}

-- startingTime 0, startingEntry 1
abbrev start_arms : Arms JournalStart
start_arms = or 0 time_of_day start.Time (or 1 entry_number start.Entry (no_other (start.Time (record { ms = 0; day = 0 }))))

abbrev start_value : JournalStart → Value
start_value (start.Time t) = chosen 0 (time_of_day.value t)
start_value (start.Entry n) = chosen 1 (entry_number.value n)

pub start_again : (s : JournalStart) → made_of start_arms (start_value s) ≡ s
start_again (start.Time t) = λ i. start.Time (time_again t i)
start_again (start.Entry n) = refl

-- rangeStartSpecification
abbrev pub journal_starts : Choice JournalStart
journal_starts = alternatives start_arms start_value start_again

-- endingTime 0, numberOfEntries 1, an Integer32 of at least 1 (this profile's choice)
abbrev stop_arms : Arms JournalStop
stop_arms = or 0 time_of_day stop.Time (or 1 (natural 1 2147483647) stop.Count (no_other (stop.Count 1)))

abbrev stop_value : JournalStop → Value
stop_value (stop.Time t) = chosen 0 (time_of_day.value t)
stop_value (stop.Count n) = chosen 1 ((natural 1 2147483647).value n)

pub stop_again : (s : JournalStop) → made_of stop_arms (stop_value s) ≡ s
stop_again (stop.Time t) = λ i. stop.Time (time_again t i)
stop_again (stop.Count n) = refl

-- rangeStopSpecification
abbrev pub journal_stops : Choice JournalStop
journal_stops = alternatives stop_arms stop_value stop_again

-- entryToStartAfter: timeSpecification and entrySpecification
abbrev pub start_after : Kind EntryToStartAfter
start_after = sequence (
    required (context 0 time_of_day) (λ x. x.time) (
    required (context 1 entry_number) (λ x. x.number) no_more))
    (λ time number. record { time = time; number = number }) (λ x. refl)

-- ReadJournal-Request: journalName, rangeStartSpecification and rangeStopSpecification, both under an explicit tag, listOfVariables and
-- entryToStartAfter
abbrev pub read_journal : Kind ReadJournal
read_journal = sequence (
    required (context 0 (choice names)) (λ x. x.name) (
    optional (context 1 (choice journal_starts)) (λ x. x.start) (
    optional (context 2 (choice journal_stops)) (λ x. x.stop) (
    optional (context 4 texts) (λ x. x.tags) (
    optional (context 5 start_after) (λ x. x.after) no_more)))))
    (λ name start stop tags after. record { name = name; start = start; stop = stop; tags = tags; after = after })
    (λ x. refl)

-- entryIdentifier, originatingApplication and entryContent
abbrev pub read_entry : Kind ReadEntry
read_entry = sequence (
    required (context 0 octet_string) (λ x. x.number) (
    required (context 1 application_reference) (λ x. x.client) (
    required (context 2 journal_entry) (λ x. x.entry) no_more)))
    (λ number client entry. record { number = number; client = client; entry = entry }) (λ x. refl)

-- ReadJournal-Response: listOfJournalEntry, each a SEQUENCE, and moreFollows, which is always written (this profile's choice)
abbrev pub read_journal_answer : Kind ReadJournalAnswer
read_journal_answer = sequence (
    required (context 0 (list_of any_number (universal 16 read_entry))) (λ x. x.entries) (
    required (context 1 boolean) (λ x. x.more) no_more))
    (λ entries more. record { entries = entries; more = more }) (λ x. refl)

-- 1 to 64 entries (this profile's choice), each a SEQUENCE
abbrev pub written_entries : Kind (List JournalEntry)
written_entries = list_of (from_to 1 64) (universal 16 journal_entry)

-- WriteJournal-Request: journalName and listOfJournalEntry
abbrev pub write_journal : Kind WriteJournal
write_journal = sequence (
    required (context 0 (choice names)) (λ x. x.name) (
    required (context 1 written_entries) (λ x. x.entries) no_more))
    (λ name entries. record { name = name; entries = entries }) (λ x. refl)

-- limitSpecification: limitingTime and limitingEntry
abbrev pub journal_limit : Kind JournalLimit
journal_limit = sequence (
    required (context 0 time_of_day) (λ x. x.time) (
    optional (context 1 entry_number) (λ x. x.number) no_more))
    (λ time number. record { time = time; number = number }) (λ x. refl)

-- InitializeJournal-Request: journalName and limitSpecification
abbrev pub initialize_journal : Kind InitializeJournal
initialize_journal = sequence (
    required (context 0 (choice names)) (λ x. x.name) (
    optional (context 1 journal_limit) (λ x. x.limit) no_more))
    (λ name limit. record { name = name; limit = limit }) (λ x. refl)

-- ReportJournalStatus-Response: currentEntries and mmsDeletable
abbrev pub journal_status : Kind JournalStatus
journal_status = sequence (
    required (context 0 unsigned32) (λ x. x.entries) (
    required (context 1 boolean) (λ x. x.deletable) no_more))
    (λ entries deletable. record { entries = entries; deletable = deletable }) (λ x. refl)

-- CreateJournal-Request and DeleteJournal-Request: journalName
abbrev pub journal_named : Kind ObjectName
journal_named = explicit (context 0 (choice names))

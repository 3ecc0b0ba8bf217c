-- The entries of journals (ISO 9506-2, JournalEntry).
use Rattle.std.specs.Prelude.{◌≡◌, true, List, [], refl}
use Rattle.std.proofs.Common.{ap}
use Rattle.ber_forms.specs.Value.{Value, chosen}
use Rattle.ber_forms.specs.Form.{any_number}
use Rattle.ber_forms.specs.Fits.{is_sound, sound_alternatives}
use Rattle.mms_types.specs.declared.identifier.Edition.{Edition}
use Rattle.mms_types.specs.declared.journal.EntryContent.{EntryContent}
use Rattle.mms_types.specs.declared.journal.EntryContent.TheVariants.{Data, Text}
use Rattle.mms_types.specs.declared.journal.JournalEntry.{JournalEntry}
use Rattle.mms_types.specs.declared.journal.JournalEvent.{JournalEvent}
use Rattle.mms_types.specs.declared.journal.JournalVariable.{JournalVariable}
use Rattle.pdu_names.specs.Names.{names, names_sound}
use Rattle.pdu_names.specs.Kinds.{Kind, Choice, Arms, visible_string, context, universal, one_of, list_of, choice, sequence, required, optional, no_more, alternatives, made_of, or, no_other}
use Rattle.pdu_data.specs.Data.{data_choice, data_sound}
use Rattle.pdu_events.specs.declared.entries.EntryData.{EntryData}
use Rattle.pdu_events.specs.Conditions.{condition_state}
use Rattle.pdu_events.specs.Times.{time_of_day}

-- a variable: variableTag, and valueSpecification under an explicit tag
abbrev pub journal_variable : Kind JournalVariable
journal_variable = sequence (
    required (context 0 visible_string) (λ x. x.tag) (
    required (context 1 (choice data_choice)) (λ x. x.value) no_more))
    (λ tag value. record { tag = tag; value = value }) (λ x. refl)

-- variables one after the other, each a SEQUENCE
abbrev pub journal_variables : Kind (List JournalVariable)
journal_variables = list_of any_number (universal 16 journal_variable)

-- an event: eventConditionName, and currentState
unfoldable pub journal_event : Kind JournalEvent
journal_event = sequence (
    required (context 0 (choice names)) (λ x. x.name) (
    required (context 1 condition_state) (λ x. x.state) no_more))
    (λ name state. record { name = name; state = state }) (λ x. refl)

pub journal_event_sound : (e : Edition) → is_sound (journal_event.form e) ≡ true
unfolding journal_event
journal_event_sound e = rw (names_sound e) refl

-- event and listOfVariables
abbrev pub entry_data : Kind EntryData
entry_data = sequence (
    optional (context 0 journal_event) (λ x. x.event) (
    optional (context 1 journal_variables) (λ x. x.variables) no_more))
    (λ event variables. record { event = event; variables = variables }) (λ x. refl)

-- data 2, annotation 3
abbrev content_arms : Arms EntryContent
content_arms = or 2 entry_data (λ d. Data d.event d.variables) (or 3 visible_string Text (no_other (Text [])))

abbrev content_value : EntryContent → Value
content_value (Data event variables) = chosen 2 (entry_data.value (record { event = event; variables = variables }))
content_value (Text text) = chosen 3 (visible_string.value text)

pub content_again : (c : EntryContent) → made_of content_arms (content_value c) ≡ c
content_again (Data event variables) = ap (λ (d : EntryData). Data d.event d.variables) (entry_data.again (record { event = event; variables = variables }))
content_again (Text text) = refl

-- entryForm
unfoldable pub entry_contents : Choice EntryContent
entry_contents = alternatives content_arms content_value content_again

pub entry_contents_sound : (e : Edition) → sound_alternatives (entry_contents.alternatives e) ≡ true
unfolding entry_contents journal_event
entry_contents_sound e = rw (names_sound e, data_sound e) refl

-- JournalEntry: occurrenceTime, and entryForm, which has no tag of its own
abbrev pub journal_entry : Kind JournalEntry
journal_entry = sequence (
    required (context 0 time_of_day) (λ x. x.time) (
    required (one_of entry_contents) (λ x. x.content) no_more))
    (λ time content. record { time = time; content = content }) (λ x. refl)

-- Worked examples of the forms of the services for journals: contents typed from ISO 9506-2 and ITU-T X.690.
use Rattle.std.specs.Prelude.{◌≡◌, ℕ, zero, suc, pos, true, false, List, [], ◌∷◌, ◌++◌, length, map, Some, None, Result, Ok, Err}
use Rattle.std.proofs.Common.{refl}
use Rattle.ber_core.specs.Leaf.{integer_at}
use Rattle.ber_core.specs.Reading.{definite_at, identifier_at, second_at, third_at, length_at, long_length_at}
use Rattle.ber_core.specs.Spelling.{digits, identifier_octets, length_octets, element_octets}
use Rattle.ber_forms.specs.Bits.{first_bits}
use Rattle.ber_forms.specs.Fault.{Fault}
use Rattle.ber_forms.specs.Fault as fault
use Rattle.ber_forms.specs.Value.{Value}
use Rattle.ber_forms.specs.Reading.{reading, at_end, bits_in, integer_in, defaulting, members_by, part_at, next_at, required_part, optional_part, required_by, chosen_by, optional_by, elements_at}
use Rattle.ber_forms.specs.Spelling.{spelling}
use Rattle.mms_types.specs.Datum.{array, integer, boolean, no_part, part}
use Rattle.mms_types.specs.declared.condition.ConditionState.TheVariants.{Disabled, Idle, Active}
use Rattle.mms_types.specs.declared.identifier.Edition.TheVariants.{One}
use Rattle.mms_types.specs.declared.journal.EntryContent.TheVariants.{Data, Text}
use Rattle.mms_types.specs.declared.journal.JournalEntry.{JournalEntry}
use Rattle.mms_types.specs.declared.journal.JournalStart.TheVariants as start
use Rattle.mms_types.specs.declared.journal.JournalStop.TheVariants as stop
use Rattle.mms_types.specs.declared.object_name.ObjectName.TheVariants.{Vmd, Domain, Association}
use Rattle.pdu_names.specs.Editions.{lengths_of}
use Rattle.pdu_names.specs.Names.{names}
use Rattle.pdu_names.specs.Kinds.{Kind, choice, context, explicit}
use Rattle.pdu_data.specs.Data.{data_choice, data_alternatives}
use Rattle.pdu_events.specs.Entries.{entry_contents, journal_entry, journal_event}
use Rattle.pdu_events.specs.Journals.{initialize_journal, journal_named, journal_status, read_journal, read_journal_answer, write_journal}

-- a function answers each row of a table with its second column
abbrev Answers : {A B : Type 0} → (A → B) → List (A × B) → Type 0
Answers f table = map (λ row. f row.0) table ≡ map (λ row. row.1) table

abbrev read : {X : Type 0} → Kind X → List ℕ → Result Value Fault
read k octets = reading (lengths_of One) (k.form One) octets

-- what contents are read as this
abbrev says : {X : Type 0} → Kind X → X → Result Value Fault
says k x = Ok (k.value x)

abbrev written : {X : Type 0} → Kind X → X → List ℕ
written k x = spelling (k.form One) (k.value x)

-- the one element of a service, by its number
abbrev service : {X : Type 0} → ℕ → Kind X → Kind X
service n k = explicit (context n k)

-- so many times
abbrev times : {A : Type 0} → ℕ → A → List A
times zero x = []
times (suc n) x = x ∷ times n x

abbrev to_j : List ℕ
to_j = 160 ∷ 3 ∷ 128 ∷ 1 ∷ 74 ∷ []

-- J is made, and deleted
created : Answers (read (service 69 journal_named)) (
    (191 ∷ 69 ∷ 5 ∷ 160 ∷ 3 ∷ 128 ∷ 1 ∷ 74 ∷ [], says (service 69 journal_named) (Vmd (74 ∷ []))) ∷
    (159 ∷ 69 ∷ 5 ∷ 160 ∷ 3 ∷ 128 ∷ 1 ∷ 74 ∷ [], Err fault.malformed) ∷
    [])
unfolding names entry_contents journal_event data_choice data_alternatives at_end bits_in integer_in first_bits part_at next_at required_part required_by chosen_by members_by elements_at optional_part optional_by defaulting integer_at definite_at identifier_at second_at third_at length_at long_length_at
created = refl

deleted : Answers (read (service 70 journal_named)) (
    (191 ∷ 70 ∷ 5 ∷ 160 ∷ 3 ∷ 128 ∷ 1 ∷ 74 ∷ [], says (service 70 journal_named) (Vmd (74 ∷ []))) ∷
    [])
unfolding names entry_contents journal_event data_choice data_alternatives at_end bits_in integer_in first_bits part_at next_at required_part required_by chosen_by members_by elements_at optional_part optional_by defaulting integer_at definite_at identifier_at second_at third_at length_at long_length_at
deleted = refl

-- an entry of a text
written_one : Answers (read (service 66 write_journal)) (
    (191 ∷ 66 ∷ 21 ∷ 160 ∷ 3 ∷ 128 ∷ 1 ∷ 74 ∷ 161 ∷ 14 ∷ 48 ∷ 12 ∷ 128 ∷ 6 ∷ 0 ∷ 0 ∷ 0 ∷ 5 ∷ 0 ∷ 0 ∷ 131 ∷ 2 ∷ 111 ∷ 107 ∷ [], says (service 66 write_journal) (record { name = Vmd (74 ∷ []); entries = record { time = record { ms = 5; day = 0 }; content = Text (111 ∷ 107 ∷ []) } ∷ [] })) ∷
    [])
unfolding names entry_contents journal_event data_choice data_alternatives at_end bits_in integer_in first_bits part_at next_at required_part required_by chosen_by members_by elements_at optional_part optional_by defaulting integer_at definite_at identifier_at second_at third_at length_at long_length_at
written_one = refl

-- all of J
all_read : Answers (read (service 65 read_journal)) (
    (191 ∷ 65 ∷ 5 ∷ 160 ∷ 3 ∷ 128 ∷ 1 ∷ 74 ∷ [], says (service 65 read_journal) (record { name = Vmd (74 ∷ []); start = None; stop = None; tags = None; after = None })) ∷
    (191 ∷ 65 ∷ 10 ∷ 160 ∷ 3 ∷ 128 ∷ 1 ∷ 74 ∷ 164 ∷ 3 ∷ 26 ∷ 1 ∷ 120 ∷ [], says (service 65 read_journal) (record { name = Vmd (74 ∷ []); start = None; stop = None; tags = Some ((120 ∷ []) ∷ []); after = None })) ∷
    [])
unfolding names entry_contents journal_event data_choice data_alternatives at_end bits_in integer_in first_bits part_at next_at required_part required_by chosen_by members_by elements_at optional_part optional_by defaulting integer_at definite_at identifier_at second_at third_at length_at long_length_at
all_read = refl

-- what is there: one entry, that client 1 wrote
answered : Answers (read (service 65 read_journal_answer)) (
    (191 ∷ 65 ∷ 38 ∷ 160 ∷ 33 ∷ 48 ∷ 31 ∷ 128 ∷ 8 ∷ 0 ∷ 0 ∷ 0 ∷ 0 ∷ 0 ∷ 0 ∷ 0 ∷ 1 ∷ 161 ∷ 5 ∷ 161 ∷ 3 ∷ 2 ∷ 1 ∷ 1 ∷ 162 ∷ 12 ∷ 128 ∷ 6 ∷ 0 ∷ 0 ∷ 0 ∷ 5 ∷ 0 ∷ 0 ∷ 131 ∷ 2 ∷ 111 ∷ 107 ∷ 129 ∷ 1 ∷ 0 ∷ [], says (service 65 read_journal_answer) (record { entries = record { number = 0 ∷ 0 ∷ 0 ∷ 0 ∷ 0 ∷ 0 ∷ 0 ∷ 1 ∷ []; client = 1; entry = record { time = record { ms = 5; day = 0 }; content = Text (111 ∷ 107 ∷ []) } } ∷ []; more = false })) ∷
    [])
unfolding names entry_contents journal_event data_choice data_alternatives at_end bits_in integer_in first_bits part_at next_at required_part required_by chosen_by members_by elements_at optional_part optional_by defaulting integer_at definite_at identifier_at second_at third_at length_at long_length_at
answered = refl

-- what J is
reported : Answers (read (service 68 (choice names))) (
    (191 ∷ 68 ∷ 3 ∷ 128 ∷ 1 ∷ 74 ∷ [], says (service 68 (choice names)) (Vmd (74 ∷ []))) ∷
    [])
unfolding names entry_contents journal_event data_choice data_alternatives at_end bits_in integer_in first_bits part_at next_at required_part required_by chosen_by members_by elements_at optional_part optional_by defaulting integer_at definite_at identifier_at second_at third_at length_at long_length_at
reported = refl

-- one entry, and it can be deleted
status : Answers (read (service 68 journal_status)) (
    (191 ∷ 68 ∷ 6 ∷ 128 ∷ 1 ∷ 1 ∷ 129 ∷ 1 ∷ 255 ∷ [], says (service 68 journal_status) (record { entries = 1; deletable = true })) ∷
    [])
unfolding names entry_contents journal_event data_choice data_alternatives at_end bits_in integer_in first_bits part_at next_at required_part required_by chosen_by members_by elements_at optional_part optional_by defaulting integer_at definite_at identifier_at second_at third_at length_at long_length_at
status = refl

-- all entries go, and those up to a moment
initialized : Answers (read (service 67 initialize_journal)) (
    (191 ∷ 67 ∷ 5 ∷ 160 ∷ 3 ∷ 128 ∷ 1 ∷ 74 ∷ [], says (service 67 initialize_journal) (record { name = Vmd (74 ∷ []); limit = None })) ∷
    (191 ∷ 67 ∷ 15 ∷ 160 ∷ 3 ∷ 128 ∷ 1 ∷ 74 ∷ 161 ∷ 8 ∷ 128 ∷ 6 ∷ 0 ∷ 0 ∷ 0 ∷ 5 ∷ 0 ∷ 0 ∷ [], says (service 67 initialize_journal) (record { name = Vmd (74 ∷ []); limit = Some (record { time = record { ms = 5; day = 0 }; number = None }) })) ∷
    (191 ∷ 67 ∷ 25 ∷ 160 ∷ 3 ∷ 128 ∷ 1 ∷ 74 ∷ 161 ∷ 18 ∷ 128 ∷ 6 ∷ 0 ∷ 0 ∷ 0 ∷ 5 ∷ 0 ∷ 0 ∷ 129 ∷ 8 ∷ 0 ∷ 0 ∷ 0 ∷ 0 ∷ 0 ∷ 0 ∷ 0 ∷ 4 ∷ [], says (service 67 initialize_journal) (record { name = Vmd (74 ∷ []); limit = Some (record { time = record { ms = 5; day = 0 }; number = Some (record { octets = 0 ∷ 0 ∷ 0 ∷ 0 ∷ 0 ∷ 0 ∷ 0 ∷ 4 ∷ [] }) }) })) ∷
    [])
unfolding names entry_contents journal_event data_choice data_alternatives at_end bits_in integer_in first_bits part_at next_at required_part required_by chosen_by members_by elements_at optional_part optional_by defaulting integer_at definite_at identifier_at second_at third_at length_at long_length_at
initialized = refl

-- JournalEntry: an event and variables, with nothing, an empty list, an event alone, a text, an empty text, a time of no day, data that nests
entries : Answers (read journal_entry) (
    (128 ∷ 6 ∷ 0 ∷ 0 ∷ 0 ∷ 9 ∷ 0 ∷ 0 ∷ 162 ∷ 32 ∷ 160 ∷ 8 ∷ 160 ∷ 3 ∷ 130 ∷ 1 ∷ 69 ∷ 129 ∷ 1 ∷ 1 ∷ 161 ∷ 20 ∷ 48 ∷ 8 ∷ 128 ∷ 1 ∷ 120 ∷ 161 ∷ 3 ∷ 133 ∷ 1 ∷ 7 ∷ 48 ∷ 8 ∷ 128 ∷ 1 ∷ 121 ∷ 161 ∷ 3 ∷ 131 ∷ 1 ∷ 255 ∷ [], says journal_entry (record { time = record { ms = 9; day = 0 }; content = Data (Some (record { name = Association (69 ∷ []); state = Idle })) (Some (record { tag = 120 ∷ []; value = integer (pos 7) } ∷ record { tag = 121 ∷ []; value = boolean true } ∷ [])) })) ∷
    (128 ∷ 6 ∷ 0 ∷ 0 ∷ 0 ∷ 5 ∷ 0 ∷ 0 ∷ 162 ∷ 0 ∷ [], says journal_entry (record { time = record { ms = 5; day = 0 }; content = Data None None })) ∷
    (128 ∷ 6 ∷ 0 ∷ 0 ∷ 0 ∷ 5 ∷ 0 ∷ 0 ∷ 162 ∷ 2 ∷ 161 ∷ 0 ∷ [], says journal_entry (record { time = record { ms = 5; day = 0 }; content = Data None (Some []) })) ∷
    (128 ∷ 6 ∷ 0 ∷ 0 ∷ 0 ∷ 5 ∷ 0 ∷ 0 ∷ 162 ∷ 10 ∷ 160 ∷ 8 ∷ 160 ∷ 3 ∷ 128 ∷ 1 ∷ 69 ∷ 129 ∷ 1 ∷ 0 ∷ [], says journal_entry (record { time = record { ms = 5; day = 0 }; content = Data (Some (record { name = Vmd (69 ∷ []); state = Disabled })) None })) ∷
    (128 ∷ 6 ∷ 0 ∷ 0 ∷ 0 ∷ 5 ∷ 0 ∷ 0 ∷ 162 ∷ 10 ∷ 160 ∷ 8 ∷ 160 ∷ 3 ∷ 128 ∷ 1 ∷ 69 ∷ 129 ∷ 1 ∷ 2 ∷ [], says journal_entry (record { time = record { ms = 5; day = 0 }; content = Data (Some (record { name = Vmd (69 ∷ []); state = Active })) None })) ∷
    (128 ∷ 6 ∷ 0 ∷ 0 ∷ 0 ∷ 5 ∷ 0 ∷ 0 ∷ 131 ∷ 2 ∷ 111 ∷ 107 ∷ [], says journal_entry (record { time = record { ms = 5; day = 0 }; content = Text (111 ∷ 107 ∷ []) })) ∷
    (128 ∷ 6 ∷ 0 ∷ 0 ∷ 0 ∷ 5 ∷ 0 ∷ 0 ∷ 131 ∷ 0 ∷ [], says journal_entry (record { time = record { ms = 5; day = 0 }; content = Text [] })) ∷
    (128 ∷ 6 ∷ 255 ∷ 255 ∷ 255 ∷ 255 ∷ 255 ∷ 255 ∷ 131 ∷ 0 ∷ [], says journal_entry (record { time = record { ms = 4294967295; day = 65535 }; content = Text [] })) ∷
    (128 ∷ 6 ∷ 0 ∷ 0 ∷ 0 ∷ 5 ∷ 0 ∷ 0 ∷ 162 ∷ 13 ∷ 161 ∷ 11 ∷ 48 ∷ 9 ∷ 128 ∷ 0 ∷ 161 ∷ 5 ∷ 161 ∷ 3 ∷ 133 ∷ 1 ∷ 7 ∷ [], says journal_entry (record { time = record { ms = 5; day = 0 }; content = Data None (Some (record { tag = []; value = array (part (integer (pos 7)) no_part) } ∷ [])) })) ∷
    [])
unfolding names entry_contents journal_event data_choice data_alternatives at_end bits_in integer_in first_bits part_at next_at required_part required_by chosen_by members_by elements_at optional_part optional_by defaulting integer_at definite_at identifier_at second_at third_at length_at long_length_at
entries = refl

-- neither data nor a text, both of them, twice one; five octets of time, seven, none; a state of 3; a name that isn't under an explicit tag; a text with an octet beyond; a tag with one; a variable without a tag, without data, with data that aren't under an explicit tag; another component
no_entries : Answers (read journal_entry) (
    (128 ∷ 6 ∷ 0 ∷ 0 ∷ 0 ∷ 5 ∷ 0 ∷ 0 ∷ [], Err fault.malformed) ∷
    (128 ∷ 6 ∷ 0 ∷ 0 ∷ 0 ∷ 5 ∷ 0 ∷ 0 ∷ 162 ∷ 0 ∷ 131 ∷ 2 ∷ 111 ∷ 107 ∷ [], Err fault.malformed) ∷
    (128 ∷ 6 ∷ 0 ∷ 0 ∷ 0 ∷ 5 ∷ 0 ∷ 0 ∷ 131 ∷ 0 ∷ 162 ∷ 0 ∷ [], Err fault.malformed) ∷
    (128 ∷ 6 ∷ 0 ∷ 0 ∷ 0 ∷ 5 ∷ 0 ∷ 0 ∷ 162 ∷ 0 ∷ 162 ∷ 0 ∷ [], Err fault.malformed) ∷
    (128 ∷ 6 ∷ 0 ∷ 0 ∷ 0 ∷ 5 ∷ 0 ∷ 0 ∷ 131 ∷ 0 ∷ 131 ∷ 0 ∷ [], Err fault.malformed) ∷
    (128 ∷ 5 ∷ 0 ∷ 0 ∷ 5 ∷ 0 ∷ 0 ∷ 131 ∷ 0 ∷ [], Err fault.malformed) ∷
    (128 ∷ 7 ∷ 0 ∷ 0 ∷ 0 ∷ 0 ∷ 5 ∷ 0 ∷ 0 ∷ 131 ∷ 0 ∷ [], Err fault.malformed) ∷
    (131 ∷ 0 ∷ [], Err fault.malformed) ∷
    (128 ∷ 6 ∷ 0 ∷ 0 ∷ 0 ∷ 5 ∷ 0 ∷ 0 ∷ 162 ∷ 10 ∷ 160 ∷ 8 ∷ 160 ∷ 3 ∷ 128 ∷ 1 ∷ 69 ∷ 129 ∷ 1 ∷ 3 ∷ [], Err fault.malformed) ∷
    (128 ∷ 6 ∷ 0 ∷ 0 ∷ 0 ∷ 5 ∷ 0 ∷ 0 ∷ 162 ∷ 8 ∷ 160 ∷ 6 ∷ 128 ∷ 1 ∷ 69 ∷ 129 ∷ 1 ∷ 1 ∷ [], Err fault.malformed) ∷
    (128 ∷ 6 ∷ 0 ∷ 0 ∷ 0 ∷ 5 ∷ 0 ∷ 0 ∷ 131 ∷ 1 ∷ 127 ∷ [], Err fault.malformed) ∷
    (128 ∷ 6 ∷ 0 ∷ 0 ∷ 0 ∷ 5 ∷ 0 ∷ 0 ∷ 131 ∷ 1 ∷ 31 ∷ [], Err fault.malformed) ∷
    (128 ∷ 6 ∷ 0 ∷ 0 ∷ 0 ∷ 5 ∷ 0 ∷ 0 ∷ 163 ∷ 0 ∷ [], Err fault.malformed) ∷
    (128 ∷ 6 ∷ 0 ∷ 0 ∷ 0 ∷ 5 ∷ 0 ∷ 0 ∷ 130 ∷ 0 ∷ [], Err fault.malformed) ∷
    (128 ∷ 6 ∷ 0 ∷ 0 ∷ 0 ∷ 5 ∷ 0 ∷ 0 ∷ 162 ∷ 12 ∷ 161 ∷ 10 ∷ 48 ∷ 8 ∷ 128 ∷ 1 ∷ 127 ∷ 161 ∷ 3 ∷ 133 ∷ 1 ∷ 7 ∷ [], Err fault.malformed) ∷
    (128 ∷ 6 ∷ 0 ∷ 0 ∷ 0 ∷ 5 ∷ 0 ∷ 0 ∷ 162 ∷ 9 ∷ 161 ∷ 7 ∷ 48 ∷ 5 ∷ 161 ∷ 3 ∷ 133 ∷ 1 ∷ 7 ∷ [], Err fault.malformed) ∷
    (128 ∷ 6 ∷ 0 ∷ 0 ∷ 0 ∷ 5 ∷ 0 ∷ 0 ∷ 162 ∷ 7 ∷ 161 ∷ 5 ∷ 48 ∷ 3 ∷ 128 ∷ 1 ∷ 120 ∷ [], Err fault.malformed) ∷
    (128 ∷ 6 ∷ 0 ∷ 0 ∷ 0 ∷ 5 ∷ 0 ∷ 0 ∷ 162 ∷ 10 ∷ 161 ∷ 8 ∷ 48 ∷ 6 ∷ 128 ∷ 1 ∷ 120 ∷ 133 ∷ 1 ∷ 7 ∷ [], Err fault.malformed) ∷
    (128 ∷ 6 ∷ 0 ∷ 0 ∷ 0 ∷ 5 ∷ 0 ∷ 0 ∷ 162 ∷ 12 ∷ 161 ∷ 10 ∷ 160 ∷ 8 ∷ 128 ∷ 1 ∷ 120 ∷ 161 ∷ 3 ∷ 133 ∷ 1 ∷ 7 ∷ [], Err fault.malformed) ∷
    (128 ∷ 6 ∷ 0 ∷ 0 ∷ 0 ∷ 5 ∷ 0 ∷ 0 ∷ 162 ∷ 3 ∷ 130 ∷ 1 ∷ 0 ∷ [], Err fault.malformed) ∷
    (128 ∷ 6 ∷ 0 ∷ 0 ∷ 0 ∷ 5 ∷ 0 ∷ 0 ∷ 162 ∷ 12 ∷ 161 ∷ 0 ∷ 160 ∷ 8 ∷ 160 ∷ 3 ∷ 128 ∷ 1 ∷ 69 ∷ 129 ∷ 1 ∷ 0 ∷ [], Err fault.malformed) ∷
    (128 ∷ 6 ∷ 0 ∷ 0 ∷ 0 ∷ 5 ∷ 0 ∷ 0 ∷ 132 ∷ 0 ∷ [], Err fault.malformed) ∷
    [])
unfolding names entry_contents journal_event data_choice data_alternatives at_end bits_in integer_in first_bits part_at next_at required_part required_by chosen_by members_by elements_at optional_part optional_by defaulting integer_at definite_at identifier_at second_at third_at length_at long_length_at
no_entries = refl

-- ReadJournal-Request: each filter alone, with numbers and times at their ends, an empty list of tags, two tags, all filters
selections : Answers (read read_journal) (
    (160 ∷ 3 ∷ 128 ∷ 1 ∷ 74 ∷ 161 ∷ 8 ∷ 128 ∷ 6 ∷ 0 ∷ 0 ∷ 0 ∷ 5 ∷ 0 ∷ 0 ∷ [], says read_journal (record { name = Vmd (74 ∷ []); start = Some (start.Time (record { ms = 5; day = 0 })); stop = None; tags = None; after = None })) ∷
    (160 ∷ 3 ∷ 128 ∷ 1 ∷ 74 ∷ 161 ∷ 10 ∷ 129 ∷ 8 ∷ 0 ∷ 0 ∷ 0 ∷ 0 ∷ 0 ∷ 0 ∷ 0 ∷ 4 ∷ [], says read_journal (record { name = Vmd (74 ∷ []); start = Some (start.Entry (record { octets = 0 ∷ 0 ∷ 0 ∷ 0 ∷ 0 ∷ 0 ∷ 0 ∷ 4 ∷ [] })); stop = None; tags = None; after = None })) ∷
    (160 ∷ 3 ∷ 128 ∷ 1 ∷ 74 ∷ 161 ∷ 10 ∷ 129 ∷ 8 ∷ 255 ∷ 255 ∷ 255 ∷ 255 ∷ 255 ∷ 255 ∷ 255 ∷ 255 ∷ [], says read_journal (record { name = Vmd (74 ∷ []); start = Some (start.Entry (record { octets = 255 ∷ 255 ∷ 255 ∷ 255 ∷ 255 ∷ 255 ∷ 255 ∷ 255 ∷ [] })); stop = None; tags = None; after = None })) ∷
    (160 ∷ 3 ∷ 128 ∷ 1 ∷ 74 ∷ 162 ∷ 8 ∷ 128 ∷ 6 ∷ 255 ∷ 255 ∷ 255 ∷ 255 ∷ 255 ∷ 255 ∷ [], says read_journal (record { name = Vmd (74 ∷ []); start = None; stop = Some (stop.Time (record { ms = 4294967295; day = 65535 })); tags = None; after = None })) ∷
    (160 ∷ 3 ∷ 128 ∷ 1 ∷ 74 ∷ 162 ∷ 3 ∷ 129 ∷ 1 ∷ 1 ∷ [], says read_journal (record { name = Vmd (74 ∷ []); start = None; stop = Some (stop.Count 1); tags = None; after = None })) ∷
    (160 ∷ 3 ∷ 128 ∷ 1 ∷ 74 ∷ 162 ∷ 6 ∷ 129 ∷ 4 ∷ 127 ∷ 255 ∷ 255 ∷ 255 ∷ [], says read_journal (record { name = Vmd (74 ∷ []); start = None; stop = Some (stop.Count 2147483647); tags = None; after = None })) ∷
    (160 ∷ 3 ∷ 128 ∷ 1 ∷ 74 ∷ 162 ∷ 4 ∷ 129 ∷ 2 ∷ 0 ∷ 2 ∷ [], says read_journal (record { name = Vmd (74 ∷ []); start = None; stop = Some (stop.Count 2); tags = None; after = None })) ∷
    (160 ∷ 3 ∷ 128 ∷ 1 ∷ 74 ∷ 164 ∷ 0 ∷ [], says read_journal (record { name = Vmd (74 ∷ []); start = None; stop = None; tags = Some []; after = None })) ∷
    (160 ∷ 3 ∷ 128 ∷ 1 ∷ 74 ∷ 164 ∷ 5 ∷ 26 ∷ 1 ∷ 120 ∷ 26 ∷ 0 ∷ [], says read_journal (record { name = Vmd (74 ∷ []); start = None; stop = None; tags = Some ((120 ∷ []) ∷ [] ∷ []); after = None })) ∷
    (160 ∷ 3 ∷ 128 ∷ 1 ∷ 74 ∷ 165 ∷ 18 ∷ 128 ∷ 6 ∷ 0 ∷ 0 ∷ 0 ∷ 5 ∷ 0 ∷ 0 ∷ 129 ∷ 8 ∷ 0 ∷ 0 ∷ 0 ∷ 0 ∷ 0 ∷ 0 ∷ 0 ∷ 4 ∷ [], says read_journal (record { name = Vmd (74 ∷ []); start = None; stop = None; tags = None; after = Some (record { time = record { ms = 5; day = 0 }; number = record { octets = 0 ∷ 0 ∷ 0 ∷ 0 ∷ 0 ∷ 0 ∷ 0 ∷ 4 ∷ [] } }) })) ∷
    (160 ∷ 3 ∷ 128 ∷ 1 ∷ 74 ∷ 161 ∷ 8 ∷ 128 ∷ 6 ∷ 0 ∷ 0 ∷ 0 ∷ 5 ∷ 0 ∷ 0 ∷ 162 ∷ 3 ∷ 129 ∷ 1 ∷ 2 ∷ 164 ∷ 3 ∷ 26 ∷ 1 ∷ 120 ∷ 165 ∷ 18 ∷ 128 ∷ 6 ∷ 0 ∷ 0 ∷ 0 ∷ 5 ∷ 0 ∷ 0 ∷ 129 ∷ 8 ∷ 0 ∷ 0 ∷ 0 ∷ 0 ∷ 0 ∷ 0 ∷ 0 ∷ 1 ∷ [], says read_journal (record { name = Vmd (74 ∷ []); start = Some (start.Time (record { ms = 5; day = 0 })); stop = Some (stop.Count 2); tags = Some ((120 ∷ []) ∷ []); after = Some (record { time = record { ms = 5; day = 0 }; number = record { octets = 0 ∷ 0 ∷ 0 ∷ 0 ∷ 0 ∷ 0 ∷ 0 ∷ 1 ∷ [] } }) })) ∷
    [])
unfolding names entry_contents journal_event data_choice data_alternatives at_end bits_in integer_in first_bits part_at next_at required_part required_by chosen_by members_by elements_at optional_part optional_by defaulting integer_at definite_at identifier_at second_at third_at length_at long_length_at
selections = refl

-- a count of 0, a negative one, one beyond; a start and an end that aren't under an explicit tag, or are another alternative, or two; a number of seven octets and of nine; a tag with an octet beyond, or under another tag; entryToStartAfter with one component; [3]; out of order, twice; no name
no_selections : Answers (read read_journal) (
    (160 ∷ 3 ∷ 128 ∷ 1 ∷ 74 ∷ 162 ∷ 3 ∷ 129 ∷ 1 ∷ 0 ∷ [], Err fault.malformed) ∷
    (160 ∷ 3 ∷ 128 ∷ 1 ∷ 74 ∷ 162 ∷ 3 ∷ 129 ∷ 1 ∷ 255 ∷ [], Err fault.malformed) ∷
    (160 ∷ 3 ∷ 128 ∷ 1 ∷ 74 ∷ 162 ∷ 7 ∷ 129 ∷ 5 ∷ 0 ∷ 128 ∷ 0 ∷ 0 ∷ 0 ∷ [], Err fault.malformed) ∷
    (160 ∷ 3 ∷ 128 ∷ 1 ∷ 74 ∷ 129 ∷ 8 ∷ 0 ∷ 0 ∷ 0 ∷ 0 ∷ 0 ∷ 0 ∷ 0 ∷ 4 ∷ [], Err fault.malformed) ∷
    (160 ∷ 3 ∷ 128 ∷ 1 ∷ 74 ∷ 162 ∷ 3 ∷ 130 ∷ 1 ∷ 1 ∷ [], Err fault.malformed) ∷
    (160 ∷ 3 ∷ 128 ∷ 1 ∷ 74 ∷ 130 ∷ 1 ∷ 2 ∷ [], Err fault.malformed) ∷
    (160 ∷ 3 ∷ 128 ∷ 1 ∷ 74 ∷ 161 ∷ 10 ∷ 130 ∷ 8 ∷ 0 ∷ 0 ∷ 0 ∷ 0 ∷ 0 ∷ 0 ∷ 0 ∷ 4 ∷ [], Err fault.malformed) ∷
    (160 ∷ 3 ∷ 128 ∷ 1 ∷ 74 ∷ 161 ∷ 0 ∷ [], Err fault.malformed) ∷
    (160 ∷ 3 ∷ 128 ∷ 1 ∷ 74 ∷ 161 ∷ 18 ∷ 128 ∷ 6 ∷ 0 ∷ 0 ∷ 0 ∷ 5 ∷ 0 ∷ 0 ∷ 129 ∷ 8 ∷ 0 ∷ 0 ∷ 0 ∷ 0 ∷ 0 ∷ 0 ∷ 0 ∷ 4 ∷ [], Err fault.malformed) ∷
    (160 ∷ 3 ∷ 128 ∷ 1 ∷ 74 ∷ 161 ∷ 9 ∷ 129 ∷ 7 ∷ 0 ∷ 0 ∷ 0 ∷ 0 ∷ 0 ∷ 0 ∷ 4 ∷ [], Err fault.malformed) ∷
    (160 ∷ 3 ∷ 128 ∷ 1 ∷ 74 ∷ 161 ∷ 11 ∷ 129 ∷ 9 ∷ 0 ∷ 0 ∷ 0 ∷ 0 ∷ 0 ∷ 0 ∷ 0 ∷ 0 ∷ 4 ∷ [], Err fault.malformed) ∷
    (160 ∷ 3 ∷ 128 ∷ 1 ∷ 74 ∷ 161 ∷ 7 ∷ 128 ∷ 5 ∷ 0 ∷ 0 ∷ 5 ∷ 0 ∷ 0 ∷ [], Err fault.malformed) ∷
    (160 ∷ 3 ∷ 128 ∷ 1 ∷ 74 ∷ 164 ∷ 3 ∷ 26 ∷ 1 ∷ 127 ∷ [], Err fault.malformed) ∷
    (160 ∷ 3 ∷ 128 ∷ 1 ∷ 74 ∷ 164 ∷ 3 ∷ 128 ∷ 1 ∷ 120 ∷ [], Err fault.malformed) ∷
    (160 ∷ 3 ∷ 128 ∷ 1 ∷ 74 ∷ 132 ∷ 0 ∷ [], Err fault.malformed) ∷
    (160 ∷ 3 ∷ 128 ∷ 1 ∷ 74 ∷ 165 ∷ 8 ∷ 128 ∷ 6 ∷ 0 ∷ 0 ∷ 0 ∷ 5 ∷ 0 ∷ 0 ∷ [], Err fault.malformed) ∷
    (160 ∷ 3 ∷ 128 ∷ 1 ∷ 74 ∷ 165 ∷ 10 ∷ 129 ∷ 8 ∷ 0 ∷ 0 ∷ 0 ∷ 0 ∷ 0 ∷ 0 ∷ 0 ∷ 4 ∷ [], Err fault.malformed) ∷
    (160 ∷ 3 ∷ 128 ∷ 1 ∷ 74 ∷ 163 ∷ 0 ∷ [], Err fault.malformed) ∷
    (160 ∷ 3 ∷ 128 ∷ 1 ∷ 74 ∷ 162 ∷ 3 ∷ 129 ∷ 1 ∷ 2 ∷ 161 ∷ 8 ∷ 128 ∷ 6 ∷ 0 ∷ 0 ∷ 0 ∷ 5 ∷ 0 ∷ 0 ∷ [], Err fault.malformed) ∷
    (160 ∷ 3 ∷ 128 ∷ 1 ∷ 74 ∷ 162 ∷ 3 ∷ 129 ∷ 1 ∷ 2 ∷ 162 ∷ 3 ∷ 129 ∷ 1 ∷ 2 ∷ [], Err fault.malformed) ∷
    (162 ∷ 3 ∷ 129 ∷ 1 ∷ 2 ∷ [], Err fault.malformed) ∷
    [])
unfolding names entry_contents journal_event data_choice data_alternatives at_end bits_in integer_in first_bits part_at next_at required_part required_by chosen_by members_by elements_at optional_part optional_by defaulting integer_at definite_at identifier_at second_at third_at length_at long_length_at
no_selections = refl

-- WriteJournal-Request: no entry; an entry under another tag; no list; what is no entry
no_writes : Answers (read write_journal) (
    (160 ∷ 3 ∷ 128 ∷ 1 ∷ 74 ∷ 161 ∷ 0 ∷ [], Err fault.malformed) ∷
    (160 ∷ 3 ∷ 128 ∷ 1 ∷ 74 ∷ 161 ∷ 14 ∷ 160 ∷ 12 ∷ 128 ∷ 6 ∷ 0 ∷ 0 ∷ 0 ∷ 5 ∷ 0 ∷ 0 ∷ 131 ∷ 2 ∷ 111 ∷ 107 ∷ [], Err fault.malformed) ∷
    (160 ∷ 3 ∷ 128 ∷ 1 ∷ 74 ∷ [], Err fault.malformed) ∷
    (160 ∷ 3 ∷ 128 ∷ 1 ∷ 74 ∷ 161 ∷ 10 ∷ 48 ∷ 8 ∷ 128 ∷ 6 ∷ 0 ∷ 0 ∷ 0 ∷ 5 ∷ 0 ∷ 0 ∷ [], Err fault.malformed) ∷
    [])
unfolding names entry_contents journal_event data_choice data_alternatives at_end bits_in integer_in first_bits part_at next_at required_part required_by chosen_by members_by elements_at optional_part optional_by defaulting integer_at definite_at identifier_at second_at third_at length_at long_length_at
no_writes = refl

-- InitializeJournal-Request: a limit without a time, with a number of seven octets, with another component
no_limits : Answers (read initialize_journal) (
    (160 ∷ 3 ∷ 128 ∷ 1 ∷ 74 ∷ 161 ∷ 0 ∷ [], Err fault.malformed) ∷
    (160 ∷ 3 ∷ 128 ∷ 1 ∷ 74 ∷ 161 ∷ 10 ∷ 129 ∷ 8 ∷ 0 ∷ 0 ∷ 0 ∷ 0 ∷ 0 ∷ 0 ∷ 0 ∷ 4 ∷ [], Err fault.malformed) ∷
    (160 ∷ 3 ∷ 128 ∷ 1 ∷ 74 ∷ 161 ∷ 17 ∷ 128 ∷ 6 ∷ 0 ∷ 0 ∷ 0 ∷ 5 ∷ 0 ∷ 0 ∷ 129 ∷ 7 ∷ 0 ∷ 0 ∷ 0 ∷ 0 ∷ 0 ∷ 0 ∷ 4 ∷ [], Err fault.malformed) ∷
    (160 ∷ 3 ∷ 128 ∷ 1 ∷ 74 ∷ 161 ∷ 10 ∷ 128 ∷ 6 ∷ 0 ∷ 0 ∷ 0 ∷ 5 ∷ 0 ∷ 0 ∷ 130 ∷ 0 ∷ [], Err fault.malformed) ∷
    (160 ∷ 3 ∷ 128 ∷ 1 ∷ 74 ∷ 162 ∷ 0 ∷ [], Err fault.malformed) ∷
    [])
unfolding names entry_contents journal_event data_choice data_alternatives at_end bits_in integer_in first_bits part_at next_at required_part required_by chosen_by members_by elements_at optional_part optional_by defaulting integer_at definite_at identifier_at second_at third_at length_at long_length_at
no_limits = refl

-- ReportJournalStatus-Response: at its ends; one component, a number below
statuses : Answers (read journal_status) (
    (128 ∷ 1 ∷ 0 ∷ 129 ∷ 1 ∷ 0 ∷ [], says journal_status (record { entries = 0; deletable = false })) ∷
    (128 ∷ 5 ∷ 0 ∷ 255 ∷ 255 ∷ 255 ∷ 255 ∷ 129 ∷ 1 ∷ 1 ∷ [], says journal_status (record { entries = 4294967295; deletable = true })) ∷
    (128 ∷ 1 ∷ 0 ∷ [], Err fault.malformed) ∷
    (128 ∷ 1 ∷ 255 ∷ 129 ∷ 1 ∷ 0 ∷ [], Err fault.malformed) ∷
    [])
unfolding names entry_contents journal_event data_choice data_alternatives at_end bits_in integer_in first_bits part_at next_at required_part required_by chosen_by members_by elements_at optional_part optional_by defaulting integer_at definite_at identifier_at second_at third_at length_at long_length_at
statuses = refl

-- CreateJournal-Request: a name that isn't under its explicit tag, or isn't alone
names_alone : Answers (read journal_named) (
    (128 ∷ 1 ∷ 74 ∷ [], Err fault.malformed) ∷
    (160 ∷ 3 ∷ 128 ∷ 1 ∷ 74 ∷ 129 ∷ 0 ∷ [], Err fault.malformed) ∷
    ([], Err fault.malformed) ∷
    (160 ∷ 8 ∷ 161 ∷ 6 ∷ 26 ∷ 1 ∷ 68 ∷ 26 ∷ 1 ∷ 74 ∷ [], says journal_named (Domain (68 ∷ []) (74 ∷ []))) ∷
    [])
unfolding names entry_contents journal_event data_choice data_alternatives at_end bits_in integer_in first_bits part_at next_at required_part required_by chosen_by members_by elements_at optional_part optional_by defaulting integer_at definite_at identifier_at second_at third_at length_at long_length_at
names_alone = refl

-- ReadJournal-Response: an application reference that isn't the contents of its tag; entries of any octets as numbers; no moreFollows
no_answers : Answers (read read_journal_answer) (
    (160 ∷ 0 ∷ 129 ∷ 1 ∷ 255 ∷ [], says read_journal_answer (record { entries = []; more = true })) ∷
    (160 ∷ 21 ∷ 48 ∷ 19 ∷ 128 ∷ 0 ∷ 161 ∷ 5 ∷ 161 ∷ 3 ∷ 2 ∷ 1 ∷ 7 ∷ 162 ∷ 8 ∷ 128 ∷ 6 ∷ 0 ∷ 0 ∷ 0 ∷ 5 ∷ 0 ∷ 0 ∷ 129 ∷ 1 ∷ 0 ∷ [], Err fault.malformed) ∷
    (160 ∷ 23 ∷ 48 ∷ 21 ∷ 128 ∷ 0 ∷ 161 ∷ 5 ∷ 161 ∷ 3 ∷ 2 ∷ 1 ∷ 7 ∷ 162 ∷ 10 ∷ 128 ∷ 6 ∷ 0 ∷ 0 ∷ 0 ∷ 5 ∷ 0 ∷ 0 ∷ 131 ∷ 0 ∷ 129 ∷ 1 ∷ 0 ∷ [], says read_journal_answer (record { entries = record { number = []; client = 7; entry = record { time = record { ms = 5; day = 0 }; content = Text [] } } ∷ []; more = false })) ∷
    (160 ∷ 21 ∷ 48 ∷ 19 ∷ 128 ∷ 0 ∷ 161 ∷ 3 ∷ 2 ∷ 1 ∷ 7 ∷ 162 ∷ 10 ∷ 128 ∷ 6 ∷ 0 ∷ 0 ∷ 0 ∷ 5 ∷ 0 ∷ 0 ∷ 131 ∷ 0 ∷ 129 ∷ 1 ∷ 0 ∷ [], Err fault.malformed) ∷
    (160 ∷ 0 ∷ [], Err fault.malformed) ∷
    [])
unfolding names entry_contents journal_event data_choice data_alternatives at_end bits_in integer_in first_bits part_at next_at required_part required_by chosen_by members_by elements_at optional_part optional_by defaulting integer_at definite_at identifier_at second_at third_at length_at long_length_at
no_answers = refl

-- so many arrays within each other, of which the innermost has these octets
abbrev within : ℕ → List ℕ → List ℕ
within zero octets = octets
within (suc n) octets = 161 ∷ length (within n octets) ∷ within n octets

abbrev under : ℕ → List ℕ → List ℕ
under tag octets = tag ∷ length octets ∷ octets

-- an entry with one variable, whose data has these octets
abbrev entry_with : List ℕ → List ℕ
entry_with octets = under 48 (128 ∷ 6 ∷ 0 ∷ 0 ∷ 0 ∷ 5 ∷ 0 ∷ 0 ∷ [] ++ under 162 (under 161 (under 48 (128 ∷ 1 ∷ 120 ∷ [] ++ under 161 octets))))

-- an entry with neither event nor variables, so many times
abbrev short_entries : ℕ → List ℕ
short_entries zero = []
short_entries (suc n) = 48 ∷ 10 ∷ 128 ∷ 6 ∷ 0 ∷ 0 ∷ 0 ∷ 5 ∷ 0 ∷ 0 ∷ 162 ∷ 0 ∷ short_entries n

-- data that nests eleven deep is too deep where all before it is of its form, whatever stands behind it
deep_writes : Answers (read write_journal) (
    (to_j ++ under 161 (short_entries 2 ++ entry_with (within 11 (131 ∷ 1 ∷ 0 ∷ []))), Err fault.too_deep) ∷
    (to_j ++ under 161 (entry_with (within 11 []) ++ 255 ∷ []), Err fault.too_deep) ∷
    (to_j ++ under 161 (48 ∷ 0 ∷ [] ++ entry_with (within 11 [])), Err fault.malformed) ∷
    (to_j ++ under 161 (entry_with (within 10 []) ++ 255 ∷ []), Err fault.malformed) ∷
    [])
unfolding names entry_contents journal_event data_choice data_alternatives at_end bits_in integer_in first_bits part_at next_at required_part required_by chosen_by members_by elements_at optional_part optional_by defaulting integer_at definite_at identifier_at second_at third_at length_at long_length_at
deep_writes = refl

abbrev short_entry : JournalEntry
short_entry = record { time = record { ms = 5; day = 0 }; content = Data None None }

-- 64 entries; one more; and another one behind these, that is too deep, since all are read before they are counted
many_writes : Answers (read write_journal) (
    (to_j ++ 161 ∷ 130 ∷ 3 ∷ 0 ∷ short_entries 64, says write_journal (record { name = Vmd (74 ∷ []); entries = times 64 short_entry })) ∷
    (to_j ++ 161 ∷ 130 ∷ 3 ∷ 12 ∷ short_entries 65, Err fault.malformed) ∷
    (to_j ++ 161 ∷ 130 ∷ 3 ∷ 55 ∷ short_entries 65 ++ entry_with (within 11 []), Err fault.too_deep) ∷
    [])
unfolding names entry_contents journal_event data_choice data_alternatives at_end bits_in integer_in first_bits part_at next_at required_part required_by chosen_by members_by elements_at optional_part optional_by defaulting integer_at definite_at identifier_at second_at third_at length_at long_length_at
many_writes = refl

-- what is spelled
journals_written : Answers (written (service 66 write_journal)) (
    (record { name = Vmd (74 ∷ []); entries = record { time = record { ms = 5; day = 0 }; content = Text (111 ∷ 107 ∷ []) } ∷ [] }, 191 ∷ 66 ∷ 21 ∷ 160 ∷ 3 ∷ 128 ∷ 1 ∷ 74 ∷ 161 ∷ 14 ∷ 48 ∷ 12 ∷ 128 ∷ 6 ∷ 0 ∷ 0 ∷ 0 ∷ 5 ∷ 0 ∷ 0 ∷ 131 ∷ 2 ∷ 111 ∷ 107 ∷ []) ∷
    [])
unfolding names entry_contents journal_event data_choice data_alternatives element_octets identifier_octets length_octets digits
journals_written = refl

entries_written : Answers (written journal_entry) (
    (record { time = record { ms = 9; day = 0 }; content = Data (Some (record { name = Association (69 ∷ []); state = Idle })) (Some (record { tag = 120 ∷ []; value = integer (pos 7) } ∷ record { tag = 121 ∷ []; value = boolean true } ∷ [])) }, 128 ∷ 6 ∷ 0 ∷ 0 ∷ 0 ∷ 9 ∷ 0 ∷ 0 ∷ 162 ∷ 32 ∷ 160 ∷ 8 ∷ 160 ∷ 3 ∷ 130 ∷ 1 ∷ 69 ∷ 129 ∷ 1 ∷ 1 ∷ 161 ∷ 20 ∷ 48 ∷ 8 ∷ 128 ∷ 1 ∷ 120 ∷ 161 ∷ 3 ∷ 133 ∷ 1 ∷ 7 ∷ 48 ∷ 8 ∷ 128 ∷ 1 ∷ 121 ∷ 161 ∷ 3 ∷ 131 ∷ 1 ∷ 255 ∷ []) ∷
    (record { time = record { ms = 5; day = 0 }; content = Data None None }, 128 ∷ 6 ∷ 0 ∷ 0 ∷ 0 ∷ 5 ∷ 0 ∷ 0 ∷ 162 ∷ 0 ∷ []) ∷
    (record { time = record { ms = 5; day = 0 }; content = Data None (Some []) }, 128 ∷ 6 ∷ 0 ∷ 0 ∷ 0 ∷ 5 ∷ 0 ∷ 0 ∷ 162 ∷ 2 ∷ 161 ∷ 0 ∷ []) ∷
    (record { time = record { ms = 5; day = 0 }; content = Text (111 ∷ 107 ∷ []) }, 128 ∷ 6 ∷ 0 ∷ 0 ∷ 0 ∷ 5 ∷ 0 ∷ 0 ∷ 131 ∷ 2 ∷ 111 ∷ 107 ∷ []) ∷
    [])
unfolding names entry_contents journal_event data_choice data_alternatives element_octets identifier_octets length_octets digits
entries_written = refl

answer_written : Answers (written (service 65 read_journal_answer)) (
    (record { entries = record { number = 0 ∷ 0 ∷ 0 ∷ 0 ∷ 0 ∷ 0 ∷ 0 ∷ 1 ∷ []; client = 1; entry = record { time = record { ms = 5; day = 0 }; content = Text (111 ∷ 107 ∷ []) } } ∷ []; more = false }, 191 ∷ 65 ∷ 38 ∷ 160 ∷ 33 ∷ 48 ∷ 31 ∷ 128 ∷ 8 ∷ 0 ∷ 0 ∷ 0 ∷ 0 ∷ 0 ∷ 0 ∷ 0 ∷ 1 ∷ 161 ∷ 5 ∷ 161 ∷ 3 ∷ 2 ∷ 1 ∷ 1 ∷ 162 ∷ 12 ∷ 128 ∷ 6 ∷ 0 ∷ 0 ∷ 0 ∷ 5 ∷ 0 ∷ 0 ∷ 131 ∷ 2 ∷ 111 ∷ 107 ∷ 129 ∷ 1 ∷ 0 ∷ []) ∷
    [])
unfolding names entry_contents journal_event data_choice data_alternatives element_octets identifier_octets length_octets digits
answer_written = refl

selection_written : Answers (written (service 65 read_journal)) (
    (record { name = Vmd (74 ∷ []); start = None; stop = None; tags = None; after = None }, 191 ∷ 65 ∷ 5 ∷ 160 ∷ 3 ∷ 128 ∷ 1 ∷ 74 ∷ []) ∷
    (record { name = Vmd (74 ∷ []); start = None; stop = None; tags = Some ((120 ∷ []) ∷ []); after = None }, 191 ∷ 65 ∷ 10 ∷ 160 ∷ 3 ∷ 128 ∷ 1 ∷ 74 ∷ 164 ∷ 3 ∷ 26 ∷ 1 ∷ 120 ∷ []) ∷
    (record { name = Vmd (74 ∷ []); start = Some (start.Time (record { ms = 5; day = 0 })); stop = Some (stop.Count 2); tags = Some ((120 ∷ []) ∷ []); after = Some (record { time = record { ms = 5; day = 0 }; number = record { octets = 0 ∷ 0 ∷ 0 ∷ 0 ∷ 0 ∷ 0 ∷ 0 ∷ 1 ∷ [] } }) }, 191 ∷ 65 ∷ 45 ∷ 160 ∷ 3 ∷ 128 ∷ 1 ∷ 74 ∷ 161 ∷ 8 ∷ 128 ∷ 6 ∷ 0 ∷ 0 ∷ 0 ∷ 5 ∷ 0 ∷ 0 ∷ 162 ∷ 3 ∷ 129 ∷ 1 ∷ 2 ∷ 164 ∷ 3 ∷ 26 ∷ 1 ∷ 120 ∷ 165 ∷ 18 ∷ 128 ∷ 6 ∷ 0 ∷ 0 ∷ 0 ∷ 5 ∷ 0 ∷ 0 ∷ 129 ∷ 8 ∷ 0 ∷ 0 ∷ 0 ∷ 0 ∷ 0 ∷ 0 ∷ 0 ∷ 1 ∷ []) ∷
    (record { name = Vmd (74 ∷ []); start = Some (start.Entry (record { octets = 0 ∷ 0 ∷ 0 ∷ 0 ∷ 0 ∷ 0 ∷ 0 ∷ 4 ∷ [] })); stop = Some (stop.Time (record { ms = 5; day = 0 })); tags = None; after = None }, 191 ∷ 65 ∷ 27 ∷ 160 ∷ 3 ∷ 128 ∷ 1 ∷ 74 ∷ 161 ∷ 10 ∷ 129 ∷ 8 ∷ 0 ∷ 0 ∷ 0 ∷ 0 ∷ 0 ∷ 0 ∷ 0 ∷ 4 ∷ 162 ∷ 8 ∷ 128 ∷ 6 ∷ 0 ∷ 0 ∷ 0 ∷ 5 ∷ 0 ∷ 0 ∷ []) ∷
    [])
unfolding names entry_contents journal_event data_choice data_alternatives element_octets identifier_octets length_octets digits
selection_written = refl

limit_written : Answers (written (service 67 initialize_journal)) (
    (record { name = Vmd (74 ∷ []); limit = None }, 191 ∷ 67 ∷ 5 ∷ 160 ∷ 3 ∷ 128 ∷ 1 ∷ 74 ∷ []) ∷
    (record { name = Vmd (74 ∷ []); limit = Some (record { time = record { ms = 5; day = 0 }; number = Some (record { octets = 0 ∷ 0 ∷ 0 ∷ 0 ∷ 0 ∷ 0 ∷ 0 ∷ 4 ∷ [] }) }) }, 191 ∷ 67 ∷ 25 ∷ 160 ∷ 3 ∷ 128 ∷ 1 ∷ 74 ∷ 161 ∷ 18 ∷ 128 ∷ 6 ∷ 0 ∷ 0 ∷ 0 ∷ 5 ∷ 0 ∷ 0 ∷ 129 ∷ 8 ∷ 0 ∷ 0 ∷ 0 ∷ 0 ∷ 0 ∷ 0 ∷ 0 ∷ 4 ∷ []) ∷
    [])
unfolding names entry_contents journal_event data_choice data_alternatives element_octets identifier_octets length_octets digits
limit_written = refl

status_written : Answers (written (service 68 journal_status)) (
    (record { entries = 1; deletable = true }, 191 ∷ 68 ∷ 6 ∷ 128 ∷ 1 ∷ 1 ∷ 129 ∷ 1 ∷ 255 ∷ []) ∷
    [])
unfolding names entry_contents journal_event data_choice data_alternatives element_octets identifier_octets length_octets digits
status_written = refl

name_written : Answers (written (service 69 journal_named)) (
    (Vmd (74 ∷ []), 191 ∷ 69 ∷ 5 ∷ 160 ∷ 3 ∷ 128 ∷ 1 ∷ 74 ∷ []) ∷
    [])
unfolding names entry_contents journal_event data_choice data_alternatives element_octets identifier_octets length_octets digits
name_written = refl

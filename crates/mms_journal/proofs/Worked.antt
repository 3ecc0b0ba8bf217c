-- Worked examples of journals: moments and numbers, which entries are read and what is shown of them, and what each service answers and does, typed by hand.
use Rattle.std.specs.Prelude.{◌≡◌, ℕ, pos, Bool, true, false, List, [], ◌∷◌, map, nat_lt, replicate, Option, Some, None}
use Rattle.std.proofs.Common.{refl}
use Rattle.mms_types.specs.Datum.{Datum, boolean, integer}
use Rattle.mms_types.specs.Errors.{capability_unavailable, object_exists, object_non_existent, object_undefined}
use Rattle.mms_types.specs.declared.condition.ConditionState.TheVariants.{Idle}
use Rattle.mms_types.specs.declared.condition.TimeOfDay.{TimeOfDay}
use Rattle.mms_types.specs.declared.journal.EntryContent.{EntryContent}
use Rattle.mms_types.specs.declared.journal.EntryContent.TheVariants.{Data, Text}
use Rattle.mms_types.specs.declared.journal.EntryToStartAfter.{EntryToStartAfter}
use Rattle.mms_types.specs.declared.journal.JournalEntry.{JournalEntry}
use Rattle.mms_types.specs.declared.journal.JournalEvent.{JournalEvent}
use Rattle.mms_types.specs.declared.journal.JournalLimit.{JournalLimit}
use Rattle.mms_types.specs.declared.journal.JournalStart.{JournalStart}
use Rattle.mms_types.specs.declared.journal.JournalStart.TheVariants as start
use Rattle.mms_types.specs.declared.journal.JournalStop.{JournalStop}
use Rattle.mms_types.specs.declared.journal.JournalStop.TheVariants as stop
use Rattle.mms_types.specs.declared.journal.JournalVariable.{JournalVariable}
use Rattle.mms_types.specs.declared.journal.ReadJournal.{ReadJournal}
use Rattle.mms_types.specs.declared.journal.ReadJournalAnswer.{ReadJournalAnswer}
use Rattle.mms_types.specs.declared.key.Key.{Key}
use Rattle.mms_types.specs.declared.key.Scope.TheVariants as scope
use Rattle.mms_types.specs.declared.object_name.ObjectName.{ObjectName}
use Rattle.mms_types.specs.declared.object_name.ObjectName.TheVariants as name
use Rattle.mms_types.specs.declared.semaphore.EntryNumber.{EntryNumber}
use Rattle.mms_journal.specs.Entries.{moment_of}
use Rattle.mms_journal.specs.Journals.{Log, Rows, most_entries, most_octets}
use Rattle.mms_journal.specs.Selection.{number_of, read}
use Rattle.mms_journal.specs.Services.{after_create, after_delete, after_write, create_cause, created, initialized, missing_cause, removed_of, status, without_client, written_by}
use Rattle.mms_journal.specs.declared.journal.Written.{Written}

-- a function answers each row of a table with its second column
abbrev Answers : {A B : Type 0} → (A → B) → List (A × B) → Type 0
Answers f table = map (λ row. f row.0) table ≡ map (λ row. row.1) table

-- ---- moments and numbers

abbrev at : ℕ → ℕ → TimeOfDay
at day ms = record { day = day; ms = ms }

-- more milliseconds than a day has, the first of the next day, the last of the last day, and FF in all six octets
moments : Answers (λ (time : ℕ × ℕ). moment_of (at time.0 time.1)) (
    ((0, 5), 5) ∷
    ((0, 86400005), 86400005) ∷
    ((1, 5), 86400005) ∷
    ((65535, 86399999), 5662310399999) ∷
    ((65535, 4294967295), 5666518967295) ∷
    [])
moments = refl

abbrev octets : List ℕ → EntryNumber
octets os = record { octets = os }

-- without a sign: FF in all octets is the greatest
numbers : Answers (λ (os : List ℕ). number_of (octets os)) (
    (0 ∷ 0 ∷ 0 ∷ 0 ∷ 0 ∷ 0 ∷ 0 ∷ 1 ∷ [], 1) ∷
    (0 ∷ 0 ∷ 0 ∷ 0 ∷ 0 ∷ 0 ∷ 1 ∷ 0 ∷ [], 256) ∷
    (128 ∷ 0 ∷ 0 ∷ 0 ∷ 0 ∷ 0 ∷ 0 ∷ 0 ∷ [], 9223372036854775808) ∷
    (255 ∷ 255 ∷ 255 ∷ 255 ∷ 255 ∷ 255 ∷ 255 ∷ 255 ∷ [], 18446744073709551615) ∷
    [])
numbers = refl

-- ---- a journal of five entries

abbrev x : List ℕ
x = 120 ∷ []

abbrev y : List ℕ
y = 121 ∷ []

abbrev z : List ℕ
z = 122 ∷ []

abbrev variable : List ℕ → Datum → JournalVariable
variable tag value = record { tag = tag; value = value }

abbrev event : JournalEvent
event = record { name = name.Association (69 ∷ []); state = Idle }

abbrev ok : List ℕ
ok = 111 ∷ 107 ∷ []

abbrev entry : TimeOfDay → EntryContent → JournalEntry
entry time content = record { time = time; content = content }

-- a text; an event and three variables, two of one tag; a variable; a text, of the same moment; and neither an event nor variables
abbrev first : JournalEntry
first = entry (at 0 5) (Text ok)

abbrev second : JournalEntry
second = entry (at 0 9) (Data (Some event) (Some (variable x (integer (pos 7)) ∷ variable y (boolean true) ∷ variable x (boolean true) ∷ [])))

abbrev third : JournalEntry
third = entry (at 0 86400005) (Data None (Some (variable y (integer (pos 7)) ∷ [])))

abbrev fourth : JournalEntry
fourth = entry (at 1 5) (Text ok)

abbrev fifth : JournalEntry
fifth = entry (at 0 1) (Data None None)

abbrev wrote : ℕ → ℕ → JournalEntry → Written
wrote number client e = record { number = number; client = client; entry = e }

-- client 1 wrote the first two, and client 2 the others
abbrev j : Log
j = written_by 2 (third ∷ fourth ∷ fifth ∷ []) (written_by 1 (first ∷ second ∷ []) created)

j_is : j ≡ record { entries = wrote 1 1 first ∷ wrote 2 1 second ∷ wrote 3 2 third ∷ wrote 4 2 fourth ∷ wrote 5 2 fifth ∷ []; written = 5 }
j_is = refl

abbrev named_j : ObjectName
named_j = name.Association (74 ∷ [])

-- what is read, with these conditions
abbrev asked : Option JournalStart → Option JournalStop → Option (List (List ℕ)) → Option EntryToStartAfter → ReadJournal
asked start stop tags after = record { name = named_j; start = start; stop = stop; tags = tags; after = after }

-- the numbers of those that are told, and whether there are more
abbrev told_numbers : ReadJournalAnswer → List (List ℕ) × Bool
told_numbers answer = (map (λ e. e.number) answer.entries, answer.more)

abbrev told_of : Log → ReadJournal → List (List ℕ) × Bool
told_of log request = told_numbers (read request log)

abbrev eight : ℕ → List ℕ
eight n = 0 ∷ 0 ∷ 0 ∷ 0 ∷ 0 ∷ 0 ∷ 0 ∷ n ∷ []

abbrev from_entry : ℕ → Option JournalStart
from_entry n = Some (start.Entry (octets (eight n)))

abbrev so_many : ℕ → Option JournalStop
so_many n = Some (stop.Count n)

-- its time has no effect
abbrev behind : ℕ → Option EntryToStartAfter
behind n = Some (record { time = at 65535 4294967295; number = octets (eight n) })

-- each condition alone, and some together: of one moment in two spellings, of FF in all octets of a number, and of a tag that stands twice in the list
selections : Answers (λ (r : ReadJournal). told_of j r) (
    (asked None None None None, (eight 1 ∷ eight 2 ∷ eight 3 ∷ eight 4 ∷ eight 5 ∷ [], false)) ∷
    (asked None None (Some []) None, (eight 1 ∷ eight 2 ∷ eight 3 ∷ eight 4 ∷ eight 5 ∷ [], false)) ∷
    (asked None None (Some (x ∷ [])) None, (eight 2 ∷ [], false)) ∷
    (asked None None (Some (z ∷ [])) None, ([], false)) ∷
    (asked None None (Some (z ∷ y ∷ y ∷ [])) None, (eight 2 ∷ eight 3 ∷ [], false)) ∷
    (asked None None (Some ([] ∷ [])) None, ([], false)) ∷
    (asked (Some (start.Time (at 1 5))) None None None, (eight 3 ∷ eight 4 ∷ [], false)) ∷
    (asked (Some (start.Time (at 0 86400005))) None None None, (eight 3 ∷ eight 4 ∷ [], false)) ∷
    (asked (Some (start.Time (at 0 86400006))) None None None, ([], false)) ∷
    (asked None (Some (stop.Time (at 0 5))) None None, (eight 1 ∷ eight 5 ∷ [], false)) ∷
    (asked None (Some (stop.Time (at 0 0))) None None, ([], false)) ∷
    (asked (from_entry 4) None None None, (eight 4 ∷ eight 5 ∷ [], false)) ∷
    (asked (from_entry 0) None None None, (eight 1 ∷ eight 2 ∷ eight 3 ∷ eight 4 ∷ eight 5 ∷ [], false)) ∷
    (asked (Some (start.Entry (octets (replicate 8 255)))) None None None, ([], false)) ∷
    (asked None None None (behind 4), (eight 5 ∷ [], false)) ∷
    (asked None None None (behind 0), (eight 1 ∷ eight 2 ∷ eight 3 ∷ eight 4 ∷ eight 5 ∷ [], false)) ∷
    (asked None None None (behind 5), ([], false)) ∷
    (asked None None None (Some (record { time = at 0 0; number = octets (128 ∷ 0 ∷ 0 ∷ 0 ∷ 0 ∷ 0 ∷ 0 ∷ 0 ∷ []) })), ([], false)) ∷
    (asked (from_entry 2) None None (behind 3), (eight 4 ∷ eight 5 ∷ [], false)) ∷
    (asked (Some (start.Time (at 0 5))) (so_many 2) None (behind 1), (eight 2 ∷ eight 3 ∷ [], false)) ∷
    (asked (from_entry 2) (Some (stop.Time (at 0 9))) None None, (eight 2 ∷ eight 5 ∷ [], false)) ∷
    (asked None (so_many 1) (Some (y ∷ [])) None, (eight 2 ∷ [], false)) ∷
    (asked None (so_many 2147483647) None None, (eight 1 ∷ eight 2 ∷ eight 3 ∷ eight 4 ∷ eight 5 ∷ [], false)) ∷
    [])
selections = refl

-- by a tag, the event and both variables of it are shown, and the time as it was written
shown_by_tag : read (asked None None (Some (x ∷ [])) None) j ≡ record {
  entries = record { number = eight 2; client = 1; entry = entry (at 0 9) (Data (Some event) (Some (variable x (integer (pos 7)) ∷ variable x (boolean true) ∷ []))) } ∷ [];
  more = false;
}
shown_by_tag = refl

-- without tags, all of it, and who wrote it
shown_whole : read (asked (from_entry 3) (so_many 1) (Some []) None) j ≡ record {
  entries = record { number = eight 3; client = 2; entry = third } ∷ [];
  more = false;
}
shown_whole = refl

-- ---- the most that is told at once

abbrev seventeen : Log
seventeen = written_by 1 (replicate 17 first) created

-- 16 of 17 that are asked for are all, 17 are more, and after the first there are 16
sixteen_at_once : Answers (λ (r : ReadJournal). (told_of seventeen r).1) (
    (asked None None None None, true) ∷
    (asked None (so_many 15) None None, false) ∷
    (asked None (so_many 16) None None, false) ∷
    (asked None (so_many 17) None None, true) ∷
    (asked None (so_many 18) None None, true) ∷
    (asked None None None (behind 1), false) ∷
    (asked (from_entry 17) None None None, false) ∷
    [])
sixteen_at_once = refl

-- ---- numbers go on

-- all that is both of that moment or of an earlier one and of that number or of a lower one goes
abbrev limit : TimeOfDay → Option EntryNumber → Option JournalLimit
limit time number = Some (record { time = time; number = number })

removals : Answers {B = ℕ × List ℕ} (λ (l : Option JournalLimit). (removed_of l j, map (λ w. w.number) (initialized l j).entries)) (
    (None, (5, [])) ∷
    (limit (at 0 86400005) (Some (octets (eight 4))), (4, 5 ∷ [])) ∷
    (limit (at 1 5) None, (5, [])) ∷
    (limit (at 0 5) None, (2, 2 ∷ 3 ∷ 4 ∷ [])) ∷
    (limit (at 0 5) (Some (octets (eight 4))), (1, 2 ∷ 3 ∷ 4 ∷ 5 ∷ [])) ∷
    (limit (at 65535 4294967295) (Some (octets (eight 0))), (0, 1 ∷ 2 ∷ 3 ∷ 4 ∷ 5 ∷ [])) ∷
    (limit (at 0 0) None, (0, 1 ∷ 2 ∷ 3 ∷ 4 ∷ 5 ∷ [])) ∷
    [])
removals = refl

abbrev once : Log
once = written_by 1 (first ∷ []) (initialized (limit (at 1 5) (Some (octets (eight 4)))) j)

abbrev twice : Log
twice = written_by 1 (first ∷ []) (initialized None once)

after_removal : map (λ w. w.number) once.entries ≡ 5 ∷ 6 ∷ []
after_removal = refl

after_both : map (λ w. w.number) twice.entries ≡ 7 ∷ []
after_both = refl

none_from_eight : told_of twice (asked (from_entry 8) None None None) ≡ ([], false)
none_from_eight = refl

-- ---- the table: J of the association of client 1, J of the VMD, and J of a domain

abbrev key_of_client : Key
key_of_client = record { scope = scope.Association 1; item = 74 ∷ [] }

abbrev key_of_vmd : Key
key_of_vmd = record { scope = scope.Vmd; item = 74 ∷ [] }

abbrev key_of_domain : Key
key_of_domain = record { scope = scope.Domain (68 ∷ []); item = 74 ∷ [] }

abbrev in_vmd : ObjectName
in_vmd = name.Vmd (74 ∷ [])

abbrev in_domain : ObjectName
in_domain = name.Domain (68 ∷ []) (74 ∷ [])

abbrev rows : Rows
rows = after_create 1 in_domain (after_create 1 in_vmd (after_create 1 named_j []))

made : rows ≡ (key_of_client, created) ∷ (key_of_vmd, created) ∷ (key_of_domain, created) ∷ []
made = refl

creations : Answers (λ (r : Bool × ℕ × ObjectName). create_cause r.0 r.1 r.2 rows) (
    ((true, 1, named_j), Some object_exists) ∷
    ((false, 1, named_j), Some object_exists) ∷
    ((true, 2, named_j), None) ∷
    ((true, 2, in_vmd), Some object_exists) ∷
    ((false, 2, in_domain), Some object_undefined) ∷
    ((true, 2, in_domain), Some object_exists) ∷
    [])
creations = refl

full : create_cause true 1 (name.Vmd (75 ∷ [])) (replicate 64 (key_of_vmd, created)) ≡ Some capability_unavailable
full = refl

almost_full : create_cause true 1 (name.Vmd (75 ∷ [])) (replicate 63 (key_of_vmd, created)) ≡ None
almost_full = refl

-- an aa-specific name is the client's own
missing : missing_cause 2 named_j rows ≡ Some object_non_existent
missing = refl

written_once : after_write 1 named_j (first ∷ []) rows ≡ (key_of_client, record { entries = wrote 1 1 first ∷ []; written = 1 }) ∷ (key_of_vmd, created) ∷ (key_of_domain, created) ∷ []
written_once = refl

-- where a client has none, nothing is written
written_nowhere : after_write 2 named_j (first ∷ []) rows ≡ rows
written_nowhere = refl

statuses : status 1 named_j (after_write 1 named_j (first ∷ second ∷ []) rows) ≡ Some (record { entries = 2; deletable = true })
statuses = refl

-- one that is deleted and made again begins with 1
made_again : after_write 1 named_j (second ∷ []) (after_create 1 named_j (after_delete 1 named_j (after_write 1 named_j (first ∷ []) rows)))
    ≡ (key_of_vmd, created) ∷ (key_of_domain, created) ∷ (key_of_client, record { entries = wrote 1 1 second ∷ []; written = 1 }) ∷ []
made_again = refl

-- a client that is lost takes the journals of its association with it, and leaves what it wrote into others
lost : without_client 1 (after_write 1 in_vmd (first ∷ []) rows) ≡ (key_of_vmd, record { entries = wrote 1 1 first ∷ []; written = 1 }) ∷ (key_of_domain, created) ∷ []
lost = refl

-- ---- limits

limits : Answers (λ (n : ℕ × ℕ). nat_lt n.0 n.1) (
    ((most_entries, 65536), false) ∷
    ((most_entries, 65537), true) ∷
    ((most_octets, 16777216), false) ∷
    ((most_octets, 16777217), true) ∷
    [])
limits = refl

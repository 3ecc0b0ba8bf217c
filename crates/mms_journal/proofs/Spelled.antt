-- What is spelled of an entry is read as that entry, and ends with its variables.
use Rattle.std.proofs.Common.{◌≡◌, ◌∙◌, ap, subst, sym, refl, ℕ, ◌+◌, ◌-◌, ◌<◌, ◌≤◌, ◌^◌, IsTrue, true, List, [], ◌++◌, Option, Some, append_assoc, drop, length, arith, length-append, Ok}
use Rattle.std.proofs.Math.Seq.{drop-append_seam}
use Rattle.ber_core.specs.Spelling.{element_octets, identifier_octets, length_octets}
use Rattle.ber_core.specs.declared.element.Tag.{Tag}
use Rattle.ber_forms.specs.declared.unread.Unread.{Unread}
use Rattle.ber_forms.specs.declared.unread.Unread.TheVariants as unread
use Rattle.ber_forms.specs.Fits.{is_sound}
use Rattle.ber_forms.specs.Reading.{Fails, reading}
use Rattle.ber_forms.specs.Spelling.{member_octets, slot_octets, spelling, tag_of}
use Rattle.ber_forms.specs.Value.{Value, optionally}
use Rattle.ber_forms.proofs.Complete.{reading_complete}
use Rattle.mms_types.specs.Spelling.{widest}
use Rattle.mms_types.specs.declared.condition.TimeOfDay.{TimeOfDay}
use Rattle.mms_types.specs.declared.identifier.Edition.{Edition}
use Rattle.mms_types.specs.declared.identifier.Edition.TheVariants.{Two}
use Rattle.mms_types.specs.declared.journal.EntryContent.TheVariants.{Data}
use Rattle.mms_types.specs.declared.journal.JournalEntry.{JournalEntry}
use Rattle.mms_types.specs.declared.journal.JournalEvent.{JournalEvent}
use Rattle.mms_types.specs.declared.journal.JournalVariable.{JournalVariable}
use Rattle.pdu_names.specs.Editions.{lengths_of}
use Rattle.pdu_names.specs.Kinds.{IsOf, Kind, context}
use Rattle.pdu_names.proofs.KindLaws.{spells}
use Rattle.pdu_events.specs.Entries.{entry_contents, entry_contents_sound, entry_data, journal_entry, journal_event, journal_variables}
use Rattle.pdu_events.specs.Times.{time_of_day}
use Rattle.mms_journal.specs.Entries.{entry_length, entry_octets, moment_in, variables_of}
use Rattle.mms_journal.specs.Kept.{BeginAt, IsKept, entry_in, entry_read, variables_octets}

-- ---- of any kind

-- what is spelled is read, in each edition, as the value that was spelled
pub said_back : {X : Type 0} (k : Kind X) (edition : Edition) (x : X) → IsTrue (is_sound (k.form edition)) → IsOf k edition x
    → length (spelling (k.form widest) (k.value x)) < 2 ^ 64 → reading (lengths_of edition) (k.form edition) (spelling (k.form widest) (k.value x)) ≡ Ok (k.value x)
said_back k edition x sound of short =
    let lengths = lengths_of edition in
    let alike = (k.alike edition).1 (k.value x) in
    let low : length (spelling (k.form edition) (k.value x)) < 2 ^ 64 = subst (λ (o : List ℕ). length o < 2 ^ 64) (sym alike) short in
    subst (λ (o : List ℕ). reading lengths (k.form edition) o ≡ Ok (k.value x)) alike
    (reading_complete lengths (k.form edition) (spelling (k.form edition) (k.value x)) (k.value x) ((spells k edition sound).says lengths x of low))

-- ---- of an entry

entry_sound : (e : Edition) → is_sound (journal_entry.form e) ≡ true
entry_sound e = rw (entry_contents_sound e) refl

pub entry_said : (e : JournalEntry) → IsOf journal_entry Two e → entry_length e < 2 ^ 64 → entry_read (entry_octets e) ≡ Ok (journal_entry.value e)
unfolding entry_read entry_octets
entry_said e of short = said_back journal_entry Two e (entry_sound Two) of short

pub entry_again : (octets : List ℕ) (e : JournalEntry) → entry_read octets ≡ Ok (journal_entry.value e) → entry_in octets ≡ e
unfolding entry_in
entry_again octets e h = rw h (journal_entry.again e)

pub entry_found : (octets : List ℕ) (e : JournalEntry) → reading (lengths_of Two) (journal_entry.form Two) octets ≡ Ok (journal_entry.value e) → entry_in octets ≡ e
unfolding entry_read
entry_found octets e h = entry_again octets e h

-- what is kept is read, unless memory runs out
pub only_memory : (octets : List ℕ) (v : Value) (u : Unread) → entry_read octets ≡ Ok v → Fails u (reading (lengths_of Two) (journal_entry.form Two) octets) → u ≡ unread.Memory
unfolding entry_read
only_memory octets v unread.Memory kept fails = refl
only_memory octets v unread.Malformed kept fails = absurd (cc (kept, fails))
only_memory octets v unread.TooDeep kept fails = absurd (cc (kept, fails))

-- ---- its variables

-- the octets end with those
abbrev Ends : List ℕ → List ℕ → Type 0
Ends last octets = (front : List ℕ) × (octets ≡ front ++ last)

ends_after : (front last octets : List ℕ) → Ends last octets → Ends last (front ++ octets)
ends_after front last octets h = (front ++ h.0, ap (λ (o : List ℕ). front ++ o) h.1 ∙ sym (append_assoc front h.0 last))

ends_element : (t : Tag) (last octets : List ℕ) → Ends last octets → Ends last (element_octets t octets)
unfolding element_octets
ends_element t last octets h = ends_after (identifier_octets t) last (length_octets (length octets) ++ octets) (ends_after (length_octets (length octets)) last octets h)

ends_with : (time : TimeOfDay) (event : Option JournalEvent) (variables : List JournalVariable)
    → Ends (variables_octets variables) (entry_octets (record { time = time; content = Data event (Some variables) }))
unfolding entry_octets variables_octets entry_contents
ends_with time event variables =
    let last = variables_octets variables in
    let list = element_octets (tag_of 2 1 (journal_variables.form widest)) last in
    let before = slot_octets (member_octets ((context 0 journal_event).member widest)) (optionally journal_event.value event) in
    let content = element_octets (tag_of 2 2 (entry_data.form widest)) (before ++ list) in
    let when = element_octets (tag_of 2 0 (time_of_day.form widest)) (spelling (time_of_day.form widest) (time_of_day.value time)) in
    ends_after when last content (ends_element (tag_of 2 2 (entry_data.form widest)) last (before ++ list)
    (ends_after before last list (ends_element (tag_of 2 1 (journal_variables.form widest)) last last ([], refl))))

last_of : (last octets : List ℕ) → Ends last octets → (length last ≤ length octets) × (drop (length octets - length last) octets ≡ last)
last_of last octets h =
    let long : length octets ≡ length h.0 + length last = ap length h.1 ∙ length-append h.0 last in
    let front : length octets - length last ≡ length h.0 = omega (arith, long) in
    (omega (arith, long), ap (λ n. drop n octets) front ∙ ap (drop (length h.0)) h.1 ∙ drop-append_seam h.0 last)

pub variables_end : (e : JournalEntry) (event : Option JournalEvent) (variables : List JournalVariable) → e.content ≡ Data event (Some variables)
    → (length (variables_octets variables) ≤ entry_length e) × (drop (entry_length e - length (variables_octets variables)) (entry_octets e) ≡ variables_octets variables)
variables_end e event variables is =
    let last = variables_octets variables in
    let same : record { time = e.time; content = Data event (Some variables) } ≡ e = λ i. record { time = e.time; content = sym is i } in
    last_of last (entry_octets e) (subst (λ (x : JournalEntry). Ends last (entry_octets x)) same (ends_with e.time event variables))

-- ---- what is kept of it

pub kept_is : (e : JournalEntry) (octets : List ℕ) (moment : ℕ) (place : Option ℕ) → IsOf journal_entry Two e → octets ≡ entry_octets e → length octets < 2 ^ 64
    → moment ≡ moment_in e → BeginAt place (entry_octets e) (variables_of e.content) → (entry_in octets ≡ e) × IsKept octets moment place
kept_is e octets moment place of is short when begins =
    let read : entry_read octets ≡ Ok (journal_entry.value e) = ap entry_read is ∙ entry_said e of (subst (λ (o : List ℕ). length o < 2 ^ 64) is short) in
    let said : entry_in octets ≡ e = entry_again octets e read in (
      said,
      record {
        read = read ∙ ap (λ (x : JournalEntry). Ok (journal_entry.value x)) (sym said);
        spelled = is ∙ ap entry_octets (sym said);
        dated = when ∙ ap moment_in (sym said);
        begins = subst (λ (o : List ℕ). BeginAt place o (variables_of (entry_in octets).content)) (sym is)
            (subst (λ (x : JournalEntry). BeginAt place (entry_octets e) (variables_of x.content)) (sym said) begins);
      },
    )

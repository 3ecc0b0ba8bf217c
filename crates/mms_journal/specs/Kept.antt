-- An entry as a journal keeps it, in octets, and what stands beside them.
use Rattle.std.specs.Prelude.{◌≡◌, ◌≤◌, ℕ, List, [], drop, length, map, Option, None, Some, Result, Ok, Err}
use Rattle.ber_forms.specs.Fault.{Fault}
use Rattle.ber_forms.specs.Reading.{reading}
use Rattle.ber_forms.specs.Spelling.{each_octets, member_octets}
use Rattle.ber_forms.specs.Value.{Value, all_of, nothing}
use Rattle.mms_types.specs.Spelling.{widest}
use Rattle.mms_types.specs.declared.identifier.Edition.TheVariants.{Two}
use Rattle.mms_types.specs.declared.journal.JournalEntry.{JournalEntry}
use Rattle.mms_types.specs.declared.journal.JournalVariable.{JournalVariable}
use Rattle.pdu_names.specs.Editions.{lengths_of}
use Rattle.pdu_names.specs.Kinds.{universal}
use Rattle.pdu_events.specs.Entries.{journal_entry, journal_variable}
use Rattle.mms_journal.specs.Entries.{entry_octets, moment_in, variables_of}

-- what octets are read as, by the form of an entry's contents
unfoldable pub entry_read : List ℕ → Result Value Fault
entry_read octets = reading (lengths_of Two) (journal_entry.form Two) octets

abbrev value_or_nothing : Result Value Fault → Value
value_or_nothing (Ok v) = v
value_or_nothing (Err e) = nothing

-- the entry that octets say
unfoldable pub entry_in : List ℕ → JournalEntry
entry_in octets = journal_entry.said (value_or_nothing (entry_read octets))

-- the octets of variables, one after the other
unfoldable pub variables_octets : List JournalVariable → List ℕ
variables_octets variables = each_octets (member_octets ((universal 16 journal_variable).member widest)) (all_of (map journal_variable.value variables))

-- the variables are spelled from that place to the end, or there are none
abbrev pub BeginAt : Option ℕ → List ℕ → List JournalVariable → Type 0
BeginAt None octets variables = variables ≡ []
BeginAt (Some place) octets variables = (place ≤ length octets) × (drop place octets ≡ variables_octets variables)

-- the octets are the spelling of an entry, which is read of them; its moment stands beside them, and where its variables begin, unless it has none
pub record IsKept (octets : List ℕ) (moment : ℕ) (place : Option ℕ) : Type 0 where
  pub read : entry_read octets ≡ Ok (journal_entry.value (entry_in octets))
  pub spelled : octets ≡ entry_octets (entry_in octets)
  pub dated : moment ≡ moment_in (entry_in octets)
  pub begins : BeginAt place octets (variables_of (entry_in octets).content)

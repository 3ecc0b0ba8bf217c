-- What was read of octets.
use Rattle.std.specs.Prelude.{◌≡◌, ℕ, Bool, true, false, List, Option, None, Some, Result, Ok, Err}
use Rattle.mms_types.specs.declared.event.CellEvent.{CellEvent}
use Rattle.mms_types.specs.declared.event.CellEvent.TheVariants.{Heard, Lost, Tick, Ends, Drain}
use Rattle.mms_types.specs.declared.identifier.Edition.{Edition}
use Rattle.mms_types.specs.declared.memory.Memory.{Memory}
use Rattle.mms_types.specs.declared.pdu.Pdu.{Pdu}
use Rattle.mms_types.specs.Wanting.{wanting}
use Rattle.mms_pdu.specs.declared.refusal.Refusal.{Refusal}
use Rattle.mms_pdu.specs.declared.refusal.Refusal.TheVariants as refusal
use Rattle.mms_pdu.specs.declared.reading.Read.{Read}
use Rattle.mms_pdu.specs.Heard.{pdu_heard}
use Rattle.mms_pdu.specs.Hearing.{depth_of}

-- the PDU, or the refusal
abbrev pub pdu_read : Result Read Refusal → Result Pdu Refusal
pdu_read (Ok read) = Ok read.pdu
pdu_read (Err refusal) = Err refusal

-- memory was wanting to read it
abbrev pub wants_memory : Result Read Refusal → Bool
wants_memory (Err refusal.Memory) = true
wants_memory read = false

-- it is told, unless memory was wanting
abbrev pub unless_memory : Result Read Refusal → Result (Result Read Refusal) Memory
unless_memory (Err refusal.Memory) = Err wanting
unless_memory read = Ok read

-- the depth of what was read
abbrev pub IsDeep : Result Read Refusal → Type 0
IsDeep (Ok read) = read.depth ≡ depth_of read.pdu
IsDeep (Err refusal) = Unit {0}

-- octets were read that are this
pub record IsRead (read : Result Read Refusal) (heard : Result Pdu Refusal) : Type 0 where
  pub pdu : pdu_read read ≡ heard
  pub depth : IsDeep read

-- what is kept of the octets of an event: nothing, or the edition by which they were read, and what was read
abbrev pub Kept : Type 0
Kept = Option (Edition × Result Read Refusal)

-- memory was wanting to read it
abbrev pub kept_wants_memory : Kept → Bool
kept_wants_memory None = false
kept_wants_memory (Some kept) = wants_memory kept.1

abbrev pub IsReadOf : Kept → List ℕ → Type 0
IsReadOf None octets = Unit {0}
IsReadOf (Some kept) octets = IsRead kept.1 (pdu_heard kept.0 octets)

-- it is of that event
abbrev pub IsReadingOf : Kept → CellEvent → Type 0
IsReadingOf kept (Heard client octets) = IsReadOf kept octets
IsReadingOf kept event = Unit {0}

-- the edition by which something is kept, and that by which the octets of an event are read, where it has any
abbrev pub edition_of : Kept → Option Edition
edition_of None = None
edition_of (Some kept) = Some kept.0

abbrev pub edition_read : CellEvent → Edition → Option Edition
edition_read (Heard client octets) edition = Some edition
edition_read (Lost client) edition = None
edition_read (Tick ms) edition = None
edition_read (Ends name) edition = None
edition_read (Drain client) edition = None

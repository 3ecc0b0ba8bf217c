-- What was read of a client's octets is what they come to.
use Rattle.std.specs.Prelude.{◌≡◌, ℕ, false, Option, Some, List, Result, Ok, Err}
use Rattle.std.proofs.Common.{ap, sym, ◌∙◌}
use Rattle.mms_types.specs.declared.pdu.Pdu.{Pdu}
use Rattle.mms_pdu.specs.declared.refusal.Refusal.{Refusal}
use Rattle.mms_pdu.specs.declared.refusal.Refusal.TheVariants as refusal
use Rattle.mms_pdu.specs.declared.reading.Read.{Read}
use Rattle.mms_pdu.specs.Heard.{pdu_heard}
use Rattle.mms_pdu.specs.Hearing.{Hears}
use Rattle.association.specs.declared.constants.Constants.{Constants}
use Rattle.association.specs.Client.{ClientRow, Client as RoomyRow}
use Rattle.part_table.specs.Held.{held_at}
use Rattle.cell_client.specs.Association.{Verdict, verdict, verdict_by}
use Rattle.cell_client.specs.Reads.{pdu_read, wants_memory}
use Rattle.step_parts.specs.declared.part.Part.{Part}
use Rattle.step_parts.specs.declared.part.Part.TheVariants.{Client}
use Rattle.step_parts.specs.Found.{row_held}
use Rattle.step_parts.specs.Partition.{client_place}
use Rattle.step_parts.proofs.Found.{row_of_held}

-- by what is heard by the edition of the client
pub verdict_of_edition : (hand : List (Option Part)) (client : ℕ) (part : RoomyRow) (constants : Constants) (octets : List ℕ)
    → held_at hand (client_place client) ≡ Some (Client part) → constants ≡ part.row.constants
    → verdict_by (row_held hand client).association (row_held hand client) (pdu_heard constants.edition octets) ≡ verdict (row_held hand client) octets
verdict_of_edition hand client part constants octets held same =
    ap (λ (k : Constants). verdict_by (row_held hand client).association (row_held hand client) (pdu_heard k.edition octets))
    (same ∙ ap (λ (r : ClientRow). r.constants) (row_of_held hand client part held))

-- where memory wasn't wanting, what was read is what is heard
pub read_heard_so : (read : Result Read Refusal) (heard : Result Pdu Refusal) → wants_memory read ≡ false → Hears (λ (r : Read). r.pdu) read heard → pdu_read read ≡ heard
read_heard_so (Ok read) heard had told = sym told
read_heard_so (Err refusal.InvalidPdu) heard had told = sym told
read_heard_so (Err refusal.UnknownType) heard had told = sym told
read_heard_so (Err (refusal.Modifier invoke)) heard had told = sym told
read_heard_so (Err (refusal.Service invoke)) heard had told = sym told
read_heard_so (Err (refusal.Recursion invoke)) heard had told = sym told
read_heard_so (Err (refusal.Argument invoke)) heard had told = sym told
read_heard_so (Err refusal.Memory) heard had told = absurd (cc had)

pub verdict_heard : (hand : List (Option Part)) (client : ℕ) (part : RoomyRow) (read : Result Read Refusal) (told : Result Pdu Refusal) (v : Verdict)
    → held_at hand (client_place client) ≡ Some (Client part) → wants_memory read ≡ false → Hears (λ (r : Read). r.pdu) read told
    → v ≡ verdict_by part.row.association part.row (pdu_read read) → v ≡ verdict_by (row_held hand client).association (row_held hand client) told
verdict_heard hand client part read told v held had heard found =
    found
    ∙ ap (λ (r : ClientRow). verdict_by r.association r (pdu_read read)) (row_of_held hand client part held)
    ∙ ap (verdict_by (row_held hand client).association (row_held hand client)) (read_heard_so read told had heard)

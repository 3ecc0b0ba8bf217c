-- Uploads of domains: which are open, what is sent next of each, and how they end (ISO 9506-1, upload state machine; ISO 9506-2,
-- InitiateUploadSequence, UploadSegment, TerminateUploadSequence).
use Rattle.std.specs.Prelude.{◌≡◌, ◌≢◌, ℕ, ℤ, pos, ◌+◌, ◌≤◌, ◌≤ℤ◌, nat_le, Bool, false, not, ◌&&◌, ◌==◌, if◌then◌else◌, List, [], ◌∷◌, ◌++◌, All, AllPairs, count_by, filter, find, length, map, Option, is_none, IsSomeAnd}
use Rattle.std.specs.List.{list_any}
use Rattle.std.specs.Option.{option_and_then, option_map, option_map_or}
use Rattle.std.specs.Ordering.{int_eq}
use Rattle.mms_types.specs.Errors.{first_of, capability_unavailable, object_non_existent, object_state_conflict}
use Rattle.mms_types.specs.declared.domain.InitiateUploadSequenceAnswer.{InitiateUploadSequenceAnswer}
use Rattle.mms_types.specs.declared.domain.Segment.{Segment}
use Rattle.mms_types.specs.declared.service_error.ServiceError.{ServiceError}
use Rattle.domain_load.specs.Domains.{Rows, is_there, name_eq, named, octets}
use Rattle.domain_load.specs.Standing.{is_loading}
use Rattle.domain_upload.specs.Pieces.{next_piece}
use Rattle.domain_upload.specs.declared.upload.Upload.{Upload}

-- the uploads that are open, in the order in which they were made, and how many numbers were given
pub record OpenUploads : Type 0 where
  pub rows : List Upload
  pub given : ℕ

-- the upload has that number, and is this client's
abbrev pub is_upload : ℕ → ℤ → Upload → Bool
is_upload client number u = u.client == client && int_eq u.number number

-- the upload of that number that this client has
abbrev pub upload_of : ℕ → ℤ → OpenUploads → Option Upload
upload_of client number s = find (is_upload client number) s.rows

-- the client has an open upload
abbrev pub has_upload : ℕ → OpenUploads → Bool
has_upload client s = list_any (λ u. u.client == client) s.rows

-- how many uploads of the domain are open, whoever has them
abbrev pub uploads_of : List ℕ → OpenUploads → ℕ
uploads_of domain s = count_by (λ u. name_eq u.domain domain) s.rows

-- ---- what holds at any time

-- the most uploads that are open on a device (this profile's limit)
abbrev pub most_uploads : ℕ
most_uploads = 64

-- the greatest number of 32 bits with a sign: behind it there is none
abbrev pub last_number : ℕ
last_number = 2147483647

-- open uploads are few, and have distinct numbers, each of which was given: they count from 1
pub record AreNumbered (s : OpenUploads) : Type 0 where
  pub few : length s.rows ≤ most_uploads
  pub last : s.given ≤ last_number
  pub distinct : AllPairs (λ one other. one.number ≢ other.number) s.rows
  pub positive : All (λ u. pos 1 ≤ℤ u.number) s.rows
  pub reached : All (λ u. u.number ≤ℤ pos s.given) s.rows

-- the domain of an upload is there and is not LOADING, and no more octets were sent than it has
abbrev pub IsOf : Rows → Upload → Type 0
IsOf domains u = IsSomeAnd (named u.domain domains) (λ d. (is_loading d ≡ false) × (u.sent ≤ octets d))

-- so it is with each open upload
pub record AreOf (s : OpenUploads) (domains : Rows) : Type 0 where
  pub each : All (IsOf domains) s.rows

-- ---- InitiateUploadSequence

-- why no upload begins: an upload is open until it is terminated, also where its last piece was sent
abbrev pub initiate_cause : List ℕ → Rows → OpenUploads → Option ServiceError
initiate_cause name domains s = first_of (
    (is_none (named name domains), object_non_existent)
    ∷ (is_there is_loading name domains, object_state_conflict)
    ∷ (nat_le most_uploads (length s.rows), capability_unavailable)
    ∷ (nat_le last_number s.given, capability_unavailable)
    ∷ [])

-- numbers count from 1, for all clients together
abbrev pub next_number : OpenUploads → ℤ
next_number s = pos (s.given + 1)

abbrev pub initiate_answer : List ℕ → Rows → OpenUploads → Option InitiateUploadSequenceAnswer
initiate_answer name domains s =
    option_map (λ d. record { number = next_number s; capabilities = d.capabilities }) (named name domains)

-- an upload of which nothing was sent
abbrev pub begun : ℕ → List ℕ → OpenUploads → Upload
begun client name s = record { number = next_number s; client = client; domain = name; sent = 0; ended = false }

abbrev pub after_initiate : ℕ → List ℕ → OpenUploads → OpenUploads
after_initiate client name s = record { rows = s.rows ++ begun client name s ∷ []; given = s.given + 1 }

-- ---- UploadSegment

-- why no piece is sent: this client has no such upload, or its last piece was sent
abbrev pub segment_cause : ℕ → ℤ → OpenUploads → Option ServiceError
segment_cause client number s = first_of (
    (is_none (upload_of client number s), object_non_existent)
    ∷ (option_map_or (λ u. u.ended) (upload_of client number s) false, object_state_conflict)
    ∷ [])

-- the next piece of an upload, by the size that was negotiated with its client
abbrev pub piece_of : ℕ → Rows → Upload → Option Segment
piece_of size domains u = option_map (next_piece size u.sent) (named u.domain domains)

abbrev pub segment_answer : ℕ → ℤ → ℕ → Rows → OpenUploads → Option Segment
segment_answer client number size domains s = option_and_then (piece_of size domains) (upload_of client number s)

-- the upload after a piece: its octets were sent too, and the last piece ends it
abbrev pub after_piece : Upload → Segment → Upload
after_piece u p = record u { sent = u.sent + length p.octets; ended = not p.more }

abbrev pub after_next : ℕ → Rows → Upload → Upload
after_next size domains u = option_map_or (after_piece u) (piece_of size domains u) u

-- the client's upload of that number is what it is after its next piece, and all others are as before
abbrev pub upload_after : ℕ → ℤ → ℕ → Rows → Upload → Upload
upload_after client number size domains u = if is_upload client number u then after_next size domains u else u

abbrev pub after_segment : ℕ → ℤ → ℕ → Rows → OpenUploads → OpenUploads
after_segment client number size domains s = record s { rows = map (upload_after client number size domains) s.rows }

-- ---- TerminateUploadSequence: an upload ends at any time

abbrev pub terminate_cause : ℕ → ℤ → OpenUploads → Option ServiceError
terminate_cause client number s = first_of ((is_none (upload_of client number s), object_non_existent) ∷ [])

abbrev pub after_terminate : ℕ → ℤ → OpenUploads → OpenUploads
after_terminate client number s = record s { rows = filter (λ u. not (is_upload client number u)) s.rows }

-- ---- a client is lost: its uploads go

abbrev pub after_lose : ℕ → OpenUploads → OpenUploads
after_lose client s = record s { rows = filter (λ u. not (u.client == client)) s.rows }

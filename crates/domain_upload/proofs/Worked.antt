-- Worked examples of uploads: what each service tells and does, typed by hand from its definition.
use Rattle.std.specs.Prelude.{◌≡◌, ℕ, ℤ, pos, negsuc, ◌+◌, ◌-◌, min, nat_lt, Bool, true, false, List, [], ◌∷◌, length, map, replicate, Option, Some, None}
use Rattle.std.proofs.Common.{refl, ap}
use Rattle.mms_types.specs.Errors.{capability_unavailable, object_non_existent, object_state_conflict}
use Rattle.mms_types.specs.declared.domain.InitiateUploadSequenceAnswer.{InitiateUploadSequenceAnswer}
use Rattle.mms_types.specs.declared.domain.Segment.{Segment}
use Rattle.domain_load.specs.Domains.{Rows, octets}
use Rattle.domain_load.specs.declared.domain.Domain.{Domain}
use Rattle.domain_upload.specs.Pieces.{most_of_piece, next_piece}
use Rattle.domain_upload.specs.Uploads.{OpenUploads, after_initiate, after_lose, after_segment, after_terminate, has_upload, initiate_answer, initiate_cause, segment_answer, segment_cause, terminate_cause, uploads_of}
use Rattle.domain_upload.specs.declared.upload.Upload.{Upload}
use Rattle.domain_upload.proofs.Lengths.{length_next}

-- a function answers each row of a table with its second column
abbrev Answers : {A B : Type 0} → (A → B) → List (A × B) → Type 0
Answers f table = map (λ row. f row.0) table ≡ map (λ row. row.1) table

-- ---- how long pieces are

-- how many octets the next piece has, and whether more come after it, by the size that was negotiated, of how many octets the domain has and how
-- many were sent
abbrev told : ℕ × ℕ × ℕ → ℕ × Bool
told (size, total, sent) = let these = min (most_of_piece size) (total - sent) in (these, nat_lt (sent + these) total)

-- so it is with the next piece of every domain of so many octets
each_piece : (size sent : ℕ) (d : Domain) → (length (next_piece size sent d).octets, (next_piece size sent d).more) ≡ told (size, octets d, sent)
each_piece size sent d = ap (λ n. (n, nat_lt (sent + n) (octets d))) (length_next size sent d)

-- 64 less than the size, and at most 4,096; the last piece is the one with which all octets are sent: no empty one follows
lengths : Answers told (
    ((65000, 4096, 0), (4096, false)) ∷
    ((65000, 4097, 0), (4096, true)) ∷
    ((65000, 4097, 4096), (1, false)) ∷
    ((65000, 0, 0), (0, false)) ∷
    ((65000, 1, 0), (1, false)) ∷
    ((65000, 1048576, 1044479), (4096, true)) ∷
    ((65000, 1048576, 1044480), (4096, false)) ∷
    ((512, 0, 0), (0, false)) ∷
    ((512, 448, 0), (448, false)) ∷
    ((512, 449, 0), (448, true)) ∷
    ((512, 449, 448), (1, false)) ∷
    ((512, 1048576, 0), (448, true)) ∷
    ((4159, 4096, 0), (4095, true)) ∷
    ((4160, 4096, 0), (4096, false)) ∷
    [])
lengths = refl

-- ---- domains, uploads

-- "D", "E", "F", "G" and "M", of which the last is missing
abbrev d : List ℕ
d = 68 ∷ []

abbrev e : List ℕ
e = 69 ∷ []

abbrev f : List ℕ
f = 70 ∷ []

abbrev g : List ℕ
g = 71 ∷ []

abbrev m : List ℕ
m = 77 ∷ []

abbrev texts : List (List ℕ)
texts = (67 ∷ []) ∷ [] ∷ []

abbrev domain : Option ℕ → List (List ℕ) → List (List ℕ) → Domain
domain loader segments invocations =
    record { capabilities = texts; sharable = true; loader = loader; segments = segments; invocations = invocations }

-- D has five octets in three segments, of which one is empty; E has none; client 1 loads F; an invocation has G
abbrev domains : Rows
domains =
    (d, domain None ((1 ∷ 2 ∷ 3 ∷ []) ∷ [] ∷ (4 ∷ 5 ∷ []) ∷ []) [])
    ∷ (e, domain None [] [])
    ∷ (f, domain (Some 1) ((1 ∷ []) ∷ []) [])
    ∷ (g, domain None ((6 ∷ []) ∷ []) (d ∷ []))
    ∷ []

abbrev upload : ℤ → ℕ → List ℕ → ℕ → Bool → Upload
upload number client name sent ended = record { number = number; client = client; domain = name; sent = sent; ended = ended }

abbrev none : OpenUploads
none = record { rows = []; given = 0 }

-- client 1 uploads D, client 2 uploads D and E
abbrev three : OpenUploads
three = after_initiate 2 e (after_initiate 2 d (after_initiate 1 d none))

-- so many uploads are open, where so many numbers were given
abbrev crowd : ℕ → ℕ → OpenUploads
crowd count given = record { rows = replicate count (upload (pos 1) 1 d 5 true); given = given }

-- ---- InitiateUploadSequence

-- the causes in their order: missing, LOADING, 64 uploads, the last number
causes : Answers (λ (row : List ℕ × OpenUploads). initiate_cause row.0 domains row.1) (
    ((d, none), None) ∷
    ((e, three), None) ∷
    ((g, three), None) ∷
    ((d, crowd 63 2147483646), None) ∷
    ((m, none), Some object_non_existent) ∷
    ((m, crowd 64 2147483647), Some object_non_existent) ∷
    ((f, none), Some object_state_conflict) ∷
    ((f, crowd 64 2147483647), Some object_state_conflict) ∷
    ((d, crowd 64 64), Some capability_unavailable) ∷
    ((d, crowd 0 2147483647), Some capability_unavailable) ∷
    [])
causes = refl

abbrev answer : ℤ → InitiateUploadSequenceAnswer
answer number = record { number = number; capabilities = texts }

-- numbers count for the device, up to the last, and none is given again after its upload ended
answers : Answers (λ (s : OpenUploads). initiate_answer d domains s) (
    (none, Some (answer (pos 1))) ∷
    (after_initiate 1 d none, Some (answer (pos 2))) ∷
    (three, Some (answer (pos 4))) ∷
    (after_terminate 2 (pos 3) three, Some (answer (pos 4))) ∷
    (after_lose 2 three, Some (answer (pos 4))) ∷
    (crowd 0 2147483646, Some (answer (pos 2147483647))) ∷
    [])
answers = refl

in_order : three ≡ record {
  rows = upload (pos 1) 1 d 0 false ∷ upload (pos 2) 2 d 0 false ∷ upload (pos 3) 2 e 0 false ∷ [];
  given = 3;
}
in_order = refl

-- ---- UploadSegment: of D with two octets a piece

abbrev once : OpenUploads
once = after_segment 1 (pos 1) 66 domains three

abbrev twice : OpenUploads
twice = after_segment 1 (pos 1) 66 domains once

abbrev all : OpenUploads
all = after_segment 1 (pos 1) 66 domains twice

-- E has one piece
abbrev empty : OpenUploads
empty = after_segment 2 (pos 3) 66 domains three

abbrev piece : List ℕ → Bool → Segment
piece these more = record { octets = these; more = more }

pieces : Answers (λ (row : ℕ × ℤ × OpenUploads). segment_answer row.0 row.1 66 domains row.2) (
    ((1, pos 1, three), Some (piece (1 ∷ 2 ∷ []) true)) ∷
    ((1, pos 1, once), Some (piece (3 ∷ 4 ∷ []) true)) ∷
    ((1, pos 1, twice), Some (piece (5 ∷ []) false)) ∷
    ((2, pos 2, twice), Some (piece (1 ∷ 2 ∷ []) true)) ∷
    ((2, pos 3, three), Some (piece [] false)) ∷
    [])
pieces = refl

-- each upload by itself
sent : map (λ (s : OpenUploads). s.rows) (once ∷ all ∷ empty ∷ []) ≡
    (upload (pos 1) 1 d 2 false ∷ upload (pos 2) 2 d 0 false ∷ upload (pos 3) 2 e 0 false ∷ []) ∷
    (upload (pos 1) 1 d 5 true ∷ upload (pos 2) 2 d 0 false ∷ upload (pos 3) 2 e 0 false ∷ []) ∷
    (upload (pos 1) 1 d 0 false ∷ upload (pos 2) 2 d 0 false ∷ upload (pos 3) 2 e 0 true ∷ []) ∷
    []
sent = refl

-- missing, also where another client has it; then the last piece was sent
segment_causes : Answers (λ (row : ℕ × ℤ × OpenUploads). segment_cause row.0 row.1 row.2) (
    ((1, pos 1, three), None) ∷
    ((1, pos 1, twice), None) ∷
    ((2, pos 3, three), None) ∷
    ((2, pos 1, three), Some object_non_existent) ∷
    ((1, pos 2, three), Some object_non_existent) ∷
    ((1, pos 4, three), Some object_non_existent) ∷
    ((1, pos 0, three), Some object_non_existent) ∷
    ((1, negsuc 0, three), Some object_non_existent) ∷
    ((1, negsuc 2147483647, three), Some object_non_existent) ∷
    ((2, pos 1, all), Some object_non_existent) ∷
    ((1, pos 1, all), Some object_state_conflict) ∷
    ((2, pos 3, empty), Some object_state_conflict) ∷
    [])
segment_causes = refl

-- ---- TerminateUploadSequence, loss, and what others ask

-- at any time, also where nothing or all was sent; once
terminate_causes : Answers (λ (row : ℕ × ℤ × OpenUploads). terminate_cause row.0 row.1 row.2) (
    ((1, pos 1, three), None) ∷
    ((1, pos 1, once), None) ∷
    ((1, pos 1, all), None) ∷
    ((2, pos 1, three), Some object_non_existent) ∷
    ((1, negsuc 0, three), Some object_non_existent) ∷
    ((1, pos 1, after_terminate 1 (pos 1) all), Some object_non_existent) ∷
    [])
terminate_causes = refl

-- the one upload goes, or those of the client; others stay
ended : map (λ (s : OpenUploads). s.rows) (after_terminate 2 (pos 2) once ∷ after_terminate 1 (pos 2) once ∷ after_lose 2 once ∷ after_lose 1 once ∷ after_lose 3 once ∷ []) ≡
    (upload (pos 1) 1 d 2 false ∷ upload (pos 3) 2 e 0 false ∷ []) ∷
    once.rows ∷
    (upload (pos 1) 1 d 2 false ∷ []) ∷
    (upload (pos 2) 2 d 0 false ∷ upload (pos 3) 2 e 0 false ∷ []) ∷
    once.rows ∷
    []
ended = refl

-- an upload is open until it is terminated, also where its last piece was sent
opened : Answers (λ (row : ℕ × OpenUploads). has_upload row.0 row.1) (
    ((1, three), true) ∷
    ((1, all), true) ∷
    ((1, after_terminate 1 (pos 1) all), false) ∷
    ((3, three), false) ∷
    ((2, after_lose 2 three), false) ∷
    [])
opened = refl

-- of all clients
counts : Answers (λ (row : List ℕ × OpenUploads). uploads_of row.0 row.1) (
    ((d, three), 2) ∷
    ((d, all), 2) ∷
    ((e, three), 1) ∷
    ((f, three), 0) ∷
    ((d, after_lose 1 three), 1) ∷
    [])
counts = refl

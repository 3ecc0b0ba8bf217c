-- Worked examples of what a client's answers to the server's requests come to, and of the numbers of these requests.
use Rattle.std.specs.Prelude.{◌≡◌, ℕ, false, List, [], ◌∷◌, map, Some, None, Ok}
use Rattle.std.proofs.Common.{refl}
use Rattle.mms_types.specs.declared.asked.Asked.TheVariants.{Segment, Terminate, Discard}
use Rattle.mms_types.specs.declared.domain.Segment.{Segment as Piece}
use Rattle.mms_types.specs.declared.identifier.Edition.TheVariants.{One}
use Rattle.mms_types.specs.declared.pdu.ClientAnswer.TheVariants.{DownloadSegment, TerminateDownloadSequence}
use Rattle.mms_types.specs.declared.pdu.Pdu.{Pdu}
use Rattle.mms_types.specs.declared.pdu.Pdu.TheVariants.{HeardResponse, HeardError, HeardReject, ConcludeRequest}
use Rattle.association.specs.Client.{ClientRow, new_row, opened_row}
use Rattle.cell_client.specs.Association.{Verdict, Tells, Replies, Concludes, Arrives, Ends, Fails, keeps_open, rejects_invalid, verdict_by}
use Rattle.cell_client.specs.Effects.{Asks, Closes, Settles, felt, felt_all}

-- a function answers each row of a table with its second column
abbrev Answers : {A B : Type 0} → (A → B) → List (A × B) → Type 0
Answers f table = map (λ row. f row.0) table ≡ map (λ row. row.1) table

-- the association of a client, which nothing was asked yet
abbrev opened : ClientRow
opened = opened_row (new_row 7 (record { edition = One; vendor = 86 ∷ []; model = 77 ∷ []; revision = 49 ∷ [] })) (record { size = 512; calling = 2; called = 1; nesting = 5 })

-- the domains D, E and F
abbrev d : List ℕ
d = 68 ∷ []

abbrev e : List ℕ
e = 69 ∷ []

abbrev f : List ℕ
f = 70 ∷ []

-- it is asked for a segment of D, then that the load of E ends, and then that the load of F does, which failed
abbrev three_asked : ClientRow
three_asked = felt_all (Asks Segment d ∷ Asks Terminate e ∷ Asks Discard f ∷ []) opened

-- the only piece of a domain
abbrev piece : Piece
piece = record { octets = 0 ∷ []; more = false }

-- what a PDU of a client comes to
abbrev comes_to : ClientRow × Pdu → Verdict
comes_to heard = verdict_by heard.0.association heard.0 (Ok heard.1)

-- it is no valid PDU
abbrev invalid : Verdict
invalid = Tells (rejects_invalid ∷ [])

-- a response is taken where it is of what was asked by its number, and is invalid otherwise
responses : Answers comes_to (
    ((three_asked, HeardResponse 1 (DownloadSegment piece)), Replies 1 (Arrives piece)) ∷
    ((three_asked, HeardResponse 2 TerminateDownloadSequence), Replies 2 Ends) ∷
    ((three_asked, HeardResponse 3 TerminateDownloadSequence), Tells (Settles 3 ∷ [])) ∷
    ((three_asked, HeardResponse 1 TerminateDownloadSequence), invalid) ∷
    ((three_asked, HeardResponse 2 (DownloadSegment piece)), invalid) ∷
    ((three_asked, HeardResponse 3 (DownloadSegment piece)), invalid) ∷
    ((three_asked, HeardResponse 4 TerminateDownloadSequence), invalid) ∷
    ((felt (Settles 1) three_asked, HeardResponse 1 (DownloadSegment piece)), invalid) ∷
    ((opened, HeardResponse 1 (DownloadSegment piece)), invalid) ∷
    [])
responses = refl

-- an error and a reject fail the load; of the end of one that failed they settle the request alone, and a reject of no request gives nothing
failures : Answers comes_to (
    ((three_asked, HeardError 1), Replies 1 Fails) ∷
    ((three_asked, HeardError 2), Replies 2 Fails) ∷
    ((three_asked, HeardError 3), Tells (Settles 3 ∷ [])) ∷
    ((three_asked, HeardError 4), invalid) ∷
    ((three_asked, HeardReject (Some 1)), Replies 1 Fails) ∷
    ((three_asked, HeardReject (Some 3)), Tells (Settles 3 ∷ [])) ∷
    ((three_asked, HeardReject (Some 4)), Tells []) ∷
    ((three_asked, HeardReject None), Tells []) ∷
    [])
failures = refl

-- a conclusion is refused as long as any request of the server is unanswered
conclusions : Answers comes_to (
    ((opened, ConcludeRequest), Concludes) ∷
    ((felt (Asks Discard f) opened, ConcludeRequest), Tells keeps_open) ∷
    ((felt_all (Asks Discard f ∷ Settles 1 ∷ []) opened, ConcludeRequest), Concludes) ∷
    [])
conclusions = refl

-- requests are numbered from 1 on, whatever is asked and answered, and from 1 on again where the association is lost
numbers : Answers (λ (row : ClientRow). map (λ asked. asked.invoke) row.asked) (
    (opened, []) ∷
    (three_asked, 1 ∷ 2 ∷ 3 ∷ []) ∷
    (felt (Settles 2) three_asked, 1 ∷ 3 ∷ []) ∷
    (felt_all (Settles 2 ∷ Asks Segment e ∷ []) three_asked, 1 ∷ 3 ∷ 4 ∷ []) ∷
    (felt_all (Closes ∷ Asks Segment e ∷ []) three_asked, 1 ∷ []) ∷
    [])
numbers = refl

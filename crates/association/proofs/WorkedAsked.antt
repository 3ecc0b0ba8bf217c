-- Worked examples of the requests that the server makes of a client, and of their numbers.
use Rattle.std.specs.Prelude.{◌≡◌, ℕ, true, false, List, [], ◌∷◌, map, Some, None}
use Rattle.std.proofs.Common.{refl}
use Rattle.mms_types.specs.declared.identifier.Edition.TheVariants.{One}
use Rattle.mms_types.specs.declared.event.What.TheVariants.{Abort}
use Rattle.mms_types.specs.declared.asked.Asked.{Asked}
use Rattle.mms_types.specs.declared.asked.Asked.TheVariants.{Segment, Terminate, Discard}
use Rattle.association.specs.declared.unanswered.Unanswered.{Unanswered}
use Rattle.association.specs.Asked.{asked_of, is_asked, number_of}
use Rattle.association.specs.Client.{ClientRow, new_row, next_ask, opened_row, closed_row, row_settled, row_with_asked, row_with_output}

-- a function answers each row of a table with its second column
abbrev Answers : {A B : Type 0} → (A → B) → List (A × B) → Type 0
Answers f table = map (λ row. f row.0) table ≡ map (λ row. row.1) table

-- the association of a client opens
abbrev open_again : ClientRow → ClientRow
open_again row = opened_row row (record { size = 512; calling = 2; called = 1; nesting = 5 })

abbrev new : ClientRow
new = new_row 7 (record { edition = One; vendor = 86 ∷ []; model = 77 ∷ []; revision = 49 ∷ [] })

abbrev opened : ClientRow
opened = open_again new

-- the domains D and E
abbrev d : List ℕ
d = 68 ∷ []

abbrev e : List ℕ
e = 69 ∷ []

-- what the request of that number asks
abbrev request : ℕ → Asked → List ℕ → Unanswered
request number kind domain = record { invoke = number; kind = kind; domain = domain }

-- two loads at once: a segment of D, a segment of E, and the end of D
abbrev three_asked : ClientRow
three_asked = row_with_asked (row_with_asked (row_with_asked opened Segment d) Segment e) Terminate d

-- the segment of E came
abbrev two_left : ClientRow
two_left = row_settled three_asked 2

-- the client as it is where that many numbers were given but for one, and nothing is unanswered
abbrev far : ClientRow
far = record opened { next_invoke = 4294967295 }

-- a number has 32 bits
numbers : Answers number_of (
    (1, Some 1) ∷
    (2147483648, Some 2147483648) ∷
    (4294967295, Some 4294967295) ∷
    (4294967296, None) ∷
    [])
numbers = refl

-- numbers count from 1, whatever is asked, are never given twice in an association, and begin again at 1 in the next
next_numbers : Answers next_ask (
    (new, Some 1) ∷
    (opened, Some 1) ∷
    (row_with_asked opened Discard d, Some 2) ∷
    (three_asked, Some 4) ∷
    (two_left, Some 4) ∷
    (row_settled (row_settled two_left 1) 3, Some 4) ∷
    (row_with_asked two_left Discard e, Some 5) ∷
    (row_with_output three_asked Abort, Some 4) ∷
    (closed_row three_asked, Some 1) ∷
    (open_again (closed_row three_asked), Some 1) ∷
    (far, Some 4294967295) ∷
    (row_with_asked far Segment d, None) ∷
    (row_settled (row_with_asked far Segment d) 4294967295, None) ∷
    (open_again (closed_row (row_with_asked far Segment d)), Some 1) ∷
    [])
next_numbers = refl

-- requests stand in the order in which they were made, whatever is answered between
in_order : Answers (λ (row : ClientRow). row.asked) (
    (opened, []) ∷
    (three_asked, request 1 Segment d ∷ request 2 Segment e ∷ request 3 Terminate d ∷ []) ∷
    (two_left, request 1 Segment d ∷ request 3 Terminate d ∷ []) ∷
    (row_settled two_left 2, request 1 Segment d ∷ request 3 Terminate d ∷ []) ∷
    (row_settled two_left 4, request 1 Segment d ∷ request 3 Terminate d ∷ []) ∷
    (row_with_asked two_left Discard e, request 1 Segment d ∷ request 3 Terminate d ∷ request 4 Discard e ∷ []) ∷
    (row_with_asked far Segment e, request 4294967295 Segment e ∷ []) ∷
    (closed_row three_asked, []) ∷
    (open_again (closed_row three_asked), []) ∷
    [])
in_order = refl

-- what an answer of that number is the answer to
answered : Answers (λ (answer : ℕ × ClientRow). asked_of answer.0 answer.1.asked) (
    ((0, three_asked), None) ∷
    ((1, three_asked), Some (Segment, d)) ∷
    ((2, three_asked), Some (Segment, e)) ∷
    ((3, three_asked), Some (Terminate, d)) ∷
    ((4, three_asked), None) ∷
    ((2, two_left), None) ∷
    ((3, two_left), Some (Terminate, d)) ∷
    ((4, row_with_asked two_left Discard e), Some (Discard, e)) ∷
    ((4294967295, row_with_asked far Segment e), Some (Segment, e)) ∷
    ((1, closed_row three_asked), None) ∷
    [])
answered = refl

unanswered : Answers (λ (number : ℕ). is_asked number two_left.asked) (
    (1, true) ∷
    (2, false) ∷
    (3, true) ∷
    (4, false) ∷
    [])
unanswered = refl

-- what is to be sent outlasts the association, and what is asked doesn't
outlasts : closed_row (row_with_asked (row_with_output opened Abort) Segment d) ≡ row_with_output new Abort
outlasts = refl

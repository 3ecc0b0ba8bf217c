-- Worked examples of domains and their loads: octets typed by hand.
use Rattle.std.specs.Prelude.{◌≡◌, ℕ, zero, suc, ◌+◌, nat_lt, Bool, true, false, List, [], ◌∷◌, map, Option, Some, None}
use Rattle.std.proofs.Common.{ap, refl}
use Rattle.std.specs.Option.{option_map}
use Rattle.mms_types.specs.Errors.{capability_unavailable, object_constraint_conflict, object_exists, object_non_existent, object_state_conflict}
use Rattle.mms_types.specs.declared.asked.Also.TheVariants.{Ask}
use Rattle.mms_types.specs.declared.asked.Asked.TheVariants as asked
use Rattle.mms_types.specs.declared.asked.Reply.{Reply}
use Rattle.mms_types.specs.declared.asked.Reply.TheVariants as reply
use Rattle.mms_types.specs.declared.domain.DomainState.{DomainState}
use Rattle.mms_types.specs.declared.domain.DomainState.TheVariants as at
use Rattle.mms_types.specs.declared.domain.InitiateDownloadSequence.{InitiateDownloadSequence}
use Rattle.domain_load.specs.Domains.{Rows, delete_cause, named, names_after, octets, without_loads}
use Rattle.domain_load.specs.Loading.{also_asked, initiate_after, initiate_cause, reply_after, would_pass}
use Rattle.domain_load.specs.Segmented.{most_octets, piece}
use Rattle.domain_load.specs.Standing.{state}
use Rattle.domain_load.specs.Used.{after_unused, after_used, is_taken}
use Rattle.domain_load.specs.declared.domain.Domain.{Domain}

-- a function answers each row of a table with its second column
abbrev Answers : {A B : Type 0} → (A → B) → List (A × B) → Type 0
Answers f table = map (λ row. f row.0) table ≡ map (λ row. row.1) table

-- "D1", "D2"
abbrev d1 : List ℕ
d1 = 68 ∷ 49 ∷ []

abbrev d2 : List ℕ
d2 = 68 ∷ 50 ∷ []

abbrev asks : List ℕ → InitiateDownloadSequence
asks name = record { domain = name; capabilities = []; sharable = true }

-- the rows after a client's answers, one after the other
abbrev after : List Reply → Rows → Rows
after [] rows = rows
after (answer ∷ answers) rows = after answers (reply_after answer rows)

-- client 7 begins to load D1
abbrev loading : Rows
loading = initiate_after 7 (asks d1) []

abbrev held : Option ℕ → List (List ℕ) → Domain
held loader segments = record { capabilities = []; sharable = true; loader = loader; segments = segments; invocations = [] }

begins : loading ≡ (d1, held (Some 7) []) ∷ []
begins = refl

-- ---- loads

-- two segments: the last one ends no load, its positive answer to the Terminate does
abbrev first : Reply
first = reply.Segment d1 (170 ∷ 187 ∷ []) true

abbrev last : Reply
last = reply.Segment d1 (204 ∷ []) false

two_segments : Answers (λ answers. after answers loading) (
    (first ∷ [], (d1, held (Some 7) ((170 ∷ 187 ∷ []) ∷ [])) ∷ []) ∷
    (first ∷ last ∷ [], (d1, held (Some 7) ((170 ∷ 187 ∷ []) ∷ (204 ∷ []) ∷ [])) ∷ []) ∷
    (first ∷ last ∷ reply.Ended d1 ∷ [], (d1, held None ((170 ∷ 187 ∷ []) ∷ (204 ∷ []) ∷ [])) ∷ []) ∷
    (first ∷ last ∷ reply.Failed d1 asked.Terminate ∷ [], []) ∷
    (first ∷ reply.Failed d1 asked.Segment ∷ [], []) ∷
    [])
two_segments = refl

-- what client 7 is asked next
asked_of_client : Answers (λ answer. also_asked 7 answer loading) (
    (first, Some (Ask 7 asked.Segment d1)) ∷
    (last, Some (Ask 7 asked.Terminate d1)) ∷
    (reply.Ended d1, None) ∷
    (reply.Failed d1 asked.Segment, Some (Ask 7 asked.Discard d1)) ∷
    (reply.Failed d1 asked.Terminate, None) ∷
    [])
asked_of_client = refl

-- a load without octets has the one empty segment
no_octets : after (reply.Segment d1 [] false ∷ reply.Ended d1 ∷ []) loading ≡ (d1, held None ([] ∷ [])) ∷ []
no_octets = refl

-- exactly 1,048,576 octets are allowed, and one more is too many, however few segments there are
up_to_the_limit : (domain : Domain) → octets domain ≡ 1048560 → would_pass 16 domain ≡ false
up_to_the_limit domain e = ap (λ n. nat_lt most_octets (n + 16)) e

past_the_limit : (domain : Domain) → octets domain ≡ 1048560 → would_pass 17 domain ≡ true
past_the_limit domain e = ap (λ n. nat_lt most_octets (n + 17)) e

-- a load that is broken off, by the loss of its client, and begun anew has no octet of before; others' loads stay
broken_off : initiate_after 8 (asks d1) (without_loads 7 (initiate_after 8 (asks d2) (after (first ∷ []) loading))) ≡ (d2, held (Some 8) []) ∷ (d1, held (Some 8) []) ∷ []
broken_off = refl

-- so has one that failed
failed : initiate_after 7 (asks d1) (after (first ∷ last ∷ reply.Failed d1 asked.Terminate ∷ []) loading) ≡ loading
failed = refl

-- ---- pieces

-- they go over the ends of segments
pieces : Answers (λ (asked : ℕ × ℕ). piece asked.0 asked.1 ((1 ∷ 2 ∷ 3 ∷ []) ∷ [] ∷ (4 ∷ []) ∷ (5 ∷ 6 ∷ []) ∷ [])) (
    ((0, 2), 1 ∷ 2 ∷ []) ∷
    ((2, 3), 3 ∷ 4 ∷ 5 ∷ []) ∷
    ((5, 9), 6 ∷ []) ∷
    ((6, 9), []) ∷
    [])
pieces = refl

-- ---- causes

abbrev ready : Rows
ready = after (last ∷ reply.Ended d1 ∷ []) loading

abbrev many : ℕ → Rows → Rows
many zero rows = rows
many (suc n) rows = (n ∷ [], held None []) ∷ many n rows

-- the name is taken, also by a domain that is LOADING; then come 256 domains, of which those that are LOADING count; then the client's requests
initiate_causes : Answers (λ (asked : Bool × List ℕ × Rows). initiate_cause asked.0 (asks asked.1) asked.2) (
    ((true, d1, []), None) ∷
    ((false, d1, []), Some capability_unavailable) ∷
    ((false, d1, loading), Some object_exists) ∷
    ((true, d1, ready), Some object_exists) ∷
    ((true, d2, loading), None) ∷
    ((true, d1, many 255 []), None) ∷
    ((true, d1, many 255 ((d2, held (Some 7) []) ∷ [])), Some capability_unavailable) ∷
    ((false, d1, many 255 ((d1, held (Some 7) []) ∷ [])), Some object_exists) ∷
    [])
initiate_causes = refl

-- it is missing; it is LOADING, whatever has it; an upload is open, or an object has its scope
delete_causes : Answers (λ (asked : ℕ × Bool × Rows). delete_cause d1 asked.0 asked.1 asked.2) (
    ((1, true, []), Some object_non_existent) ∷
    ((1, true, loading), Some object_state_conflict) ∷
    ((1, false, ready), Some object_constraint_conflict) ∷
    ((0, true, ready), Some object_constraint_conflict) ∷
    ((0, false, ready), None) ∷
    ((0, false, (d1, record (held None []) { invocations = (80 ∷ []) ∷ [] }) ∷ []), Some object_constraint_conflict) ∷
    [])
delete_causes = refl

-- ---- what is told

-- the state is told from who loads it and who has it
abbrev shown : Rows → Option DomainState
shown rows = option_map state (named d1 rows)

states : Answers shown (
    ([], None) ∷
    (loading, Some at.Loading) ∷
    (ready, Some at.Ready) ∷
    ((d1, record (held None []) { invocations = (80 ∷ []) ∷ [] }) ∷ [], Some at.InUse) ∷
    [])
states = refl

names : Answers (λ after. names_after after ((d2, held None []) ∷ (d1, held (Some 7) []) ∷ [])) ((None, d1 ∷ d2 ∷ []) ∷ (Some d1, d2 ∷ []) ∷ (Some d2, []) ∷ [])
names = refl

-- ---- which invocations have a domain

-- "A", "P" and "Q"
abbrev a : List ℕ
a = 65 ∷ []

abbrev p : List ℕ
p = 80 ∷ []

abbrev q : List ℕ
q = 81 ∷ []

-- D1 is had by these, and D2 by those
abbrev had : List (List ℕ) → List (List ℕ) → Rows
had one other = (d1, record (held None []) { invocations = one }) ∷ (d2, record (held None []) { invocations = other }) ∷ []

-- names stand in order of octets, whoever comes first; others are as before, also where the domain is missing
come : Answers (λ (asked : List (List ℕ) × List ℕ × Rows). after_used asked.0 asked.1 asked.2) (
    ((d1 ∷ [], p, had [] []), had (p ∷ []) []) ∷
    ((d1 ∷ [], a, had (p ∷ []) []), had (a ∷ p ∷ []) []) ∷
    ((d2 ∷ d1 ∷ [], p, had (a ∷ q ∷ []) (q ∷ [])), had (a ∷ p ∷ q ∷ []) (p ∷ q ∷ [])) ∷
    (([], p, had (a ∷ []) []), had (a ∷ []) []) ∷
    ((q ∷ [], p, had (a ∷ []) []), had (a ∷ []) []) ∷
    [])
come = refl

-- the last that goes makes it READY again
go : Answers (λ (asked : List (List ℕ) × List ℕ × Rows). after_unused asked.0 asked.1 asked.2) (
    ((d1 ∷ d2 ∷ [], p, had (a ∷ p ∷ q ∷ []) (p ∷ [])), had (a ∷ q ∷ []) []) ∷
    ((d1 ∷ [], p, had (p ∷ []) (p ∷ [])), had [] (p ∷ [])) ∷
    ((d1 ∷ [], p, had (a ∷ []) []), had (a ∷ []) []) ∷
    [])
go = refl

taken : Answers (λ (asked : Bool × List (List ℕ)). is_taken (record (held None []) { sharable = asked.0; invocations = asked.1 })) (
    ((true, []), false) ∷
    ((true, p ∷ []), false) ∷
    ((false, []), false) ∷
    ((false, p ∷ []), true) ∷
    [])
taken = refl

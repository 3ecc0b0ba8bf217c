-- Worked examples of attached requests and of chains, typed by hand from the definitions.
use Rattle.std.specs.Prelude.{◌≡◌, ℕ, Bool, true, false, List, [], ◌∷◌, map, Option, Some, None, option_map}
use Rattle.std.specs.List.{list_any}
use Rattle.std.specs.Prelude.{◌==◌}
use Rattle.std.proofs.Common.{refl}
use Rattle.mms_types.specs.declared.key.Key.{Key}
use Rattle.mms_types.specs.declared.key.Scope.TheVariants.{Vmd}
use Rattle.mms_types.specs.declared.pdu.Request.TheVariants.{Identify}
use Rattle.sem_queue.specs.declared.row.Row.{Row}
use Rattle.attach_sem.specs.Table.{Table, found, is_of, is_by, after_going}
use Rattle.attach_sem.specs.Chains.{chain, is_attached}
use Rattle.attach_sem.specs.declared.table.Pair.{Pair}

-- semaphores of one letter
abbrev named : ℕ → Key
named letter = record { scope = Vmd; item = letter ∷ [] }

abbrev pair : ℕ → ℕ → ℕ → ℕ → Pair
pair letter entry client invoke = record { key = named letter; entry = entry; waiting = record { client = client; invoke = invoke; size = 1000; request = Identify } }

-- clients 1 and 2 have requests at T and at U
abbrev pairs : List Pair
pairs = pair 84 4 1 11 ∷ pair 85 4 2 12 ∷ pair 84 6 2 13 ∷ []

abbrev invoke_of : Option Pair → Option ℕ
invoke_of p = option_map (λ x. x.waiting.invoke) p

-- one number in two semaphores: the name decides
two_semaphores : map (λ letter. invoke_of (found (named letter) 4 pairs)) (84 ∷ 85 ∷ 86 ∷ []) ≡ Some 11 ∷ Some 12 ∷ None ∷ []
two_semaphores = refl

abbrev invokes : Table → List ℕ
invokes t = map (λ p. p.waiting.invoke) t.pairs

abbrev full : Table
full = record { pairs = pairs; spare = 0 }

-- one goes, and leaves room for one
one_goes : invokes (after_going (is_of (named 84) 4) full) ≡ 12 ∷ 13 ∷ []
one_goes = refl

its_room : (after_going (is_of (named 84) 4) full).spare ≡ 1
its_room = refl

-- none goes where there is none
none_goes : after_going (is_of (named 86) 4) full ≡ full
none_goes = refl

-- a client is lost: its requests of all semaphores go
client_goes : invokes (after_going (is_by 2) full) ≡ 11 ∷ []
client_goes = refl

their_room : (after_going (is_by 2) full).spare ≡ 2
their_room = refl

abbrev row : ℕ → ℕ → Bool → Option ℕ → Row
row number priority queued token = record { number = number; priority = priority; queued = queued; token = token; deadline = None }

abbrev of : List ℕ → ℕ → Bool
of numbers number = list_any (λ n. n == number) numbers

abbrev numbers : (ℕ → Bool) → ℕ → List Row → List ℕ
numbers attached token rows = (chain attached token rows).attached

abbrev last : (ℕ → Bool) → ℕ → List Row → Option ℕ
last attached token rows = (chain attached token rows).last

-- five rows of mixed rank in a pool of two: 3, 5 and 7 want token 0, 4 wants token 1 and 6 any
abbrev mixed : List Row
mixed = row 3 64 true (Some 0) ∷ row 4 1 true (Some 1) ∷ row 5 10 true (Some 0) ∷ row 6 64 true None ∷ row 7 64 true (Some 0) ∷ []

-- by rank 5, 3, 6, 7: the take of 6 ends the chain, and 7 isn't served behind it
up_to_a_take : numbers (of (3 ∷ 4 ∷ 5 ∷ 7 ∷ [])) 0 mixed ≡ 5 ∷ 3 ∷ []
up_to_a_take = refl

the_take : last (of (3 ∷ 4 ∷ 5 ∷ 7 ∷ [])) 0 mixed ≡ Some 6
the_take = refl

-- who is wanted by all that want it or any, and never one that wants another; where all are attached, the token is free then
all_attached : map (λ token. numbers (of (3 ∷ 4 ∷ 5 ∷ 6 ∷ 7 ∷ [])) token mixed) (0 ∷ 1 ∷ []) ≡ (5 ∷ 3 ∷ 6 ∷ 7 ∷ []) ∷ (4 ∷ 6 ∷ []) ∷ []
all_attached = refl

then_free : map (λ token. last (of (3 ∷ 4 ∷ 5 ∷ 6 ∷ 7 ∷ [])) token mixed) (0 ∷ 1 ∷ []) ≡ None ∷ None ∷ []
then_free = refl

-- the first that waits is a take
take_first : numbers (of (3 ∷ 6 ∷ [])) 0 mixed ≡ []
take_first = refl

take_gets : last (of (3 ∷ 6 ∷ [])) 0 mixed ≡ Some 5
take_gets = refl

-- nobody wants the token
nobody : numbers (of (4 ∷ [])) 0 (row 4 1 true (Some 1) ∷ []) ≡ []
nobody = refl

nobody_last : last (of (4 ∷ [])) 0 (row 4 1 true (Some 1) ∷ []) ≡ None
nobody_last = refl

-- of one priority by number; the owner itself, which doesn't wait, is never served
equal_ranks : numbers (of (2 ∷ 3 ∷ 4 ∷ [])) 0 (row 2 5 false (Some 0) ∷ row 3 64 true None ∷ row 4 64 true None ∷ []) ≡ 3 ∷ 4 ∷ []
equal_ranks = refl

-- attached are those of the semaphore's own name
of_its_name : map (is_attached (named 84) pairs) (4 ∷ 5 ∷ 6 ∷ []) ≡ true ∷ false ∷ true ∷ []
of_its_name = refl

their_names : map (is_attached (named 85) pairs) (4 ∷ 5 ∷ 6 ∷ []) ≡ true ∷ false ∷ false ∷ []
their_names = refl

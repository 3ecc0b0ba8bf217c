-- The queue's rule: what is pushed is what is popped and what the queue holds.
use Rattle.std.specs.Prelude.{◌≡◌, ◌<◌, ◌≤◌, ◌⊎◌, ℕ, zero, suc, ◌+◌, Bool, true, false, not, ◌||◌, IsTrue, IsFalse, ⊤}
use Rattle.std.specs.Prelude.{List, [], ◌∷◌, ◌++◌, Option, Some, slice_get}
use Rattle.std.specs.List.{All, range_with_len}
use mathlib.Core.Option.{some}
use lib.ListN.{get_elem?}
use Rattle.cell_pool.specs.declared.rule.Hand.{Hand}

-- the weights of the elements, added up
abbrev pub weigh : {A : Type 0} → (A → ℕ) → List A → ℕ
weigh h [] = 0
weigh h (x ∷ xs) = h x + weigh h xs

abbrev pub hand : ℕ → List ℕ → List ℕ → Hand
hand parts put taken = record { parts = parts; put = put; taken = taken }

-- after one place more was put, and after one more was taken
abbrev pub put_more : Hand → ℕ → Hand
put_more v place = hand v.parts (v.put ++ place ∷ []) v.taken

abbrev pub taken_more : Hand → ℕ → Hand
taken_more v place = hand v.parts v.put (v.taken ++ place ∷ [])

-- no place was taken more often than it was put
abbrev pub TakesNoMore : Hand → Type 0
TakesNoMore v = (h : ℕ → ℕ) → weigh h v.taken ≤ weigh h v.put

-- a hand that has all parts: what it has put is what it has taken, and what the queue holds
abbrev pub KnowsAll : {I : Type 0} → (I → ℕ) → Hand → List I → Type 0
KnowsAll at v items = (h : ℕ → ℕ) → weigh h v.put ≡ weigh h v.taken + weigh (λ i. h (at i)) items

-- a pass with no part has put and taken nothing
abbrev pub IdleIsEmpty : List Hand → Type 0
IdleIsEmpty views =
    (port : ℕ) (v : Hand) → get_elem? views port ≡ some v → v.parts ≡ 0
    → (v.put ≡ []) × (v.taken ≡ [])

-- a job waits for its next turn: it hasn't ended, and its last turn didn't find memory wanting
abbrev pub Waits : Bool → Bool → Type 0
Waits ended short = IsFalse ended × IsFalse short

-- the places that were put are those that were taken and those that the queue holds, however
-- places are weighed; and what the queue holds waits
abbrev pub Balanced : {I : Type 0} → (I → ℕ) → (I → Type 0) → List I → List Hand → Type 0
Balanced at waits items views =
    (weigh (λ v. v.parts) views ≡ 64)
    × ((h : ℕ → ℕ) → weigh (λ v. weigh h v.put) views
    ≡ weigh (λ v. weigh h v.taken) views + weigh (λ i. h (at i)) items)
    × IdleIsEmpty views
    × All waits items

-- what a pass has taken is what it has put and what is kept with it
abbrev pub Keeps : {I : Type 0} → (I → ℕ) → Hand → List I → Type 0
Keeps at v items = (h : ℕ → ℕ) → weigh h v.taken ≡ weigh h v.put + weigh (λ i. h (at i)) items

-- how a job may rest: once memory was wanting, as it waited; before that, done, or short itself
abbrev pub MayRest : (stopped ended short : Bool) → Type 0
MayRest true ended short = Waits ended short
MayRest false ended short = IsTrue ended ⊎ IsTrue short

-- the jobs rest one after the other: each is done, until one is short, and after it none was begun
abbrev pub InTurn : {I : Type 0} → (I → Bool) → (I → Bool) → Bool → List I → Type 0
InTurn ended short stopped [] = ⊤
InTurn ended short stopped (x ∷ xs) =
    MayRest stopped (ended x) (short x) × InTurn ended short (stopped || short x) xs

-- whether memory was wanting before, or one of the jobs is short
abbrev pub any_short : {I : Type 0} → (I → Bool) → Bool → List I → Bool
any_short short stopped [] = stopped
any_short short stopped (x ∷ xs) = any_short short (stopped || short x) xs

-- the jobs rest one after the other, and the second flag tells whether memory was wanting
abbrev pub Rests : {I : Type 0} → (I → Bool) → (I → Bool) → Bool → Bool → List I → Type 0
Rests ended short before after items =
    InTurn ended short before items × (any_short short before items ≡ after)

-- the weights of all that the lists hold
abbrev pub weigh_all : {I L : Type 0} → (L → List I) → (I → ℕ) → List L → ℕ
weigh_all inside h lists = weigh (λ l. weigh h (inside l)) lists

-- 1 for true
abbrev pub one : Bool → ℕ
one true = 1
one false = 0

-- the flag tells of what the lists hold: one is short, or all have ended
abbrev pub Flagged : {I L : Type 0}
    → (L → List I) → (I → Bool) → (I → Bool) → Bool → List L → Type 0
Flagged inside ended short true lists = 0 < weigh_all inside (λ i. one (short i)) lists
Flagged inside ended short false lists = weigh_all inside (λ i. one (not (ended i))) lists ≡ 0

-- all that the lists hold have ended, or one is short
abbrev pub Settled : {I L : Type 0} → (L → List I) → (I → Bool) → (I → Bool) → List L → Type 0
Settled inside ended short lists =
    Flagged inside ended short false lists ⊎ Flagged inside ended short true lists

-- one element more, which is so
abbrev pub EndsWith : {L : Type 0} → (L → Type 0) → List L → List L → Type 0
EndsWith {L} Q before after = (last : L) × (after ≡ before ++ last ∷ []) × Q last

-- the first n places are those that the queue and the other workers hold, and those of the lists
abbrev pub Owes : {I L : Type 0} → (I → ℕ) → (L → List I) → ℕ → Hand → List L → Type 0
Owes at inside n v lists =
    (h : ℕ → ℕ) → weigh h v.taken + weigh h (range_with_len 0 n)
    ≡ weigh h v.put + weigh_all inside (λ i. h (at i)) lists

-- the lists hold the first n places, each once
abbrev pub HoldsEach : {I L : Type 0} → (I → ℕ) → (L → List I) → ℕ → List L → Type 0
HoldsEach at inside n lists =
    (h : ℕ → ℕ) → weigh h (range_with_len 0 n) ≡ weigh_all inside (λ i. h (at i)) lists

-- 1 for the place p, and else 0
abbrev pub is : ℕ → ℕ → ℕ
is zero zero = 1
is zero (suc q) = 0
is (suc p) zero = 0
is (suc p) (suc q) = is p q

-- the item of the place p lies there
abbrev pub IsLaid : {I : Type 0} → (I → ℕ) → List (Option I) → ℕ → Type 0
IsLaid {I} at slots p = (item : I) × (slice_get slots p ≡ Some (Some item)) × (at item ≡ p)

-- x, unless n is 0
abbrev pub pick : ℕ → ℕ → ℕ
pick zero x = 0
pick (suc n) x = x

-- an item of the place p that weighs something lies there
abbrev pub Lies : {I : Type 0} → (I → ℕ) → (I → ℕ) → List (Option I) → ℕ → Type 0
Lies {I} at f slots p =
    (item : I) × (slice_get slots p ≡ Some (Some item)) × (at item ≡ p) × (0 < f item)

-- of the place p there is one item at most, either there or in the list, and it weighs something
abbrev pub LiesOnce : {I : Type 0}
    → (I → ℕ) → (I → ℕ) → List (Option I) → List I → ℕ → Type 0
LiesOnce at f slots list p =
    (Lies at f slots p × (weigh (λ i. is p (at i)) list ≡ 0))
    ⊎ ((0 < weigh (λ i. pick (is p (at i)) (f i)) list)
    × (weigh (λ i. is p (at i)) list ≤ 1))

-- the same of lists
abbrev pub LiesOnceIn : {I L : Type 0}
    → (I → ℕ) → (L → List I) → (I → ℕ) → List (Option I) → List L → ℕ → Type 0
LiesOnceIn at inside f slots lists p =
    (Lies at f slots p × (weigh_all inside (λ i. is p (at i)) lists ≡ 0))
    ⊎ ((0 < weigh_all inside (λ i. pick (is p (at i)) (f i)) lists)
    × (weigh_all inside (λ i. is p (at i)) lists ≤ 1))

-- what is laid is what the list held, where each place stands in it once
abbrev pub LaysSame : {I : Type 0}
    → (I → ℕ) → List (Option I) → List I → List (Option I) → Type 0
LaysSame {I} at old list new =
    (f : I → ℕ) (p : ℕ) → LiesOnce at f old list p → Lies at f new p

abbrev pub LaysSameIn : {I L : Type 0}
    → (I → ℕ) → (L → List I) → List (Option I) → List L → List (Option I) → Type 0
LaysSameIn {I} at inside old lists new =
    (f : I → ℕ) (p : ℕ) → LiesOnceIn at inside f old lists p → Lies at f new p

-- all that lie there have ended, or one is short
abbrev pub Told : {I : Type 0} → (I → Bool) → (I → Bool) → List (Option I) → Type 0
Told {I} ended short slots =
    ((p : ℕ) (item : I) → slice_get slots p ≡ Some (Some item) → IsTrue (ended item))
    ⊎ ((p : ℕ) × (item : I) × (slice_get slots p ≡ Some (Some item)) × IsTrue (short item))

-- the two say the same of each
abbrev pub Same : {J : Type 0} → (J → Type 0) → (J → Type 0) → Type 0
Same {J} P Q = (job : J) → (P job → Q job) × (Q job → P job)

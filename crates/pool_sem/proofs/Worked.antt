-- Worked examples of a pool: what each call answers and does, typed by hand from its definition.
use Rattle.std.specs.Prelude.{◌≡◌, ℕ, zero, suc, ◌+◌, ◌*◌, ◌%◌, ◌==◌, true, false, List, [], ◌∷◌, ◌++◌, map, filter, Option, Some, None, Result, Ok, Err}
use Rattle.std.specs.List.{range_with_len}
use Rattle.std.proofs.Common.{refl}
use Rattle.mms_types.specs.declared.moment.Moment.{Moment}
use Rattle.token_sem.specs.declared.entry.Ask.{Ask}
use Rattle.token_sem.specs.declared.entry.Grant.{Grant}
use Rattle.token_sem.specs.declared.entry.NotOwner.{NotOwner}
use Rattle.token_sem.specs.declared.entry.SemEntry.{SemEntry}
use Rattle.token_sem.specs.declared.entry.SemState.{SemState}
use Rattle.token_sem.specs.declared.entry.SemState.TheVariants.{Queued, Owner, Hung}
use Rattle.token_sem.specs.declared.entry.LostOne.{LostOne}
use Rattle.token_sem.specs.declared.entry.LostOne.TheVariants.{Freed, Done}
use Rattle.token_sem.specs.declared.entry.Taken.TheVariants.{Granted, Waits, TimedOut}
use Rattle.token_sem.specs.declared.entry.TakeRefused.TheVariants.{Twice}
use Rattle.pool_sem.specs.declared.outcome.TokenState.TheVariants as status
use Rattle.pool_sem.specs.Pools.{Pool, after_expire, after_relinquish, after_take, expired_of, has_token, lose_each, loss_of, lost_one, place_of, relinquish_answer, take_answer, token_got, token_state}

-- a function answers each row of a table with its second column
abbrev Answers : {A B : Type 0} → (A → B) → List (A × B) → Type 0
Answers f table = map (λ row. f row.0) table ≡ map (λ row. row.1) table

abbrev at : ℕ → Moment
at ms = record { 0 = ms }

-- tokens R1 and R2, at the places 0 and 1
abbrev robots : ℕ → List SemEntry → Pool
robots made entries = record { tokens = (82 ∷ 49 ∷ []) ∷ (82 ∷ 50 ∷ []) ∷ []; made = made; entries = entries }

-- an entry of that number and client with priority 64
abbrev entry : ℕ → ℕ → Option ℕ → SemState → SemEntry
entry number client token state = record {
  number = number;
  client = client;
  invoke = 1;
  token = token;
  priority = 64;
  control = None;
  abort = None;
  keep = false;
  state = state;
  deadline = None;
}

abbrev owner : ℕ → ℕ → ℕ → SemEntry
owner number client token = entry number client (Some token) Owner

abbrev hung : ℕ → ℕ → ℕ → SemEntry
hung number client token = record (entry number client (Some token) Hung) { keep = true }

-- one that waits for a token, or for any
abbrev waiter : ℕ → ℕ → Option ℕ → SemEntry
waiter number client token = entry number client token Queued

-- the same with another priority
abbrev at_priority : ℕ → SemEntry → SemEntry
at_priority priority e = record e { priority = priority }

-- a request by a client for a token or any, with a delay, that names a client to preempt
abbrev ask : ℕ → Option ℕ → Option ℕ → Option ℕ → Ask
ask client token delay preempt = record {
  client = client;
  invoke = 1;
  token = token;
  priority = 64;
  delay = delay;
  control = None;
  abort = None;
  keep = false;
  preempt = preempt;
}

abbrev granted : ℕ → ℕ → Option ℕ → Grant
granted client number token = record { client = client; invoke = 1; entry = number; token = token }

-- clients 1 and 2 own the tokens
abbrev both : Pool
both = robots 2 (owner 1 1 0 ∷ owner 2 2 1 ∷ [])

-- three clients ask for any token: the first has R1, the second R2, the third waits. Their answers name the tokens
any_token : Answers (λ (x : Pool × Ask). take_answer x.0 x.1 (at 100)) (
    ((robots 0 [], ask 1 None None None), Ok (Granted (granted 1 1 (Some 0)))) ∷
    ((robots 1 (owner 1 1 0 ∷ []), ask 2 None None None), Ok (Granted (granted 2 2 (Some 1)))) ∷
    ((both, ask 3 None None None), Ok (Waits 3)) ∷
    ((both, ask 3 None (Some 0) None), Ok TimedOut) ∷ [])
any_token = refl

any_token_effects : Answers (λ (x : Pool × Ask). after_take x.0 x.1 (at 100)) (
    ((robots 0 [], ask 1 None None None), robots 1 (owner 1 1 0 ∷ [])) ∷
    ((robots 1 (owner 1 1 0 ∷ []), ask 2 None None None), both) ∷
    ((both, ask 3 None (Some 9) None), robots 3 (owner 1 1 0 ∷ owner 2 2 1 ∷ record (waiter 3 3 None) { deadline = Some (at 109) } ∷ [])) ∷
    ((both, ask 3 None (Some 0) None), both) ∷ [])
any_token_effects = refl

-- a token that is named is had where it is free, and no answer names it; the least free one is had where none is named
named_token : Answers (λ (x : Pool × Ask). take_answer x.0 x.1 (at 100)) (
    ((robots 0 [], ask 1 (Some 1) None None), Ok (Granted (granted 1 1 None))) ∷
    ((robots 1 (owner 1 1 1 ∷ []), ask 2 None None None), Ok (Granted (granted 2 2 (Some 0)))) ∷
    ((robots 1 (owner 1 1 1 ∷ []), ask 2 (Some 1) None None), Ok (Waits 2)) ∷ [])
named_token = refl

-- who waits is refused, also where another token is free; who owns a token may ask for another or for any, not for it
claims : Answers (λ (x : Pool × Ask). take_answer x.0 x.1 (at 100)) (
    ((robots 2 (owner 1 1 0 ∷ waiter 2 2 (Some 0) ∷ []), ask 2 (Some 1) None None), Err Twice) ∷
    ((robots 2 (owner 1 1 0 ∷ waiter 2 2 (Some 0) ∷ []), ask 2 None (Some 0) None), Err Twice) ∷
    ((robots 1 (owner 1 1 0 ∷ []), ask 1 (Some 0) None None), Err Twice) ∷
    ((robots 1 (owner 1 1 0 ∷ []), ask 1 (Some 1) None None), Ok (Granted (granted 1 2 None))) ∷
    ((robots 1 (owner 1 1 0 ∷ []), ask 1 None None None), Ok (Granted (granted 1 2 (Some 1)))) ∷
    ((both, ask 1 None None None), Ok (Waits 3)) ∷ [])
claims = refl

-- a hung token isn't free and is no claim. It is preempted by its client's name where it suits, before a free one is had
-- and before all that wait; of several the least
preemption : Answers (λ (x : Pool × Ask). take_answer x.0 x.1 (at 100)) (
    ((robots 1 (hung 1 1 0 ∷ []), ask 1 (Some 0) (Some 0) None), Ok TimedOut) ∷
    ((robots 1 (hung 1 1 0 ∷ []), ask 1 (Some 0) (Some 0) (Some 1)), Ok (Granted (granted 1 2 None))) ∷
    ((robots 1 (hung 1 1 0 ∷ []), ask 3 None None None), Ok (Granted (granted 3 2 (Some 1)))) ∷
    ((robots 1 (hung 1 1 1 ∷ []), ask 3 None None (Some 1)), Ok (Granted (granted 3 2 (Some 1)))) ∷
    ((robots 1 (hung 1 1 1 ∷ []), ask 3 (Some 0) None (Some 1)), Ok (Granted (granted 3 2 None))) ∷
    ((robots 2 (hung 1 1 1 ∷ hung 2 1 0 ∷ []), ask 3 None None (Some 1)), Ok (Granted (granted 3 3 (Some 0)))) ∷
    ((robots 2 (hung 1 1 1 ∷ hung 2 1 0 ∷ []), ask 3 None None (Some 9)), Ok (Waits 3)) ∷ [])
preemption = refl

preemption_effects : Answers (λ (x : Pool × Ask). after_take x.0 x.1 (at 100)) (
    ((robots 1 (hung 1 1 1 ∷ []), ask 3 None None (Some 1)), robots 2 (owner 2 3 1 ∷ [])) ∷
    ((robots 1 (hung 1 1 1 ∷ []), ask 3 (Some 0) None (Some 1)), robots 2 (hung 1 1 1 ∷ owner 2 3 0 ∷ [])) ∷
    ((robots 3 (hung 1 1 1 ∷ hung 2 1 0 ∷ waiter 3 2 None ∷ []), ask 3 None None (Some 1)), robots 4 (hung 1 1 1 ∷ waiter 3 2 None ∷ owner 4 3 0 ∷ [])) ∷ [])
preemption_effects = refl

-- R1 is wanted by client 3, any token by client 4, with a better priority or a worse one
abbrev urgent : Pool
urgent = robots 4 (owner 1 1 0 ∷ owner 2 2 1 ∷ waiter 3 3 (Some 0) ∷ at_priority 10 (waiter 4 4 None) ∷ [])

abbrev patient : Pool
patient = robots 4 (owner 1 1 0 ∷ owner 2 2 1 ∷ waiter 3 3 (Some 0) ∷ at_priority 70 (waiter 4 4 None) ∷ [])

-- a token goes to the best of those that want it or any; who named it isn't told it. A hung entry is no owner, and who
-- owns one token gives back no other
relinquish_answers : Answers (λ (x : Pool × ℕ × Option ℕ). relinquish_answer x.0 x.1 x.2) (
    ((urgent, 1, Some 0), Ok (Some (granted 4 4 (Some 0)))) ∷
    ((urgent, 2, Some 1), Ok (Some (granted 4 4 (Some 1)))) ∷
    ((patient, 1, Some 0), Ok (Some (granted 3 3 None))) ∷
    ((patient, 2, Some 1), Ok (Some (granted 4 4 (Some 1)))) ∷
    ((robots 3 (owner 1 1 0 ∷ owner 2 2 1 ∷ waiter 3 3 (Some 0) ∷ []), 2, Some 1), Ok None) ∷
    ((both, 1, Some 1), Err (record {})) ∷
    ((both, 3, Some 0), Err (record {})) ∷
    ((robots 1 (hung 1 1 0 ∷ []), 1, Some 0), Err (record {})) ∷
    ((urgent, 3, Some 0), Err (record {})) ∷ [])
relinquish_answers = refl

-- an owner of R1 that waits for any token gets R1 again where it gives it back
relinquish_effects : Answers (λ (x : Pool × ℕ × Option ℕ). after_relinquish x.0 x.1 x.2 (at 100)) (
    ((urgent, 1, Some 0), robots 4 (owner 2 2 1 ∷ waiter 3 3 (Some 0) ∷ at_priority 10 (owner 4 4 0) ∷ [])) ∷
    ((patient, 1, Some 0), robots 4 (owner 2 2 1 ∷ owner 3 3 0 ∷ at_priority 70 (waiter 4 4 None) ∷ [])) ∷
    ((robots 3 (owner 1 1 0 ∷ owner 2 2 1 ∷ waiter 3 1 None ∷ []), 1, Some 0), robots 3 (owner 2 2 1 ∷ owner 3 1 0 ∷ [])) ∷
    ((robots 3 (owner 1 1 0 ∷ owner 2 2 1 ∷ waiter 3 1 (Some 1) ∷ []), 1, Some 0), robots 3 (owner 2 2 1 ∷ waiter 3 1 (Some 1) ∷ [])) ∷
    ((robots 3 (owner 1 1 0 ∷ owner 2 2 1 ∷ waiter 3 1 (Some 1) ∷ []), 2, Some 1), robots 3 (owner 1 1 0 ∷ owner 3 1 1 ∷ [])) ∷
    ((both, 1, Some 1), both) ∷ [])
relinquish_effects = refl

-- one that waited goes and frees nothing; a token is freed, and a control time-out begins then
expirations : Answers (λ (x : List SemEntry × SemEntry). expired_of x.1 x.0) (
    ((owner 1 1 0 ∷ waiter 2 2 None ∷ [], waiter 2 2 None), record { client = 2; invoke = 1; waited = true; abort = false; grant = None }) ∷
    ((record (owner 1 1 0) { abort = Some true } ∷ waiter 2 2 None ∷ [], record (owner 1 1 0) { abort = Some true }), record { client = 1; invoke = 1; waited = false; abort = true; grant = Some (granted 2 2 (Some 0)) }) ∷
    ((record (hung 1 1 0) { abort = Some true } ∷ waiter 2 2 (Some 1) ∷ [], record (hung 1 1 0) { abort = Some true }), record { client = 1; invoke = 1; waited = false; abort = false; grant = None }) ∷ [])
expirations = refl

expire_effects : Answers (λ (x : Pool × ℕ). after_expire x.0 x.1 (at 500)) (
    ((robots 3 (owner 1 1 0 ∷ owner 2 2 1 ∷ waiter 3 3 None ∷ []), 3), robots 3 (owner 1 1 0 ∷ owner 2 2 1 ∷ [])) ∷
    ((robots 3 (owner 1 1 0 ∷ owner 2 2 1 ∷ record (waiter 3 3 None) { control = Some 40 } ∷ []), 2), robots 3 (owner 1 1 0 ∷ record (owner 3 3 1) { control = Some 40; deadline = Some (at 540) } ∷ [])) ∷
    ((robots 1 (hung 1 1 0 ∷ []), 1), robots 1 []) ∷ [])
expire_effects = refl

-- client 1 has both tokens and keeps R2: R1 is granted and R2 hangs; what it waits for, it waits for no longer
losses : Answers (λ (x : List SemEntry × ℕ). loss_of x.1 (at 100) x.0) (
    ((owner 1 1 0 ∷ record (owner 2 1 1) { keep = true } ∷ waiter 3 2 (Some 1) ∷ waiter 4 3 None ∷ [], 1), record { entries = hung 2 1 1 ∷ waiter 3 2 (Some 1) ∷ owner 4 3 0 ∷ []; grants = granted 3 4 (Some 0) ∷ [] }) ∷
    ((owner 1 1 0 ∷ owner 2 1 1 ∷ waiter 3 2 None ∷ waiter 4 3 None ∷ [], 1), record { entries = owner 3 2 0 ∷ owner 4 3 1 ∷ []; grants = granted 2 3 (Some 0) ∷ granted 3 4 (Some 1) ∷ [] }) ∷
    ((owner 1 1 0 ∷ owner 2 2 1 ∷ waiter 3 1 (Some 1) ∷ [], 1), record { entries = owner 2 2 1 ∷ []; grants = [] }) ∷ [])
losses = refl

-- whether a token is to be had at once, by whom a request may preempt and what it asks for
at_once : Answers (λ (x : Pool × Option ℕ × Option ℕ). has_token x.1 x.2 x.0) (
    ((both, None, None), false) ∷
    ((robots 1 (owner 1 1 0 ∷ []), None, None), true) ∷
    ((robots 1 (owner 1 1 0 ∷ []), None, Some 0), false) ∷
    ((robots 2 (hung 1 1 0 ∷ owner 2 2 1 ∷ []), None, None), false) ∷
    ((robots 2 (hung 1 1 0 ∷ owner 2 2 1 ∷ []), Some 1, None), true) ∷
    ((robots 2 (hung 1 1 0 ∷ owner 2 2 1 ∷ []), Some 1, Some 1), false) ∷ [])
at_once = refl

-- and which one that is
which : Answers (λ (x : Pool × Option ℕ × Option ℕ). token_got x.1 x.2 x.0) (
    ((both, None, None), None) ∷
    ((robots 1 (owner 1 1 0 ∷ []), None, None), Some 1) ∷
    ((robots 1 (owner 1 1 1 ∷ []), None, None), Some 0) ∷
    ((robots 1 (owner 1 1 1 ∷ []), None, Some 1), None) ∷
    ((robots 2 (owner 1 2 0 ∷ hung 2 1 1 ∷ []), Some 1, None), Some 1) ∷
    ((robots 1 (hung 1 1 1 ∷ []), Some 1, None), Some 1) ∷
    ((robots 1 (hung 1 1 1 ∷ []), Some 1, Some 0), Some 0) ∷ [])
which = refl

-- what a status tells of tokens
states : Answers (λ (x : ℕ × List SemEntry). token_state x.0 x.1) (
    ((0, owner 1 1 0 ∷ owner 2 2 1 ∷ waiter 3 3 None ∷ []), status.Owned) ∷
    ((1, owner 1 1 0 ∷ owner 2 2 1 ∷ waiter 3 3 None ∷ []), status.Owned) ∷
    ((0, owner 1 1 0 ∷ hung 2 2 1 ∷ []), status.Owned) ∷
    ((1, owner 1 1 0 ∷ hung 2 2 1 ∷ []), status.Hung) ∷
    ((1, owner 1 1 0 ∷ waiter 2 2 (Some 0) ∷ []), status.Free) ∷ [])
states = refl

-- R1, R2, R3 and R
places : Answers (λ name. place_of name both.tokens) (
    (82 ∷ 49 ∷ [], Some 0) ∷
    (82 ∷ 50 ∷ [], Some 1) ∷
    (82 ∷ 51 ∷ [], None) ∷
    (82 ∷ [], None) ∷ [])
places = refl

-- three tokens, of which three clients are owners, and 120 more clients that wait for any, with priorities from 0 to 6
-- that rise and fall: the token at place 0 is given back again and again by whoever got it

abbrev waiting : ℕ → SemEntry
waiting n = at_priority ((n * 5) % 7) (waiter (n + 3) (n + 3) None)

abbrev crowd : ℕ → Pool
crowd n = record {
  tokens = (82 ∷ 49 ∷ []) ∷ (82 ∷ 50 ∷ []) ∷ (82 ∷ 51 ∷ []) ∷ [];
  made = n + 3;
  entries = owner 1 1 0 ∷ owner 2 2 1 ∷ owner 3 3 2 ∷ map waiting (range_with_len 1 n);
}

abbrev client_of : Result (Option Grant) NotOwner → ℕ
client_of (Ok (Some g)) = g.client
client_of (Ok None) = 0
client_of (Err e) = 0

-- the clients that get the token, one after the other, when it is given back so often
abbrev served : ℕ → ℕ → Pool → List ℕ
served zero client p = []
served (suc n) client p = let next = client_of (relinquish_answer p client (Some 0)) in next ∷ served n next (after_relinquish p client (Some 0) (at 7))

-- the clients of one priority, in order of arrival
abbrev of_priority : ℕ → ℕ → List ℕ
of_priority n priority = map (λ k. k + 3) (filter (λ k. (k * 5) % 7 == priority) (range_with_len 1 n))

granted_by_rank : served 120 1 (crowd 120) ≡ of_priority 120 0 ++ of_priority 120 1 ++ of_priority 120 2 ++ of_priority 120 3 ++ of_priority 120 4 ++ of_priority 120 5 ++ of_priority 120 6
granted_by_rank = refl

-- one owner at a time: what is told of client 1, and which entries are left, after so many were lost
abbrev after_each : List SemEntry → ℕ → List SemEntry
after_each entries n = (lose_each n 1 (at 100) (record { entries = entries; grants = [] })).entries

abbrev told_each : List SemEntry → ℕ → LostOne
told_each entries n = lost_one 1 (after_each entries n)

-- a hung entry of the client and two that it owns, and one of another that waits for the second of these
abbrev two_owned : List SemEntry
two_owned = hung 1 1 2 ∷ owner 2 1 1 ∷ owner 3 1 0 ∷ waiter 4 2 (Some 0) ∷ []

-- the hung one is left alone; least number first, and then the other; then there is none
two_told : map (told_each two_owned) (0 ∷ 1 ∷ 2 ∷ []) ≡ Freed None ∷ Freed (Some (record { client = 2; invoke = 1; entry = 4; token = None })) ∷ Done ∷ []
two_told = refl

two_left : map (λ n. map (λ e. e.number) (after_each two_owned n)) (1 ∷ 2 ∷ []) ≡ (1 ∷ 3 ∷ 4 ∷ []) ∷ (1 ∷ 4 ∷ []) ∷ []
two_left = refl

-- queued entries alone: they go, and there is none
queued_gone : map (λ e. e.number) (after_each (waiter 4 1 None ∷ waiter 5 2 None ∷ []) 1) ≡ 5 ∷ []
queued_gone = refl

queued_told : told_each (waiter 4 1 None ∷ waiter 5 2 None ∷ []) 0 ≡ Done
queued_told = refl

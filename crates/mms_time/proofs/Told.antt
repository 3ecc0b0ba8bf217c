-- What is told before a change is what the change does.
use Rattle.std.proofs.Common.{◌≡◌, ◌∙◌, refl, ℕ, ◌+◌, Bool, true, false, not, ◌||◌, ◌&&◌, ◌==◌, nat_lt, if◌then◌else◌, cond, List, [], ◌∷◌, find, length, Option, None, Some, is_none, is_some, Ok}
use Rattle.std.specs.List.{list_any}
use Rattle.mms_types.proofs.Conditions.{none_holds}
use Rattle.mms_types.specs.Errors.{first_of, object_non_existent, object_state_conflict, timeout, type_inconsistent}
use Rattle.mms_types.specs.declared.moment.Moment.{Moment}
use Rattle.mms_types.specs.declared.semaphore.RelinquishControl.{RelinquishControl}
use Rattle.mms_types.specs.declared.semaphore.TakeControl.{TakeControl}
use Rattle.mms_types.specs.declared.service_error.ServiceError.{ServiceError}
use Rattle.pool_sem.specs.Pools as pool
use Rattle.pool_sem.specs.declared.outcome.PoolOutcome.{PoolOutcome}
use Rattle.pool_sem.specs.declared.outcome.PoolOutcome.TheVariants as comes_to
use Rattle.token_sem.specs.Semaphore.{Sem, after, answer_giving_back, answer_of, grant_to, has_claim, has_token, heir_of, hung_to_preempt, outcome_later, outcome_now, owned_by, owner_of, relinquish_answer, take_answer, tokens_held}
use Rattle.token_sem.specs.declared.entry.Ask.{Ask}
use Rattle.token_sem.specs.declared.entry.TakeOutcome.{TakeOutcome}
use Rattle.token_sem.specs.declared.entry.TakeOutcome.TheVariants.{Gets, Refused, TimesOut, WaitsUntil}
use Rattle.token_sem.specs.declared.entry.SemEntry.{SemEntry}
use Rattle.token_sem.specs.declared.entry.Taken.TheVariants.{Granted, Waits}
use Rattle.mms_time.specs.Services.{ask_of, is_missing, is_zero, place_asked, relinquish_conditions_in, relinquish_grant_in, take_conditions_in}
use Rattle.mms_time.specs.declared.row.Semaphore.TheVariants.{Token, Pool}

-- a request by a client that waits for no token and owns none
module _ (s : Sem) (n : ℕ) (ask : Ask) (now : Moment) where
  later : (delay : Option ℕ) → is_zero delay ≡ false → answer_of (outcome_later delay now) n ask ≡ Ok (Waits n)
  later None e = refl
  later (Some ms) e = by_test (ms == 0) e
    where
      by_test : (b : Bool) → b ≡ false → answer_of (if b then TimesOut else WaitsUntil (after now ms)) n ask ≡ Ok (Waits n)
      by_test true h = absurd cc
      by_test false h = refl

  by_free : (delay : Option ℕ) (b : Bool) → first_of ((not b && is_zero delay, timeout) ∷ []) ≡ None
      → answer_of (if b then Gets else outcome_later delay now) n ask ≡ Ok (if b then Granted (grant_to n ask) else Waits n)
  by_free delay true e = refl
  by_free delay false e = later delay (none_holds (is_zero delay) timeout [] e).0

  by_hung : (delay : Option ℕ) (o : Option SemEntry) → first_of ((not (is_some o || nat_lt (tokens_held s.entries) s.tokens) && is_zero delay, timeout) ∷ []) ≡ None
      → answer_of (outcome_now o s delay now) n ask ≡ Ok (if is_some o || nat_lt (tokens_held s.entries) s.tokens then Granted (grant_to n ask) else Waits n)
  by_hung delay (Some hung) e = refl
  by_hung delay None e = by_free delay (nat_lt (tokens_held s.entries) s.tokens) e

unclaimed : (claim : Bool) (outcome : TakeOutcome) (n : ℕ) (ask : Ask) → claim ≡ false → answer_of (if claim then Refused else outcome) n ask ≡ answer_of outcome n ask
unclaimed true outcome n ask e = absurd cc
unclaimed false outcome n ask e = refl

pub take_told : (s : Sem) (client invoke : ℕ) (asked : TakeControl) (now : Moment) → first_of (take_conditions_in client asked (Token s)) ≡ None
    → take_answer s (ask_of client invoke None asked) now
    ≡ Ok (if has_token asked.preempt s then Granted (grant_to (s.made + 1) (ask_of client invoke None asked)) else Waits (s.made + 1))
take_told s client invoke asked now e =
    let ask = ask_of client invoke None asked in
    let last : List (Bool × ServiceError) = (not (has_token asked.preempt s) && is_zero asked.delay, timeout) ∷ [] in
    let claim = has_claim client s.entries in
    let a = none_holds (is_some asked.token) type_inconsistent ((claim, object_state_conflict) ∷ last) e in
    let b = none_holds claim object_state_conflict last a.1 in
    unclaimed claim (outcome_now (hung_to_preempt asked.preempt s.entries) s asked.delay now) (s.made + 1) ask b.0
    ∙ by_hung s (s.made + 1) ask now asked.delay (hung_to_preempt asked.preempt s.entries) b.1

found : (p : SemEntry → Bool) (es : List SemEntry) → not (list_any p es) ≡ false → find p es ≡ None → ⊥
found p [] any none = absurd cc
found p (e ∷ es) any none = by_first (p e) (found p es) any none
  where
    by_first : (b : Bool) → (not (list_any p es) ≡ false → find p es ≡ None → ⊥) → not (b || list_any p es) ≡ false → cond b (Some e) (find p es) ≡ None → ⊥
    by_first true rest h k = absurd cc
    by_first false rest h k = rest h k

pub grant_told : (s : Sem) (client : ℕ) (asked : RelinquishControl) → first_of (relinquish_conditions_in client asked (Token s)) ≡ None
    → relinquish_answer s client ≡ Ok (relinquish_grant_in client asked (Token s))
grant_told s client asked e =
    let owns = not (list_any (owned_by client) s.entries) in
    let a = none_holds (is_some asked.token) type_inconsistent ((owns, object_state_conflict) ∷ []) e in
    let b = none_holds owns object_state_conflict [] a.1 in
    by_owner (owner_of client s.entries) (found (owned_by client) s.entries b.0)
  where
    by_owner : (o : Option SemEntry) → (o ≡ None → ⊥) → answer_giving_back o s.entries ≡ Ok (heir_of o s.entries)
    by_owner None there = absurd (there refl)
    by_owner (Some owner) there = refl

-- ---- the same of a pool

module _ (p : pool.Pool) (n : ℕ) (ask : Ask) (now : Moment) where
  pool_later : (delay : Option ℕ) → is_zero delay ≡ false → pool.answer_of (pool.outcome_later delay now) n ask ≡ Ok (Waits n)
  pool_later None e = refl
  pool_later (Some ms) e = by_test (ms == 0) e
    where
      by_test : (b : Bool) → b ≡ false → pool.answer_of (if b then comes_to.TimesOut else comes_to.WaitsUntil (after now ms)) n ask ≡ Ok (Waits n)
      by_test true h = absurd cc
      by_test false h = refl

  pool_by_free : (delay free : Option ℕ) → first_of ((not (is_some free) && is_zero delay, timeout) ∷ []) ≡ None
      → pool.answer_of (pool.outcome_free free delay now) n ask ≡ Ok (if is_some free then Granted (pool.grant_to n ask free) else Waits n)
  pool_by_free delay (Some token) e = refl
  pool_by_free delay None e = pool_later delay (none_holds (is_zero delay) timeout [] e).0

  pool_by_hung : (o : Option SemEntry) → first_of ((not (is_some o || is_some (pool.free_token ask.token (length p.tokens) p.entries)) && is_zero ask.delay, timeout) ∷ []) ≡ None
      → pool.answer_of (pool.outcome_now o p ask now) n ask
      ≡ Ok (if is_some o || is_some (pool.free_token ask.token (length p.tokens) p.entries)
      then Granted (pool.grant_to n ask (pool.got_of o (pool.free_token ask.token (length p.tokens) p.entries))) else Waits n)
  pool_by_hung (Some hung) e = refl
  pool_by_hung None e = pool_by_free ask.delay (pool.free_token ask.token (length p.tokens) p.entries) e

pool_unclaimed : (claim : Bool) (o : PoolOutcome) (n : ℕ) (ask : Ask) → claim ≡ false → pool.answer_of (if claim then comes_to.Refused else o) n ask ≡ pool.answer_of o n ask
pool_unclaimed true o n ask e = absurd cc
pool_unclaimed false o n ask e = refl

pub pool_take_told : (p : pool.Pool) (client invoke : ℕ) (asked : TakeControl) (now : Moment) → first_of (take_conditions_in client asked (Pool p)) ≡ None
    → pool.take_answer p (ask_of client invoke (place_asked asked.token p.tokens) asked) now
    ≡ Ok (if pool.has_token asked.preempt (place_asked asked.token p.tokens) p
    then Granted (pool.grant_to (p.made + 1) (ask_of client invoke (place_asked asked.token p.tokens) asked) (pool.token_got asked.preempt (place_asked asked.token p.tokens) p))
    else Waits (p.made + 1))
pool_take_told p client invoke asked now e =
    let place = place_asked asked.token p.tokens in
    let ask = ask_of client invoke place asked in
    let last : List (Bool × ServiceError) = (not (pool.has_token asked.preempt place p) && is_zero asked.delay, timeout) ∷ [] in
    let claim = pool.has_claim client place p.entries in
    let a = none_holds (is_missing asked.token p.tokens) object_non_existent ((claim, object_state_conflict) ∷ last) e in
    let b = none_holds claim object_state_conflict last a.1 in
    pool_unclaimed claim (pool.outcome_now (pool.hung_to_preempt asked.preempt place p.entries) p ask now) (p.made + 1) ask b.0
    ∙ pool_by_hung p (p.made + 1) ask now (pool.hung_to_preempt asked.preempt place p.entries) b.1

pub pool_grant_told : (p : pool.Pool) (client : ℕ) (asked : RelinquishControl) → first_of (relinquish_conditions_in client asked (Pool p)) ≡ None
    → pool.relinquish_answer p client (place_asked asked.token p.tokens) ≡ Ok (relinquish_grant_in client asked (Pool p))
pool_grant_told p client asked e =
    let place = place_asked asked.token p.tokens in
    let owner = pool.owner_of client place p.entries in
    let last : List (Bool × ServiceError) = (is_none owner, object_state_conflict) ∷ [] in
    let a = none_holds (is_none asked.token) type_inconsistent ((is_missing asked.token p.tokens, object_non_existent) ∷ last) e in
    let b = none_holds (is_missing asked.token p.tokens) object_non_existent last a.1 in
    by_owner owner (none_holds (is_none owner) object_state_conflict [] b.1).0
  where
    by_owner : (o : Option SemEntry) → is_none o ≡ false → pool.answer_giving_back o p.entries ≡ Ok (pool.heir_of o p.entries)
    by_owner None there = absurd cc
    by_owner (Some owner) there = refl

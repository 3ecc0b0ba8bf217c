-- A pool, tokens that have names and a list of entries: ISO 9506-1, semaphore management. What a pool has in common
-- with equal tokens, as entries, their rank and their deadlines, and who gets a token that is freed, stands in
-- `token_sem`.
use Rattle.std.specs.Prelude.{◌≡◌, ℕ, zero, suc, ◌+◌, ◌<◌, ◌≤◌, Bool, true, false, not, ◌&&◌, ◌||◌, ◌==◌, nat_eq, nat_lt, if◌then◌else◌, List, [], ◌∷◌, ◌++◌, map, filter, find, fold, count_by, length, position, Option, None, Some, is_some, option_to_list, Result, Ok, Err}
use Rattle.std.specs.List.{list_any, range_with_len, AllAdjacentBelow}
use Rattle.std.specs.Option.{option_eq, option_cmp}
use Rattle.std.specs.Cmp.Lexicographic.{pointwise}
use Rattle.std.specs.declared.cmp.Ordering.TheVariants.{Less}
use Rattle.std.specs.Ordering.{is_lt, nat_cmp}
use Rattle.mms_types.specs.declared.moment.Moment.{Moment}
use Rattle.mms_types.specs.Order.{name_order}
use Rattle.token_sem.specs.declared.entry.SemState.TheVariants.{Queued, Owner}
use Rattle.token_sem.specs.declared.entry.SemEntry.{SemEntry}
use Rattle.token_sem.specs.declared.entry.Ask.{Ask}
use Rattle.token_sem.specs.declared.entry.Grant.{Grant}
use Rattle.token_sem.specs.declared.entry.NotOwner.{NotOwner}
use Rattle.token_sem.specs.declared.entry.Expired.{Expired}
use Rattle.token_sem.specs.declared.entry.LostOne.{LostOne}
use Rattle.token_sem.specs.declared.entry.LostOne.TheVariants.{Freed, Hung, Done}
use Rattle.token_sem.specs.declared.entry.Taken.{Taken}
use Rattle.token_sem.specs.declared.entry.Taken.TheVariants.{Granted, Waits, TimedOut}
use Rattle.token_sem.specs.declared.entry.TakeRefused.{TakeRefused}
use Rattle.token_sem.specs.declared.entry.TakeRefused.TheVariants.{Twice}
use Rattle.token_sem.specs.Semaphore as of_tokens
use Rattle.token_sem.specs.Semaphore.{is_queued, is_owner, is_hung, holds, before, least, without, numbered, after, deadline_after, hung_entry, waits_for, without_waiters, owned_by, aborts, Loss, Rises}
pub use Rattle.token_sem.specs.Named.{suits, wants, next, token_told, owner_from, granted_entry, granted_to, after_freeing, grant_of, after_freeing_of, after_leaving, grant_freeing, grant_leaving}
use Rattle.pool_sem.specs.declared.outcome.PoolOutcome.{PoolOutcome}
use Rattle.pool_sem.specs.declared.outcome.PoolOutcome.TheVariants.{Refused, Preempts, Gets, TimesOut, WaitsUntil, WaitsForEver}
use Rattle.pool_sem.specs.declared.outcome.TokenState.{TokenState}
use Rattle.pool_sem.specs.declared.outcome.TokenState.TheVariants as status

-- the names of the tokens in order of octets, how many entries were made, and the entries in order of number. A token
-- is told by its place among the names, counted from 0
pub record Pool : Type 0 where
  pub tokens : List (List ℕ)
  pub made : ℕ
  pub entries : List SemEntry

-- a token was named, and it is that one
abbrev pub names : Option ℕ → Option ℕ → Bool
names asked token = is_some asked && option_eq nat_eq asked token

-- the entry is owner of that token, or hung with it
abbrev pub has : ℕ → SemEntry → Bool
has token e = holds e && option_eq nat_eq e.token (Some token)

-- nobody has the token
abbrev pub is_free : ℕ → List SemEntry → Bool
is_free token entries = not (list_any (has token) entries)

-- RelinquishControl: the client's owner entry of that token goes, and the token is freed

abbrev pub owner_of : ℕ → Option ℕ → List SemEntry → Option SemEntry
owner_of client token entries = find (λ e. owned_by client e && names token e.token) entries

-- who gets the token of an owner whose entry goes
abbrev pub heir_of : Option SemEntry → List SemEntry → Option Grant
heir_of None entries = None
heir_of (Some owner) entries = grant_leaving owner entries

abbrev pub after_giving_back : Option SemEntry → Moment → Pool → Pool
after_giving_back None now p = p
after_giving_back (Some owner) now p = record p { entries = after_leaving owner now p.entries }

abbrev pub after_relinquish : Pool → ℕ → Option ℕ → Moment → Pool
after_relinquish p client token now = after_giving_back (owner_of client token p.entries) now p

abbrev pub answer_giving_back : Option SemEntry → List SemEntry → Result (Option Grant) NotOwner
answer_giving_back None entries = Err (record {})
answer_giving_back (Some owner) entries = Ok (grant_leaving owner entries)

abbrev pub relinquish_answer : Pool → ℕ → Option ℕ → Result (Option Grant) NotOwner
relinquish_answer p client token = answer_giving_back (owner_of client token p.entries) p.entries

-- TakeControl: what a request comes to

-- the client waits for a token of the pool, or owns the one that it names; a hung entry is no claim
abbrev pub is_claim : ℕ → Option ℕ → SemEntry → Bool
is_claim client asked e = e.client == client && (is_queued e || (is_owner e && names asked e.token))

abbrev pub has_claim : ℕ → Option ℕ → List SemEntry → Bool
has_claim client asked entries = list_any (is_claim client asked) entries

-- of two entries the one whose token stands first in order of octets
abbrev pub lower : SemEntry → SemEntry → Bool
lower a b = is_lt (option_cmp nat_cmp a.token b.token)

-- a hung entry of the client, with a token that suits
abbrev pub is_hung_of : ℕ → Option ℕ → SemEntry → Bool
is_hung_of client asked e = e.client == client && is_hung e && suits asked e.token

-- the hung entry of the client that the request names (ISO 9506-1, TakeControl, applicationToPreempt), of those whose
-- token suits the one with the least token
abbrev pub hung_to_preempt : Option ℕ → Option ℕ → List SemEntry → Option SemEntry
hung_to_preempt None asked entries = None
hung_to_preempt (Some client) asked entries = least lower (filter (is_hung_of client asked) entries)

-- a request is met by the token now
abbrev pub meets : Option ℕ → List SemEntry → ℕ → Bool
meets asked entries token = suits asked (Some token) && is_free token entries

-- the free token of so many that was named, or the least one where none was
abbrev pub free_token : Option ℕ → ℕ → List SemEntry → Option ℕ
free_token asked count entries = find (meets asked entries) (range_with_len 0 count)

-- a token that suits is to be had at once: that of a hung entry of the client that is named, or a free one
abbrev pub has_token : Option ℕ → Option ℕ → Pool → Bool
has_token client asked p = is_some (hung_to_preempt client asked p.entries) || is_some (free_token asked (length p.tokens) p.entries)

-- the token that is had at once, if one is: that of the hung entry, or the free one
abbrev pub got_of : Option SemEntry → Option ℕ → Option ℕ
got_of (Some hung) free = hung.token
got_of None free = free

abbrev pub token_got : Option ℕ → Option ℕ → Pool → Option ℕ
token_got client asked p = got_of (hung_to_preempt client asked p.entries) (free_token asked (length p.tokens) p.entries)

-- no token is to be had now: ISO 9506-1, TakeControl, acceptableDelay
abbrev pub outcome_later : Option ℕ → Moment → PoolOutcome
outcome_later None now = WaitsForEver
outcome_later (Some ms) now = if ms == 0 then TimesOut else WaitsUntil (after now ms)

abbrev pub outcome_free : Option ℕ → Option ℕ → Moment → PoolOutcome
outcome_free (Some token) delay now = Gets token
outcome_free None delay now = outcome_later delay now

abbrev pub outcome_now : Option SemEntry → Pool → Ask → Moment → PoolOutcome
outcome_now (Some hung) p ask now = Preempts hung.number hung.token
outcome_now None p ask now = outcome_free (free_token ask.token (length p.tokens) p.entries) ask.delay now

-- a client with a claim is refused; else a hung token is preempted; else a free one is had; else the client waits
abbrev pub outcome : Pool → Ask → Moment → PoolOutcome
outcome p ask now =
    if has_claim ask.client ask.token p.entries then Refused else outcome_now (hung_to_preempt ask.preempt ask.token p.entries) p ask now

-- the request makes an entry
abbrev pub makes_entry : PoolOutcome → Bool
makes_entry Refused = false
makes_entry (Preempts number token) = true
makes_entry (Gets token) = true
makes_entry TimesOut = false
makes_entry (WaitsUntil deadline) = true
makes_entry WaitsForEver = true

-- the entry of a request that gets that token
abbrev pub owner_entry : ℕ → Ask → Option ℕ → Moment → SemEntry
owner_entry number ask token now = record (of_tokens.entry_of number ask Owner (deadline_after now ask.control)) { token = token }

-- the entry of a request that waits
abbrev pub queued_entry : ℕ → Ask → Option Moment → SemEntry
queued_entry number ask deadline = record (of_tokens.entry_of number ask Queued deadline) { token = ask.token }

abbrev pub with_entry : Pool → SemEntry → Pool
with_entry p e = record p { made = p.made + 1; entries = p.entries ++ e ∷ [] }

abbrev pub effect_of : PoolOutcome → Pool → Ask → Moment → Pool
effect_of Refused p ask now = p
effect_of (Preempts hung token) p ask now = with_entry (record p { entries = without hung p.entries }) (owner_entry (p.made + 1) ask token now)
effect_of (Gets token) p ask now = with_entry p (owner_entry (p.made + 1) ask (Some token) now)
effect_of TimesOut p ask now = p
effect_of (WaitsUntil deadline) p ask now = with_entry p (queued_entry (p.made + 1) ask (Some deadline))
effect_of WaitsForEver p ask now = with_entry p (queued_entry (p.made + 1) ask None)

abbrev pub after_take : Pool → Ask → Moment → Pool
after_take p ask now = effect_of (outcome p ask now) p ask now

abbrev pub grant_to : ℕ → Ask → Option ℕ → Grant
grant_to number ask token = record (of_tokens.grant_to number ask) { token = token_told ask.token token }

abbrev pub answer_of : PoolOutcome → ℕ → Ask → Result Taken TakeRefused
answer_of Refused number ask = Err Twice
answer_of (Preempts hung token) number ask = Ok (Granted (grant_to number ask token))
answer_of (Gets token) number ask = Ok (Granted (grant_to number ask (Some token)))
answer_of TimesOut number ask = Ok TimedOut
answer_of (WaitsUntil deadline) number ask = Ok (Waits number)
answer_of WaitsForEver number ask = Ok (Waits number)

abbrev pub take_answer : Pool → Ask → Moment → Result Taken TakeRefused
take_answer p ask now = answer_of (outcome p ask now) (p.made + 1) ask

-- Cancel: a queued entry goes
abbrev pub after_cancel : Pool → ℕ → Pool
after_cancel p number = record p { entries = without number p.entries }

-- an entry's deadline ends: a queued one goes; one that has a token goes, and its token is freed
abbrev pub expired_entry : Option SemEntry → Moment → Pool → Pool
expired_entry None now p = p
expired_entry (Some e) now p =
    if is_queued e then after_cancel p e.number else record p { entries = after_leaving e now p.entries }

abbrev pub after_expire : Pool → ℕ → Moment → Pool
after_expire p number now = expired_entry (numbered number p.entries) now p

abbrev pub expired_of : SemEntry → List SemEntry → Expired
expired_of e entries = record {
  client = e.client;
  invoke = e.invoke;
  waited = is_queued e;
  abort = is_owner e && aborts e.abort;
  grant = if is_queued e then None else grant_leaving e entries;
}

-- the loss of a client: ISO 9506-1, TakeControl, relinquishIfConnectionLost

-- the client of an owner is lost: the entry becomes hung where its token is kept; else it goes, and its token is freed
abbrev pub loss_of_one : Moment → Loss → SemEntry → Loss
loss_of_one now l o =
    if o.keep then record l { entries = map (hung_entry o.number) l.entries }
    else record { entries = after_leaving o now l.entries; grants = l.grants ++ option_to_list (grant_leaving o l.entries) }

-- a client is lost: its queued entries go, and then each of its owners is lost, in order of number
abbrev pub loss_of : ℕ → Moment → List SemEntry → Loss
loss_of client now entries =
    fold (loss_of_one now) (record { entries = filter (λ e. not (waits_for client e)) entries; grants = [] }) (filter (owned_by client) entries)

abbrev pub after_lose : Pool → ℕ → Moment → Pool
after_lose p client now = record p { entries = (loss_of client now p.entries).entries }

-- of a client that is lost, its queued entries go, and its owner entry of least number is lost, if there is one

abbrev pub losing : Option SemEntry → Moment → Loss → Loss
losing None now l = l
losing (Some o) now l = loss_of_one now l o

abbrev pub lose_one : ℕ → Moment → Loss → Loss
lose_one client now l = losing (of_tokens.owner_of client l.entries) now (record l { entries = without_waiters client l.entries })

abbrev pub lost_of : Option SemEntry → List SemEntry → LostOne
lost_of None entries = Done
lost_of (Some o) entries = if o.keep then Hung else Freed (grant_leaving o entries)

abbrev pub lost_one : ℕ → List SemEntry → LostOne
lost_one client entries = lost_of (of_tokens.owner_of client entries) (without_waiters client entries)

abbrev pub after_lose_one : Pool → ℕ → Moment → Pool
after_lose_one p client now = record p { entries = (lose_one client now (record { entries = p.entries; grants = [] })).entries }

-- one after the other, so many times
abbrev pub lose_each : ℕ → ℕ → Moment → Loss → Loss
lose_each zero client now l = l
lose_each (suc n) client now l = lose_each n client now (lose_one client now l)

-- what ReportPoolSemaphoreStatus tells of a token: by the entry that has it, if one does

abbrev pub state_with : Option SemEntry → TokenState
state_with None = status.Free
state_with (Some e) = if is_owner e then status.Owned else status.Hung

abbrev pub token_state : ℕ → List SemEntry → TokenState
token_state token entries = state_with (find (has token) entries)

-- the place of the token of that name
abbrev pub place_of : List ℕ → List (List ℕ) → Option ℕ
place_of name tokens = position (pointwise nat_eq name) tokens

-- a given token is one of so many
abbrev pub is_place : ℕ → Option ℕ → Bool
is_place count None = true
is_place count (Some token) = nat_lt token count

-- the token that the entry has or wants is one of so many; only one that waits may name none
abbrev pub is_placed : ℕ → SemEntry → Bool
is_placed count e = is_place count e.token && (is_queued e || is_some e.token)

-- each name comes before the next in order of octets
abbrev pub NamesRise : List (List ℕ) → Type 0
NamesRise tokens = AllAdjacentBelow (λ a b. name_order a b ≡ Less) tokens (length tokens)

-- what holds of a pool at any time
pub record IsPool (p : Pool) : Type 0 where
  -- the names rise by octets, so none is there twice
  pub sorted : NamesRise p.tokens
  -- there are from 1 to 256 tokens
  pub some : 1 ≤ length p.tokens
  pub few : length p.tokens ≤ 256
  -- entries are distinct, in order of number, and no more than were made
  pub rises : Rises 0 p.entries p.made
  -- each token that an entry has or wants is there, and an owner or a hung entry has one
  pub placed : count_by (λ e. not (is_placed (length p.tokens) e)) p.entries ≡ 0
  -- a token is owned by one entry at most, or one is hung with it
  pub once : (token : ℕ) → count_by (has token) p.entries ≤ 1
  -- a token that no entry has is wanted by none
  pub served : (token : ℕ) → token < length p.tokens → count_by (has token) p.entries ≡ 0 → count_by (wants token) p.entries ≡ 0

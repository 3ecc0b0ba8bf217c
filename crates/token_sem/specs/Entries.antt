-- The entries of a semaphore, of equal tokens or of a pool's, and their rows by rank and by deadline.
use Rattle.std.specs.Prelude.{◌≡◌, ℕ, zero, suc, ◌++◌, Bool, true, not, ◌&&◌, ◌||◌, ◌==◌, if◌then◌else◌, List, [], ◌∷◌, map, filter, fold, Option, None, Some, is_some, option_map, option_to_list}
use Rattle.mms_types.specs.declared.moment.Moment.{Moment}
use Rattle.token_sem.specs.declared.entry.SemEntry.{SemEntry}
use Rattle.token_sem.specs.declared.entry.Grant.{Grant}
use Rattle.token_sem.specs.declared.entry.Expired.{Expired}
use Rattle.token_sem.specs.declared.entry.LostOne.{LostOne}
use Rattle.token_sem.specs.declared.entry.LostOne.TheVariants.{Freed, Hung, Done}
use Rattle.token_sem.specs.Semaphore as equal
use Rattle.token_sem.specs.Semaphore.{is_queued, is_owner, owner_of, aborts, without, without_waiters, hung_entry, waits_for, owned_by, Loss, Rises}
use Rattle.token_sem.specs.Named as named
use Rattle.sem_queue.specs.declared.row.Row.{Row}
use Rattle.sem_queue.specs.Rows.{Queue, is_placed}

-- the entries in order of number, and how many tokens there are where they have names; None where they are equal
pub record Table : Type 0 where
  pub list : List SemEntry
  pub named : Option ℕ

-- who gets a token, any of equal ones or the one of that place
abbrev pub next_of : Option ℕ → ℕ → List SemEntry → Option SemEntry
next_of None token entries = equal.next entries
next_of (Some count) token entries = named.next token entries

-- a token as its owner has it: equal ones have no names
abbrev pub name_of : Option ℕ → ℕ → Option ℕ
name_of None token = None
name_of (Some count) token = Some token

-- the token that an entry has: of equal ones any, else its own
abbrev pub token_of : Option ℕ → Option ℕ → Option ℕ
token_of None token = Some 0
token_of (Some count) token = token

-- the entry, when it becomes owner of a token, and who is told so
abbrev pub owner_from : Option ℕ → Moment → SemEntry → SemEntry
owner_from None now e = equal.owner_from now e
owner_from (Some token) now e = named.owner_from token now e

abbrev pub grant_of : Option ℕ → SemEntry → Grant
grant_of None e = equal.grant_of e
grant_of (Some token) e = named.grant_of token e

-- the token is freed
abbrev pub freed : Option ℕ → ℕ → Moment → List SemEntry → List SemEntry
freed None token now entries = equal.after_freeing now entries
freed (Some count) token now entries = named.after_freeing token now entries

-- who is told then that it was granted
abbrev pub told_freed : Option ℕ → ℕ → List SemEntry → Option Grant
told_freed None token entries = option_map equal.grant_of (equal.next entries)
told_freed (Some count) token entries = option_map (named.grant_of token) (named.next token entries)

-- an entry that has a token goes, and its token is freed
abbrev pub left : Option ℕ → SemEntry → Moment → List SemEntry → List SemEntry
left None e now entries = equal.after_freeing now (without e.number entries)
left (Some count) e now entries = named.after_leaving e now entries

abbrev pub told_left : Option ℕ → SemEntry → List SemEntry → Option Grant
told_left None e entries = option_map equal.grant_of (equal.next (without e.number entries))
told_left (Some count) e entries = named.grant_leaving e entries

-- an entry's deadline ends: a queued one goes; one that has a token goes, and its token is freed
abbrev pub after_end : Option ℕ → SemEntry → Moment → List SemEntry → List SemEntry
after_end tokens e now entries = if is_queued e then without e.number entries else left tokens e now entries

abbrev pub expired_of : Option ℕ → SemEntry → List SemEntry → Expired
expired_of tokens e entries = record {
  client = e.client;
  invoke = e.invoke;
  waited = is_queued e;
  abort = is_owner e && aborts e.abort;
  grant = if is_queued e then None else told_left tokens e entries;
}

-- the client of an owner is lost: the entry becomes hung where its token is kept; else it goes, and its token is freed
-- (ISO 9506-1, TakeControl, relinquishIfConnectionLost)
abbrev pub loss_of_one : Option ℕ → Moment → Loss → SemEntry → Loss
loss_of_one tokens now l o =
    if o.keep then record l { entries = map (hung_entry o.number) l.entries }
    else record { entries = left tokens o now l.entries; grants = l.grants ++ option_to_list (told_left tokens o l.entries) }

-- a client is lost: its queued entries go, and then each of its owners is lost, in order of number
abbrev pub loss_of : Option ℕ → ℕ → Moment → List SemEntry → Loss
loss_of tokens client now entries =
    fold (loss_of_one tokens now) (record { entries = filter (λ e. not (waits_for client e)) entries; grants = [] }) (filter (owned_by client) entries)

-- of a client that is lost, its queued entries go, and its owner entry of least number is lost, if there is one

abbrev pub losing : Option ℕ → Option SemEntry → Moment → Loss → Loss
losing tokens None now l = l
losing tokens (Some o) now l = loss_of_one tokens now l o

abbrev pub lose_one : Option ℕ → ℕ → Moment → Loss → Loss
lose_one tokens client now l = losing tokens (owner_of client l.entries) now (record l { entries = without_waiters client l.entries })

abbrev pub lost_of : Option ℕ → Option SemEntry → List SemEntry → LostOne
lost_of tokens None entries = Done
lost_of tokens (Some o) entries = if o.keep then Hung else Freed (told_left tokens o entries)

abbrev pub lost_one : Option ℕ → ℕ → List SemEntry → LostOne
lost_one tokens client entries = lost_of tokens (owner_of client entries) (without_waiters client entries)

-- one after the other, so many times
abbrev pub lose_each : Option ℕ → ℕ → ℕ → Moment → Loss → Loss
lose_each tokens zero client now l = l
lose_each tokens (suc n) client now l = lose_each tokens n client now (lose_one tokens client now l)

-- an entry takes the place of the one that has its number
abbrev pub put_entry : SemEntry → SemEntry → SemEntry
put_entry new e = if e.number == new.number then new else e

-- the row of an entry: its token is the one that it has or wants
abbrev pub row_of : SemEntry → Row
row_of e = record { number = e.number; priority = e.priority; queued = is_queued e; token = e.token; deadline = e.deadline }

-- an entry that has a token for ever is in no order
abbrev pub is_ranked : SemEntry → Bool
is_ranked e = is_queued e || is_some e.deadline

abbrev pub rows_of : List SemEntry → List Row
rows_of entries = map row_of (filter is_ranked entries)

-- equal tokens are wanted in one list
abbrev pub lists_of : Option ℕ → ℕ
lists_of None = 1
lists_of (Some count) = count

-- each token that an entry has or wants is there
abbrev pub ArePlaced : ℕ → List SemEntry → Type 0
ArePlaced count [] = Unit {0}
ArePlaced count (e ∷ entries) = (is_placed count e.token ≡ true) × ArePlaced count entries

-- what holds of entries at any time: numbers rise, and each token is there
pub record AreEntries (t : Table) : Type 0 where
  pub rises : (high : ℕ) × Rises 0 t.list high
  pub placed : ArePlaced (lists_of t.named) t.list

-- and of their rows: there is one for each entry that waits or has a deadline
pub record IsTable (tokens : Option ℕ) (entries : List SemEntry) (ranks : Queue) : Type 0 where
  pub rows : ranks.rows ≡ rows_of entries
  pub lists : ranks.tokens ≡ lists_of tokens
  pub rises : (high : ℕ) × Rises 0 entries high
  pub placed : ArePlaced (lists_of tokens) entries

-- Tokens that have names: who gets one that is freed (ISO 9506-1, semaphore management). A token is told by its place,
-- counted from 0 in order of the names.
use Rattle.std.specs.Prelude.{ℕ, Bool, ◌&&◌, ◌||◌, ◌==◌, nat_eq, if◌then◌else◌, List, map, filter, Option, None, Some, is_none, is_some, option_map}
use Rattle.std.specs.Option.{option_eq}
use Rattle.mms_types.specs.declared.moment.Moment.{Moment}
use Rattle.token_sem.specs.declared.entry.SemEntry.{SemEntry}
use Rattle.token_sem.specs.declared.entry.Grant.{Grant}
use Rattle.token_sem.specs.Semaphore as of_tokens
use Rattle.token_sem.specs.Semaphore.{is_queued, before, least, without}

-- no token was named, or it is that one
abbrev pub suits : Option ℕ → Option ℕ → Bool
suits asked token = is_none asked || option_eq nat_eq asked token

-- the entry waits for that token, or for any
abbrev pub wants : ℕ → SemEntry → Bool
wants token e = is_queued e && suits e.token (Some token)

-- the queued entry that is served first with that token
abbrev pub next : ℕ → List SemEntry → Option SemEntry
next token entries = least before (filter (wants token) entries)

-- which token an answer names: the one that was got, where none was named (ISO 9506-1, TakeControl, namedToken)
abbrev pub token_told : Option ℕ → Option ℕ → Option ℕ
token_told asked got = if is_some asked then None else got

-- the entry, when it becomes owner of that token
abbrev pub owner_from : ℕ → Moment → SemEntry → SemEntry
owner_from token now e = record (of_tokens.owner_from now e) { token = Some token }

-- the entry of that number becomes owner of that token
abbrev pub granted_entry : ℕ → ℕ → Moment → SemEntry → SemEntry
granted_entry number token now e = if e.number == number then owner_from token now e else e

abbrev pub granted_to : Option SemEntry → ℕ → Moment → List SemEntry → List SemEntry
granted_to None token now entries = entries
granted_to (Some first) token now entries = map (granted_entry first.number token now) entries

-- a token is freed: the entry that is served first with it becomes its owner, or the token is free
abbrev pub after_freeing : ℕ → Moment → List SemEntry → List SemEntry
after_freeing token now entries = granted_to (next token entries) token now entries

-- who is told that the token was granted
abbrev pub grant_of : ℕ → SemEntry → Grant
grant_of token e = record (of_tokens.grant_of e) { token = token_told e.token (Some token) }

-- an entry goes, and the token that it has is freed

abbrev pub after_freeing_of : Option ℕ → Moment → List SemEntry → List SemEntry
after_freeing_of None now entries = entries
after_freeing_of (Some token) now entries = after_freeing token now entries

abbrev pub after_leaving : SemEntry → Moment → List SemEntry → List SemEntry
after_leaving e now entries = after_freeing_of e.token now (without e.number entries)

abbrev pub grant_freeing : Option ℕ → List SemEntry → Option Grant
grant_freeing None entries = None
grant_freeing (Some token) entries = option_map (grant_of token) (next token entries)

abbrev pub grant_leaving : SemEntry → List SemEntry → Option Grant
grant_leaving e entries = grant_freeing e.token (without e.number entries)

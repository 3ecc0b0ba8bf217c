-- Worked examples of tokens that are freed, typed by hand from the definitions.
use Rattle.std.specs.Prelude.{◌≡◌, ℕ, true, false, List, [], ◌∷◌, Option, Some, None}
use Rattle.std.proofs.Common.{refl}
use Rattle.mms_types.specs.declared.key.Key.{Key}
use Rattle.mms_types.specs.declared.key.Scope.TheVariants as scope
use Rattle.mms_types.specs.declared.moment.Moment.{Moment}
use Rattle.mms_types.specs.declared.semaphore.TakeControlAnswer.TheVariants.{NamedToken, NoResult}
use Rattle.token_sem.specs.declared.entry.SemEntry.{SemEntry}
use Rattle.token_sem.specs.declared.entry.SemState.{SemState}
use Rattle.token_sem.specs.declared.entry.SemState.TheVariants.{Queued, Owner}
use Rattle.mms_time.specs.Semaphores.{Rows}
use Rattle.mms_time.specs.declared.row.Semaphore.TheVariants.{Pool, Token}
use Rattle.sem_ticks.specs.Granted.{granted}
use Rattle.cell_laws.specs.Freed.{are_named, free_at, grant_of, lost_so_far, owner_from, owners_at, token_held, token_named, wanting_at}

abbrev now : Moment
now = record { 0 = 30 }

abbrev key : Key
key = record { scope = scope.Vmd; item = 77 ∷ [] }

-- tokens of a pool, R1 and R2
abbrev r1 : List ℕ
r1 = 82 ∷ 49 ∷ []

abbrev r2 : List ℕ
r2 = 82 ∷ 50 ∷ []

abbrev entry : ℕ → ℕ → Option ℕ → SemState → SemEntry
entry number client token held = record {
  number = number;
  client = client;
  invoke = 10;
  token = token;
  priority = 64;
  control = None;
  abort = None;
  keep = false;
  state = held;
  deadline = None;
}

abbrev with_entries : List SemEntry → Rows
with_entries entries = (key, record { configured = true; semaphore = Pool (record { tokens = r1 ∷ r2 ∷ []; made = 5; entries = entries }) }) ∷ []

-- client 1 owns both tokens, client 2 waits for R2, and client 3 for any
abbrev first : SemEntry
first = entry 1 1 (Some 0) Owner

abbrev second : SemEntry
second = entry 2 1 (Some 1) Owner

abbrev for_r2 : SemEntry
for_r2 = entry 3 2 (Some 1) Queued

abbrev for_any : SemEntry
for_any = entry 4 3 None Queued

abbrev owned : Rows
owned = with_entries (first ∷ second ∷ for_r2 ∷ for_any ∷ [])

none_free : free_at key owned ≡ 0
none_free = refl

have_names : are_named key owned ≡ true
have_names = refl

want_r1 : wanting_at key (Some 0) owned ≡ for_any ∷ []
want_r1 = refl

want_r2 : wanting_at key (Some 1) owned ≡ for_r2 ∷ for_any ∷ []
want_r2 = refl

by_name : token_named key (Some r2) owned ≡ Some 1
by_name = refl

by_entry : token_held key second owned ≡ Some 1
by_entry = refl

-- the answer names the token where none was named
told_any : granted owned (key, grant_of (Some 0) for_any) ≡ record { client = 3; invoke = 10; answer = NamedToken r1 }
told_any = refl

told_named : granted owned (key, grant_of (Some 1) for_r2) ≡ record { client = 2; invoke = 10; answer = NoResult }
told_named = refl

-- client 1 is lost: R1 goes to who waits for any, and then R2 to who waits for it
in_order : owners_at key 1 owned ≡ first ∷ second ∷ []
in_order = refl

before_any : lost_so_far 1 now [] key owned ≡ owned
before_any = refl

after_first : lost_so_far 1 now (first ∷ []) key owned ≡ with_entries (second ∷ for_r2 ∷ owner_from (Some 0) now for_any ∷ [])
after_first = refl

after_both : lost_so_far 1 now (first ∷ second ∷ []) key owned ≡ with_entries (owner_from (Some 1) now for_r2 ∷ owner_from (Some 0) now for_any ∷ [])
after_both = refl

-- where client 1 waits as well, it waits no more
abbrev greedy : Rows
greedy = with_entries (first ∷ entry 3 2 (Some 1) Owner ∷ entry 5 1 (Some 1) Queued ∷ [])

no_more : lost_so_far 1 now [] key greedy ≡ with_entries (first ∷ entry 3 2 (Some 1) Owner ∷ [])
no_more = refl

one_free : free_at key (lost_so_far 1 now (first ∷ []) key greedy) ≡ 1
one_free = refl

-- equal tokens have no names
abbrev equal : Rows
equal = (key, record { configured = false; semaphore = Token (record { tokens = 2; made = 2; entries = entry 1 1 None Owner ∷ entry 2 2 None Queued ∷ [] }) }) ∷ []

have_none : are_named key equal ≡ false
have_none = refl

by_no_name : token_named key None equal ≡ None
by_no_name = refl

want_one : wanting_at key None equal ≡ entry 2 2 None Queued ∷ []
want_one = refl

told_equal : granted equal (key, grant_of None (entry 2 2 None Queued)) ≡ record { client = 2; invoke = 10; answer = NoResult }
told_equal = refl

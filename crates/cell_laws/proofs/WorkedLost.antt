-- Worked examples of tokens that are lost, each for one of the causes, and of the farthest deadline, typed by hand from
-- the definitions.
use Rattle.std.specs.Prelude.{◌≡◌, ℕ, Bool, true, false, List, [], ◌∷◌, Option, Some, None, map}
use Rattle.std.proofs.Common.{refl}
use Rattle.mms_types.specs.declared.key.Key.{Key}
use Rattle.mms_types.specs.declared.key.Scope.{Scope}
use Rattle.mms_types.specs.declared.key.Scope.TheVariants as scope
use Rattle.mms_types.specs.declared.moment.Moment.{Moment}
use Rattle.mms_types.specs.declared.object_name.ObjectName.TheVariants as name
use Rattle.mms_types.specs.declared.semaphore.TakeControl.{TakeControl}
use Rattle.token_sem.specs.declared.entry.SemEntry.{SemEntry}
use Rattle.token_sem.specs.declared.entry.SemState.{SemState}
use Rattle.token_sem.specs.declared.entry.SemState.TheVariants.{Queued, Owner, Hung}
use Rattle.mms_time.specs.Deadlines.{all_deadlines, expire_after}
use Rattle.mms_time.specs.Loss.{lost}
use Rattle.mms_time.specs.Semaphores.{Rows, entry_in}
use Rattle.mms_time.specs.Services.{relinquished, take_after}
use Rattle.mms_time.specs.Statuses.{entry_status}
use Rattle.mms_time.specs.declared.row.Semaphore.TheVariants.{Token, Pool}
use Rattle.cell_laws.specs.Freed.{token_held, token_named}
use Rattle.cell_laws.specs.Lost.{hung, preempted_at}

abbrev now : Moment
now = record { 0 = 30 }

abbrev key : Scope → Key
key of = record { scope = of; item = 77 ∷ [] }

abbrev entry : ℕ → ℕ → Option ℕ → Bool → SemState → SemEntry
entry number client token keep held = record {
  number = number;
  client = client;
  invoke = 10;
  token = token;
  priority = 64;
  control = None;
  abort = None;
  keep = keep;
  state = held;
  deadline = None;
}

-- one token, and entries that there are
abbrev one_token : Scope → List SemEntry → Rows
one_token of entries = (key of, record { configured = false; semaphore = Token (record { tokens = 1; made = 2; entries = entries }) }) ∷ []

-- two tokens with names, R1 and R2
abbrev two_named : List SemEntry → Rows
two_named entries = (key scope.Vmd, record { configured = true; semaphore = Pool (record { tokens = (82 ∷ 49 ∷ []) ∷ (82 ∷ 50 ∷ []) ∷ []; made = 2; entries = entries }) }) ∷ []

-- client 1 owns it, and gives it back
abbrev owned : Rows
owned = one_token scope.Vmd (entry 1 1 None false Owner ∷ [])

given : entry_in (key scope.Vmd) 1 (relinquished (key scope.Vmd) 1 None now owned) ≡ None
given = refl

-- of two tokens of a pool that a client owns the one that it names
abbrev both : Rows
both = two_named (entry 1 1 (Some 0) false Owner ∷ entry 2 1 (Some 1) false Owner ∷ [])

named_first : token_named (key scope.Vmd) (Some (82 ∷ 50 ∷ [])) both ≡ token_held (key scope.Vmd) (entry 2 1 (Some 1) false Owner) both
named_first = refl

first_stays : entry_in (key scope.Vmd) 1 (relinquished (key scope.Vmd) 1 (Some (82 ∷ 50 ∷ [])) now both) ≡ Some (entry 1 1 (Some 0) false Owner)
first_stays = refl

second_goes : entry_in (key scope.Vmd) 2 (relinquished (key scope.Vmd) 1 (Some (82 ∷ 50 ∷ [])) now both) ≡ None
second_goes = refl

-- its control times out
times_out : entry_in (key scope.Vmd) 1 (expire_after (key scope.Vmd) 1 now owned) ≡ None
times_out = refl

-- client 1 is lost: it doesn't keep the token, or keeps it
unkept : entry_in (key scope.Vmd) 1 (lost 1 now owned) ≡ None
unkept = refl

is_kept : entry_in (key scope.Vmd) 1 (lost 1 now (one_token scope.Vmd (entry 1 1 None true Owner ∷ []))) ≡ Some (hung (entry 1 1 None true Owner))
is_kept = refl

-- another client is lost
other_lost : entry_in (key scope.Vmd) 1 (lost 2 now owned) ≡ Some (entry 1 1 None false Owner)
other_lost = refl

-- a semaphore of its association goes with it, although it keeps the token
goes_with : entry_in (key (scope.Association 1)) 1 (lost 1 now (one_token (scope.Association 1) (entry 1 1 None true Owner ∷ []))) ≡ None
goes_with = refl

-- ---- client 2 asks for a token, and names client 1 as the one to preempt

abbrev asks : Option ℕ → TakeControl
asks control = record {
  name = name.Vmd (77 ∷ []);
  token = None;
  priority = 64;
  delay = None;
  control = control;
  abort = None;
  relinquish = true;
  preempt = Some 1;
}

-- a hung entry is preempted, and its token is that of the new entry
abbrev is_hung_there : Rows
is_hung_there = two_named (entry 1 3 (Some 0) false Owner ∷ entry 2 1 (Some 1) true Hung ∷ [])

it_is : preempted_at (asks None) (key scope.Vmd) is_hung_there ≡ Some (entry 2 1 (Some 1) true Hung)
it_is = refl

hung_goes : entry_in (key scope.Vmd) 2 (take_after 2 10 now (asks None) is_hung_there) ≡ None
hung_goes = refl

has_it : entry_in (key scope.Vmd) 3 (take_after 2 10 now (asks None) is_hung_there) ≡ Some (entry 3 2 (Some 1) false Owner)
has_it = refl

-- an owner entry isn't: client 2 waits
none_hung : preempted_at (asks None) (key scope.Vmd) owned ≡ None
none_hung = refl

owner_stays : entry_in (key scope.Vmd) 1 (take_after 2 10 now (asks None) owned) ≡ Some (entry 1 1 None false Owner)
owner_stays = refl

waits : entry_in (key scope.Vmd) 3 (take_after 2 10 now (asks None) owned) ≡ Some (entry 3 2 None false Queued)
waits = refl

-- ---- the farthest deadline: control begins now, for as long as 32 bits tell, and a status tells all of it

abbrev at_last : Moment
at_last = record { 0 = 4294967325 }

farthest : map (λ d. d.at) (all_deadlines (take_after 2 10 now (asks (Some 4294967295)) (one_token scope.Vmd []))) ≡ at_last ∷ []
farthest = refl

told : (entry_status [] now (record (entry 3 2 None false Owner) { deadline = Some at_last })).remaining ≡ Some 4294967295
told = refl

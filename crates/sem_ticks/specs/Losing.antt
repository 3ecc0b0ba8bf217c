-- A client is lost, on semaphores that are copied.
use Rattle.std.specs.Prelude.{◌≡◌, ℕ, suc, ◌==◌, Bool, false, List, [], ◌∷◌, insert, map, None, Some, if◌then◌else◌}
use Rattle.std.specs.List.{All, flat_map, list_any}
use Rattle.std.specs.Map.{lookup}
use Rattle.std.specs.Ordering.{is_lt}
use Rattle.mms_types.specs.Order.{key_eq, key_order}
use Rattle.mms_types.specs.declared.key.Key.{Key}
use Rattle.mms_types.specs.declared.moment.Moment.{Moment}
use Rattle.token_sem.specs.declared.entry.Grant.{Grant}
use Rattle.mms_time.specs.Loss.{grants_of, semaphore_without}
use Rattle.mms_time.specs.Semaphores.{Rows, changed_row, entries_of}
use Rattle.mms_time.specs.Services.{grant_answer_in}
use Rattle.mms_time.specs.declared.row.Semaphore.{Semaphore}
use Rattle.mms_time.specs.declared.row.SemaphoreRow.{SemaphoreRow}
use Rattle.sem_ticks.specs.Drafts.{drafted, KeepsLeast}
use Rattle.sem_ticks.specs.declared.drafts.Draft.{Draft}
use Rattle.sem_ticks.specs.declared.granted.Granted.{Granted}

abbrev pub has_entry : ℕ → SemaphoreRow → Bool
has_entry client row = list_any (λ e. e.client == client) (entries_of row)

-- ---- a draft more

-- how many of the first names come before that one
abbrev pub names_before : Key → List Draft → ℕ
names_before key [] = 0
names_before key (d ∷ drafts) = if is_lt (key_order d.key.now key) then suc (names_before key drafts) else 0

-- at the place of its name
abbrev pub with_draft : Draft → List Draft → List Draft
with_draft new drafts = insert drafts (names_before new.key.now drafts) new

-- no semaphore but the drafts has an entry of the client
abbrev pub HasNone : ℕ → Rows → List Draft → Type 0
HasNone client rows drafts = All (λ row. lookup (key_eq row.0) (drafted drafts) ≡ None → has_entry client row.1 ≡ false) rows

-- ---- the loss

-- a draft has lost the client
pub record IsLost (client : ℕ) (now : Moment) (d e : Draft) : Type 0 where
  pub key : e.key ≡ d.key
  pub place : e.place ≡ d.place
  pub row : e.row ≡ changed_row (semaphore_without client now) d.row
  pub least : KeepsLeast e

-- and so has each
abbrev pub AreLost : ℕ → Moment → List Draft → List Draft → Type 0
AreLost client now [] [] = Unit {0}
AreLost client now [] (e ∷ es) = ⊥
AreLost client now (d ∷ ds) [] = ⊥
AreLost client now (d ∷ ds) (e ∷ es) = IsLost client now d e × AreLost client now ds es

-- grants in a semaphore, with what is answered
abbrev pub granted_by : Semaphore → Grant → Granted
granted_by semaphore grant = record { client = grant.client; invoke = grant.invoke; answer = grant_answer_in grant semaphore }

-- who is granted a token where the client is lost: in one draft, and in all, in order of their names
abbrev pub draft_told : ℕ → Moment → Draft → List Granted
draft_told client now d = map (granted_by d.row.semaphore) (grants_of client now (Some d.row))

abbrev pub drafts_told : ℕ → Moment → List Draft → List Granted
drafts_told client now drafts = flat_map (draft_told client now) drafts

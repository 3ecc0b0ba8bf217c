-- What holds of the semaphores of a device at any time stays so at each event.
use Rattle.std.specs.Prelude.{◌≡◌, ℕ, zero, suc, ◌+◌, ◌≤◌, Bool, true, false, not, List, [], ◌∷◌, filter, Option, None, Some, IfSome, option_and_then, option_map, if◌then◌else◌, refl}
use Rattle.std.specs.List.{All}
use Rattle.std.specs.Map.{lookup, values_of}
use Rattle.std.proofs.Common.{sym, subst, cond, arith}
use Rattle.std.proofs.lemmas.List.{map-append}
use Rattle.std.proofs.lemmas.List.Elements.{All-append}
use Rattle.std.proofs.lemmas.Map.Views.{All-map-remove_entry, All-values-set_value, IfSome-lookup_from_All}
use Rattle.mms_types.specs.Order.{key_eq, key_of, scope_eq}
use Rattle.mms_types.specs.declared.key.Key.{Key}
use Rattle.mms_types.specs.declared.key.Scope.TheVariants.{Association as OfClient}
use Rattle.mms_types.specs.declared.moment.Moment.{Moment}
use Rattle.mms_types.specs.declared.pdu.Request.{Request}
use Rattle.mms_types.specs.declared.pdu.Request.TheVariants as request
use Rattle.mms_types.specs.declared.semaphore.DefineSemaphore.{DefineSemaphore}
use Rattle.mms_types.specs.declared.semaphore.TakeControl.{TakeControl}
use Rattle.mms_types.specs.declared.semaphore.TakeControlAnswer.TheVariants.{NoResult}
use Rattle.association.specs.Client.{ClientRow}
use Rattle.association.specs.declared.negotiation.Association.{Association}
use Rattle.association.specs.declared.negotiation.Association.TheVariants.{Idle, Open}
use Rattle.token_sem.specs.Semaphore.{Sem, after_cancel, after_freeing, after_giving_back, effect_of, expired_entry, has_token, is_queued, numbered, outcome, owner_of, without}
use Rattle.token_sem.specs.declared.entry.Ask.{Ask}
use Rattle.token_sem.specs.declared.entry.Expired.{Expired}
use Rattle.sem_ticks.specs.declared.granted.Granted.{Granted}
use Rattle.token_sem.specs.declared.entry.TakeOutcome.{TakeOutcome}
use Rattle.token_sem.specs.declared.entry.TakeOutcome.TheVariants.{Refused, Preempts, Gets, TimesOut, WaitsUntil, WaitsForEver}
use Rattle.token_sem.specs.declared.entry.SemEntry.{SemEntry}
use Rattle.pool_sem.specs.Pools as pool
use Rattle.pool_sem.specs.declared.outcome.PoolOutcome.{PoolOutcome}
use Rattle.pool_sem.specs.declared.outcome.PoolOutcome.TheVariants as pooled
use Rattle.mms_time.specs.Deadlines.{NamedDeadline, expired, expire_after, next_due, without_due}
use Rattle.mms_time.specs.Loss.{all_changed, lost, without_owners, without_waiters}
use Rattle.mms_time.specs.Semaphores.{Rows, changed, changed_row, changed_to, entry_in, entry_waits, made_in, semaphore}
use Rattle.mms_time.specs.Services.{ask_of, cancel_after, cancelled, define_after, define_cause, deleted, name_at, named_answer, new_semaphore, place_asked, relinquished, take_after, take_told, take_told_in, take_told_of, with_take, with_token_back, without_entry}
use Rattle.mms_time.proofs.Defined.{put_each}
use Rattle.sem_ticks.specs.Granted.{relinquish_granted}
use Rattle.mms_time.specs.declared.row.Semaphore.{Semaphore}
use Rattle.mms_time.specs.declared.row.Semaphore.TheVariants.{Token, Pool}
use Rattle.mms_time.specs.declared.row.SemaphoreRow.{SemaphoreRow}
use Rattle.mms_time.specs.declared.taking.TakeDone.{TakeDone}
use Rattle.mms_time.specs.declared.taking.TakeDone.TheVariants.{Answered, Waits}
use Rattle.sem_ticks.specs.Sound.{AreSound, LieAhead}
use Rattle.sem_ticks.specs.Ticks.{Ticking, after_abort, entries_left, met, met_as, next_met, ticked_on}
use Rattle.event_cond.specs.Conditions.{Rows as Conditions}
use Rattle.event_cond.specs.Skips.{Saying}
use Rattle.event_enrol.specs.Enrolments.{Rows as Enrolments}
use Rattle.event_ticks.specs.Sound as events
use Rattle.cell_ticks.specs.Ticks as device
use Rattle.cell_ticks.proofs.Ticked.{both_parts}
use Rattle.sem_ticks.proofs.Ahead.{ahead}
use Rattle.sem_ticks.proofs.Kept.{keeps_lost, keeps_ticked}
use Rattle.sem_ticks.proofs.Later.{ahead_cancelled, ahead_defined, ahead_deleted, ahead_lost, ahead_relinquished, ahead_taken}
use Rattle.sem_ticks.proofs.Requests.{keeps_cancelled, keeps_defined, keeps_deleted, keeps_relinquished, keeps_taken}
use Rattle.sem_ticks.proofs.Settling.{settle-keeps}
use Rattle.cell_client.specs.Association.{Verdict}
use Rattle.cell_services.specs.Services.{cause, effect, relinquish_outcome, take_outcome}
use Rattle.cell_services.specs.Serving.{tables_heard, tables_lost}
use Rattle.cell_services.specs.Requests.{told_in}
use Rattle.cell_services.specs.Tables.{Tables, moment_of, own_semaphores}
use Rattle.serve_semaphores.specs.Semaphores.{define_semaphore}
use Rattle.step_parts.specs.State.{HaveMadeAtMost}
use Rattle.step_sound.proofs.Walked.{by_heard}

-- ---- what each of the things that are done to semaphores keeps

-- what holds of semaphores before, and what holds of them after
pub record IsKept (now : Moment) (P Q : Rows → Type 0) : Type 0 where
  pub stays : (rows : Rows) → P rows → Q rows
  pub taken : (client invoke : ℕ) (asked : TakeControl) (rows : Rows) → P rows → Q (take_after client invoke now asked rows)
  pub relinquished : (key : Key) (client : ℕ) (token : Option (List ℕ)) (rows : Rows) → P rows → Q (relinquished key client token now rows)
  pub cancelled : (key : Key) (number : ℕ) (rows : Rows) → P rows → Q (cancelled key number rows)
  pub defined : (live : Bool) (client : ℕ) (asked : DefineSemaphore) (rows : Rows) → define_cause live client asked rows ≡ None → P rows → Q (define_after client asked rows)
  pub deleted : (key : Key) (rows : Rows) → P rows → Q (deleted key rows)
  pub lost : (client : ℕ) (rows : Rows) → P rows → Q (lost client now rows)

module _ (P Q : Rows → Type 0) (t : Tables) (kept : IsKept (moment_of t) P Q) (is : P t.semaphores) where
  as_they_were : Q t.semaphores
  as_they_were = kept.stays t.semaphores is

  taken_kept : (client invoke : ℕ) (x : TakeControl) (o : Option TakeDone) → Q (take_outcome t client invoke x o).tables.semaphores
  taken_kept client invoke x None = as_they_were
  taken_kept client invoke x (Some (Answered told)) = kept.taken client invoke x t.semaphores is
  taken_kept client invoke x (Some (Waits entry)) = kept.taken client invoke x t.semaphores is

  effect_kept : (row : ClientRow) (invoke : ℕ) (asked : Request) → cause t row asked ≡ None → Q (effect t row invoke asked).tables.semaphores
  effect_kept row invoke (request.TakeControl x) none = taken_kept row.client invoke x (take_told row.client x t.semaphores)
  effect_kept row invoke (request.RelinquishControl x) none = by_grant (relinquish_granted row.client x t.semaphores)
    where
      by_grant : (o : Option (Option Granted)) → Q (relinquish_outcome t row.client x o).tables.semaphores
      by_grant None = as_they_were
      by_grant (Some grant) = kept.relinquished (key_of row.client x.name) row.client x.token t.semaphores is
  effect_kept row invoke (request.DefineSemaphore x) none = kept.defined (told_in own_semaphores t row (define_semaphore x)).live row.client x t.semaphores none is
  effect_kept row invoke (request.DeleteSemaphore x) none = kept.deleted (key_of row.client x) t.semaphores is
  effect_kept row invoke asked none = as_they_were

  heard_kept : (row : ClientRow) (v : Verdict) → Q (tables_heard t row v).semaphores
  heard_kept row v =
      by_heard t row (λ (u : Tables). Q u.semaphores) as_they_were (kept.lost row.client t.semaphores is) (effect_kept row) (λ number came. as_they_were)
      (λ request. kept.cancelled request.key request.entry t.semaphores is) v

  lost_kept : (a : Association) (client : ℕ) → Q (tables_lost a client t).semaphores
  lost_kept Idle client = as_they_were
  lost_kept (Open values) client = kept.lost client t.semaphores is

-- ---- they stay sound, and each deadline stays ahead

sound_kept : (now : Moment) → IsKept now AreSound AreSound
sound_kept now = record {
  stays = λ rows is. is;
  taken = λ client invoke asked rows is. keeps_taken client invoke now asked rows is;
  relinquished = λ key client token rows is. keeps_relinquished key client token now rows is;
  cancelled = λ key number rows is. keeps_cancelled key number rows is;
  defined = λ live client asked rows none is. keeps_defined live client asked rows none is;
  deleted = λ key rows is. keeps_deleted key rows is;
  lost = λ client rows is. keeps_lost client now rows is;
}

ahead_kept : (now : Moment) → IsKept now (LieAhead now) (LieAhead now)
ahead_kept now = record {
  stays = λ rows is. is;
  taken = λ client invoke asked rows is. ahead_taken now client invoke asked rows is;
  relinquished = λ key client token rows is. ahead_relinquished now key client token rows is;
  cancelled = λ key number rows is. ahead_cancelled now key number rows is;
  defined = λ live client asked rows none is. ahead_defined now client asked rows is;
  deleted = λ key rows is. ahead_deleted now key rows is;
  lost = λ client rows is. ahead_lost now client rows is;
}

-- ---- each has made fewer entries than there were events

abbrev HasMadeAtMost : ℕ → SemaphoreRow → Type 0
HasMadeAtMost count row = made_in row.semaphore ≤ count

pub made_found : (count : ℕ) (key : Key) (rows : Rows) (row : SemaphoreRow) → HaveMadeAtMost count rows → lookup (key_eq key) rows ≡ Some row → made_in row.semaphore ≤ count
made_found count key rows row all found =
    subst (λ (o : Option SemaphoreRow). IfSome o (HasMadeAtMost count)) found (IfSome-lookup_from_All (HasMadeAtMost count) (key_eq key) rows all)

pub made_more : (count : ℕ) (rows : Rows) → HaveMadeAtMost count rows → HaveMadeAtMost (suc count) rows
made_more count [] all k d low = absurd (omega (arith, low))
made_more count (row ∷ rows) all zero d low = let below = all zero d (omega arith) in omega (arith, below)
made_more count (row ∷ rows) all (suc k) d low = made_more count rows (λ j e less. all (suc j) e (omega (arith, less))) k d (omega (arith, low))

-- one semaphore is changed
made_changed : (count next : ℕ) (f : Semaphore → Semaphore) (key : Key) (rows : Rows) → ((s : Semaphore) → made_in s ≤ count → made_in (f s) ≤ next)
    → HaveMadeAtMost next rows → HaveMadeAtMost count rows → HaveMadeAtMost next (changed f key rows)
made_changed count next f key rows each later all = by_row (lookup (key_eq key) rows) refl
  where
    by_row : (o : Option SemaphoreRow) → lookup (key_eq key) rows ≡ o → HaveMadeAtMost next (changed_to o f key rows)
    by_row None found = later
    by_row (Some row) found =
        All-values-set_value (key_eq key) (HasMadeAtMost next) rows (changed_row f row) later (each row.semaphore (made_found count key rows row all found))

-- all are
made_all : (count : ℕ) (f : Semaphore → Semaphore) → ((s : Semaphore) → made_in (f s) ≡ made_in s) → (rows : Rows) → HaveMadeAtMost count rows
    → HaveMadeAtMost count (all_changed f rows)
made_all count f same [] all k d low = absurd (omega (arith, low))
made_all count f same (row ∷ rows) all zero d low =
    let below = all zero d (omega arith) in
    let is = same row.1.semaphore in
    omega (arith, below, is)
made_all count f same (row ∷ rows) all (suc k) d low = made_all count f same rows (λ j e less. all (suc j) e (omega (arith, less))) k d (omega (arith, low))

-- some are taken away
made_left : (count : ℕ) (p : Key × SemaphoreRow → Bool) (rows : Rows) → HaveMadeAtMost count rows → HaveMadeAtMost count (filter p rows)
made_left count p [] all = all
made_left count p (row ∷ rows) all = by_test (p row) (made_left count p rows (λ j e less. all (suc j) e (omega (arith, less))))
  where
    by_test : (b : Bool) → HaveMadeAtMost count (filter p rows) → HaveMadeAtMost count (cond b (row ∷ filter p rows) (filter p rows))
    by_test true rest zero d low = all zero d (omega arith)
    by_test true rest (suc k) d low = rest k d (omega (arith, low))
    by_test false rest k d low = rest k d low

made_lost : (count client : ℕ) (now : Moment) (rows : Rows) → HaveMadeAtMost count rows → HaveMadeAtMost count (lost client now rows)
made_lost count client now rows all =
    made_left count (λ row. not (scope_eq row.0.scope (OfClient client))) (all_changed (without_owners client now) (all_changed (without_waiters client) rows))
    (made_all count (without_owners client now) owners (all_changed (without_waiters client) rows)
    (made_all count (without_waiters client) waiters rows all))
  where
    owners : (s : Semaphore) → made_in (without_owners client now s) ≡ made_in s
    owners (Token s) = refl
    owners (Pool p) = refl

    waiters : (s : Semaphore) → made_in (without_waiters client s) ≡ made_in s
    waiters (Token s) = refl
    waiters (Pool p) = refl

made_taken : (count client invoke : ℕ) (asked : TakeControl) (now : Moment) (s : Semaphore) → made_in s ≤ count → made_in (with_take client invoke asked now s) ≤ suc count
made_taken count client invoke asked now (Token s) below = by_outcome (outcome s (ask_of client invoke None asked) now)
  where
    by_outcome : (o : TakeOutcome) → (effect_of o s (ask_of client invoke None asked) now).made ≤ suc count
    by_outcome Refused = omega (arith, below)
    by_outcome (Preempts number) = omega (arith, below)
    by_outcome Gets = omega (arith, below)
    by_outcome TimesOut = omega (arith, below)
    by_outcome (WaitsUntil deadline) = omega (arith, below)
    by_outcome WaitsForEver = omega (arith, below)
made_taken count client invoke asked now (Pool p) below = by_outcome (pool.outcome p ask now)
  where
    ask : Ask
    ask = ask_of client invoke (place_asked asked.token p.tokens) asked

    by_outcome : (o : PoolOutcome) → (pool.effect_of o p ask now).made ≤ suc count
    by_outcome pooled.Refused = omega (arith, below)
    by_outcome (pooled.Preempts number token) = omega (arith, below)
    by_outcome (pooled.Gets token) = omega (arith, below)
    by_outcome pooled.TimesOut = omega (arith, below)
    by_outcome (pooled.WaitsUntil deadline) = omega (arith, below)
    by_outcome pooled.WaitsForEver = omega (arith, below)

made_back : (client : ℕ) (token : Option (List ℕ)) (now : Moment) (s : Semaphore) → made_in (with_token_back client token now s) ≡ made_in s
made_back client token now (Token s) = by_owner (owner_of client s.entries)
  where
    by_owner : (o : Option SemEntry) → (after_giving_back o now s).made ≡ s.made
    by_owner None = refl
    by_owner (Some e) = refl
made_back client token now (Pool p) = by_owner (pool.owner_of client (place_asked token p.tokens) p.entries)
  where
    by_owner : (o : Option SemEntry) → (pool.after_giving_back o now p).made ≡ p.made
    by_owner None = refl
    by_owner (Some e) = refl

made_due : (number : ℕ) (now : Moment) (s : Semaphore) → made_in (without_due number now s) ≡ made_in s
made_due number now (Token s) = by_entry (numbered number s.entries)
  where
    by_test : (e : SemEntry) (b : Bool) → (if b then after_cancel s e.number else record s { entries = after_freeing now (without e.number s.entries) }).made ≡ s.made
    by_test e true = refl
    by_test e false = refl

    by_entry : (o : Option SemEntry) → (expired_entry o now s).made ≡ s.made
    by_entry None = refl
    by_entry (Some e) = by_test e (is_queued e)
made_due number now (Pool p) = by_entry (numbered number p.entries)
  where
    by_test : (e : SemEntry) (b : Bool) → (if b then pool.after_cancel p e.number else record p { entries = pool.after_leaving e now p.entries }).made ≡ p.made
    by_test e true = refl
    by_test e false = refl

    by_entry : (o : Option SemEntry) → (pool.expired_entry o now p).made ≡ p.made
    by_entry None = refl
    by_entry (Some e) = by_test e (is_queued e)

made_still : (count : ℕ) (f : Semaphore → Semaphore) (key : Key) (rows : Rows) → ((s : Semaphore) → made_in (f s) ≡ made_in s) → HaveMadeAtMost count rows
    → HaveMadeAtMost count (changed f key rows)
made_still count f key rows same all =
    made_changed count count f key rows (λ s below. let is = same s in omega (arith, below, is)) all all

made_cancelled : (count : ℕ) (key : Key) (number : ℕ) (rows : Rows) → HaveMadeAtMost count rows → HaveMadeAtMost count (cancelled key number rows)
made_cancelled count key number rows all = by_test (entry_waits (entry_in key number rows))
  where
    same : (s : Semaphore) → made_in (without_entry number s) ≡ made_in s
    same (Token s) = refl
    same (Pool p) = refl

    by_test : (b : Bool) → HaveMadeAtMost count (if b then cancel_after key number rows else rows)
    by_test true = made_still count (without_entry number) key rows same all
    by_test false = all

made_defined : (count client : ℕ) (asked : DefineSemaphore) (rows : Rows) → HaveMadeAtMost count rows → HaveMadeAtMost (suc count) (define_after client asked rows)
made_defined count client asked rows all =
    put_each (HasMadeAtMost (suc count)) one rows
    (subst (All (HasMadeAtMost (suc count))) (sym (map-append (λ e. e.1) rows (one ∷ [])))
    (All-append (HasMadeAtMost (suc count)) (values_of rows) (one.1 ∷ []) (made_more count rows all) first))
  where
    one : Key × SemaphoreRow
    one = (key_of client asked.name, record { configured = false; semaphore = new_semaphore asked.tokens })

    first : All (HasMadeAtMost (suc count)) (one.1 ∷ [])
    first zero d low = omega arith
    first (suc k) d low = absurd (omega (arith, low))

made_kept : (count : ℕ) (now : Moment) → IsKept now (HaveMadeAtMost count) (HaveMadeAtMost (suc count))
made_kept count now = record {
  stays = made_more count;
  taken = λ client invoke asked rows all.
      made_changed count (suc count) (with_take client invoke asked now) (key_of client asked.name) rows (made_taken count client invoke asked now)
      (made_more count rows all) all;
  relinquished = λ key client token rows all. made_more count _ (made_still count (with_token_back client token now) key rows (made_back client token now) all);
  cancelled = λ key number rows all. made_more count _ (made_cancelled count key number rows all);
  defined = λ live client asked rows none all. made_defined count client asked rows all;
  deleted = λ key rows all. made_more count _ (All-map-remove_entry (key_eq key) (λ e. e.1) (HasMadeAtMost count) rows all);
  lost = λ client rows all. made_more count _ (made_lost count client now rows all);
}

-- time makes none
made_met : (count : ℕ) (s t : Ticking) (d : NamedDeadline) → met s d ≡ Some t → HaveMadeAtMost count s.rows → HaveMadeAtMost count t.rows
made_met count s t d same all = by_expired (expired d.key d.entry s.rows) same
  where
    aborted : (aborts : Bool) (client : ℕ) (rows : Rows) → HaveMadeAtMost count rows → HaveMadeAtMost count (after_abort aborts client d.at rows)
    aborted true client rows is = made_lost count client d.at rows is
    aborted false client rows is = is

    by_expired : (o : Option Expired) → option_map (met_as s d) o ≡ Some t → HaveMadeAtMost count t.rows
    by_expired None h = absurd (cc h)
    by_expired (Some x) h =
        let one : met_as s d x ≡ t = cc h in
        subst (λ (u : Ticking). HaveMadeAtMost count u.rows) one
        (aborted x.abort x.client (expire_after d.key d.entry d.at s.rows) (made_still count (without_due d.entry d.at) d.key s.rows (made_due d.entry d.at) all))

made_next : (count : ℕ) (until : Moment) (s t : Ticking) → next_met until s ≡ Some t → HaveMadeAtMost count s.rows → HaveMadeAtMost count t.rows
made_next count until s t same all = by_due (next_due until s.rows) same
  where
    by_due : (o : Option NamedDeadline) → option_and_then (met s) o ≡ Some t → HaveMadeAtMost count t.rows
    by_due None h = absurd (cc h)
    by_due (Some d) h = made_met count s t d h all

made_ticked : (count : ℕ) (until : Moment) (s : Ticking) → HaveMadeAtMost count s.rows → HaveMadeAtMost count (ticked_on until s).rows
made_ticked count until s all = settle-keeps (next_met until) (λ t. HaveMadeAtMost count t.rows) (made_next count until) (entries_left s.rows) s all

-- ---- all three

-- what holds of the semaphores at a moment, after so many events
pub record AreKept (count : ℕ) (now : Moment) (rows : Rows) : Type 0 where
  pub sound : AreSound rows
  pub made : HaveMadeAtMost count rows
  pub ahead : LieAhead now rows

pub kept_later : (count : ℕ) (now : Moment) (rows : Rows) → AreKept count now rows → AreKept (suc count) now rows
kept_later count now rows are = record { sound = are.sound; made = made_more count rows are.made; ahead = are.ahead }

pub kept_heard : (count : ℕ) (t : Tables) (row : ClientRow) (v : Verdict) → AreKept count (moment_of t) t.semaphores
    → AreKept (suc count) (moment_of t) (tables_heard t row v).semaphores
kept_heard count t row v are = record {
  sound = heard_kept AreSound AreSound t (sound_kept (moment_of t)) are.sound row v;
  made = heard_kept (HaveMadeAtMost count) (HaveMadeAtMost (suc count)) t (made_kept count (moment_of t)) are.made row v;
  ahead = heard_kept (LieAhead (moment_of t)) (LieAhead (moment_of t)) t (ahead_kept (moment_of t)) are.ahead row v;
}

pub kept_lost : (count : ℕ) (t : Tables) (a : Association) (client : ℕ) → AreKept count (moment_of t) t.semaphores
    → AreKept (suc count) (moment_of t) (tables_lost a client t).semaphores
kept_lost count t a client are = record {
  sound = lost_kept AreSound AreSound t (sound_kept (moment_of t)) are.sound a client;
  made = lost_kept (HaveMadeAtMost count) (HaveMadeAtMost (suc count)) t (made_kept count (moment_of t)) are.made a client;
  ahead = lost_kept (LieAhead (moment_of t)) (LieAhead (moment_of t)) t (ahead_kept (moment_of t)) are.ahead a client;
}

-- beside event conditions that are sound it is the same
pub kept_ticked : (count : ℕ) (now until : Moment) (cells : Saying) (rows : Rows) (conditions : Conditions) (enrolments : Enrolments) → events.AreSound conditions
    → AreKept count now rows → AreKept (suc count) until (device.ticked cells until rows conditions enrolments).semaphores
kept_ticked count now until cells rows conditions enrolments sound are =
    subst (λ (t : device.Ticking). AreKept (suc count) until t.semaphores)
    (sym (both_parts cells until rows conditions enrolments (record { semaphores = are.sound; conditions = sound })))
    (record {
      sound = keeps_ticked until (record { rows = rows; happened = [] }) are.sound;
      made = made_more count _ (made_ticked count until (record { rows = rows; happened = [] }) are.made);
      ahead = ahead until (record { rows = rows; happened = [] }) are.sound;
    })

-- ---- an entry that is made has the number of an event

-- a request for a token that waits has the next number of its semaphore
pub waits_numbered : (count client : ℕ) (asked : TakeControl) (rows : Rows) (entry : ℕ) → HaveMadeAtMost count rows → take_told client asked rows ≡ Some (Waits entry) → entry ≤ suc count
waits_numbered count client asked rows entry all told = by_row (semaphore client asked.name rows) refl told
  where
    by_test : (s : Sem) (b : Bool) → s.made ≤ count → Some (if b then Answered NoResult else Waits (s.made + 1)) ≡ Some (Waits entry) → entry ≤ suc count
    by_test s true below e = absurd (cc e)
    by_test s false below e = let same : s.made + 1 ≡ entry = cc e in omega (arith, same, below)

    by_pool : (p : pool.Pool) (b : Bool) → p.made ≤ count
        → Some (if b then Answered (named_answer (name_at (pool.token_told (place_asked asked.token p.tokens) (pool.token_got asked.preempt (place_asked asked.token p.tokens) p)) p.tokens)) else Waits (p.made + 1))
        ≡ Some (Waits entry) → entry ≤ suc count
    by_pool p true below e = absurd (cc e)
    by_pool p false below e = let same : p.made + 1 ≡ entry = cc e in omega (arith, same, below)

    by_semaphore : (s : Semaphore) → made_in s ≤ count → Some (take_told_in asked s) ≡ Some (Waits entry) → entry ≤ suc count
    by_semaphore (Token s) below e = by_test s (has_token asked.preempt s) below e
    by_semaphore (Pool p) below e = by_pool p (pool.has_token asked.preempt (place_asked asked.token p.tokens) p) below e

    by_row : (o : Option SemaphoreRow) → lookup (key_eq (key_of client asked.name)) rows ≡ o → take_told_of asked o ≡ Some (Waits entry) → entry ≤ suc count
    by_row None found e = absurd (cc e)
    by_row (Some row) found e = by_semaphore row.semaphore (made_found count (key_of client asked.name) rows row all found) e

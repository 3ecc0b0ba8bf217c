-- After any history, and at each point while time goes by, a client has one claim at most on each semaphore of equal
-- tokens.
use Rattle.std.proofs.Common.{◌≡◌, ℕ, ◌+◌, ◌⊎◌, inl, inr, Bool, true, false, not, cond, ◌==◌, List, [], ◌∷◌, ◌++◌, filter, fold, Option, None, Some, is_some, option_and_then, option_map, if◌then◌else◌, refl, sym, ◌∙◌, ap, subst, nat_le}
use Rattle.std.specs.Map.{lookup, remove_entry}
use Rattle.std.proofs.lemmas.Map.{lookup-remove_entry, lookup-set_value}
use Rattle.std.proofs.lemmas.Map.Entries.{lookup-filter-keys}
use Rattle.std.proofs.lemmas.Map.Made.{lookup-map_values}
use Rattle.mms_types.specs.KeyLaws.{keys_equal}
use Rattle.mms_types.specs.Order.{key_eq, key_of, scope_eq}
use Rattle.mms_types.specs.declared.cells.PoolRow.{PoolRow}
use Rattle.mms_types.specs.declared.event.CellEvent.{CellEvent}
use Rattle.mms_types.specs.declared.event.CellEvent.TheVariants.{Heard, Lost, Tick, Ends, Drain}
use Rattle.mms_types.specs.declared.key.Key.{Key}
use Rattle.mms_types.specs.declared.key.Scope.TheVariants.{Association}
use Rattle.mms_types.specs.declared.moment.Moment.{Moment}
use Rattle.mms_types.specs.declared.pdu.Request.{Request}
use Rattle.mms_types.specs.declared.pdu.Request.TheVariants as request
use Rattle.mms_types.specs.declared.semaphore.DefineSemaphore.{DefineSemaphore}
use Rattle.mms_types.specs.declared.semaphore.TakeControl.{TakeControl}
use Rattle.mms_types.specs.declared.semaphore.RelinquishControl.{RelinquishControl}
use Rattle.association.specs.declared.negotiation.Association.{Association as IsOpen}
use Rattle.association.specs.declared.negotiation.Association.TheVariants.{Idle, Open}
use Rattle.association.specs.declared.waiting.Waiting.{Waiting}
use Rattle.association.specs.Client.{ClientRow}
use Rattle.cell_config.specs.declared.config.Config.{Config}
use Rattle.cell_config.specs.Said.{IsConfig}
use Rattle.token_sem.specs.declared.entry.Expired.{Expired}
use Rattle.token_sem.specs.Semaphore.{numbered, owner_of}
use Rattle.mms_time.specs.Deadlines.{NamedDeadline, expire_after, expired, next_due, without_due}
use Rattle.mms_time.specs.Loss.{all_changed, lost, semaphore_without}
use Rattle.mms_time.specs.Opening.{configured, pool_row}
use Rattle.mms_time.specs.Semaphores.{IsSound, Rows, changed, changed_row, changed_to, entry_in, entry_waits}
use Rattle.mms_time.specs.Services.{ask_of, cancel_after, cancelled, define_after, new_semaphore, relinquished, take_after, take_told, with_take, with_token_back, without_entry}
use Rattle.mms_time.specs.Parts.{part_of_row, with_semaphore}
use Rattle.mms_time.specs.declared.row.Semaphore.{Semaphore}
use Rattle.mms_time.specs.declared.row.Semaphore.TheVariants.{Token, Pool}
use Rattle.mms_time.specs.declared.row.SemaphoreRow.{SemaphoreRow}
use Rattle.mms_time.specs.declared.taking.TakeDone.{TakeDone}
use Rattle.mms_time.specs.declared.taking.TakeDone.TheVariants as taken
use Rattle.mms_time.proofs.TwoSteps.{each_semaphore}
use Rattle.parted_state.specs.Served.{delivered, row_at}
use Rattle.sem_ticks.specs.Granted.{relinquish_granted}
use Rattle.sem_ticks.specs.Sound.{AreSound}
use Rattle.sem_ticks.specs.declared.granted.Granted.{Granted}
use Rattle.sem_ticks.specs.Ticks.{Ticking, after_abort, entries_left, met, met_as, next_met}
use Rattle.sem_ticks.proofs.Kept.{row_found}
use Rattle.sem_ticks.proofs.Settling.{settle-keeps}
use Rattle.cell_client.specs.Association.{Verdict, Tells, Takes, Replies, Exhausts, Concludes, Cancels, Aborts, verdict}
use Rattle.cell_services.specs.Services.{effect, effect_of, relinquish_outcome, reply_in, take_outcome}
use Rattle.cell_services.specs.Serving.{is_served, is_served_in, resolved, tables_cancelled, tables_heard, tables_lost, waiting_of}
use Rattle.cell_services.specs.Tables.{Tables, moment_after, moment_of}
use Rattle.step_parts.specs.Partition.{cell}
use Rattle.step_parts.specs.State.{State, IsSound as IsSoundState, start}
use Rattle.step_parts.specs.Step.{replay, step}
use Rattle.step_sound.proofs.Sound.{start_sound, step_sound}
use Rattle.cell_laws.proofs.Bound.{key-same}
use Rattle.cell_laws.proofs.Claims.{Single, single-expired, single-filter, single-given, single-lost, single-taken}
use Rattle.cell_laws.proofs.Happened.{rows-then, sem_told}
use Rattle.cell_laws.proofs.Hears.{waits_in}
use Rattle.cell_laws.proofs.Linking.{Linked, Meanwhile, linked_step, next-keeps}
use Rattle.cell_laws.proofs.Meetings.{sound-met}
use Rattle.cell_laws.proofs.Replayed.{linked-start}

-- of a pool a client may own several tokens
abbrev pub SingleIn : Semaphore → Type 0
SingleIn (Token s) = Single s.entries
SingleIn (Pool p) = Unit {0}

abbrev pub AreSingle : Rows → Type 0
AreSingle rows = (k : Key) (row : SemaphoreRow) → lookup (key_eq k) rows ≡ Some row → SingleIn row.semaphore

-- ---- semaphores change

single-changed : (f : Semaphore → Semaphore) (key : Key) (rows : Rows)
    → ((row : SemaphoreRow) → lookup (key_eq key) rows ≡ Some row → SingleIn row.semaphore → SingleIn (f row.semaphore))
    → AreSingle rows → AreSingle (changed f key rows)
single-changed f key rows each single = by_row (lookup (key_eq key) rows) refl
  where
    by_row : (o : Option SemaphoreRow) → lookup (key_eq key) rows ≡ o → AreSingle (changed_to o f key rows)
    by_row None found k row there = single k row there
    by_row (Some was) found k row there =
        by_test (key_eq key k)
        (sym (lookup-set_value keys_equal (key_eq key) (λ x y h. keys_equal.congr key x y h) k (changed_row f was) rows (ap is_some found)) ∙ there)
      where
        by_test : (b : Bool) → cond b (Some (changed_row f was)) (lookup (key_eq k) rows) ≡ Some row → SingleIn row.semaphore
        by_test true h = let same : changed_row f was ≡ row = cc h in subst (λ (r : SemaphoreRow). SingleIn r.semaphore) same (each was found (single key was found))
        by_test false h = single k row h

single-all : (f : Semaphore → Semaphore) (rows : Rows)
    → ((k : Key) (row : SemaphoreRow) → lookup (key_eq k) rows ≡ Some row → SingleIn row.semaphore → SingleIn (f row.semaphore))
    → AreSingle rows → AreSingle (all_changed f rows)
single-all f rows each single k row there = by_row (lookup (key_eq k) rows) refl (sym (lookup-map_values (changed_row f) (key_eq k) rows) ∙ there)
  where
    by_row : (o : Option SemaphoreRow) → lookup (key_eq k) rows ≡ o → option_map (changed_row f) o ≡ Some row → SingleIn row.semaphore
    by_row None e h = absurd (cc h)
    by_row (Some was) e h = let same : changed_row f was ≡ row = cc h in subst (λ (r : SemaphoreRow). SingleIn r.semaphore) same (each k was e (single k was e))

single-left : (client : ℕ) (rows : Rows) → AreSingle rows → AreSingle (filter (λ row. not (scope_eq row.0.scope (Association client))) rows)
single-left client rows single k row there =
    by_test (not (scope_eq k.scope (Association client)))
    (sym (lookup-filter-keys (key_eq k) (λ x. not (scope_eq x.scope (Association client))) (not (scope_eq k.scope (Association client)))
    (λ x h. ap (λ (y : Key). not (scope_eq y.scope (Association client))) (sym (key-same k x h))) rows) ∙ there)
  where
    by_test : (b : Bool) → cond b (lookup (key_eq k) rows) None ≡ Some row → SingleIn row.semaphore
    by_test true h = single k row h
    by_test false h = absurd (cc h)

single-appended : (k : Key) (rows : Rows) (e : Key × SemaphoreRow) (row : SemaphoreRow) → lookup (key_eq k) (rows ++ e ∷ []) ≡ Some row
    → (lookup (key_eq k) rows ≡ Some row) ⊎ (e.1 ≡ row)
single-appended k [] e row there = by_test (key_eq k e.0) there
  where
    by_test : (b : Bool) → cond b (Some e.1) None ≡ Some row → (None ≡ Some row) ⊎ (e.1 ≡ row)
    by_test true h = inr (cc h)
    by_test false h = absurd (cc h)
single-appended k (first ∷ rows) e row there = by_test (key_eq k first.0) there (single-appended k rows e row)
  where
    by_test : (b : Bool) → cond b (Some first.1) (lookup (key_eq k) (rows ++ e ∷ [])) ≡ Some row
        → (lookup (key_eq k) (rows ++ e ∷ []) ≡ Some row → (lookup (key_eq k) rows ≡ Some row) ⊎ (e.1 ≡ row))
        → (cond b (Some first.1) (lookup (key_eq k) rows) ≡ Some row) ⊎ (e.1 ≡ row)
    by_test true h ih = inl h
    by_test false h ih = ih h

-- ---- each thing that is done

single-one : (f : Semaphore → Semaphore) → ((s : Semaphore) → IsSound s → SingleIn s → SingleIn (f s)) → (key : Key) (rows : Rows) → AreSound rows
    → AreSingle rows → AreSingle (changed f key rows)
single-one f keeps key rows sound single = single-changed f key rows (λ row found one. keeps row.semaphore (row_found rows key row sound.each found) one) single

pub lost-single : (client : ℕ) (now : Moment) (rows : Rows) → AreSound rows → AreSingle rows → AreSingle (lost client now rows)
lost-single client now rows sound single =
    subst (λ (all : Rows). AreSingle (filter (λ row. not (scope_eq row.0.scope (Association client))) all)) (each_semaphore client now rows)
    (single-left client (all_changed (semaphore_without client now) rows)
    (single-all (semaphore_without client now) rows (λ k row found one. in_semaphore row.semaphore (row_found rows k row sound.each found) one) single))
  where
    in_semaphore : (s : Semaphore) → IsSound s → SingleIn s → SingleIn (semaphore_without client now s)
    in_semaphore (Token s) is one = single-lost s client now is one
    in_semaphore (Pool p) is one = tt

pub expired-single : (key : Key) (number : ℕ) (now : Moment) (rows : Rows) → AreSound rows → AreSingle rows → AreSingle (expire_after key number now rows)
expired-single key number now rows sound single = single-one (without_due number now) in_semaphore key rows sound single
  where
    in_semaphore : (s : Semaphore) → IsSound s → SingleIn s → SingleIn (without_due number now s)
    in_semaphore (Token s) is one = single-expired s (numbered number s.entries) now is one
    in_semaphore (Pool p) is one = tt

cancelled-single : (key : Key) (number : ℕ) (rows : Rows) → AreSound rows → AreSingle rows → AreSingle (cancelled key number rows)
cancelled-single key number rows sound single = by_test (entry_waits (entry_in key number rows))
  where
    in_semaphore : (s : Semaphore) → IsSound s → SingleIn s → SingleIn (without_entry number s)
    in_semaphore (Token s) is one = single-filter (λ e. not (e.number == number)) s.entries one
    in_semaphore (Pool p) is one = tt

    by_test : (b : Bool) → AreSingle (if b then cancel_after key number rows else rows)
    by_test true = single-one (without_entry number) in_semaphore key rows sound single
    by_test false = single

taken-single : (client invoke : ℕ) (now : Moment) (x : TakeControl) (rows : Rows) → AreSound rows → AreSingle rows → AreSingle (take_after client invoke now x rows)
taken-single client invoke now x rows sound single = single-one (with_take client invoke x now) in_semaphore (key_of client x.name) rows sound single
  where
    in_semaphore : (s : Semaphore) → IsSound s → SingleIn s → SingleIn (with_take client invoke x now s)
    in_semaphore (Token s) is one = single-taken s (ask_of client invoke None x) now one
    in_semaphore (Pool p) is one = tt

given-single : (key : Key) (client : ℕ) (token : Option (List ℕ)) (now : Moment) (rows : Rows) → AreSound rows → AreSingle rows → AreSingle (relinquished key client token now rows)
given-single key client token now rows sound single = single-one (with_token_back client token now) in_semaphore key rows sound single
  where
    in_semaphore : (s : Semaphore) → IsSound s → SingleIn s → SingleIn (with_token_back client token now s)
    in_semaphore (Token s) is one = single-given s (owner_of client s.entries) now is one
    in_semaphore (Pool p) is one = tt

deleted-single : (key : Key) (rows : Rows) → AreSound rows → AreSingle rows → AreSingle (remove_entry (key_eq key) rows)
deleted-single key rows sound single k row there =
    by_test (key_eq key k) (sym (lookup-remove_entry keys_equal (key_eq key) (λ y z h. keys_equal.congr key y z h) k rows sound.names) ∙ there)
  where
    by_test : (b : Bool) → cond b None (lookup (key_eq k) rows) ≡ Some row → SingleIn row.semaphore
    by_test true h = absurd (cc h)
    by_test false h = single k row h

-- it is one of them, or the new one
single-put : (k : Key) (rows : Rows) (e : Key × SemaphoreRow) (row : SemaphoreRow) → lookup (key_eq k) (with_semaphore e rows) ≡ Some row
    → (lookup (key_eq k) rows ≡ Some row) ⊎ (e.1 ≡ row)
single-put k [] e row there = single-appended k [] e row there
single-put k (first ∷ rows) e row there = by_place (nat_le (part_of_row first) (part_of_row e)) there (single-put k rows e row)
  where
    by_first : (b : Bool) → cond b (Some first.1) (lookup (key_eq k) (with_semaphore e rows)) ≡ Some row
        → (lookup (key_eq k) (with_semaphore e rows) ≡ Some row → (lookup (key_eq k) rows ≡ Some row) ⊎ (e.1 ≡ row))
        → (cond b (Some first.1) (lookup (key_eq k) rows) ≡ Some row) ⊎ (e.1 ≡ row)
    by_first true h ih = inl h
    by_first false h ih = ih h

    by_new : (b : Bool) → cond b (Some e.1) (lookup (key_eq k) (first ∷ rows)) ≡ Some row → (lookup (key_eq k) (first ∷ rows) ≡ Some row) ⊎ (e.1 ≡ row)
    by_new true h = inr (cc h)
    by_new false h = inl h

    by_place : (b : Bool) → lookup (key_eq k) (if b then first ∷ with_semaphore e rows else e ∷ first ∷ rows) ≡ Some row
        → (lookup (key_eq k) (with_semaphore e rows) ≡ Some row → (lookup (key_eq k) rows ≡ Some row) ⊎ (e.1 ≡ row))
        → (lookup (key_eq k) (first ∷ rows) ≡ Some row) ⊎ (e.1 ≡ row)
    by_place true h ih = by_first (key_eq k first.0) h ih
    by_place false h ih = by_new (key_eq k e.0) h

defined-single : (client : ℕ) (x : DefineSemaphore) (rows : Rows) → AreSingle rows → AreSingle (define_after client x rows)
defined-single client x rows single k row there =
    by_part (single-put k rows (key_of client x.name, record { configured = false; semaphore = new_semaphore x.tokens }) row there)
  where
    by_part : (lookup (key_eq k) rows ≡ Some row) ⊎ (record { configured = false; semaphore = new_semaphore x.tokens } ≡ row) → SingleIn row.semaphore
    by_part (inl found) = single k row found
    by_part (inr same) = subst (λ (r : SemaphoreRow). SingleIn r.semaphore) same tt

-- ---- what is heard

module _ (t : Tables) (row : ClientRow) (sound : AreSound t.semaphores) (single : AreSingle t.semaphores) where
  took : (invoke : ℕ) (x : TakeControl) (o : Option TakeDone) → AreSingle (take_outcome t row.client invoke x o).tables.semaphores
  took invoke x None = single
  took invoke x (Some (taken.Answered told)) = taken-single row.client invoke (moment_of t) x t.semaphores sound single
  took invoke x (Some (taken.Waits entry)) = taken-single row.client invoke (moment_of t) x t.semaphores sound single

  gave : (x : RelinquishControl) (o : Option (Option Granted)) → AreSingle (relinquish_outcome t row.client x o).tables.semaphores
  gave x None = single
  gave x (Some grant) = given-single (key_of row.client x.name) row.client x.token (moment_of t) t.semaphores sound single

  effect-single : (invoke : ℕ) (asked : Request) → AreSingle (effect t row invoke asked).tables.semaphores
  effect-single invoke (request.TakeControl x) = took invoke x (take_told row.client x t.semaphores)
  effect-single invoke (request.RelinquishControl x) = gave x (relinquish_granted row.client x t.semaphores)
  effect-single invoke (request.DefineSemaphore x) = defined-single row.client x t.semaphores single
  effect-single invoke (request.DeleteSemaphore x) = deleted-single (key_of row.client x) t.semaphores sound single
  effect-single invoke asked = single

  heard-single : (v : Verdict) → AreSingle (tables_heard t row v).semaphores
  heard-single (Takes invoke asked) = by_served (is_served t row invoke asked)
    where
      by_served : (b : Bool) → AreSingle (if b then (effect t row invoke asked).tables else t).semaphores
      by_served true = effect-single invoke asked
      by_served false = single
  heard-single (Tells effects) = single
  heard-single (Replies number came) = by_served (is_served_in t row number (reply_in number came))
    where
      by_served : (b : Bool) → AreSingle (if b then (effect_of t row number (reply_in number came)).tables else t).semaphores
      by_served true = single
      by_served false = single
  heard-single (Exhausts invoke) = lost-single row.client (moment_of t) t.semaphores sound single
  heard-single Concludes = lost-single row.client (moment_of t) t.semaphores sound single
  heard-single (Cancels invoke) = by_waiting (waiting_of invoke row.waiting)
    where
      by_waiting : (o : Option Waiting) → AreSingle (tables_cancelled o t).semaphores
      by_waiting None = single
      by_waiting (Some request) = cancelled-single request.key request.entry t.semaphores sound single
  heard-single Aborts = lost-single row.client (moment_of t) t.semaphores sound single

  loss-single : (a : IsOpen) → AreSingle (tables_lost a row.client t).semaphores
  loss-single Idle = single
  loss-single (Open values) = lost-single row.client (moment_of t) t.semaphores sound single

-- ---- time goes by

-- also at each point of it
abbrev pub SingleMeanwhile : List ClientRow → Ticking → Type 0
SingleMeanwhile clients u = Meanwhile clients u × AreSingle u.rows

pub next-single : (clients : List ClientRow) (until : Moment) (u v : Ticking) → next_met until u ≡ Some v → SingleMeanwhile clients u → SingleMeanwhile clients v
next-single clients until u v same are = (next-keeps clients until u v same are.0, by_due (next_due until u.rows) same)
  where
    by_abort : (d : NamedDeadline) (b : Bool) (client : ℕ) → AreSingle (after_abort b client d.at (expire_after d.key d.entry d.at u.rows))
    by_abort d true client =
        lost-single client d.at (expire_after d.key d.entry d.at u.rows)
        (sound-met u.rows (waits_in (delivered cell (sem_told u.happened) clients)) (waits_in (delivered cell (sem_told u.happened) clients)) are.0.bound are.0.sound d.key d.entry d.at)
        (expired-single d.key d.entry d.at u.rows are.0.sound are.1)
    by_abort d false client = expired-single d.key d.entry d.at u.rows are.0.sound are.1

    by_expired : (d : NamedDeadline) (o : Option Expired) → option_map (met_as u d) o ≡ Some v → AreSingle v.rows
    by_expired d None h = absurd (cc h)
    by_expired d (Some x) h = let one : met_as u d x ≡ v = cc h in subst (λ (w : Ticking). AreSingle w.rows) one (by_abort d x.abort x.client)

    by_due : (o : Option NamedDeadline) → option_and_then (met u) o ≡ Some v → AreSingle v.rows
    by_due None h = absurd (cc h)
    by_due (Some d) h = by_expired d (expired d.key d.entry u.rows) h

-- ---- each event

single-step : (count : ℕ) (s : State) (event : CellEvent) → IsSoundState count s → Linked s → AreSingle s.semaphores → AreSingle (step s event).semaphores
single-step count s (Heard client octets) sound linked single =
    heard-single (cell.tables_of s) (row_at cell client s.clients) sound.semaphores single
    (resolved (cell.tables_of s) (row_at cell client s.clients) (verdict (row_at cell client s.clients) octets))
single-step count s (Lost client) sound linked single =
    loss-single (cell.tables_of s) (row_at cell client s.clients) sound.semaphores single (row_at cell client s.clients).association
single-step count s (Tick ms) sound linked single =
    subst AreSingle (sym (rows-then count s sound ms))
    (settle-keeps (next_met (moment_after ms (cell.tables_of s))) (SingleMeanwhile s.clients) (next-single s.clients (moment_after ms (cell.tables_of s)))
    (entries_left s.semaphores) (record { rows = s.semaphores; happened = [] }) (record { bound = linked.bound; sound = sound.semaphores }, single)).1
single-step count s (Ends name) sound linked single = single
single-step count s (Drain client) sound linked single = single

single-along : (count : ℕ) (s : State) (history : List CellEvent) → IsSoundState count s → Linked s → AreSingle s.semaphores → AreSingle (fold step s history).semaphores
single-along count s [] sound linked single = single
single-along count s (event ∷ rest) sound linked single =
    single-along (count + 1) (step s event) rest (step_sound count s event sound) (linked_step count s event sound linked) (single-step count s event sound linked single)

-- the semaphores that there are at the start are pools
single-start : (pools : List PoolRow) → AreSingle (configured pools)
single-start [] k row there = absurd (cc there)
single-start (pool ∷ pools) k row there = by_test (key_eq k (pool_row pool).0) there (single-start pools k row)
  where
    by_test : (b : Bool) → cond b (Some (pool_row pool).1) (lookup (key_eq k) (configured pools)) ≡ Some row → (lookup (key_eq k) (configured pools) ≡ Some row → SingleIn row.semaphore)
        → SingleIn row.semaphore
    by_test true h rest = let same : (pool_row pool).1 ≡ row = cc h in subst (λ (r : SemaphoreRow). SingleIn r.semaphore) same tt
    by_test false h rest = rest h

pub replay_single : (config : Config) (history : List CellEvent) → IsConfig config → AreSingle (replay config history).semaphores
replay_single config history is = single-along 0 (start config) history (start_sound config is) (linked-start config) (single-start config.pools)

-- An entry that has a token and a cause to lose it is there no more after the event.
use Rattle.std.proofs.Common.{◌≡◌, ℕ, ◌⊎◌, inl, inr, Bool, true, false, ◌==◌, ◌&&◌, List, [], length, Option, None, Some, option_and_then, option_map, refl, sym, ◌∙◌, ap, subst}
use Rattle.std.specs.Map.{lookup}
use Rattle.mms_types.specs.Errors.{first_of}
use Rattle.mms_types.specs.Order.{key_eq, key_of, scope_eq}
use Rattle.mms_types.specs.declared.event.CellEvent.{CellEvent}
use Rattle.mms_types.specs.declared.event.CellEvent.TheVariants.{Heard, Tick}
use Rattle.mms_types.specs.declared.key.Key.{Key}
use Rattle.mms_types.specs.declared.key.Scope.TheVariants.{Association}
use Rattle.mms_types.specs.declared.moment.Moment.{Moment}
use Rattle.mms_types.specs.declared.pdu.Request.TheVariants as request
use Rattle.mms_types.specs.declared.semaphore.RelinquishControl.{RelinquishControl}
use Rattle.mms_types.specs.declared.semaphore.TakeControl.{TakeControl}
use Rattle.association.specs.Client.{ClientRow}
use Rattle.cell_config.specs.declared.config.Config.{Config}
use Rattle.cell_config.specs.Said.{IsConfig}
use Rattle.token_sem.specs.declared.entry.Expired.{Expired}
use Rattle.token_sem.specs.declared.entry.SemEntry.{SemEntry}
use Rattle.token_sem.specs.Semaphore.{aborts, holds, is_owner, is_queued, owned_by}
use Rattle.token_sem.proofs.Keeping.{among-find}
use Rattle.mms_time.specs.Deadlines.{NamedDeadline, expire_after, expired, next_due}
use Rattle.mms_time.specs.Loss.{lost}
use Rattle.mms_time.specs.Semaphores.{Rows, changed, entries_of, entry_in}
use Rattle.mms_time.specs.Services.{relinquish_grant_of, take_conditions, take_conditions_in, take_told, take_told_of, with_take, with_token_back}
use Rattle.mms_time.specs.declared.row.Semaphore.{Semaphore}
use Rattle.mms_time.specs.declared.row.SemaphoreRow.{SemaphoreRow}
use Rattle.mms_time.specs.declared.taking.TakeDone.{TakeDone}
use Rattle.mms_time.specs.declared.taking.TakeDone.TheVariants.{Answered, Waits}
use Rattle.parted_state.specs.Served.{row_at}
use Rattle.sem_ticks.specs.Granted.{granted, relinquish_granted}
use Rattle.sem_ticks.specs.Sound.{AreSound}
use Rattle.sem_ticks.specs.Ticks.{Ticking, after_abort, entries_left, met, met_as, next_met, ticked_on}
use Rattle.sem_ticks.specs.declared.granted.Granted.{Granted}
use Rattle.sem_ticks.proofs.Kept.{keeps_lost}
use Rattle.sem_ticks.proofs.Settling.{settle-keeps}
use Rattle.cell_client.specs.Association.{Takes, verdict}
use Rattle.cell_services.specs.Services.{relinquish_outcome, take_outcome}
use Rattle.cell_services.specs.Serving.{is_served, resolved}
use Rattle.cell_services.specs.Tables.{Tables, moment_after, moment_of}
use Rattle.step_parts.specs.Partition.{cell}
use Rattle.step_parts.specs.State.{State, IsSound as IsSoundState}
use Rattle.step_parts.specs.Step.{replay, step}
use Rattle.step_sound.proofs.Sound.{replay_sound}
use Rattle.cell_laws.specs.Freed.{GivesBack, TimesOut, token_held, token_named}
use Rattle.cell_laws.specs.Linked.{asker}
use Rattle.cell_laws.specs.Lost.{GoesWith, IsLeft, IsLost, IsLostFor, IsTimedOut, given_back, gone, hung, left, preempted, preempted_at, preempted_found, preempted_in, timed_out}
use Rattle.cell_laws.proofs.Bound.{Bound, both-true, nat-same, nat-test}
use Rattle.cell_laws.proofs.ClaimsKept.{AreSingle, SingleIn, replay_single}
use Rattle.cell_laws.proofs.Freeing.{Found, found-changed, numbered-found}
use Rattle.cell_laws.proofs.Gone.{back-gone, gone-expired, gone-lost, none-expired, none-lost, scope-gone, take-gone}
use Rattle.cell_laws.proofs.Happened.{rows-then}
use Rattle.cell_laws.proofs.Hears.{waits_in}
use Rattle.cell_laws.proofs.Holding.{Holder, due-cases, held-there, holder, lost-cases, named-there, sound-expired}
use Rattle.cell_laws.proofs.Left.{leaves}
use Rattle.cell_laws.proofs.LostFor.{became, numbered-so, refused-not}
use Rattle.cell_laws.proofs.Replayed.{replay_linked}
use Rattle.cell_laws.proofs.TimedOut.{expiry, reached-keeps, then_on}

-- ---- octets are heard

module _ (count : ℕ) (s : State) (sound : IsSoundState count s) (single : AreSingle s.semaphores) (key : Key) (e : SemEntry) (at : entry_in key e.number s.semaphores ≡ Some e)
    (holding : is_queued e ≡ false) where
  abbrev old : Tables
  old = cell.tables_of s

  abbrev now : Moment
  now = moment_of (cell.tables_of s)

  its : Holder key s.semaphores e
  its = holder key s.semaphores e sound.semaphores at

  single-there : SingleIn its.sem
  single-there = subst SingleIn its.found.is (single key its.found.row its.found.there)

  -- the semaphore of its name, changed
  changed-there : (f : Semaphore → Semaphore) (k : Key) → key ≡ k → Found key (changed f k s.semaphores) (f its.sem)
  changed-there f k same = subst (λ (x : Key). Found key (changed f x s.semaphores) (f its.sem)) same (found-changed key s.semaphores its.sem its.found f (f its.sem) refl)

  given-gone : (octets : List ℕ) (token : Option (List ℕ)) (gives : GivesBack s e.client octets key token) → token_named key token s.semaphores ≡ token_held key e s.semaphores
      → is_owner e ≡ true → entry_in key e.number (step s (Heard e.client octets)).semaphores ≡ None
  given-gone octets token gives named owns = by_grant (relinquish_granted row.client x s.semaphores) refl
    where
      row : ClientRow
      row = row_at cell e.client s.clients

      x : RelinquishControl
      x = gives.asked

      same : row.client ≡ e.client
      same = numbered-so count s sound key e at holding e.client octets gives.invoke (request.RelinquishControl x) (ap (resolved (cell.tables_of s) row) gives.taken) gives.served

      k : Key
      k = key_of row.client x.name

      is : key ≡ k
      is = gives.named ∙ ap (λ (c : ℕ). key_of c x.name) (sym same)

      found : Found key (changed (with_token_back row.client x.token now) k s.semaphores) (with_token_back row.client x.token now its.sem)
      found = changed-there (with_token_back row.client x.token now) k is

      gone_there : entry_in key e.number (changed (with_token_back row.client x.token now) k s.semaphores) ≡ None
      gone_there =
          numbered-found key (changed (with_token_back row.client x.token now) k s.semaphores) (with_token_back row.client x.token now its.sem) found e.number
          ∙ back-gone row.client x.token now its.sem e its.sound single-there its.among holding
          (both-true (e.client == row.client) (is_owner e) (nat-test e.client row.client (sym same)) owns)
          (sym (named-there key s.semaphores its.sem x.token its.found) ∙ ap (λ (t : Option (List ℕ)). token_named key t s.semaphores) (sym gives.which) ∙ named
          ∙ held-there key s.semaphores its.sem e its.found)

      there : lookup (key_eq k) s.semaphores ≡ Some its.found.row
      there = ap (λ (y : Key). lookup (key_eq y) s.semaphores) (sym is) ∙ its.found.there

      by_grant : (o : Option (Option Granted)) → relinquish_granted row.client x s.semaphores ≡ o → entry_in key e.number (step s (Heard e.client octets)).semaphores ≡ None
      by_grant None told =
          absurd (cc (sym told
          ∙ ap (λ (o : Option SemaphoreRow). option_map (option_map (λ grant. granted s.semaphores (k, grant))) (relinquish_grant_of row.client x o)) there))
      by_grant (Some grant) told =
          ap (entry_in key e.number)
          (became count s sound key e at holding e.client octets gives.invoke (request.RelinquishControl x) (ap (resolved (cell.tables_of s) row) gives.taken) gives.served
          ∙ ap (λ (o : Option (Option Granted)). (relinquish_outcome old row.client x o).tables.semaphores) told)
          ∙ gone_there

  preempted-gone : (client : ℕ) (octets : List ℕ) (invoke : ℕ) (x : TakeControl) → verdict (row_at cell client s.clients) octets ≡ Takes invoke (request.TakeControl x)
      → is_served (cell.tables_of s) (row_at cell client s.clients) invoke (request.TakeControl x) ≡ true → key ≡ key_of client x.name → preempted_at x key s.semaphores ≡ Some e
      → entry_in key e.number (step s (Heard client octets)).semaphores ≡ None
  preempted-gone client octets invoke x taken served named first = by_told (take_told row.client x s.semaphores) refl
    where
      row : ClientRow
      row = row_at cell client s.clients

      same : row.client ≡ client
      same = numbered-so count s sound key e at holding client octets invoke (request.TakeControl x) (ap (resolved (cell.tables_of s) row) taken) served

      k : Key
      k = key_of row.client x.name

      is : key ≡ k
      is = named ∙ ap (λ (c : ℕ). key_of c x.name) (sym same)

      there : lookup (key_eq k) s.semaphores ≡ Some its.found.row
      there = ap (λ (y : Key). lookup (key_eq y) s.semaphores) (sym is) ∙ its.found.there

      conditions : first_of (take_conditions_in row.client x its.sem) ≡ None
      conditions =
          sym (ap (λ (o : Option SemaphoreRow). first_of (take_conditions row.client x o)) there ∙ ap (λ (t : Semaphore). first_of (take_conditions_in row.client x t)) its.found.is)
          ∙ refused-not count s sound key e at holding client octets invoke (request.TakeControl x) (ap (resolved (cell.tables_of s) row) taken) served

      gone_there : entry_in key e.number (changed (with_take row.client invoke x now) k s.semaphores) ≡ None
      gone_there =
          numbered-found key (changed (with_take row.client invoke x now) k s.semaphores) (with_take row.client invoke x now its.sem)
          (changed-there (with_take row.client invoke x now) k is) e.number
          ∙ take-gone row.client invoke x now its.sem e its.sound its.among conditions
          (sym (ap (preempted_found x) its.found.there ∙ ap (preempted_in x) its.found.is) ∙ first)

      became_so : (o : Option TakeDone) → take_told row.client x s.semaphores ≡ o → (step s (Heard client octets)).semaphores ≡ (take_outcome old row.client invoke x o).tables.semaphores
      became_so o told =
          became count s sound key e at holding client octets invoke (request.TakeControl x) (ap (resolved (cell.tables_of s) row) taken) served
          ∙ ap (λ (p : Option TakeDone). (take_outcome old row.client invoke x p).tables.semaphores) told

      by_told : (o : Option TakeDone) → take_told row.client x s.semaphores ≡ o → entry_in key e.number (step s (Heard client octets)).semaphores ≡ None
      by_told None told = absurd (cc (sym told ∙ ap (take_told_of x) there))
      by_told (Some (Answered answer)) told = ap (entry_in key e.number) (became_so (Some (Answered answer)) told) ∙ gone_there
      by_told (Some (Waits entry)) told = ap (entry_in key e.number) (became_so (Some (Waits entry)) told) ∙ gone_there

-- ---- time goes by

none-aborted : (b : Bool) (client : ℕ) (moment : Moment) (rows : Rows) (key : Key) (n : ℕ) → entry_in key n rows ≡ None → entry_in key n (after_abort b client moment rows) ≡ None
none-aborted true client moment rows key n h = none-lost client moment rows key n h
none-aborted false client moment rows key n h = h

none-met : (key : Key) (n : ℕ) (u : Ticking) (d : NamedDeadline) (x : Expired) → entry_in key n u.rows ≡ None → entry_in key n (met_as u d x).rows ≡ None
none-met key n u d x h = none-aborted x.abort x.client d.at (expire_after d.key d.entry d.at u.rows) key n (none-expired d.key d.entry d.at u.rows key n h)

-- what each deadline that is met keeps
each-met : (until : Moment) (P : Ticking → Type 0) → ((u : Ticking) (d : NamedDeadline) (x : Expired) → P u → expired d.key d.entry u.rows ≡ Some x → P (met_as u d x))
    → (u v : Ticking) → next_met until u ≡ Some v → P u → P v
each-met until P one u v next h = by_due (next_due until u.rows) next
  where
    by_expired : (d : NamedDeadline) (o : Option Expired) → expired d.key d.entry u.rows ≡ o → option_map (met_as u d) o ≡ Some v → P v
    by_expired d None is g = absurd (cc g)
    by_expired d (Some x) is g = let same : met_as u d x ≡ v = cc g in subst P same (one u d x h is)

    by_due : (o : Option NamedDeadline) → option_and_then (met u) o ≡ Some v → P v
    by_due None g = absurd (cc g)
    by_due (Some d) g = by_expired d (expired d.key d.entry u.rows) refl g

none-ticked : (until : Moment) (key : Key) (n : ℕ) (u : Ticking) → entry_in key n u.rows ≡ None → entry_in key n (ticked_on until u).rows ≡ None
none-ticked until key n u h =
    settle-keeps (next_met until) (λ t. entry_in key n t.rows ≡ None) (each-met until (λ t. entry_in key n t.rows ≡ None) (λ t d x g is. none-met key n t d x g)) (entries_left u.rows) u h

-- an entry that isn't kept stays as it is, or goes
record Unkept (key : Key) (e : SemEntry) (u : Ticking) : Type 0 where
  sound : AreSound u.rows
  either : (entry_in key e.number u.rows ≡ Some e) ⊎ (entry_in key e.number u.rows ≡ None)

expired-either : (key : Key) (e : SemEntry) (k : Key) (number : ℕ) (moment : Moment) (rows : Rows) → is_queued e ≡ false → AreSound rows
    → (entry_in key e.number rows ≡ Some e) ⊎ (entry_in key e.number rows ≡ None)
    → (entry_in key e.number (expire_after k number moment rows) ≡ Some e) ⊎ (entry_in key e.number (expire_after k number moment rows) ≡ None)
expired-either key e k number moment rows holding sound (inr none) = inr (none-expired k number moment rows key e.number none)
expired-either key e k number moment rows holding sound (inl at) =
    elim (due-cases k number moment rows key e sound at holding) [
      | inl stays ↦ inl stays
      | inr own ↦ inr (subst (λ (x : Key). entry_in key e.number (expire_after x number moment rows) ≡ None) (sym own.0)
          (subst (λ (n : ℕ). entry_in key e.number (expire_after key n moment rows) ≡ None) (sym own.1) (gone-expired key e.number moment rows e at)))
    ]

lost-either : (key : Key) (e : SemEntry) (client : ℕ) (moment : Moment) (rows : Rows) → is_queued e ≡ false → e.keep ≡ false → AreSound rows
    → (entry_in key e.number rows ≡ Some e) ⊎ (entry_in key e.number rows ≡ None)
    → (entry_in key e.number (lost client moment rows) ≡ Some e) ⊎ (entry_in key e.number (lost client moment rows) ≡ None)
lost-either key e client moment rows holding unkept sound (inr none) = inr (none-lost client moment rows key e.number none)
lost-either key e client moment rows holding unkept sound (inl at) = by_tests (scope_eq key.scope (Association client)) (owned_by client e) refl refl
  where
    by_tests : (b c : Bool) → scope_eq key.scope (Association client) ≡ b → owned_by client e ≡ c
        → (entry_in key e.number (lost client moment rows) ≡ Some e) ⊎ (entry_in key e.number (lost client moment rows) ≡ None)
    by_tests true c of owned = inr (scope-gone client moment rows key e.number of)
    by_tests false true of owned = inr (gone-lost client moment rows key e at owned unkept)
    by_tests false false of other =
        elim (lost-cases client moment rows key e sound at holding (λ o. absurd (cc (sym other ∙ o))) of) [
          | inl stays ↦ inl stays
          | inr is_hung ↦ absurd (cc (sym other ∙ is_hung.1))
        ]

unkept-met : (key : Key) (e : SemEntry) → is_queued e ≡ false → e.keep ≡ false → (u : Ticking) (d : NamedDeadline) (x : Expired) → Unkept key e u → expired d.key d.entry u.rows ≡ Some x
    → Unkept key e (met_as u d x)
unkept-met key e holding unkept u d x here is = by_abort x.abort
  where
    rows : Rows
    rows = expire_after d.key d.entry d.at u.rows

    sound_then : AreSound rows
    sound_then = sound-expired d.key d.entry d.at u.rows here.sound

    either_then : (entry_in key e.number rows ≡ Some e) ⊎ (entry_in key e.number rows ≡ None)
    either_then = expired-either key e d.key d.entry d.at u.rows holding here.sound here.either

    by_abort : (b : Bool) → Unkept key e (record { rows = after_abort b x.client d.at rows; happened = (met_as u d x).happened })
    by_abort false = record { sound = sound_then; either = either_then }
    by_abort true = record { sound = keeps_lost x.client d.at rows sound_then; either = lost-either key e x.client d.at rows holding unkept sound_then either_then }

module _ (count : ℕ) (s : State) (sound : IsSoundState count s) (bound : Bound (asker s.semaphores) (waits_in s.clients)) (ms : ℕ) (point : Ticking) (due : NamedDeadline)
    (entry : SemEntry) (times : TimesOut s ms point due entry) where
  abbrev until : Moment
  until = moment_after ms (cell.tables_of s)

  abbrev first : Ticking
  first = record { rows = s.semaphores; happened = [] }

  abbrev due_rows : Rows
  due_rows = expire_after due.key due.entry due.at point.rows

  abbrev its_expiry : Expired
  its_expiry = expiry count s sound bound ms point due entry times

  -- none is there at the end, if none is there then
  none-end : (key : Key) (n : ℕ) → entry_in key n (after_abort (is_owner entry && aborts entry.abort) entry.client due.at due_rows) ≡ None → entry_in key n (step s (Tick ms)).semaphores ≡ None
  none-end key n h =
      ap (entry_in key n) (rows-then count s sound ms)
      ∙ ap (λ (t : Ticking). entry_in key n t.rows) (then_on count s sound bound ms point due entry times)
      ∙ none-ticked until key n (met_as point due its_expiry) h

  timed-gone : entry_in due.key entry.number (step s (Tick ms)).semaphores ≡ None
  timed-gone =
      none-end due.key entry.number
      (none-aborted (is_owner entry && aborts entry.abort) entry.client due.at due_rows due.key entry.number
      (subst (λ (n : ℕ). entry_in due.key n due_rows ≡ None) (sym numbered) (gone-expired due.key due.entry due.at point.rows entry times.its)))
    where
      numbered : entry.number ≡ due.entry
      numbered = by_row (lookup (key_eq due.key) point.rows) times.its
        where
          by_row : (o : Option SemaphoreRow) → option_and_then (λ row. Rattle.token_sem.specs.Semaphore.numbered due.entry (entries_of row)) o ≡ Some entry → entry.number ≡ due.entry
          by_row None h = absurd (cc h)
          by_row (Some row) h = nat-same entry.number due.entry (among-find (λ y. y.number == due.entry) (entries_of row) entry h).1

  -- its client is aborted then
  abort-end : is_owner entry ≡ true → entry.abort ≡ Some true → (key : Key) (n : ℕ) → entry_in key n (lost entry.client due.at due_rows) ≡ None → entry_in key n (step s (Tick ms)).semaphores ≡ None
  abort-end owns abort key n h =
      none-end key n
      (ap (λ (b : Bool). entry_in key n (after_abort b entry.client due.at due_rows)) (both-true (is_owner entry) (aborts entry.abort) owns (ap aborts abort)) ∙ h)

  aborted-gone : is_owner entry ≡ true → entry.abort ≡ Some true → (key : Key) (e : SemEntry) → entry_in key e.number s.semaphores ≡ Some e → is_queued e ≡ false → is_owner e ≡ true
      → e.keep ≡ false → entry.client ≡ e.client → entry_in key e.number (step s (Tick ms)).semaphores ≡ None
  aborted-gone owns abort key e at holding owner unkept its = abort-end owns abort key e.number (by_either (expired-either key e due.key due.entry due.at point.rows holding here.sound here.either))
    where
      here : Unkept key e point
      here =
          reached-keeps until (Unkept key e) (each-met until (Unkept key e) (unkept-met key e holding unkept)) times.many first point times.reached
          (record { sound = sound.semaphores; either = inl at })

      by_either : (entry_in key e.number due_rows ≡ Some e) ⊎ (entry_in key e.number due_rows ≡ None) → entry_in key e.number (lost entry.client due.at due_rows) ≡ None
      by_either (inl there) =
          gone-lost entry.client due.at due_rows key e there (both-true (e.client == entry.client) (is_owner e) (nat-test e.client entry.client (sym its)) owner) unkept
      by_either (inr none) = none-lost entry.client due.at due_rows key e.number none

-- ---- each cause

module _ (count : ℕ) (s : State) (sound : IsSoundState count s) (bound : Bound (asker s.semaphores) (waits_in s.clients)) (single : AreSingle s.semaphores)
    (event : CellEvent) (key : Key) (e : SemEntry) (at : entry_in key e.number s.semaphores ≡ Some e) (holding : is_queued e ≡ false) where
  abbrev Gone : CellEvent → Type 0
  Gone event = entry_in key e.number (step s event).semaphores ≡ None

  timed : IsTimedOut s event key e → Gone event
  timed t =
      subst Gone (sym t.passes)
      (subst (λ (k : Key). entry_in k e.number (step s (Tick t.ms)).semaphores ≡ None) t.in_it
      (subst (λ (n : ℕ). entry_in t.due.key n (step s (Tick t.ms)).semaphores ≡ None) (numbered t.its) (timed-gone count s sound bound t.ms t.point t.due t.entry t.times)))
    where
      numbered : (t.entry ≡ e) ⊎ (t.entry ≡ hung e) → t.entry.number ≡ e.number
      numbered (inl same) = ap (λ (x : SemEntry). x.number) same
      numbered (inr same) = ap (λ (x : SemEntry). x.number) same

  leaving : IsLeft s event e → Gone event
  leaving l = by_loss l.lost
    where
      by_loss : IsLost e.client s event → Gone event
      by_loss (inl leaves_so) =
          ap (entry_in key e.number) (leaves count s sound bound key event e.client leaves_so).became
          ∙ gone-lost e.client (record { 0 = s.now }) s.semaphores key e at (both-true (e.client == e.client) (is_owner e) (nat-test e.client e.client refl) l.owns) l.unkept
      by_loss (inr a) =
          subst Gone (sym a.passes) (aborted-gone count s sound bound a.ms a.point a.due a.entry a.times a.owns a.abort key e at holding l.owns l.unkept a.its)

  going : GoesWith s event key → Gone event
  going g = by_loss g.lost
    where
      by_loss : IsLost g.client s event → Gone event
      by_loss (inl leaves_so) =
          ap (entry_in key e.number) (leaves count s sound bound key event g.client leaves_so).became ∙ scope-gone g.client (record { 0 = s.now }) s.semaphores key e.number g.scope
      by_loss (inr a) =
          subst Gone (sym a.passes)
          (abort-end count s sound bound a.ms a.point a.due a.entry a.times a.owns a.abort key e.number
          (scope-gone a.entry.client a.due.at (expire_after a.due.key a.due.entry a.due.at a.point.rows) key e.number
          (subst (λ (c : ℕ). scope_eq key.scope (Association c) ≡ true) (sym a.its) g.scope)))

  gone-for : IsLostFor s event key e → Gone event
  gone-for (given_back g) = subst Gone (sym g.heard) (given-gone count s sound single key e at holding g.octets g.token g.gives g.named g.owns)
  gone-for (preempted p) =
      subst Gone (sym p.heard) (preempted-gone count s sound single key e at holding p.client p.octets p.invoke p.asked p.taken p.served p.named p.first)
  gone-for (timed_out t) = timed t
  gone-for (left l) = leaving l
  gone-for (gone g) = going g

unqueued : (b : Bool) → Rattle.std.specs.Prelude.not b ≡ true → b ≡ false
unqueued true h = absurd (cc h)
unqueued false h = refl

pub replay_gone_for : (config : Config) (history : List CellEvent) (event : CellEvent) (key : Key) (entry : SemEntry) → IsConfig config
    → entry_in key entry.number (replay config history).semaphores ≡ Some entry → holds entry ≡ true → IsLostFor (replay config history) event key entry
    → entry_in key entry.number (step (replay config history) event).semaphores ≡ None
replay_gone_for config history event key entry is at has cause =
    gone-for (length history) (replay config history) (replay_sound config history is) (replay_linked config history is).bound (replay_single config history is) event key entry at
    (unqueued (is_queued entry) has) cause

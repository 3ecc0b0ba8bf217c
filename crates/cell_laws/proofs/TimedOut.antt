-- A token whose control times out while time goes by goes to the first that waits, or is free.
use Rattle.std.proofs.Common.{◌≡◌, ℕ, zero, suc, ◌≤◌, Bool, true, false, ◌==◌, List, [], ◌∷◌, ◌++◌, length, Option, None, Some, option_and_then, option_map, if◌then◌else◌, refl, sym, ◌∙◌, ap, subst, arith}
use Rattle.std.specs.List.{Contains}
use Rattle.std.specs.Map.{lookup}
use Rattle.std.proofs.lemmas.List.Elements.{Contains-append_left, Contains-append_right}
use Rattle.mms_types.specs.Order.{key_eq}
use Rattle.mms_types.specs.declared.event.CellEvent.TheVariants.{Tick}
use Rattle.mms_types.specs.declared.key.Key.{Key}
use Rattle.mms_types.specs.declared.moment.Moment.{Moment}
use Rattle.association.specs.Client.{ClientRow}
use Rattle.cell_config.specs.declared.config.Config.{Config}
use Rattle.cell_config.specs.Said.{IsConfig}
use Rattle.mms_types.specs.declared.event.CellEvent.{CellEvent}
use Rattle.token_sem.specs.declared.entry.Expired.{Expired}
use Rattle.token_sem.specs.declared.entry.SemEntry.{SemEntry}
use Rattle.token_sem.specs.Semaphore.{is_queued, numbered, without}
use Rattle.token_sem.specs.Semaphore as token
use Rattle.token_sem.proofs.Keeping.{Among, among-find}
use Rattle.pool_sem.specs.Pools as pool
use Rattle.mms_time.specs.Deadlines.{NamedDeadline, expired, expired_entry, expired_in, expire_after, next_due, without_due}
use Rattle.mms_time.specs.Semaphores.{IsSound, Rows, entries_in, entries_of, entry_in}
use Rattle.mms_time.specs.declared.row.Semaphore.{Semaphore}
use Rattle.mms_time.specs.declared.row.Semaphore.TheVariants.{Token, Pool}
use Rattle.mms_time.specs.declared.row.SemaphoreRow.{SemaphoreRow}
use Rattle.parted_state.specs.Served.{delivered}
use Rattle.sem_ticks.specs.Granted.{granted}
use Rattle.sem_ticks.specs.Sound.{AreSound}
use Rattle.sem_ticks.specs.Ticks.{Ticking, abort_told, entries_left, expiry_told, met, met_as, next_met, ticked_on}
use Rattle.sem_ticks.specs.Ticks as ticks
use Rattle.sem_ticks.specs.declared.granted.Granted.{Granted}
use Rattle.sem_ticks.specs.declared.ticks.Happening.{Happening}
use Rattle.sem_ticks.specs.declared.ticks.Happening.TheVariants as happens
use Rattle.sem_ticks.proofs.Kept.{row_found}
use Rattle.sem_ticks.proofs.Settling.{settle-keeps}
use Rattle.sem_ticks.proofs.Twice.{tick_meets}
use Rattle.cell_ticks.specs.Ticks.{dated}
use Rattle.cell_ticks.specs.declared.happening.Happening.TheVariants as device
use Rattle.cell_services.specs.Serving.{meanwhile}
use Rattle.cell_services.specs.Tables.{moment_after}
use Rattle.step_parts.specs.Partition.{cell}
use Rattle.step_parts.specs.State.{State, IsSound as IsSoundState}
use Rattle.step_parts.specs.Step.{replay, step}
use Rattle.step_sound.proofs.Outboxes.{ticked_to}
use Rattle.step_parts.proofs.PartsAfter.{step_sized}
use Rattle.step_sound.proofs.Sound.{replay_sound}
use Rattle.cell_laws.specs.Freed.{IsPassedOn, TimesOut, after_met, grant_of, held_found, held_in, token_held}
use Rattle.cell_laws.specs.Linked.{asker}
use Rattle.cell_laws.proofs.Bound.{Bound}
use Rattle.cell_laws.proofs.Entries.{leaving}
use Rattle.cell_laws.proofs.Freeing.{Found, Gone, IsTold, found-changed, freed, gone, granted-same, next_of, passes-on}
use Rattle.cell_laws.proofs.Granted.{happened-none, next-range, told-of}
use Rattle.cell_laws.proofs.Happened.{happens-too, sem_told}
use Rattle.cell_laws.proofs.Hears.{waits_in}
use Rattle.cell_laws.proofs.Linking.{Meanwhile, next-keeps}
use Rattle.cell_laws.proofs.Meetings.{expiry-is, expiry_by}
use Rattle.cell_laws.proofs.Replayed.{replay_linked}
use Rattle.cell_laws.proofs.Sent.{told-many}

-- ---- the points of a tick

pub reached-keeps : (until : Moment) (P : Ticking → Type 0) → ((u v : Ticking) → next_met until u ≡ Some v → P u → P v) → (n : ℕ) (t p : Ticking)
    → after_met until n t ≡ Some p → P t → P p
reached-keeps until P further zero t p h is = let same : t ≡ p = cc h in subst P same is
reached-keeps until P further (suc n) t p h is = by_next (next_met until t) refl h (λ u. reached-keeps until P further n u p)
  where
    by_next : (o : Option Ticking) → next_met until t ≡ o → option_and_then (after_met until n) o ≡ Some p → ((u : Ticking) → after_met until n u ≡ Some p → P u → P p) → P p
    by_next None e g ih = absurd (cc g)
    by_next (Some u) e g ih = ih u g (further t u e is)

pub reached-on : (until : Moment) (n : ℕ) (t p : Ticking) → after_met until n t ≡ Some p → ticked_on until t ≡ ticked_on until p
reached-on until zero t p h = let same : t ≡ p = cc h in ap (ticked_on until) same
reached-on until (suc n) t p h = by_next (next_met until t) refl h (λ u. reached-on until n u p)
  where
    by_next : (o : Option Ticking) → next_met until t ≡ o → option_and_then (after_met until n) o ≡ Some p
        → ((u : Ticking) → after_met until n u ≡ Some p → ticked_on until u ≡ ticked_on until p) → ticked_on until t ≡ ticked_on until p
    by_next None e g ih = absurd (cc g)
    by_next (Some u) e g ih = tick_meets until t u e ∙ ih u g

-- what has happened stays so
pub still-happened : (until : Moment) (h : Happening) (t : Ticking) → Contains t.happened h → Contains (ticked_on until t).happened h
still-happened until h t is = settle-keeps (next_met until) (λ u. Contains u.happened h) further (entries_left t.rows) t is
  where
    further : (u v : Ticking) → next_met until u ≡ Some v → Contains u.happened h → Contains v.happened h
    further u v same was = by_due (next_due until u.rows) same
      where
        by_expired : (d : NamedDeadline) (o : Option Expired) → option_map (met_as u d) o ≡ Some v → Contains v.happened h
        by_expired d None g = absurd (cc g)
        by_expired d (Some x) g =
            let one : met_as u d x ≡ v = cc g in
            subst (λ (w : Ticking). Contains w.happened h) one
            (Contains-append_left u.happened (expiry_told (expire_after d.key d.entry d.at u.rows) d.key x ++ abort_told x.abort x.client d.at (expire_after d.key d.entry d.at u.rows)) h was)

        by_due : (o : Option NamedDeadline) → option_and_then (met u) o ≡ Some v → Contains v.happened h
        by_due None g = absurd (cc g)
        by_due (Some d) g = by_expired d (expired d.key d.entry u.rows) g

-- ---- the entry at a point

pub record Due (rows : Rows) (due : NamedDeadline) (entry : SemEntry) : Type 0 where
  pub sem : Semaphore
  pub found : Found due.key rows sem
  pub sound : IsSound sem
  pub at : numbered due.entry (entries_in sem) ≡ Some entry

due-found : (rows : Rows) (due : NamedDeadline) (entry : SemEntry) → AreSound rows → entry_in due.key due.entry rows ≡ Some entry → Due rows due entry
due-found rows due entry sound is = by_row (lookup (key_eq due.key) rows) refl is
  where
    by_row : (o : Option SemaphoreRow) → lookup (key_eq due.key) rows ≡ o → option_and_then (λ row. numbered due.entry (entries_of row)) o ≡ Some entry → Due rows due entry
    by_row None e h = absurd (cc h)
    by_row (Some row) e h = record {
      sem = row.semaphore;
      found = record { row = row; there = e; is = refl };
      sound = row_found rows due.key row sound.each e;
      at = h;
    }

-- one that has a token goes
due-freed : (t : Semaphore) (number : ℕ) (now : Moment) (e : SemEntry) → numbered number (entries_in t) ≡ Some e → is_queued e ≡ false → without_due number now t ≡ freed e now t
due-freed (Token s) number now e at holds =
    ap (λ (o : Option SemEntry). Token (token.expired_entry o now s)) at
    ∙ ap (λ (b : Bool). Token (if b then token.after_cancel s e.number else record s { entries = token.after_freeing now (without e.number s.entries) })) holds
due-freed (Pool p) number now e at holds =
    ap (λ (o : Option SemEntry). Pool (pool.expired_entry o now p)) at
    ∙ ap (λ (b : Bool). Pool (if b then pool.after_cancel p e.number else record p { entries = pool.after_leaving e now p.entries })) holds

module _ (count : ℕ) (s : State) (sound : IsSoundState count s) (bound : Bound (asker s.semaphores) (waits_in s.clients)) (ms : ℕ) (point : Ticking) (due : NamedDeadline)
    (entry : SemEntry) (times : TimesOut s ms point due entry) where
  abbrev pub until : Moment
  until = moment_after ms (cell.tables_of s)

  abbrev pub after : State
  after = step s (Tick ms)

  pub at_point : Meanwhile s.clients point
  at_point =
      reached-keeps until (Meanwhile s.clients) (next-keeps s.clients until) times.many (record { rows = s.semaphores; happened = [] }) point times.reached
      (record { bound = bound; sound = sound.semaphores })

  pub has : Due point.rows due entry
  has = due-found point.rows due entry at_point.sound times.its

  among : Among (entries_in has.sem) entry × ((entry.number == due.entry) ≡ true)
  among = among-find (λ e. e.number == due.entry) (entries_in has.sem) entry has.at

  -- the semaphores then
  abbrev pub later : Rows
  later = expire_after due.key due.entry due.at point.rows

  -- what is told of it
  abbrev pub expiry : Expired
  expiry = expiry_by (leaving has.sem) entry (entries_in has.sem)

  pub is_expired : expired due.key due.entry point.rows ≡ Some expiry
  is_expired =
      ap (option_and_then (expired_in due.entry)) has.found.there
      ∙ ap (λ (t : Semaphore). expired_entry t (numbered due.entry (entries_in t))) has.found.is
      ∙ ap (expired_entry has.sem) has.at
      ∙ ap Some (expiry-is entry has.sem)

  pub then_on : ticked_on until (record { rows = s.semaphores; happened = [] }) ≡ ticked_on until (met_as point due expiry)
  then_on =
      reached-on until times.many (record { rows = s.semaphores; happened = [] }) point times.reached
      ∙ tick_meets until point (met_as point due expiry) (ap (option_and_then (met point)) times.next ∙ ap (option_map (met_as point due)) is_expired)

  -- whatever is told then has happened after the event
  abbrev pub Happens : Granted → Type 0
  Happens g = (at : Moment) × Contains (meanwhile ms (cell.tables_of s)).happened (dated at (device.Semaphores (happens.Grants g)))

  pub happens-then : (g : Granted) → Contains (expiry_told later due.key expiry ++ abort_told expiry.abort expiry.client due.at later) (happens.Grants g) → Happens g
  happens-then g is =
      happens-too count s sound ms (happens.Grants g)
      (subst (λ (t : Ticking). Contains t.happened (happens.Grants g)) (sym then_on)
      (still-happened until (happens.Grants g) (met_as point due expiry)
      (Contains-append_right point.happened (expiry_told later due.key expiry ++ abort_told expiry.abort expiry.client due.at later) (happens.Grants g) is)))

  -- who is granted a token then is told
  pub told-then : (key : Key) (rows : Rows) (token : Option ℕ) (e : SemEntry) → (1 ≤ e.client) × (e.client ≤ length s.clients)
      → Happens (granted rows (key, grant_of token e)) → IsTold after e (granted rows (key, grant_of token e))
  told-then key rows token e range is =
      told-of after key rows token e range.0 (let few = range.1 in let sized = step_sized s (Tick ms) in omega (arith, few, sized))
      (happened-none (meanwhile ms (cell.tables_of s)).happened s.clients is.0 (granted rows (key, grant_of token e)) is.1) (ticked_to s ms is.0 (granted rows (key, grant_of token e)) is.1)

  abbrev named : Option ℕ
  named = held_in entry has.sem

  goes : Gone has.sem entry due.at
  goes = gone has.sem entry due.at has.sound among.0 times.holds

  then_found : Found due.key later (freed entry due.at has.sem)
  then_found =
      found-changed due.key point.rows has.sem has.found (without_due due.entry due.at) (freed entry due.at has.sem) (due-freed has.sem due.entry due.at entry has.at times.holds)

  told : (e : SemEntry) → next_of named (entries_in has.sem) ≡ Some e → IsTold after e (granted point.rows (due.key, grant_of named e))
  told e first =
      subst (IsTold after e) (granted-same due.key point.rows later has.sem (freed entry due.at has.sem) (grant_of named e) has.found then_found goes.names)
      (told-then due.key later named e (range.0, few)
      (happens-then (granted later (due.key, grant_of named e)) (Contains-append_left (expiry_told later due.key expiry) _ (happens.Grants (granted later (due.key, grant_of named e))) grants)))
    where
      clients : List ClientRow
      clients = delivered cell (sem_told point.happened) s.clients

      range : (1 ≤ e.client) × (e.client ≤ length clients)
      range = next-range due.key point.rows has.sem clients has.found has.sound at_point.bound named e first

      few : e.client ≤ length s.clients
      few = let low = range.1 in let many = told-many (sem_told point.happened) s.clients in omega (arith, low, many)

      heir : (leaving has.sem).heir entry (entries_in has.sem) ≡ Some (grant_of named e)
      heir = goes.heir ∙ ap (option_map (grant_of named)) first

      tells : expiry_told later due.key expiry ≡ happens.Grants (granted later (due.key, grant_of named e)) ∷ []
      tells =
          ap (λ (b : Bool). if b then happens.WaitEnds entry.client entry.invoke ∷ [] else ticks.grant_told later due.key (if b then None else (leaving has.sem).heir entry (entries_in has.sem))) times.holds
          ∙ ap (ticks.grant_told later due.key) heir

      grants : Contains (expiry_told later due.key expiry) (happens.Grants (granted later (due.key, grant_of named e)))
      grants = subst (λ (l : List Happening). Contains l (happens.Grants (granted later (due.key, grant_of named e)))) (sym tells) (zero, omega arith, refl)

  pub timed-out : IsPassedOn due.key (token_held due.key entry point.rows) due.at point.rows later after
  timed-out =
      subst (λ (place : Option ℕ). IsPassedOn due.key place due.at point.rows later after)
      (sym (ap (held_found entry) has.found.there ∙ ap (held_in entry) has.found.is))
      (passes-on due.key due.at point.rows later after has.sem entry has.sound among.0 times.holds has.found then_found told)

pub replay_timed_out : (config : Config) (history : List CellEvent) (ms : ℕ) (point : Ticking) (due : NamedDeadline) (entry : SemEntry) → IsConfig config
    → TimesOut (replay config history) ms point due entry
    → IsPassedOn due.key (token_held due.key entry point.rows) due.at point.rows (expire_after due.key due.entry due.at point.rows) (step (replay config history) (Tick ms))
replay_timed_out config history ms point due entry is times =
    timed-out (length history) (replay config history) (replay_sound config history is) (replay_linked config history is).bound ms point due entry times

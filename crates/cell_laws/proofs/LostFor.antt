-- An entry that has a token has it after an event, or lost it for a cause.
use Rattle.std.proofs.Common.{◌≡◌, ℕ, zero, suc, ◌⊎◌, inl, inr, Bool, true, false, not, ◌==◌, ◌&&◌, List, [], length, Option, None, Some, option_and_then, option_map, if◌then◌else◌, refl, sym, ◌∙◌, ap, subst}
use Rattle.std.specs.Map.{lookup}
use Rattle.mms_types.specs.Order.{key_eq, key_of, scope_eq}
use Rattle.mms_types.specs.declared.event.CellEvent.{CellEvent}
use Rattle.mms_types.specs.declared.event.CellEvent.TheVariants.{Heard, Lost, Tick, Ends, Drain}
use Rattle.mms_types.specs.declared.key.Key.{Key}
use Rattle.mms_types.specs.declared.key.Scope.TheVariants.{Association}
use Rattle.mms_types.specs.declared.moment.Moment.{Moment}
use Rattle.mms_types.specs.declared.pdu.Answer.{Answer}
use Rattle.mms_types.specs.declared.pdu.Request.{Request}
use Rattle.mms_types.specs.declared.pdu.Request.TheVariants as request
use Rattle.mms_types.specs.declared.semaphore.RelinquishControl.{RelinquishControl}
use Rattle.mms_types.specs.declared.semaphore.TakeControl.{TakeControl}
use Rattle.mms_types.specs.declared.service_error.ServiceError.{ServiceError}
use Rattle.association.specs.Client.{ClientRow}
use Rattle.association.specs.declared.negotiation.Association.{Association as IsOpen}
use Rattle.association.specs.declared.negotiation.Association.TheVariants.{Idle, Open}
use Rattle.association.specs.declared.waiting.Waiting.{Waiting}
use Rattle.cell_config.specs.declared.config.Config.{Config}
use Rattle.cell_config.specs.Said.{IsConfig}
use Rattle.token_sem.specs.declared.entry.Expired.{Expired}
use Rattle.token_sem.specs.declared.entry.SemEntry.{SemEntry}
use Rattle.token_sem.specs.Semaphore.{aborts, holds, is_owner, is_queued, numbered, owned_by}
use Rattle.token_sem.proofs.Keeping.{Among}
use Rattle.token_sem.proofs.Losing.{owner-not_queued}
use Rattle.mms_time.proofs.Unopposed.{nothing_against}
use Rattle.serve_semaphores.specs.Semaphores.{define_semaphore}
use Rattle.cell_services.specs.Requests.{told_in}
use Rattle.cell_services.specs.Tables.{own_semaphores}
use Rattle.mms_time.specs.Deadlines.{NamedDeadline, expire_after, expired, expired_entry, expired_from, expired_in, next_due}
use Rattle.mms_time.specs.Loss.{lost}
use Rattle.mms_time.specs.Semaphores.{Rows, entries_in, entries_of, entry_in}
use Rattle.mms_time.specs.Services.{relinquished, take_after, take_told, with_take, with_token_back}
use Rattle.mms_time.specs.declared.row.Semaphore.{Semaphore}
use Rattle.mms_time.specs.declared.row.Semaphore.TheVariants.{Token, Pool}
use Rattle.mms_time.specs.declared.row.SemaphoreRow.{SemaphoreRow}
use Rattle.mms_time.specs.declared.taking.TakeDone.{TakeDone}
use Rattle.mms_time.specs.declared.taking.TakeDone.TheVariants.{Answered, Waits}
use Rattle.parted_state.specs.Served.{row_at}
use Rattle.sem_ticks.specs.Granted.{relinquish_granted}
use Rattle.sem_ticks.specs.Sound.{AreSound}
use Rattle.sem_ticks.specs.Ticks.{Ticking, after_abort, entries_left, met, met_as, next_met}
use Rattle.sem_ticks.specs.declared.granted.Granted.{Granted}
use Rattle.sem_ticks.proofs.Kept.{keeps_lost}
use Rattle.sem_ticks.proofs.Requests.{keeps_relinquished, keeps_taken}
use Rattle.sem_ticks.proofs.Settling.{settle-keeps}
use Rattle.cell_client.specs.Association.{Verdict, Tells, Takes, Replies, Exhausts, Concludes, Cancels, Aborts, verdict}
use Rattle.cell_services.specs.Services.{cause, effect, effect_of, relinquish_outcome, reply_in, take_outcome}
use Rattle.cell_client.specs.Requests.{is_done, size_of}
use Rattle.cell_services.specs.Serving.{is_served, is_served_in, resolved, tables_cancelled, tables_heard, tables_lost, waiting_of}
use Rattle.cell_services.specs.Tables.{Tables, moment_after, moment_of}
use Rattle.step_parts.specs.Partition.{cell}
use Rattle.step_parts.specs.State.{State, IsSound as IsSoundState}
use Rattle.step_parts.specs.Step.{replay, step}
use Rattle.step_sound.specs.Answered.{EndsIt}
use Rattle.step_sound.proofs.Guarded.{taken_before}
use Rattle.step_sound.proofs.Sound.{replay_sound}
use Rattle.cell_laws.specs.Freed.{GivesBack, TimesOut, after_met, token_held}
use Rattle.cell_laws.specs.Lost.{HasStill, IsLost, IsLostFor, given_back, gone, hung, left, preempted, preempted_found, preempted_in, timed_out}
use Rattle.cell_laws.proofs.Bound.{nat-same, of-both}
use Rattle.cell_laws.proofs.Entries.{owned_owner}
use Rattle.cell_laws.proofs.Freeing.{Found}
use Rattle.cell_laws.proofs.Happened.{rows-then}
use Rattle.cell_laws.proofs.Hears.{admitted-open}
use Rattle.cell_laws.proofs.Holding.{Holder, cancelled-stays, changed-cases, defined-stays, deleted-stays, due-cases, held-there, holder, lost-cases, named-there, sound-expired, there}
use Rattle.cell_laws.proofs.Linking.{Meant, numbered-client, resolved-meant, verdict-meant}
use Rattle.cell_laws.proofs.Stays.{GivenUp, TakenFrom, back-stays, take-stays}

-- ---- where it stands, at a point of an event

-- it is hung, as its client was lost that keeps the token
record KeptAt (s : State) (event : CellEvent) (key : Key) (e : SemEntry) (rows : Rows) : Type 0 where
  lost : IsLost e.client s event
  owns : is_owner e ≡ true
  keeps : e.keep ≡ true
  there : entry_in key e.number rows ≡ Some (hung e)

data Standing (s : State) (event : CellEvent) (key : Key) (e : SemEntry) (rows : Rows) : Type 0 where
  as_was : entry_in key e.number rows ≡ Some e → Standing s event key e rows
  kept : KeptAt s event key e rows → Standing s event key e rows
  taken : IsLostFor s event key e → Standing s event key e rows

ends : (s : State) (event : CellEvent) (key : Key) (e : SemEntry) → Standing s event key e (step s event).semaphores → HasStill s event key e ⊎ IsLostFor s event key e
ends s event key e (as_was h) = inl (inl h)
ends s event key e (kept k) = inl (inr (record { lost = k.lost; owns = k.owns; keeps = k.keeps; there = k.there }))
ends s event key e (taken cause) = inr cause

owned-hung : (client : ℕ) (e : SemEntry) → owned_by client (hung e) ≡ true → ⊥
owned-hung client e h = by_test (e.client == client) h
  where
    by_test : (b : Bool) → b && false ≡ true → ⊥
    by_test true g = cc g
    by_test false g = cc g

-- a client is lost
lost-standing : (s : State) (event : CellEvent) (key : Key) (e : SemEntry) (client : ℕ) (now : Moment) (rows : Rows) → is_queued e ≡ false → AreSound rows → IsLost client s event
    → Standing s event key e rows → Standing s event key e (lost client now rows)
lost-standing s event key e client now rows holds sound is (taken cause) = taken cause
lost-standing s event key e client now rows holds sound is (kept k) = by_scope (scope_eq key.scope (Association client)) refl
  where
    by_scope : (b : Bool) → scope_eq key.scope (Association client) ≡ b → Standing s event key e (lost client now rows)
    by_scope true h = taken (gone (record { client = client; scope = h; lost = is }))
    by_scope false h =
        elim (lost-cases client now rows key (hung e) sound k.there refl (λ o. absurd (owned-hung client e o)) h) [
          | inl stays ↦ kept (record { lost = k.lost; owns = k.owns; keeps = k.keeps; there = stays })
          | inr owned ↦ absurd (owned-hung client e owned.1)
        ]
lost-standing s event key e client now rows holds sound is (as_was at) = by_scope (scope_eq key.scope (Association client)) refl
  where
    mine : owned_by client e ≡ true → IsLost e.client s event
    mine owned = subst (λ (c : ℕ). IsLost c s event) (sym (nat-same e.client client (of-both (e.client == client) (is_owner e) owned).0)) is

    keeps-it : (b : Bool) → owned_by client e ≡ b → (c : Bool) → e.keep ≡ c → scope_eq key.scope (Association client) ≡ false → Standing s event key e (lost client now rows)
    keeps-it true owned false free h = taken (left (record { lost = mine owned; owns = owned_owner client e owned; unkept = free }))
    keeps-it true owned true keeps h =
        elim (lost-cases client now rows key e sound at holds (λ o. keeps) h) [
          | inl stays ↦ as_was stays
          | inr is_hung ↦ kept (record { lost = mine owned; owns = owned_owner client e owned; keeps = keeps; there = is_hung.0 })
        ]
    keeps-it false other c k h =
        elim (lost-cases client now rows key e sound at holds (λ o. absurd (cc (sym other ∙ o))) h) [
          | inl stays ↦ as_was stays
          | inr is_hung ↦ absurd (cc (sym other ∙ is_hung.1))
        ]

    by_scope : (b : Bool) → scope_eq key.scope (Association client) ≡ b → Standing s event key e (lost client now rows)
    by_scope true h = taken (gone (record { client = client; scope = h; lost = is }))
    by_scope false h = keeps-it (owned_by client e) refl e.keep refl h

-- ---- octets are heard

done-none : (size invoke : ℕ) (o : Option ServiceError) (told : Option Answer) → is_done size invoke o told ≡ true → o ≡ None
done-none size invoke None told h = refl
done-none size invoke (Some refusal) told h = absurd (cc h)

module _ (count : ℕ) (s : State) (sound : IsSoundState count s) (key : Key) (e : SemEntry) (at : entry_in key e.number s.semaphores ≡ Some e) (holds : is_queued e ≡ false)
    (client : ℕ) where
  abbrev its : ClientRow
  its = row_at cell client s.clients

  abbrev old : Tables
  old = cell.tables_of s

  where_it_is : Holder key s.semaphores e
  where_it_is = holder key s.semaphores e sound.semaphores at

  module _ (octets : List ℕ) where
    abbrev After : Rows → Type 0
    After rows = Standing s (Heard client octets) key e rows

    abbrev now_are : Rows
    now_are = (step s (Heard client octets)).semaphores

    -- what the octets come to
    abbrev comes_to : Verdict
    comes_to = resolved old its (verdict its octets)

    meant_so : Meant its comes_to
    meant_so = resolved-meant old its (verdict its octets) (verdict-meant its octets)

    module _ (invoke : ℕ) (asked : Request) (is : comes_to ≡ Takes invoke asked) (served : is_served old its invoke asked ≡ true) where
      pub numbered-so : its.client ≡ client
      numbered-so = numbered-client count s client sound (admitted-open invoke its (subst (Meant its) is meant_so))

      pub refused-not : cause old its asked ≡ None
      refused-not = done-none (size_of its.association) invoke (cause old its asked) (effect old its invoke asked).answer served

      pub became : now_are ≡ (effect old its invoke asked).tables.semaphores
      became =
          ap (λ (v : Verdict). (tables_heard old its v).semaphores) is
          ∙ ap (λ (b : Bool). (if b then (effect old its invoke asked).tables else old).semaphores) served

    -- a token is taken
    module _ (invoke : ℕ) (x : TakeControl) (is : comes_to ≡ Takes invoke (request.TakeControl x)) (served : is_served old its invoke (request.TakeControl x) ≡ true) where
      abbrev taken_rows : Rows
      taken_rows = take_after its.client invoke (moment_of old) x s.semaphores

      sound-taken : AreSound taken_rows
      sound-taken = keeps_taken its.client invoke (moment_of old) x s.semaphores sound.semaphores

      taking : now_are ≡ taken_rows → After taken_rows
      taking same =
          by_key (changed-cases (with_take its.client invoke x (moment_of old)) (key_of its.client x.name) s.semaphores key e where_it_is.sem where_it_is.found at)
        where
          later : Semaphore
          later = with_take its.client invoke x (moment_of old) where_it_is.sem

          by_case : key_of its.client x.name ≡ key → Found key taken_rows later → Among (entries_in later) e ⊎ TakenFrom where_it_is.sem later its.client x.preempt (preempted_in x where_it_is.sem) e → After taken_rows
          by_case named found (inl a) = as_was (there key taken_rows later e sound-taken found a)
          by_case named found (inr from) =
              taken (preempted (record {
                client = client;
                octets = octets;
                heard = refl;
                invoke = invoke;
                asked = x;
                taken = taken_before old its (verdict its octets) invoke (request.TakeControl x) is;
                served = served;
                named = sym named ∙ ap (λ (c : ℕ). key_of c x.name) (numbered-so invoke (request.TakeControl x) is served);
                preempts = from.preempts;
                lost = from.lost;
                first = ap (preempted_found x) where_it_is.found.there ∙ ap (preempted_in x) where_it_is.found.is ∙ from.first_is;
                taker = from.taker;
                there = ap (entry_in key from.taker.number) same ∙ there key taken_rows later from.taker sound-taken found from.there;
                its = from.its ∙ numbered-so invoke (request.TakeControl x) is served;
                owns = from.owns;
                has = ap (token_held key from.taker) same ∙ held-there key taken_rows later from.taker found ∙ from.has
                    ∙ sym (held-there key s.semaphores where_it_is.sem e where_it_is.found);
              }))

          by_key : (entry_in key e.number taken_rows ≡ Some e) ⊎ ((key_of its.client x.name ≡ key) × Found key taken_rows later) → After taken_rows
          by_key (inl stays) = as_was stays
          by_key (inr h) =
              by_case h.0 h.1 (take-stays its.client invoke x (moment_of old) where_it_is.sem e where_it_is.sound where_it_is.among)

      took : After now_are
      took = by_told (take_told its.client x s.semaphores) refl
        where
          same : (o : Option TakeDone) → take_told its.client x s.semaphores ≡ o → now_are ≡ (take_outcome old its.client invoke x o).tables.semaphores
          same o told = became invoke (request.TakeControl x) is served ∙ ap (λ (q : Option TakeDone). (take_outcome old its.client invoke x q).tables.semaphores) told

          by_done : (o : Option TakeDone) → take_told its.client x s.semaphores ≡ o → After (take_outcome old its.client invoke x o).tables.semaphores
          by_done None told = as_was at
          by_done (Some (Answered answer)) told = taking (same (Some (Answered answer)) told)
          by_done (Some (Waits entry)) told = taking (same (Some (Waits entry)) told)

          by_told : (o : Option TakeDone) → take_told its.client x s.semaphores ≡ o → After now_are
          by_told o told = subst After (sym (same o told)) (by_done o told)

    -- a token is given back
    module _ (invoke : ℕ) (x : RelinquishControl) (is : comes_to ≡ Takes invoke (request.RelinquishControl x))
        (served : is_served old its invoke (request.RelinquishControl x) ≡ true) where
      abbrev given_rows : Rows
      given_rows = relinquished (key_of its.client x.name) its.client x.token (moment_of old) s.semaphores

      sound-given : AreSound given_rows
      sound-given = keeps_relinquished (key_of its.client x.name) its.client x.token (moment_of old) s.semaphores sound.semaphores

      giving : After given_rows
      giving =
          by_key (changed-cases (with_token_back its.client x.token (moment_of old)) (key_of its.client x.name) s.semaphores key e where_it_is.sem where_it_is.found at)
        where
          later : Semaphore
          later = with_token_back its.client x.token (moment_of old) where_it_is.sem

          same : its.client ≡ client
          same = numbered-so invoke (request.RelinquishControl x) is served

          by_case : key_of its.client x.name ≡ key → Found key given_rows later → Among (entries_in later) e ⊎ GivenUp where_it_is.sem its.client x.token e → After given_rows
          by_case named found (inl a) = as_was (there key given_rows later e sound-given found a)
          by_case named found (inr up) =
              taken (given_back (record {
                octets = octets;
                heard = ap (λ (c : ℕ). Heard c octets) mine;
                token = x.token;
                gives = subst (λ (c : ℕ). GivesBack s c octets key x.token) mine (record {
                  invoke = invoke;
                  asked = x;
                  named = sym named ∙ ap (λ (c : ℕ). key_of c x.name) same;
                  which = refl;
                  taken = taken_before old its (verdict its octets) invoke (request.RelinquishControl x) is;
                  served = served;
                });
                named = named-there key s.semaphores where_it_is.sem x.token where_it_is.found ∙ up.which ∙ sym (held-there key s.semaphores where_it_is.sem e where_it_is.found);
                owns = owned_owner its.client e up.owned;
              }))
            where
              mine : client ≡ e.client
              mine = sym (nat-same e.client its.client (of-both (e.client == its.client) (is_owner e) up.owned).0 ∙ same)

          by_key : (entry_in key e.number given_rows ≡ Some e) ⊎ ((key_of its.client x.name ≡ key) × Found key given_rows later) → After given_rows
          by_key (inl stays) = as_was stays
          by_key (inr h) = by_case h.0 h.1 (back-stays its.client x.token (moment_of old) where_it_is.sem e where_it_is.sound where_it_is.among holds)

      gave : After (effect old its invoke (request.RelinquishControl x)).tables.semaphores
      gave = by_grant (relinquish_granted its.client x s.semaphores)
        where
          by_grant : (o : Option (Option Granted)) → After (relinquish_outcome old its.client x o).tables.semaphores
          by_grant None = as_was at
          by_grant (Some grant) = giving

    -- each request
    done : (invoke : ℕ) (asked : Request) → comes_to ≡ Takes invoke asked → is_served old its invoke asked ≡ true → After now_are
    done invoke (request.TakeControl x) is served = took invoke x is served
    done invoke (request.RelinquishControl x) is served = subst After (sym (became invoke (request.RelinquishControl x) is served)) (gave invoke x is served)
    done invoke (request.DefineSemaphore x) is served =
        subst After (sym (became invoke (request.DefineSemaphore x) is served))
        (as_was (defined-stays its.client x s.semaphores key e sound.semaphores at
        (nothing_against (told_in own_semaphores old its (define_semaphore x)).live its.client x s.semaphores (refused-not invoke (request.DefineSemaphore x) is served))))
    done invoke (request.DeleteSemaphore x) is served =
        subst After (sym (became invoke (request.DeleteSemaphore x) is served))
        (as_was (deleted-stays its.client x s.semaphores key e sound.semaphores at (refused-not invoke (request.DeleteSemaphore x) is served)))
    done invoke asked is served = subst After (sym (became invoke asked is served)) (as_was at)

    -- the client's association ends
    closing : (its.association ≡ Idle → ⊥) → EndsIt comes_to → After (lost its.client (moment_of old) s.semaphores)
    closing opened which =
        lost-standing s (Heard client octets) key e its.client (moment_of old) s.semaphores holds sound.semaphores
        (inl (sym (numbered-client count s client sound opened), which)) (as_was at)

    heard : (v : Verdict) → comes_to ≡ v → Meant its v → After now_are
    heard (Takes invoke asked) is meant = by_test (is_served old its invoke asked) refl
      where
        by_test : (b : Bool) → is_served old its invoke asked ≡ b → After now_are
        by_test true served = done invoke asked is served
        by_test false served =
            subst After (sym (ap (λ (v : Verdict). (tables_heard old its v).semaphores) is ∙ ap (λ (b : Bool). (if b then (effect old its invoke asked).tables else old).semaphores) served)) (as_was at)
    heard (Tells effects) is meant = subst After (sym (ap (λ (v : Verdict). (tables_heard old its v).semaphores) is)) (as_was at)
    heard (Replies number came) is meant =
        subst After (sym (ap (λ (v : Verdict). (tables_heard old its v).semaphores) is)) (by_served (is_served_in old its number (reply_in number came)))
      where
        by_served : (b : Bool) → After (if b then (effect_of old its number (reply_in number came)).tables else old).semaphores
        by_served true = as_was at
        by_served false = as_was at
    heard (Exhausts invoke) is meant =
        subst After (sym (ap (λ (v : Verdict). (tables_heard old its v).semaphores) is)) (closing meant (subst EndsIt (sym is) tt))
    heard Concludes is meant = subst After (sym (ap (λ (v : Verdict). (tables_heard old its v).semaphores) is)) (closing meant (subst EndsIt (sym is) tt))
    heard (Cancels invoke) is meant = subst After (sym (ap (λ (v : Verdict). (tables_heard old its v).semaphores) is)) (by_waiting (waiting_of invoke its.waiting))
      where
        by_waiting : (o : Option Waiting) → After (tables_cancelled o old).semaphores
        by_waiting None = as_was at
        by_waiting (Some w) = as_was (cancelled-stays w.key w.entry s.semaphores key e sound.semaphores at holds)
    heard Aborts is meant = subst After (sym (ap (λ (v : Verdict). (tables_heard old its v).semaphores) is)) (closing meant (subst EndsIt (sym is) tt))

  -- ---- a client is lost

  loses : Standing s (Lost client) key e (step s (Lost client)).semaphores
  loses = by_association its.association refl
    where
      by_association : (a : IsOpen) → its.association ≡ a → Standing s (Lost client) key e (tables_lost a its.client old).semaphores
      by_association Idle is = as_was at
      by_association (Open values) is =
          let same : its.client ≡ client = numbered-client count s client sound (λ idle. cc (sym is ∙ idle)) in
          lost-standing s (Lost client) key e its.client (moment_of old) s.semaphores holds sound.semaphores (inl (sym same, values, is)) (as_was at)

-- ---- time goes by

-- one deadline more
after-more : (until : Moment) (n : ℕ) (t u v : Ticking) → after_met until n t ≡ Some u → next_met until u ≡ Some v → after_met until (suc n) t ≡ Some v
after-more until zero t u v reached next =
    let same : t ≡ u = cc reached in
    ap (option_and_then (after_met until zero)) (ap (next_met until) same ∙ next)
after-more until (suc n) t u v reached next = by_next (next_met until t) refl reached (λ w. after-more until n w u v)
  where
    by_next : (o : Option Ticking) → next_met until t ≡ o → option_and_then (after_met until n) o ≡ Some u → ((w : Ticking) → after_met until n w ≡ Some u → next_met until u ≡ Some v → after_met until (suc n) w ≡ Some v)
        → after_met until (suc (suc n)) t ≡ Some v
    by_next None e h ih = absurd (cc h)
    by_next (Some w) e h ih = ap (option_and_then (after_met until (suc n))) e ∙ ih w h next

-- the entry that is due
record Met (d : NamedDeadline) (rows : Rows) (x : Expired) : Type 0 where
  entry : SemEntry
  at : entry_in d.key d.entry rows ≡ Some entry
  client : x.client ≡ entry.client
  abort : x.abort ≡ is_owner entry && aborts entry.abort

met-entry : (d : NamedDeadline) (rows : Rows) (x : Expired) → expired d.key d.entry rows ≡ Some x → Met d rows x
met-entry d rows x is = by_row (lookup (key_eq d.key) rows) refl is
  where
    by_semaphore : (y : SemEntry) (t : Semaphore) → entry_in d.key d.entry rows ≡ Some y → expired_from y t ≡ x → Met d rows x
    by_semaphore y (Token s) at same = record { entry = y; at = at; client = ap (λ (z : Expired). z.client) (sym same); abort = ap (λ (z : Expired). z.abort) (sym same) }
    by_semaphore y (Pool p) at same = record { entry = y; at = at; client = ap (λ (z : Expired). z.client) (sym same); abort = ap (λ (z : Expired). z.abort) (sym same) }

    by_entry : (row : SemaphoreRow) → lookup (key_eq d.key) rows ≡ Some row → (o : Option SemEntry) → numbered d.entry (entries_of row) ≡ o → expired_entry row.semaphore o ≡ Some x → Met d rows x
    by_entry row found None e h = absurd (cc h)
    by_entry row found (Some y) e h =
        by_semaphore y row.semaphore (ap (λ (o : Option SemaphoreRow). option_and_then (λ row. numbered d.entry (entries_of row)) o) found ∙ e) (cc h)

    by_row : (o : Option SemaphoreRow) → lookup (key_eq d.key) rows ≡ o → option_and_then (expired_in d.entry) o ≡ Some x → Met d rows x
    by_row None e h = absurd (cc h)
    by_row (Some row) e h = by_entry row e (numbered d.entry (entries_of row)) refl h

aborts-so : (o : Option Bool) → aborts o ≡ true → o ≡ Some true
aborts-so None h = absurd (cc h)
aborts-so (Some b) h = ap Some h

module _ (s : State) (key : Key) (e : SemEntry) (holds : is_queued e ≡ false) (ms : ℕ) where
  abbrev until : Moment
  until = moment_after ms (cell.tables_of s)

  abbrev first : Ticking
  first = record { rows = s.semaphores; happened = [] }

  abbrev Stands : Rows → Type 0
  Stands rows = Standing s (Tick ms) key e rows

  -- a point of the tick
  record At (u : Ticking) : Type 0 where
    many : ℕ
    reached : after_met until many first ≡ Some u
    sound : AreSound u.rows
    stands : Stands u.rows

  module _ (u : Ticking) (here : At u) (d : NamedDeadline) (due : next_due until u.rows ≡ Some d) (x : Expired) (is : expired d.key d.entry u.rows ≡ Some x) where
    it : Met d u.rows x
    it = met-entry d u.rows x is

    abbrev later : Rows
    later = expire_after d.key d.entry d.at u.rows

    sound-then : AreSound later
    sound-then = sound-expired d.key d.entry d.at u.rows here.sound

    times : (c : SemEntry) → entry_in d.key d.entry u.rows ≡ Some c → is_queued c ≡ false → TimesOut s ms u d c
    times c at has = record { many = here.many; reached = here.reached; next = due; its = at; holds = has }

    -- its own deadline is met, or another's
    met-own : (c : SemEntry) → c.number ≡ e.number → (c ≡ e) ⊎ (c ≡ hung e) → is_queued c ≡ false → entry_in key c.number u.rows ≡ Some c → (d.key ≡ key) × (d.entry ≡ c.number) → Stands later
    met-own c same which has at own =
        let found : entry_in d.key d.entry u.rows ≡ Some c =
        ap (λ (k : Key). entry_in k d.entry u.rows) own.0 ∙ ap (λ (n : ℕ). entry_in key n u.rows) own.1 ∙ at in
        taken (timed_out (record { ms = ms; passes = refl; point = u; due = d; entry = c; times = times c found has; in_it = own.0; its = which }))

    stands-then : Stands u.rows → Stands later
    stands-then (taken cause) = taken cause
    stands-then (as_was at) =
        elim (due-cases d.key d.entry d.at u.rows key e here.sound at holds) [
          | inl stays ↦ as_was stays
          | inr own ↦ met-own e refl (inl refl) holds at own
        ]
    stands-then (kept k) =
        elim (due-cases d.key d.entry d.at u.rows key (hung e) here.sound k.there refl) [
          | inl stays ↦ kept (record { lost = k.lost; owns = k.owns; keeps = k.keeps; there = stays })
          | inr own ↦ met-own (hung e) refl (inr refl) refl k.there own
        ]

    -- an association may be aborted later
    stands-aborted : (b : Bool) → x.abort ≡ b → Stands later → Stands (after_abort b x.client d.at later)
    stands-aborted false h stands = stands
    stands-aborted true h stands =
        let tests = of-both (is_owner it.entry) (aborts it.entry.abort) (sym it.abort ∙ h) in
        lost-standing s (Tick ms) key e x.client d.at later holds sound-then
        (inr (record {
          ms = ms;
          passes = refl;
          point = u;
          due = d;
          entry = it.entry;
          times = times it.entry it.at (owner-not_queued it.entry tests.0);
          its = sym it.client;
          owns = tests.0;
          abort = aborts-so it.entry.abort tests.1;
        })) stands

    sound-aborted : (b : Bool) → AreSound (after_abort b x.client d.at later)
    sound-aborted true = keeps_lost x.client d.at later sound-then
    sound-aborted false = sound-then

    at-next : (v : Ticking) → next_met until u ≡ Some v → met_as u d x ≡ v → At v
    at-next v next same =
        subst At same (record {
          many = suc here.many;
          reached = after-more until here.many first u (met_as u d x) here.reached (next ∙ ap Some (sym same));
          sound = sound-aborted x.abort;
          stands = stands-aborted x.abort refl (stands-then here.stands);
        })

  goes-on : (u v : Ticking) → next_met until u ≡ Some v → At u → At v
  goes-on u v next here = by_due (next_due until u.rows) refl next
    where
      by_expired : (d : NamedDeadline) → next_due until u.rows ≡ Some d → (o : Option Expired) → expired d.key d.entry u.rows ≡ o → option_map (met_as u d) o ≡ Some v → At v
      by_expired d due None is h = absurd (cc h)
      by_expired d due (Some x) is h = at-next u here d due x is v next (cc h)

      by_due : (o : Option NamedDeadline) → next_due until u.rows ≡ o → option_and_then (met u) o ≡ Some v → At v
      by_due None due h = absurd (cc h)
      by_due (Some d) due h = by_expired d due (expired d.key d.entry u.rows) refl h

  passes : (count : ℕ) → IsSoundState count s → entry_in key e.number s.semaphores ≡ Some e → Stands (step s (Tick ms)).semaphores
  passes count sound at =
      subst Stands (sym (rows-then count s sound ms))
      (settle-keeps (next_met until) At goes-on (entries_left s.semaphores) first (record { many = zero; reached = refl; sound = sound.semaphores; stands = as_was at })).stands

-- ---- each event

standing : (count : ℕ) (s : State) (event : CellEvent) (key : Key) (e : SemEntry) → IsSoundState count s → entry_in key e.number s.semaphores ≡ Some e → is_queued e ≡ false
    → Standing s event key e (step s event).semaphores
standing count s (Heard client octets) key e sound at holds =
    heard count s sound key e at holds client octets (comes_to count s sound key e at holds client octets) refl (meant_so count s sound key e at holds client octets)
standing count s (Lost client) key e sound at holds = loses count s sound key e at holds client
standing count s (Tick ms) key e sound at holds = passes s key e holds ms count sound at
standing count s (Ends name) key e sound at holds = as_was at
standing count s (Drain client) key e sound at holds = as_was at

unqueued : (b : Bool) → not b ≡ true → b ≡ false
unqueued true h = absurd (cc h)
unqueued false h = refl

pub replay_lost_for : (config : Config) (history : List CellEvent) (event : CellEvent) (key : Key) (entry : SemEntry) → IsConfig config
    → entry_in key entry.number (replay config history).semaphores ≡ Some entry → holds entry ≡ true
    → HasStill (replay config history) event key entry ⊎ IsLostFor (replay config history) event key entry
replay_lost_for config history event key entry is at has =
    ends (replay config history) event key entry
    (standing (length history) (replay config history) event key entry (replay_sound config history is) at (unqueued (is_queued entry) has))

-- A token that a client gives back goes to the first that waits, or is free.
use Rattle.std.proofs.Common.{◌≡◌, ℕ, ◌≤◌, inl, Bool, true, false, not, cond, ◌&&◌, ◌||◌, List, [], ◌∷◌, ◌++◌, find, length, Option, None, Some, is_none, is_some, option_map, option_to_list, if◌then◌else◌, refl, sym, ◌∙◌, ap, subst, arith}
use Rattle.std.specs.List.{list_any}
use Rattle.std.specs.Map.{lookup}
use Rattle.mms_types.proofs.Conditions.{none_holds}
use Rattle.mms_types.specs.Errors.{first_of, object_non_existent, object_state_conflict, type_inconsistent}
use Rattle.mms_types.specs.Order.{key_eq, key_of}
use Rattle.mms_types.specs.declared.event.CellEvent.{CellEvent}
use Rattle.mms_types.specs.declared.event.CellEvent.TheVariants.{Heard}
use Rattle.mms_types.specs.declared.key.Key.{Key}
use Rattle.mms_types.specs.declared.moment.Moment.{Moment}
use Rattle.mms_types.specs.declared.pdu.Answer.{Answer}
use Rattle.mms_types.specs.declared.pdu.Request.TheVariants as request
use Rattle.mms_types.specs.declared.semaphore.RelinquishControl.{RelinquishControl}
use Rattle.mms_types.specs.declared.service_error.ServiceError.{ServiceError}
use Rattle.association.specs.Client.{ClientRow}
use Rattle.cell_config.specs.declared.config.Config.{Config}
use Rattle.cell_config.specs.Said.{IsConfig}
use Rattle.token_sem.specs.declared.entry.Grant.{Grant}
use Rattle.token_sem.specs.declared.entry.SemEntry.{SemEntry}
use Rattle.token_sem.specs.Semaphore.{IsSem, Sem, after_giving_back, heir_of, is_queued, owned_by, owner_of}
use Rattle.token_sem.proofs.Keeping.{Among, among-find}
use Rattle.token_sem.proofs.Losing.{owner-not_queued}
use Rattle.pool_sem.specs.Pools as pool
use Rattle.pool_sem.proofs.Freeing.{same-token}
use Rattle.mms_time.specs.Semaphores.{IsSound, Rows, entries_in, semaphore}
use Rattle.mms_time.specs.Services.{is_missing, place_asked, relinquish_conditions, relinquish_conditions_in, relinquish_grant_in, relinquish_grant_of, relinquished, with_token_back}
use Rattle.mms_time.specs.declared.row.Semaphore.{Semaphore}
use Rattle.mms_time.specs.declared.row.Semaphore.TheVariants.{Token, Pool}
use Rattle.mms_time.specs.declared.row.SemaphoreRow.{SemaphoreRow}
use Rattle.parted_state.specs.Served.{delivered, row_at}
use Rattle.sem_ticks.specs.Granted.{granted, relinquish_granted}
use Rattle.sem_ticks.specs.Sound.{AreSound}
use Rattle.sem_ticks.specs.declared.granted.Granted.{Granted}
use Rattle.sem_ticks.proofs.Kept.{row_found}
use Rattle.cell_client.specs.Association.{Verdict, Takes, verdict}
use Rattle.cell_client.specs.Effects.{Effect, tell}
use Rattle.cell_services.specs.Services.{cause, effect, grants_told, relinquish_outcome}
use Rattle.cell_client.specs.Requests.{is_done, size_of}
use Rattle.cell_services.specs.Serving.{also_told, is_served, own_told, resolved, tables_heard}
use Rattle.cell_services.specs.Tables.{Tables, moment_of}
use Rattle.step_sound.specs.Answered.{IsAnswered}
use Rattle.step_parts.specs.Partition.{cell}
use Rattle.step_parts.specs.State.{State, IsSound as IsSoundState}
use Rattle.step_parts.specs.Step.{replay, step}
use Rattle.step_sound.proofs.Outboxes.{given_back}
use Rattle.step_parts.proofs.PartsAfter.{step_sized}
use Rattle.step_sound.proofs.Sound.{replay_sound}
use Rattle.cell_laws.specs.Freed.{GivesBack, IsPassedOn, grant_of, held_in, named_found, named_in, token_named}
use Rattle.cell_laws.specs.Linked.{asker}
use Rattle.cell_laws.proofs.Bound.{Bound, of-both}
use Rattle.cell_laws.proofs.Bounds.{told_of}
use Rattle.cell_laws.proofs.Entries.{leaving, owned_owner}
use Rattle.cell_laws.proofs.Freeing.{Found, IsTold, found-changed, freed, gone, next_of, passes-on}
use Rattle.cell_laws.proofs.Granted.{answered-none, next-range, told-of}
use Rattle.cell_laws.proofs.Hears.{admitted-open, waits_in}
use Rattle.cell_laws.proofs.Linking.{Meant, numbered-client, verdict-meant}
use Rattle.cell_laws.proofs.Replayed.{replay_linked}

-- ---- a request that isn't refused finds a semaphore, and its client's owner entry

done-none : (size invoke : ℕ) (o : Option ServiceError) (told : Option Answer) → is_done size invoke o told ≡ true → o ≡ None
done-none size invoke None told h = refl
done-none size invoke (Some refusal) told h = absurd (cc h)

any-none : {A : Type 0} (p : A → Bool) (xs : List A) → find p xs ≡ None → list_any p xs ≡ false
any-none p [] h = refl
any-none p (x ∷ xs) h = by_test (p x) h (any-none p xs)
  where
    by_test : (b : Bool) → cond b (Some x) (find p xs) ≡ None → (find p xs ≡ None → list_any p xs ≡ false) → b || list_any p xs ≡ false
    by_test true g ih = absurd (cc g)
    by_test false g ih = ih g

-- who is named has that token
names-same : (a b : Option ℕ) → pool.names a b ≡ true → a ≡ b
names-same None b h = absurd (cc h)
names-same (Some x) None h = absurd (cc h)
names-same (Some x) (Some y) h = ap Some (same-token x y h)

-- the semaphore of the name, and the entry
record Owns (rows : Rows) (client : ℕ) (x : RelinquishControl) : Type 0 where
  sem : Semaphore
  found : Found (key_of client x.name) rows sem
  sound : IsSound sem
  owner : SemEntry
  among : Among (entries_in sem) owner
  holds : is_queued owner ≡ false
  which : named_in x.token sem ≡ held_in owner sem
  heir : relinquish_grant_in client x sem ≡ (leaving sem).heir owner (entries_in sem)
  back : (now : Moment) → with_token_back client x.token now sem ≡ freed owner now sem

owns : (rows : Rows) (client : ℕ) (x : RelinquishControl) → AreSound rows → first_of (relinquish_conditions client x (semaphore client x.name rows)) ≡ None → Owns rows client x
owns rows client x sound none = by_row (lookup (key_eq key) rows) refl none
  where
    key : Key
    key = key_of client x.name

    equal_owner : (row : SemaphoreRow) → lookup (key_eq key) rows ≡ Some row → (s : Sem) → row.semaphore ≡ Token s → IsSem s → (o : Option SemEntry) → owner_of client s.entries ≡ o
        → not (list_any (owned_by client) s.entries) ≡ false → Owns rows client x
    equal_owner row there s same is (Some owner) e h =
        let at = among-find (owned_by client) s.entries owner e in
        record {
          sem = Token s;
          found = record { row = row; there = there; is = same };
          sound = is;
          owner = owner;
          among = at.0;
          holds = owner-not_queued owner (owned_owner client owner at.1);
          which = refl;
          heir = ap (λ (o : Option SemEntry). heir_of o s.entries) e;
          back = λ now. ap (λ (o : Option SemEntry). Token (after_giving_back o now s)) e;
        }
    equal_owner row there s same is None e h = absurd (cc (sym h ∙ ap not (any-none (owned_by client) s.entries e)))

    named_owner : (row : SemaphoreRow) → lookup (key_eq key) rows ≡ Some row → (p : pool.Pool) → row.semaphore ≡ Pool p → pool.IsPool p → (o : Option SemEntry)
        → pool.owner_of client (place_asked x.token p.tokens) p.entries ≡ o → is_none o ≡ false → Owns rows client x
    named_owner row there p same is (Some owner) e h =
        let at = among-find (λ y. owned_by client y && pool.names (place_asked x.token p.tokens) y.token) p.entries owner e in
        let tests = of-both (owned_by client owner) (pool.names (place_asked x.token p.tokens) owner.token) at.1 in
        record {
          sem = Pool p;
          found = record { row = row; there = there; is = same };
          sound = is;
          owner = owner;
          among = at.0;
          holds = owner-not_queued owner (owned_owner client owner tests.0);
          which = names-same (place_asked x.token p.tokens) owner.token tests.1;
          heir = ap (λ (o : Option SemEntry). pool.heir_of o p.entries) e;
          back = λ now. ap (λ (o : Option SemEntry). Pool (pool.after_giving_back o now p)) e;
        }
    named_owner row there p same is None e h = absurd (cc h)

    by_semaphore : (row : SemaphoreRow) → lookup (key_eq key) rows ≡ Some row → (t : Semaphore) → row.semaphore ≡ t → IsSound t
        → first_of (relinquish_conditions_in client x t) ≡ None → Owns rows client x
    by_semaphore row there (Token s) same is h =
        let one = none_holds (is_some x.token) type_inconsistent ((not (list_any (owned_by client) s.entries), object_state_conflict) ∷ []) h in
        let two = none_holds (not (list_any (owned_by client) s.entries)) object_state_conflict [] one.1 in
        equal_owner row there s same is (owner_of client s.entries) refl two.0
    by_semaphore row there (Pool p) same is h =
        let last : List (Bool × ServiceError) = (is_none (pool.owner_of client (place_asked x.token p.tokens) p.entries), object_state_conflict) ∷ [] in
        let one = none_holds (is_none x.token) type_inconsistent ((is_missing x.token p.tokens, object_non_existent) ∷ last) h in
        let two = none_holds (is_missing x.token p.tokens) object_non_existent last one.1 in
        let three = none_holds (is_none (pool.owner_of client (place_asked x.token p.tokens) p.entries)) object_state_conflict [] two.1 in
        named_owner row there p same is (pool.owner_of client (place_asked x.token p.tokens) p.entries) refl three.0

    by_row : (o : Option SemaphoreRow) → lookup (key_eq key) rows ≡ o → first_of (relinquish_conditions client x o) ≡ None → Owns rows client x
    by_row None e h = absurd (cc h)
    by_row (Some row) e h = by_semaphore row e row.semaphore refl (row_found rows key row sound.each e) h

-- ---- it is given back

module _ (count : ℕ) (s : State) (sound : IsSoundState count s) (bound : Bound (asker s.semaphores) (waits_in s.clients)) (client : ℕ) (octets : List ℕ)
    (invoke : ℕ) (asked : RelinquishControl) (taken : verdict (row_at cell client s.clients) octets ≡ Takes invoke (request.RelinquishControl asked))
    (served : is_served (cell.tables_of s) (row_at cell client s.clients) invoke (request.RelinquishControl asked) ≡ true) where
  abbrev pub its : ClientRow
  its = row_at cell client s.clients

  abbrev pub old : Tables
  old = cell.tables_of s

  abbrev pub after : State
  after = step s (Heard client octets)

  refused-not : cause old its (request.RelinquishControl asked) ≡ None
  refused-not =
      done-none (size_of its.association) invoke (cause old its (request.RelinquishControl asked)) (effect old its invoke (request.RelinquishControl asked)).answer served

  has : Owns s.semaphores its.client asked
  has = owns s.semaphores its.client asked sound.semaphores refused-not

  abbrev key : Key
  key = key_of its.client asked.name

  abbrev named : Option ℕ
  named = held_in has.owner has.sem

  abbrev who : Option Grant
  who = (leaving has.sem).heir has.owner (entries_in has.sem)

  grant : relinquish_granted its.client asked s.semaphores ≡ Some (told_of s.semaphores key who)
  grant =
      ap (λ (o : Option SemaphoreRow). option_map (told_of s.semaphores key) (relinquish_grant_of its.client asked o)) has.found.there
      ∙ ap (λ (t : Semaphore). Some (told_of s.semaphores key (relinquish_grant_in its.client asked t))) has.found.is
      ∙ ap (λ (o : Option Grant). Some (told_of s.semaphores key o)) has.heir

  became : after.semaphores ≡ relinquished key its.client asked.token (moment_of old) s.semaphores
  became =
      ap (λ (v : Verdict). (tables_heard old its (resolved old its v)).semaphores) taken
      ∙ ap (λ (b : Bool). (if b then (effect old its invoke (request.RelinquishControl asked)).tables else old).semaphores) served
      ∙ ap (λ (o : Option (Option Granted)). (relinquish_outcome old its.client asked o).tables.semaphores) grant

  also : also_told old its (resolved old its (verdict its octets)) ≡ grants_told (option_to_list (told_of s.semaphores key who))
  also =
      ap (λ (v : Verdict). also_told old its (resolved old its v)) taken
      ∙ ap (λ (b : Bool). if b then (effect old its invoke (request.RelinquishControl asked)).also else []) served
      ∙ ap (λ (o : Option (Option Granted)). (relinquish_outcome old its.client asked o).also) grant

  told : (e : SemEntry) → next_of named (entries_in has.sem) ≡ Some e → IsTold after e (granted s.semaphores (key, grant_of named e))
  told e first = told-of after key s.semaphores named e range.0 (let few = range.1 in let sized = step_sized s (Heard client octets) in omega (arith, few, sized)) none answered
    where
      range : (1 ≤ e.client) × (e.client ≤ length s.clients)
      range = next-range key s.semaphores has.sem s.clients has.found has.sound bound named e first

      heir : who ≡ Some (grant_of named e)
      heir = (gone has.sem has.owner (moment_of old) has.sound has.among has.holds).heir ∙ ap (option_map (grant_of named)) first

      gets : also_told old its (resolved old its (verdict its octets)) ≡ grants_told (granted s.semaphores (key, grant_of named e) ∷ [])
      gets = also ∙ ap (λ (o : Option Grant). grants_told (option_to_list (told_of s.semaphores key o))) heir

      none : waits_in after.clients e.client e.invoke ≡ None
      none =
          ap (λ (l : List (ℕ × Effect)). waits_in (delivered cell (tell client (own_told old its (resolved old its (verdict its octets))) ++ l) s.clients) e.client e.invoke) gets
          ∙ answered-none (tell client (own_told old its (resolved old its (verdict its octets)))) (granted s.semaphores (key, grant_of named e) ∷ []) s.clients
          (granted s.semaphores (key, grant_of named e)) (inl refl)

      answered : IsAnswered after (granted s.semaphores (key, grant_of named e))
      answered =
          given_back s client octets (granted s.semaphores (key, grant_of named e)) invoke asked taken served
          (grant ∙ ap (λ (o : Option Grant). Some (told_of s.semaphores key o)) heir)

  given-on : IsPassedOn key named (moment_of old) s.semaphores after.semaphores after
  given-on =
      passes-on key (moment_of old) s.semaphores after.semaphores after has.sem has.owner has.sound has.among has.holds has.found
      (subst (λ (rows : Rows). Found key rows (freed has.owner (moment_of old) has.sem)) (sym became)
      (found-changed key s.semaphores has.sem has.found (with_token_back its.client asked.token (moment_of old)) (freed has.owner (moment_of old) has.sem) (has.back (moment_of old))))
      told

  which : token_named key asked.token s.semaphores ≡ named
  which = ap (named_found asked.token) has.found.there ∙ ap (named_in asked.token) has.found.is ∙ has.which

  -- the client of the row is that one
  numbered : its.client ≡ client
  numbered = numbered-client count s client sound (admitted-open invoke its (subst (Meant its) taken (verdict-meant its octets)))

  pub given-by : (given : Key) (token : Option (List ℕ)) → given ≡ key_of client asked.name → token ≡ asked.token
      → IsPassedOn given (token_named given token s.semaphores) (moment_of old) s.semaphores after.semaphores after
  given-by given token is same =
      subst (λ (k : Key). IsPassedOn k (token_named k token s.semaphores) (moment_of old) s.semaphores after.semaphores after)
      (ap (λ (c : ℕ). key_of c asked.name) numbered ∙ sym is)
      (subst (λ (x : Option (List ℕ)). IsPassedOn key (token_named key x s.semaphores) (moment_of old) s.semaphores after.semaphores after) (sym same)
      (subst (λ (place : Option ℕ). IsPassedOn key place (moment_of old) s.semaphores after.semaphores after) (sym which) given-on))

pub replay_given_back : (config : Config) (history : List CellEvent) (client : ℕ) (octets : List ℕ) (key : Key) (token : Option (List ℕ)) → IsConfig config
    → GivesBack (replay config history) client octets key token
    → IsPassedOn key (token_named key token (replay config history).semaphores) (record { 0 = (replay config history).now }) (replay config history).semaphores
    (step (replay config history) (Heard client octets)).semaphores (step (replay config history) (Heard client octets))
replay_given_back config history client octets key token is gives =
    given-by (length history) (replay config history) (replay_sound config history is) (replay_linked config history is).bound client octets gives.invoke gives.asked gives.taken
    gives.served key token gives.named gives.which

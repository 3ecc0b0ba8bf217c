-- A token of a client whose association ends goes to the first that waits, or is free.
use Rattle.std.proofs.Common.{◌≡◌, ℕ, zero, suc, ◌≤◌, inl, inr, Bool, true, false, not, cond, ◌==◌, ◌&&◌, List, [], ◌∷◌, ◌++◌, map, filter, length, Option, None, Some, option_map, option_to_list, refl, sym, ◌∙◌, ap, subst, arith}
use Rattle.std.specs.List.{Contains, flat_map}
use Rattle.std.specs.Map.{keys_of, lookup}
use Rattle.std.proofs.lemmas.List.Elements.{Contains-append_right}
use Rattle.std.proofs.lemmas.Map.Entries.{lookup-filter-keys}
use Rattle.std.proofs.lemmas.Map.Made.{lookup-map_values}
use Rattle.mms_types.specs.Order.{key_eq, scope_eq}
use Rattle.mms_types.specs.declared.event.CellEvent.{CellEvent}
use Rattle.mms_types.specs.declared.event.CellEvent.TheVariants.{Heard, Lost, Tick, Ends, Drain}
use Rattle.mms_types.specs.declared.key.Key.{Key}
use Rattle.mms_types.specs.declared.key.Scope.TheVariants.{Association}
use Rattle.mms_types.specs.declared.moment.Moment.{Moment}
use Rattle.association.specs.declared.negotiation.Association.{Association as IsOpen}
use Rattle.association.specs.declared.negotiation.Association.TheVariants.{Idle, Open}
use Rattle.association.specs.declared.negotiation.Negotiated.{Negotiated}
use Rattle.association.specs.declared.waiting.Waiting.{Waiting}
use Rattle.association.specs.Client.{ClientRow}
use Rattle.cell_config.specs.declared.config.Config.{Config}
use Rattle.cell_config.specs.Said.{IsConfig}
use Rattle.token_sem.specs.declared.entry.Grant.{Grant}
use Rattle.token_sem.specs.declared.entry.SemEntry.{SemEntry}
use Rattle.token_sem.specs.Semaphore.{IsSem, Loss, Sem, aborts, after_freeing, is_owner, is_queued, loss_of, without}
use Rattle.token_sem.specs.declared.entry.Expired.{Expired}
use Rattle.token_sem.proofs.Keeping.{Among}
use Rattle.token_sem.proofs.Least.{Stands}
use Rattle.token_sem.proofs.Losing.{owner-not_queued}
use Rattle.mms_time.specs.Deadlines.{NamedDeadline, expire_after}
use Rattle.mms_time.specs.Loss.{all_changed, grants_of, keyed, loss_in, lost, lost_grants, semaphore_without, sorted_keys}
use Rattle.mms_time.specs.Semaphores.{IsSound, Rows, changed_row, entries_in}
use Rattle.mms_time.specs.declared.row.Semaphore.{Semaphore}
use Rattle.mms_time.specs.declared.row.Semaphore.TheVariants.{Token, Pool}
use Rattle.mms_time.specs.declared.row.SemaphoreRow.{SemaphoreRow}
use Rattle.mms_time.proofs.TwoSteps.{each_grant, each_semaphore}
use Rattle.parted_state.specs.Served.{delivered, row_at}
use Rattle.sem_ticks.specs.Granted.{granted, lost_granted}
use Rattle.sem_ticks.specs.Sound.{AreSound}
use Rattle.sem_ticks.specs.declared.granted.Granted.{Granted}
use Rattle.sem_ticks.specs.Ticks.{Ticking, abort_told, expiry_told}
use Rattle.sem_ticks.specs.declared.ticks.Happening.TheVariants as happens
use Rattle.sem_ticks.proofs.Kept.{row_found}
use Rattle.cell_client.specs.Association.{Verdict, Concludes, Aborts, Exhausts, loss_told, verdict}
use Rattle.cell_client.specs.Effects.{Effect, tell}
use Rattle.cell_services.specs.Services.{grants_told}
use Rattle.cell_services.specs.Serving.{also_lost, also_told, own_told, resolved, tables_heard, tables_lost}
use Rattle.step_sound.specs.Answered.{EndsIt, IsAnswered}
use Rattle.step_parts.specs.Partition.{cell}
use Rattle.step_parts.specs.State.{State, IsSound as IsSoundState}
use Rattle.step_parts.specs.Step.{replay, step}
use Rattle.step_sound.proofs.Outboxes.{left_to, lost_to}
use Rattle.step_parts.proofs.PartsAfter.{step_sized}
use Rattle.step_sound.proofs.Sound.{replay_sound}
use Rattle.cell_laws.specs.Freed.{IsPassedOn, Leaves, OwnsUnkept, TimesOut, are_named, entries_at, entries_found, grant_of, named_tokens, named_tokens_found}
use Rattle.cell_laws.specs.Linked.{asker}
use Rattle.cell_laws.proofs.Bound.{Bound, both-true, cond-some, key-same}
use Rattle.cell_laws.proofs.Claims.{Single, lost-one}
use Rattle.cell_laws.proofs.ClaimsKept.{AreSingle, SingleIn, SingleMeanwhile, expired-single, next-single, replay_single}
use Rattle.cell_laws.proofs.Entries.{leaving}
use Rattle.cell_laws.proofs.Freeing.{Found, IsTold, freed, gone, next_of, passes-on, stands-contains}
use Rattle.cell_laws.proofs.Granted.{answered-none, in-range, told-of}
use Rattle.cell_laws.proofs.Happened.{sem_told}
use Rattle.cell_laws.proofs.Hears.{waits_in}
use Rattle.cell_laws.proofs.Linking.{Meanwhile, Meant, expiry-left, numbered-client, resolved-meant, verdict-meant}
use Rattle.cell_laws.proofs.Meetings.{bound-met, sound-met}
use Rattle.cell_laws.proofs.Once.{lost-waits}
use Rattle.cell_laws.proofs.Queues.{map-stands, rise, sorted-stands}
use Rattle.cell_laws.proofs.Replayed.{replay_linked}
use Rattle.cell_laws.proofs.Sent.{told-many}
use Rattle.cell_laws.proofs.TimedOut.{at_point, expiry, happens-then, is_expired, reached-keeps, told-then}

-- ---- lists

contains-among : (es : List SemEntry) (o : SemEntry) → Contains es o → Among es o
contains-among [] o h = let low = h.1 in absurd (omega (arith, low))
contains-among (e ∷ es) o (zero, low, same) = inl same
contains-among (e ∷ es) o (suc k, low, same) = inr (contains-among es o (k, omega (arith, low), same))

stands-left : {A : Type 0} (xs ys : List A) (x : A) → Stands xs x → Stands (xs ++ ys) x
stands-left [] ys x s = absurd s
stands-left (y ∷ xs) ys x (inl same) = inl same
stands-left (y ∷ xs) ys x (inr s) = inr (stands-left xs ys x s)

pub stands-right : {A : Type 0} (xs ys : List A) (x : A) → Stands ys x → Stands (xs ++ ys) x
stands-right [] ys x s = s
stands-right (y ∷ xs) ys x s = inr (stands-right xs ys x s)

flat-stands : {K A : Type 0} (f : K → List A) (ks : List K) (k : K) (x : A) → Stands ks k → Stands (f k) x → Stands (flat_map f ks) x
flat-stands f [] k x s h = absurd s
flat-stands f (l ∷ ks) k x (inl same) h = stands-left (f l) (flat_map f ks) x (subst (λ j. Stands (f j) x) (sym same) h)
flat-stands f (l ∷ ks) k x (inr s) h = stands-right (f l) (flat_map f ks) x (flat-stands f ks k x s h)

-- ---- a client is lost, in all semaphores

-- who is granted a token of one is told
pub told-stands : (key : Key) (rows : Rows) (client : ℕ) (now : Moment) (row : SemaphoreRow) → lookup (key_eq key) rows ≡ Some row
    → (g : Grant) → Stands (grants_of client now (Some row)) g → Stands (lost_granted client now rows) (granted rows (key, g))
told-stands key rows client now row there g s = map-stands (granted rows) (lost_grants client now rows) (key, g) among
  where
    among : Stands (lost_grants client now rows) (key, g)
    among =
        subst (λ (l : List (Key × Grant)). Stands l (key, g)) (each_grant client now rows (sorted_keys (keys_of rows)))
        (flat-stands (λ k. keyed k (grants_of client now (lookup (key_eq k) rows))) (sorted_keys (keys_of rows)) key (key, g) (sorted-stands rows key row there)
        (subst (λ (o : Option SemaphoreRow). Stands (keyed key (grants_of client now o)) (key, g)) (sym there)
        (map-stands (λ h. (key, h)) (grants_of client now (Some row)) g s)))

-- each who is granted a token then
abbrev pub Tells : Key → Rows → ℕ → Moment → State → Type 0
Tells key rows client now t = (token : Option ℕ) (e : SemEntry) → Stands (lost_granted client now rows) (granted rows (key, grant_of token e)) → IsTold t e (granted rows (key, grant_of token e))

-- a semaphore that isn't one of its association is by itself as it is among all
pub lost-at : (key : Key) (rows : Rows) (client : ℕ) (now : Moment) → scope_eq key.scope (Association client) ≡ false
    → lookup (key_eq key) (lost client now rows) ≡ option_map (changed_row (semaphore_without client now)) (lookup (key_eq key) rows)
lost-at key rows client now lasting =
    ap (λ (all : Rows). lookup (key_eq key) (filter (λ row. not (scope_eq row.0.scope (Association client))) all)) (sym (each_semaphore client now rows))
    ∙ lookup-filter-keys (key_eq key) (λ x. not (scope_eq x.scope (Association client))) (not (scope_eq key.scope (Association client)))
    (λ x h. ap (λ (y : Key). not (scope_eq y.scope (Association client))) (sym (key-same key x h))) (all_changed (semaphore_without client now) rows)
    ∙ ap (λ b. cond (not b) (lookup (key_eq key) (all_changed (semaphore_without client now) rows)) None) lasting
    ∙ lookup-map_values (changed_row (semaphore_without client now)) (key_eq key) rows

-- ---- equal tokens

pub record Has (key : Key) (rows : Rows) (owner : SemEntry) : Type 0 where
  pub sem : Sem
  pub found : Found key rows (Token sem)
  pub sound : IsSem sem
  pub single : Single sem.entries
  pub among : Among sem.entries owner

has-owner : (key : Key) (rows : Rows) (owner : SemEntry) → AreSound rows → AreSingle rows → are_named key rows ≡ false → Contains (entries_at key rows) owner → Has key rows owner
has-owner key rows owner sound single equal there = by_row (lookup (key_eq key) rows) refl equal there
  where
    by_semaphore : (row : SemaphoreRow) → lookup (key_eq key) rows ≡ Some row → (t : Semaphore) → row.semaphore ≡ t → IsSound t → SingleIn t → named_tokens t ≡ false
        → Contains (entries_in t) owner → Has key rows owner
    by_semaphore row found (Token s) same is one named h = record {
      sem = s;
      found = record { row = row; there = found; is = same };
      sound = is;
      single = one;
      among = contains-among s.entries owner h;
    }
    by_semaphore row found (Pool p) same is one named h = absurd (cc named)

    by_row : (o : Option SemaphoreRow) → lookup (key_eq key) rows ≡ o → named_tokens_found o ≡ false → Contains (entries_found o) owner → Has key rows owner
    by_row None e named h = let low = h.1 in absurd (omega (arith, low))
    by_row (Some row) e named h = by_semaphore row e row.semaphore refl (row_found rows key row sound.each e) (single key row e) named h

module _ (key : Key) (rows : Rows) (client : ℕ) (now : Moment) (sound : AreSound rows) (single : AreSingle rows) (owns : OwnsUnkept key rows client) where
  has : Has key rows owns.owner
  has = has-owner key rows owns.owner sound single owns.equal owns.there

  holds : is_queued owns.owner ≡ false
  holds = owner-not_queued owns.owner owns.owns

  -- its token alone is freed
  lost-its : loss_of client now has.sem.entries
      ≡ record { entries = after_freeing now (without owns.owner.number has.sem.entries); grants = option_to_list ((leaving (Token has.sem)).heir owns.owner has.sem.entries) }
  lost-its = lost-one has.sem client now owns.owner has.single has.among owns.its owns.owns owns.unkept

  then-found : Found key (lost client now rows) (freed owns.owner now (Token has.sem))
  then-found = record {
    row = changed_row (semaphore_without client now) has.found.row;
    there = lost-at key rows client now owns.lasting ∙ ap (option_map (changed_row (semaphore_without client now))) has.found.there;
    is = ap (semaphore_without client now) has.found.is ∙ ap (λ (l : Loss). Token (record has.sem { entries = l.entries })) lost-its;
  }

  granted-there : (e : SemEntry) → next_of None has.sem.entries ≡ Some e → Stands (lost_granted client now rows) (granted rows (key, grant_of None e))
  granted-there e first =
      told-stands key rows client now has.found.row has.found.there (grant_of None e) (subst (λ (l : List Grant). Stands l (grant_of None e)) (sym grants) (inl refl))
    where
      heir : (leaving (Token has.sem)).heir owns.owner has.sem.entries ≡ Some (grant_of None e)
      heir = (gone (Token has.sem) owns.owner now has.sound has.among holds).heir ∙ ap (option_map (grant_of None)) first

      grants : grants_of client now (Some has.found.row) ≡ grant_of None e ∷ []
      grants =
          ap (λ (t : Semaphore). (loss_in client now t).grants) has.found.is
          ∙ ap (λ (l : Loss). l.grants) lost-its
          ∙ ap option_to_list heir

  -- so it is passed on
  pub lost-on : (new : Rows) (t : State) → new ≡ lost client now rows → Tells key rows client now t → IsPassedOn key None now rows new t
  lost-on new t became tells =
      passes-on key now rows new t (Token has.sem) owns.owner has.sound has.among holds has.found
      (subst (λ (all : Rows). Found key all (freed owns.owner now (Token has.sem))) (sym became) then-found) (λ e first. tells None e (granted-there e first))

-- ---- its association ends

module _ (count : ℕ) (s : State) (sound : IsSoundState count s) (bound : Bound (asker s.semaphores) (waits_in s.clients)) (key : Key) where
  abbrev pub now : Moment
  now = record { 0 = s.now }

  -- its client is lost, and those who are granted a token are told
  pub record IsLost (leaver : ℕ) (event : CellEvent) : Type 0 where
    pub became : (step s event).semaphores ≡ lost leaver now s.semaphores
    pub tells : Tells key s.semaphores leaver now (step s event)

  ends : (client leaver : ℕ) (event : CellEvent) → client ≡ leaver → (own : List (ℕ × Effect)) → (step s event).semaphores ≡ lost client now s.semaphores
      → (step s event).clients ≡ delivered cell (own ++ grants_told (lost_granted client now s.semaphores)) s.clients
      → ((g : Granted) → Contains (lost_granted client now s.semaphores) g → IsAnswered (step s event) g) → IsLost leaver event
  ends client leaver event same own became told answered = subst (λ (k : ℕ). IsLost k event) same (record { became = became; tells = tells })
    where
      tells : Tells key s.semaphores client now (step s event)
      tells token e stands =
          told-of (step s event) key s.semaphores token e range.0 (let few = range.1 in let sized = step_sized s event in omega (arith, few, sized))
          (ap (λ (rows : List ClientRow). waits_in rows e.client e.invoke) told ∙ answered-none own (lost_granted client now s.semaphores) s.clients g stands)
          (answered g (stands-contains (lost_granted client now s.semaphores) g stands))
        where
          g : Granted
          g = granted s.semaphores (key, grant_of token e)

          waited : (w : Waiting) × (cond (e.client == client) None (waits_in s.clients e.client e.invoke) ≡ Some w)
          waited = lost-waits client now s.semaphores (rise s.semaphores sound.semaphores) (waits_in s.clients) bound g stands

          range : (1 ≤ e.client) × (e.client ≤ length s.clients)
          range = in-range s.clients e.client e.invoke waited.0 (cond-some (e.client == client) (waits_in s.clients e.client e.invoke) waited.0 waited.1).0

  module _ (client : ℕ) where
    abbrev pub its : ClientRow
    its = row_at cell client s.clients

    unidle : (v : Verdict) → EndsIt v → Meant its v → its.association ≡ Idle → ⊥
    unidle Concludes so m = m
    unidle Aborts so m = m
    unidle (Exhausts invoke) so m = m
    unidle other so m = absurd so

    ending : (v : Verdict) → EndsIt v → (tables_heard (cell.tables_of s) its v).semaphores ≡ lost its.client now s.semaphores
    ending Concludes so = refl
    ending Aborts so = refl
    ending (Exhausts invoke) so = refl
    ending other so = absurd so

    telling : (v : Verdict) → EndsIt v → also_told (cell.tables_of s) its v ≡ grants_told (lost_granted its.client now s.semaphores)
    telling Concludes so = refl
    telling Aborts so = refl
    telling (Exhausts invoke) so = refl
    telling other so = absurd so

    abbrev comes_to : List ℕ → Verdict
    comes_to octets = resolved (cell.tables_of s) its (verdict its octets)

    heard-ends : (leaver : ℕ) (octets : List ℕ) → client ≡ leaver → EndsIt (comes_to octets) → IsLost leaver (Heard client octets)
    heard-ends leaver octets same so =
        ends its.client leaver (Heard client octets)
        (numbered-client count s client sound (unidle (comes_to octets) so (resolved-meant (cell.tables_of s) its (verdict its octets) (verdict-meant its octets))) ∙ same)
        (tell client (own_told (cell.tables_of s) its (comes_to octets))) (ending (comes_to octets) so)
        (ap (λ (l : List (ℕ × Effect)). delivered cell (tell client (own_told (cell.tables_of s) its (comes_to octets)) ++ l) s.clients) (telling (comes_to octets) so))
        (λ g grants. left_to s client octets g so grants)

  lost-ends : (client leaver : ℕ) (values : Negotiated) → client ≡ leaver → (row_at cell client s.clients).association ≡ Open values → IsLost leaver (Lost client)
  lost-ends client leaver values same is =
      ends (row_at cell client s.clients).client leaver (Lost client) (numbered-client count s client sound (λ idle. cc (sym is ∙ idle)) ∙ same)
      (tell client (loss_told (row_at cell client s.clients).association))
      (ap (λ (a : IsOpen). (tables_lost a (row_at cell client s.clients).client (cell.tables_of s)).semaphores) is)
      (ap (λ (a : IsOpen). delivered cell (tell client (loss_told (row_at cell client s.clients).association) ++ also_lost a (row_at cell client s.clients).client (cell.tables_of s)) s.clients) is)
      (λ g grants. lost_to s client g values is grants)

  pub leaves : (event : CellEvent) (leaver : ℕ) → Leaves leaver s event → IsLost leaver event
  leaves (Heard client octets) leaver is = heard-ends client leaver octets is.0 is.1
  leaves (Lost client) leaver is = lost-ends client leaver is.1 is.0 is.2
  leaves (Tick ms) leaver is = absurd is
  leaves (Ends name) leaver is = absurd is
  leaves (Drain client) leaver is = absurd is

  pub left-on : (event : CellEvent) (leaver : ℕ) → AreSingle s.semaphores → Leaves leaver s event → OwnsUnkept key s.semaphores leaver
      → IsPassedOn key None now s.semaphores (step s event).semaphores (step s event)
  left-on event leaver single is owns =
      let end = leaves event leaver is in
      lost-on key s.semaphores leaver now sound.semaphores single owns (step s event).semaphores (step s event) end.became end.tells

pub replay_left : (config : Config) (history : List CellEvent) (event : CellEvent) (client : ℕ) (key : Key) → IsConfig config
    → Leaves client (replay config history) event → OwnsUnkept key (replay config history).semaphores client
    → IsPassedOn key None (record { 0 = (replay config history).now }) (replay config history).semaphores (step (replay config history) event).semaphores
    (step (replay config history) event)
replay_left config history event client key is left owns =
    left-on (length history) (replay config history) (replay_sound config history is) (replay_linked config history is).bound key event client (replay_single config history is) left owns

-- ---- its association is aborted where control times out

module _ (count : ℕ) (s : State) (sound : IsSoundState count s) (bound : Bound (asker s.semaphores) (waits_in s.clients)) (ms : ℕ)
    (point : Ticking) (due : NamedDeadline) (entry : SemEntry) (times : TimesOut s ms point due entry) (owner : is_owner entry ≡ true) (abort : entry.abort ≡ Some true) (key : Key) where
  abbrev pub gone_rows : Rows
  gone_rows = expire_after due.key due.entry due.at point.rows

  at : Meanwhile s.clients point
  at = at_point count s sound bound ms point due entry times

  abbrev its_expiry : Expired
  its_expiry = expiry count s sound bound ms point due entry times

  abbrev pub met_clients : List ClientRow
  met_clients = delivered cell (sem_told (expiry_told gone_rows due.key its_expiry)) (delivered cell (sem_told point.happened) s.clients)

  gone-bound : Bound (asker gone_rows) (waits_in met_clients)
  gone-bound =
      bound-met point.rows (waits_in (delivered cell (sem_told point.happened) s.clients)) (waits_in met_clients) at.bound at.sound gone_rows due.key due.entry due.at
      its_expiry (is_expired count s sound bound ms point due entry times)
      (expiry-left gone_rows due.key its_expiry (delivered cell (sem_told point.happened) s.clients))

  pub gone-sound : AreSound gone_rows
  gone-sound =
      sound-met point.rows (waits_in (delivered cell (sem_told point.happened) s.clients)) (waits_in met_clients) at.bound at.sound due.key due.entry due.at

  gone-single : AreSingle s.semaphores → AreSingle gone_rows
  gone-single single =
      expired-single due.key due.entry due.at point.rows at.sound
      (reached-keeps _ (SingleMeanwhile s.clients) (next-single s.clients _) times.many (record { rows = s.semaphores; happened = [] }) point times.reached
      (record { bound = bound; sound = sound.semaphores }, single)).1

  -- what is told of it
  abort-there : (g : Granted) → Stands (lost_granted entry.client due.at gone_rows) g
      → Contains (expiry_told gone_rows due.key its_expiry ++ abort_told (is_owner entry && aborts entry.abort) entry.client due.at gone_rows) (happens.Grants g)
  abort-there g stands =
      Contains-append_right (expiry_told gone_rows due.key its_expiry) (abort_told (is_owner entry && aborts entry.abort) entry.client due.at gone_rows) (happens.Grants g)
      (subst (λ (b : Bool). Contains (abort_told b entry.client due.at gone_rows) (happens.Grants g)) (sym (both-true (is_owner entry) (aborts entry.abort) owner (ap aborts abort)))
      (stands-contains (happens.Aborts entry.client ∷ map happens.Grants (lost_granted entry.client due.at gone_rows)) (happens.Grants g)
      (inr (map-stands happens.Grants (lost_granted entry.client due.at gone_rows) g stands))))

  pub abort-tells : Tells key gone_rows entry.client due.at (step s (Tick ms))
  abort-tells token e stands =
      told-then count s sound bound ms point due entry times key gone_rows token e (range.0, few) (happens-then count s sound bound ms point due entry times g (abort-there g stands))
    where
      g : Granted
      g = granted gone_rows (key, grant_of token e)

      waited : (w : Waiting) × (cond (e.client == entry.client) None (waits_in met_clients e.client e.invoke) ≡ Some w)
      waited = lost-waits entry.client due.at gone_rows (rise gone_rows gone-sound) (waits_in met_clients) gone-bound g stands

      range : (1 ≤ e.client) × (e.client ≤ length met_clients)
      range = in-range met_clients e.client e.invoke waited.0 (cond-some (e.client == entry.client) (waits_in met_clients e.client e.invoke) waited.0 waited.1).0

      few : e.client ≤ length s.clients
      few =
          let low = range.1 in
          let one = told-many (sem_told (expiry_told gone_rows due.key its_expiry)) (delivered cell (sem_told point.happened) s.clients) in
          let two = told-many (sem_told point.happened) s.clients in
          omega (arith, low, one, two)

  pub aborted-on : AreSingle s.semaphores → OwnsUnkept key gone_rows entry.client → IsPassedOn key None due.at gone_rows (lost entry.client due.at gone_rows) (step s (Tick ms))
  aborted-on single owns =
      lost-on key gone_rows entry.client due.at gone-sound (gone-single single) owns (lost entry.client due.at gone_rows) (step s (Tick ms)) refl abort-tells

pub replay_aborted : (config : Config) (history : List CellEvent) (ms : ℕ) (point : Ticking) (due : NamedDeadline) (entry : SemEntry) (key : Key) → IsConfig config
    → TimesOut (replay config history) ms point due entry → is_owner entry ≡ true → entry.abort ≡ Some true
    → OwnsUnkept key (expire_after due.key due.entry due.at point.rows) entry.client
    → IsPassedOn key None due.at (expire_after due.key due.entry due.at point.rows) (lost entry.client due.at (expire_after due.key due.entry due.at point.rows))
    (step (replay config history) (Tick ms))
replay_aborted config history ms point due entry key is times owner abort owns =
    aborted-on (length history) (replay config history) (replay_sound config history is) (replay_linked config history is).bound ms point due entry times owner abort key
    (replay_single config history is) owns

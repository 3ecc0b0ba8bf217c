-- After any history each client that has anything in the tables has an association.
use Rattle.std.proofs.Common.{◌≡◌, ℕ, zero, suc, ◌+◌, ◌==◌, inl, inr, Bool, true, false, List, [], ◌∷◌, ◌++◌, fold, map, Option, None, Some, option_and_then, option_map, IfSome, if◌then◌else◌, refl, sym, ◌∙◌, subst}
use Rattle.std.specs.List.{All, AllByRecursion, Contains, flat_map}
use Rattle.std.specs.Map.{keys_of, values_of}
use Rattle.std.proofs.lemmas.List.Elements.{All-from_recursion}
use Rattle.mms_types.specs.declared.asked.Asked.{Asked}
use Rattle.mms_types.specs.declared.cells.NamedCell.{NamedCell}
use Rattle.mms_types.specs.declared.cells.PoolRow.{PoolRow}
use Rattle.mms_types.specs.declared.event.CellEvent.{CellEvent}
use Rattle.mms_types.specs.declared.event.CellEvent.TheVariants.{Heard, Lost, Tick, Ends, Drain}
use Rattle.mms_types.specs.declared.key.Key.{Key}
use Rattle.mms_types.specs.declared.key.Scope.{Scope}
use Rattle.mms_types.specs.declared.key.Scope.TheVariants.{Vmd, Domain as OfDomain, Association as OfClient}
use Rattle.mms_types.specs.declared.moment.Moment.{Moment}
use Rattle.mms_types.specs.declared.pdu.Request.{Request}
use Rattle.association.specs.declared.negotiation.Association.{Association}
use Rattle.association.specs.declared.negotiation.Association.TheVariants.{Idle, Open}
use Rattle.association.specs.declared.waiting.Waiting.{Waiting}
use Rattle.association.specs.Asked.{asked_of}
use Rattle.association.specs.Client.{ClientRow}
use Rattle.token_sem.specs.Semaphore.{is_hung}
use Rattle.token_sem.specs.declared.entry.Expired.{Expired}
use Rattle.token_sem.specs.declared.entry.Grant.{Grant}
use Rattle.token_sem.specs.declared.entry.SemEntry.{SemEntry}
use Rattle.token_sem.proofs.Least.{Stands}
use Rattle.variables.specs.Start.{variable_row}
use Rattle.mms_time.specs.Deadlines.{NamedDeadline, expired, without_due}
use Rattle.mms_time.specs.Opening.{configured}
use Rattle.mms_time.specs.Semaphores.{Rows, entries_of}
use Rattle.mms_time.specs.declared.row.SemaphoreRow.{SemaphoreRow}
use Rattle.sem_ticks.specs.Granted.{lost_granted}
use Rattle.sem_ticks.specs.Sound.{AreSound}
use Rattle.sem_ticks.specs.Ticks.{expiry_told, grant_told}
use Rattle.sem_ticks.specs.declared.ticks.Happening.TheVariants as happens
use Rattle.sem_ticks.proofs.Kept.{keeps_lost, row_found}
use Rattle.event_ticks.specs.Settling.{settle}
use Rattle.event_ticks.specs.declared.ticks.TurnTold.{TurnTold}
use Rattle.event_ticks.proofs.Settling.{settle_by}
use Rattle.cell_ticks.specs.Deadlines.{evaluation, next_due}
use Rattle.cell_ticks.specs.Ticks.{begun, most_left}
use Rattle.cell_config.specs.declared.config.Config.{Config}
use Rattle.cell_config.specs.Said.{IsConfig}
use Rattle.domain_load.specs.declared.domain.Domain.{Domain}
use Rattle.domain_upload.specs.declared.upload.Upload.{Upload}
use Rattle.parted_state.specs.Served.{Done, delivered, row_at}
use Rattle.cell_client.specs.Association.{Came, Verdict, Tells, Takes, Replies, Exhausts, Concludes, Cancels, Aborts, abort_told, cancel_told, loss_told, verdict}
use Rattle.cell_client.specs.Effects.{Effect, Drains, tell}
use Rattle.cell_client.specs.Requests.{size_of}
use Rattle.serve_domains.specs.Domains.{replied_to, reply_of}
use Rattle.cell_services.specs.Requests.{among}
use Rattle.cell_services.specs.Services.{area_of, cause, effect, effect_of, grants_told, reply_in}
use Rattle.cell_services.specs.Serving.{also_lost, also_told, happening_told, is_served_in, own_told, resolved, tables_cancelled, tables_heard, tables_lost, waiting_of, without_client}
use Rattle.cell_services.specs.Tables.{Tables, moment_after, moment_of, own_domains}
use Rattle.step_parts.specs.Partition.{cell}
use Rattle.step_parts.specs.State.{IsSound, State, start}
use Rattle.step_parts.specs.Step.{replay, step}
use Rattle.step_parts.proofs.Rows.{delivered_both}
use Rattle.step_sound.proofs.Sound.{start_sound, step_sound}
use Rattle.cell_laws.specs.Associated.{HaveAssociations, IsAssociated, IsScopeOpen}
use Rattle.cell_laws.specs.InTurn as turn
use Rattle.cell_laws.specs.Linked.{waiting_at}
use Rattle.cell_laws.proofs.EachName.{Each, each_all, each_changed, each_weaker}
use Rattle.cell_laws.proofs.Enrolled.{also-unclosing, replay_clients, reply-unclosing, request-unclosing}
use Rattle.cell_laws.proofs.Freeing.{contains-stands}
use Rattle.cell_laws.proofs.Hears.{admitted-open}
use Rattle.cell_laws.proofs.Holding.{sound-expired}
use Rattle.cell_laws.proofs.InTurn.{in_turn}
use Rattle.cell_laws.proofs.Linking.{Meant, numbered-client, resolved-meant, verdict-meant}
use Rattle.cell_laws.proofs.Notices.{AreNotices, notices-both, told-notices}
use Rattle.cell_laws.proofs.Opened.{AreUnclosing, EndsOnly, IsOpenAt, ends-both, grants-unclosing, notices-unclosing, others-open, own-ends, still-open, still-unclosing, unclosing-both, unclosing-ends}
use Rattle.cell_laws.proofs.Replayed.{replay_are_linked}
use Rattle.cell_laws.proofs.ScopesKept.{each_condition}
use Rattle.cell_laws.proofs.TheirsKept.{OfKey, OfLoad, OfScope, TheirsAre, cancelled-theirs, effect-theirs, replied-theirs, theirs-lost, theirs-weaker, with-events}
use Rattle.cell_laws.proofs.Unhung.{AllRows, changed-fits, due-fits}

-- each client that has anything has an association in these rows
abbrev Hold : Tables → List ClientRow → Type 0
Hold t rows = TheirsAre (λ c. IsOpenAt c rows) t

-- whatever clients are told by which nobody's association ends
told-holds : (t : Tables) (told : List (ℕ × Effect)) (rows : List ClientRow) → AreUnclosing told → Hold t rows → Hold t (delivered cell told rows)
told-holds t told rows un are = theirs-weaker (λ c. IsOpenAt c rows) (λ c. IsOpenAt c (delivered cell told rows)) t (λ c is. still-open c told rows un is) are

-- a client is lost
lost-holds : (client : ℕ) (t : Tables) (told : List (ℕ × Effect)) (rows : List ClientRow) → AreSound t.semaphores → EndsOnly client told → Hold t rows
    → Hold (without_client client t) (delivered cell told rows)
lost-holds client t told rows sound ends are =
    theirs-lost (λ c. IsOpenAt c rows) (λ c. IsOpenAt c (delivered cell told rows)) t client (λ c apart is. others-open client c told rows apart ends is) sound are

-- ---- what is heard

module _ (count : ℕ) (s : State) (sound : IsSound count s) (are : Hold (cell.tables_of s) s.clients) (client : ℕ) where
  abbrev its : ClientRow
  its = row_at cell client s.clients

  abbrev old : Tables
  old = cell.tables_of s

  abbrev After : Tables → List (ℕ × Effect) → Type 0
  After t told = Hold t (delivered cell told s.clients)

  -- first its client is told, and then others
  in-order : (t : Tables) (own also : List (ℕ × Effect)) → Hold t (delivered cell also (delivered cell own s.clients)) → After t (own ++ also)
  in-order t own also is = subst (λ (rows : List ClientRow). Hold t rows) (sym (delivered_both own also s.clients)) is

  plain : (own also : List (ℕ × Effect)) → AreUnclosing own → AreUnclosing also → After old (own ++ also)
  plain own also a b = told-holds old (own ++ also) s.clients (unclosing-both own also a b) are

  opened : (its.association ≡ Idle → ⊥) → IsOpenAt its.client s.clients
  opened is = subst (λ (c : ℕ). IsOpenAt c s.clients) (sym (numbered-client count s client sound is)) (by_association its.association refl)
    where
      by_association : (a : Association) → its.association ≡ a → IsOpenAt client s.clients
      by_association Idle e = absurd (is e)
      by_association (Open values) e = (values, e)

  takes : (invoke : ℕ) (asked : Request) → Meant its (Takes invoke asked)
      → After (tables_heard old its (Takes invoke asked)) (tell client (own_told old its (Takes invoke asked)) ++ also_told old its (Takes invoke asked))
  takes invoke asked admitted = by_test (is_served_in old its invoke (area_of asked))
    where
      own : List (ℕ × Effect)
      own = tell client (own_told old its (Takes invoke asked))

      are_unclosing : AreUnclosing own
      are_unclosing = request-unclosing client (size_of its.association) invoke (cause old its asked) (effect old its invoke asked).answer

      told : List ClientRow
      told = delivered cell own s.clients

      by_test : (b : Bool) → After (if b then (effect old its invoke asked).tables else old) (own ++ (if b then (effect old its invoke asked).also else []))
      by_test true =
          in-order (effect old its invoke asked).tables own (effect old its invoke asked).also
          (told-holds (effect old its invoke asked).tables (effect old its invoke asked).also told (also-unclosing old its invoke asked)
          (effect-theirs (λ c. IsOpenAt c told) old sound.semaphores (told-holds old own s.clients are_unclosing are) its invoke
          (still-open its.client own s.clients are_unclosing (opened (admitted-open invoke its admitted))) asked))
      by_test false = plain own [] are_unclosing tt

  replies : (number : ℕ) (came : Came)
      → After (tables_heard old its (Replies number came)) (tell client (own_told old its (Replies number came)) ++ also_told old its (Replies number came))
  replies number came = by_test (is_served_in old its number (reply_in number came))
    where
      own : List (ℕ × Effect)
      own = tell client (own_told old its (Replies number came))

      are_unclosing : AreUnclosing own
      are_unclosing = request-unclosing client (size_of its.association) number None (effect_of old its number (reply_in number came)).answer

      also : List (ℕ × Effect)
      also = (effect_of old its number (reply_in number came)).also

      also_unclosing : AreUnclosing also
      also_unclosing = reply-unclosing its.client number came (asked_of number its.asked) old.domains

      all : Hold old (delivered cell (own ++ also) s.clients)
      all = plain own also are_unclosing also_unclosing

      by_of : (o : Option (Asked × List ℕ)) → After (among own_domains old (replied_to its.client number came o old.domains)).tables (own ++ also)
      by_of None = all
      by_of (Some of) = replied-theirs (λ c. IsOpenAt c (delivered cell (own ++ also) s.clients)) old sound.semaphores all (reply_of came of)

      by_test : (b : Bool) → After (if b then (effect_of old its number (reply_in number came)).tables else old) (own ++ (if b then (effect_of old its number (reply_in number came)).also else []))
      by_test true = by_of (asked_of number its.asked)
      by_test false = plain own [] are_unclosing tt

  gone : (its.association ≡ Idle → ⊥) → (effects : List Effect) → After (without_client its.client old) (tell client effects ++ grants_told (lost_granted its.client (moment_of old) s.semaphores))
  gone is effects =
      lost-holds its.client old (tell client effects ++ grants) s.clients sound.semaphores
      (ends-both its.client (tell client effects) grants
      (subst (λ (c : ℕ). EndsOnly c (tell client effects)) (sym (numbered-client count s client sound is)) (own-ends client effects))
      (unclosing-ends its.client grants (grants-unclosing (lost_granted its.client (moment_of old) s.semaphores)))) are
    where
      grants : List (ℕ × Effect)
      grants = grants_told (lost_granted its.client (moment_of old) s.semaphores)

  cancels : (invoke : ℕ) (o : Option Waiting) → After (tables_cancelled o old) (tell client (cancel_told invoke) ++ [])
  cancels invoke o =
      cancelled-theirs (λ c. IsOpenAt c (delivered cell (tell client (cancel_told invoke) ++ []) s.clients)) old sound.semaphores
      (plain (tell client (cancel_told invoke)) [] (tt, (tt, (tt, tt))) tt) o

  heard : (v : Verdict) → Meant its v → After (tables_heard old its v) (tell client (own_told old its v) ++ also_told old its v)
  heard (Tells effects) meant = plain (tell client effects) [] (still-unclosing client effects meant) tt
  heard (Takes invoke asked) meant = takes invoke asked meant
  heard (Replies number came) meant = replies number came
  heard (Exhausts invoke) meant = gone meant (own_told old its (Exhausts invoke))
  heard Concludes meant = gone meant (own_told old its Concludes)
  heard (Cancels invoke) meant = cancels invoke (waiting_of invoke its.waiting)
  heard Aborts meant = gone meant (own_told old its Aborts)

  loses : (a : Association) → its.association ≡ a → After (tables_lost a its.client old) (tell client (loss_told a) ++ also_lost a its.client old)
  loses Idle is = are
  loses (Open values) is = gone (λ idle. cc (sym is ∙ idle)) (loss_told (Open values))

-- ---- time goes by

turns-notices : (told : List TurnTold) → AreNotices (flat_map turn.turn_told told)
turns-notices [] = tt
turns-notices (t ∷ rest) = notices-both (turn.turn_told t) (flat_map turn.turn_told rest) (told-notices t.turned t.notices) (turns-notices rest)

module _ (clients : List ClientRow) (until : Moment) where
  record Meanwhile (d : Done Tables Effect) : Type 0 where
    sound : AreSound d.tables.semaphores
    holds : Hold d.tables (delivered cell d.told clients)

  -- what is told next
  next-told : (t : Tables) (before told : List (ℕ × Effect)) → Hold t (delivered cell told (delivered cell before clients)) → Hold t (delivered cell (before ++ told) clients)
  next-told t before told is = subst (λ (rows : List ClientRow). Hold t rows) (sym (delivered_both before told clients)) is

  module _ (a : Done Tables Effect) (is : Meanwhile a) (d : NamedDeadline) where
    abbrev now : List ClientRow
    now = delivered cell a.told clients

    evaluation-holds : Meanwhile (turn.behind a.told (turn.evaluation_met d a.tables))
    evaluation-holds = record {
      sound = is.sound;
      holds = next-told (turn.evaluation_met d a.tables).tables a.told told
          (told-holds (turn.evaluation_met d a.tables).tables told now (notices-unclosing told (turns-notices (turn.turned d a.tables).told))
          (with-events (λ c. IsOpenAt c now) (record a.tables { now = d.at.0 }) is.sound at-moment _
          (each_condition (OfKey (λ c. IsOpenAt c now)) d.key _ a.tables.events.conditions is.holds.names.conditions) is.holds.names.enrolments));
    }
      where
        told : List (ℕ × Effect)
        told = flat_map turn.turn_told (turn.turned d a.tables).told

        at-moment : Hold (record a.tables { now = d.at.0 }) now
        at-moment = record { names = is.holds.names; uploads = is.holds.uploads; loads = is.holds.loads; entries = is.holds.entries }

    module _ (x : Expired) where
      abbrev later : Tables
      later = turn.after_expiry d a.tables

      abbrev first : List (ℕ × Effect)
      first = flat_map happening_told (expiry_told later.semaphores d.key x)

      abbrev told_then : List ClientRow
      told_then = delivered cell first now

      first-unclosing : AreUnclosing first
      first-unclosing = by_waited x.waited x.grant
        where
          by_waited : (b : Bool) (o : Option Grant) → AreUnclosing (flat_map happening_told (if b then happens.WaitEnds x.client x.invoke ∷ [] else grant_told later.semaphores d.key o))
          by_waited true o = (tt, (tt, tt))
          by_waited false None = tt
          by_waited false (Some grant) = (tt, (tt, tt))

      sound-then : AreSound later.semaphores
      sound-then = sound-expired d.key d.entry d.at a.tables.semaphores is.sound

      then-holds : Hold later told_then
      then-holds = told-holds later first now first-unclosing (record {
        names = record {
          variables = is.holds.names.variables;
          lists = is.holds.names.lists;
          conditions = is.holds.names.conditions;
          enrolments = is.holds.names.enrolments;
          journals = is.holds.names.journals;
          semaphores = each_changed (OfKey (λ c. IsOpenAt c now)) (without_due d.entry d.at) d.key a.tables.semaphores is.holds.names.semaphores;
        };
        uploads = is.holds.uploads;
        loads = is.holds.loads;
        entries = changed-fits (λ c. IsOpenAt c now) (without_due d.entry d.at) d.key a.tables.semaphores
            (λ row found fits. due-fits (λ c. IsOpenAt c now) d.entry d.at row.semaphore (row_found a.tables.semaphores d.key row is.sound.each found) fits) is.holds.entries;
      })

      expiry-holds : Meanwhile (turn.behind a.told (turn.expiry_met d a.tables x))
      expiry-holds = by_abort x.abort
        where
          by_abort : (b : Bool)
              → Meanwhile (record { tables = (turn.aborts_if b x.client later).tables; told = a.told ++ (first ++ (turn.aborts_if b x.client later).told) })
          by_abort true =
              let grants : List (ℕ × Effect) = grants_told (lost_granted x.client d.at later.semaphores) in
              let told : List (ℕ × Effect) = tell x.client abort_told ++ grants in
              record {
                sound = keeps_lost x.client d.at later.semaphores sound-then;
                holds = next-told (without_client x.client later) a.told (first ++ told)
                    (subst (λ (rows : List ClientRow). Hold (without_client x.client later) rows) (sym (delivered_both first told now))
                    (lost-holds x.client later told told_then sound-then
                    (ends-both x.client (tell x.client abort_told) grants (own-ends x.client abort_told)
                    (unclosing-ends x.client grants (grants-unclosing (lost_granted x.client d.at later.semaphores)))) then-holds));
              }
          by_abort false = record {
            sound = sound-then;
            holds = next-told later a.told (first ++ []) (subst (λ (rows : List ClientRow). Hold later rows) (sym (delivered_both first [] now)) then-holds);
          }

  next-holds : (a b : Done Tables Effect) → turn.next_met until a ≡ Some b → Meanwhile a → Meanwhile b
  next-holds a b same is = by_due (next_due until a.tables.semaphores a.tables.events.conditions) same
    where
      by_expired : (d : NamedDeadline) (o : Option Expired) → option_map (turn.behind a.told) (option_map (turn.expiry_met d a.tables) o) ≡ Some b → Meanwhile b
      by_expired d None h = absurd (cc h)
      by_expired d (Some x) h = let one : turn.behind a.told (turn.expiry_met d a.tables x) ≡ b = cc h in subst Meanwhile one (expiry-holds a is d x)

      by_kind : (d : NamedDeadline) (t : Bool)
          → option_map (turn.behind a.told) (if t then Some (turn.evaluation_met d a.tables) else option_map (turn.expiry_met d a.tables) (expired d.key d.entry a.tables.semaphores)) ≡ Some b
          → Meanwhile b
      by_kind d true h = let one : turn.behind a.told (turn.evaluation_met d a.tables) ≡ b = cc h in subst Meanwhile one (evaluation-holds a is d)
      by_kind d false h = by_expired d (expired d.key d.entry a.tables.semaphores) h

      by_due : (o : Option NamedDeadline) → option_map (turn.behind a.told) (option_and_then (turn.met a.tables) o) ≡ Some b → Meanwhile b
      by_due None h = absurd (cc h)
      by_due (Some d) h = by_kind d (d.kind == evaluation) h

  all-hold : (n : ℕ) (a : Done Tables Effect) → Meanwhile a → Meanwhile (settle (turn.next_met until) n a)
  all-hold zero a is = is
  all-hold (suc n) a is = by_next (turn.next_met until a) refl (λ b. all-hold n b)
    where
      by_next : (o : Option (Done Tables Effect)) → turn.next_met until a ≡ o → ((b : Done Tables Effect) → Meanwhile b → Meanwhile (settle (turn.next_met until) n b))
          → Meanwhile (settle_by (turn.next_met until) n a o)
      by_next None e ih = is
      by_next (Some b) e ih = ih b (next-holds a b e is)

abbrev HoldsIn : State → Type 0
HoldsIn s = Hold (cell.tables_of s) s.clients

ticks : (s : State) (ms : ℕ) → AreSound s.semaphores → HoldsIn s → HoldsIn (step s (Tick ms))
ticks s ms sound are =
    subst (λ (d : Done Tables Effect). Hold d.tables (delivered cell d.told s.clients)) (sym (in_turn ms (cell.tables_of s)))
    (record { names = end.holds.names; uploads = end.holds.uploads; loads = end.holds.loads; entries = end.holds.entries })
  where
    until : Moment
    until = moment_after ms (cell.tables_of s)

    end : Meanwhile s.clients until (turn.all_met ms (cell.tables_of s))
    end =
        all-hold s.clients until (most_left until (begun s.semaphores s.events.conditions s.events.enrolments)) (record { tables = cell.tables_of s; told = [] })
        (record { sound = sound; holds = are })

-- ---- each event

holds-after : (count : ℕ) (s : State) (event : CellEvent) → IsSound count s → HoldsIn s → HoldsIn (step s event)
holds-after count s (Heard client octets) sound are =
    let row = row_at cell client s.clients in
    heard count s sound are client (resolved (cell.tables_of s) row (verdict row octets)) (resolved-meant (cell.tables_of s) row (verdict row octets) (verdict-meant row octets))
holds-after count s (Lost client) sound are = loses count s sound are client (row_at cell client s.clients).association refl
holds-after count s (Tick ms) sound are = ticks s ms sound.semaphores are
holds-after count s (Ends name) sound are = record { names = are.names; uploads = are.uploads; loads = are.loads; entries = are.entries }
holds-after count s (Drain client) sound are = told-holds (cell.tables_of s) (tell client (Drains ∷ [])) s.clients (tt, tt) are

holds-along : (count : ℕ) (s : State) (history : List CellEvent) → IsSound count s → HoldsIn s → HoldsIn (fold step s history)
holds-along count s [] sound are = are
holds-along count s (event ∷ rest) sound are = holds-along (count + 1) (step s event) rest (step_sound count s event sound) (holds-after count s event sound are)

-- ---- at the start nobody has anything

module _ (Q : ℕ → Type 0) where
  first-variables : (named : List NamedCell) → Each (OfKey Q) (map variable_row named)
  first-variables [] = tt
  first-variables (one ∷ named) = (tt, first-variables named)

  first-pools : (pools : List PoolRow) → Each (OfKey Q) (configured pools)
  first-pools [] = tt
  first-pools (pool ∷ pools) = (tt, first-pools pools)

  first-entries : (pools : List PoolRow) → AllRows Q (configured pools)
  first-entries [] = tt
  first-entries (pool ∷ pools) = (λ e s. absurd s, first-entries pools)

first-holds : (config : Config) → HoldsIn (start config)
first-holds config =
    let Q : ℕ → Type 0 = λ c. IsOpenAt c (start config).clients in
    record {
      names = record { variables = first-variables Q config.variables; lists = tt; conditions = tt; enrolments = tt; journals = tt; semaphores = first-pools Q config.pools };
      uploads = tt;
      loads = tt;
      entries = first-entries Q config.pools;
    }

-- ---- after any history

module _ (s : State) (are : HoldsIn s) where
  scopes-open : {T : Type 0} (rows : List (Key × T)) → Each (OfKey (λ c. IsOpenAt c s.clients)) rows → All (λ key. IsScopeOpen s key.scope) (keys_of rows)
  scopes-open rows each = each_all (λ key. IsScopeOpen s key.scope) rows (each_weaker (OfKey (λ c. IsOpenAt c s.clients)) (λ key. IsScopeOpen s key.scope) (λ key is. by_scope key.scope is) rows each)
    where
      by_scope : (scope : Scope) → OfScope (λ c. IsOpenAt c s.clients) scope → IsScopeOpen s scope
      by_scope (OfClient client) is = is
      by_scope Vmd is = tt
      by_scope (OfDomain name) is = tt

  loaders : (rows : List (List ℕ × Domain)) → AllByRecursion (OfLoad (λ c. IsOpenAt c s.clients)) rows → AllByRecursion (λ (d : Domain). IfSome d.loader (IsAssociated s)) (values_of rows)
  loaders [] all = tt
  loaders (row ∷ rows) all = (all.0, loaders rows all.1)

  of-entries : (es : List SemEntry) → ((e : SemEntry) → Stands es e → is_hung e ≡ false → IsAssociated s e.client) → AllByRecursion (λ (e : SemEntry). is_hung e ≡ false → IsAssociated s e.client) es
  of-entries [] all = tt
  of-entries (e ∷ es) all = (all e (inl refl), of-entries es (λ x t. all x (inr t)))

  owners : (rows : Rows) → AllRows (λ c. IsOpenAt c s.clients) rows
      → AllByRecursion (λ (row : SemaphoreRow). All (λ (e : SemEntry). is_hung e ≡ false → IsAssociated s e.client) (entries_of row)) (values_of rows)
  owners [] all = tt
  owners (row ∷ rows) all = (
    All-from_recursion (λ (e : SemEntry). is_hung e ≡ false → IsAssociated s e.client) (entries_of row.1) (of-entries (entries_of row.1) all.0),
    owners rows all.1,
  )

  -- a request that waits has a client with an association
  asker-open : ((client : ℕ) → (row_at cell client s.clients).association ≡ Idle → waiting_at s client ≡ []) → (client : ℕ) (request : Waiting) → Contains (waiting_at s client) request
      → IsAssociated s client
  asker-open closed client request waits = by_association (row_at cell client s.clients).association refl
    where
      by_association : (a : Association) → (row_at cell client s.clients).association ≡ a → IsAssociated s client
      by_association Idle e = absurd (contains-stands [] request (subst (λ (l : List Waiting). Contains l request) (closed client e) waits))
      by_association (Open values) e = (values, e)

pub replay_associated : (config : Config) (history : List CellEvent) → IsConfig config → HaveAssociations (replay config history)
replay_associated config history is =
    let s : State = replay config history in
    let are : HoldsIn s = holds-along 0 (start config) history (start_sound config is) (first-holds config) in
    record {
      variables = scopes-open s are s.variables.vars.variables are.names.variables;
      lists = scopes-open s are s.variables.lists are.names.lists;
      conditions = scopes-open s are s.events.conditions are.names.conditions;
      enrolments = scopes-open s are s.events.enrolments are.names.enrolments;
      journals = scopes-open s are s.journals are.names.journals;
      semaphores = scopes-open s are s.semaphores are.names.semaphores;
      definers = replay_clients config history is;
      loaders = All-from_recursion (λ (d : Domain). IfSome d.loader (IsAssociated s)) (values_of s.domains.domains) (loaders s are s.domains.domains are.loads);
      uploads = All-from_recursion (λ (u : Upload). IsAssociated s u.client) s.domains.uploads.rows are.uploads;
      entries = All-from_recursion (λ (row : SemaphoreRow). All (λ (e : SemEntry). is_hung e ≡ false → IsAssociated s e.client) (entries_of row)) (values_of s.semaphores)
          (owners s are s.semaphores are.entries);
      waiting = asker-open s are (replay_are_linked config history is).closed;
    }

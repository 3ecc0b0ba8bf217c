-- After any history each enrollment has its condition and its client, and each evaluation lies ahead.
use Rattle.std.proofs.Common.{◌≡◌, ℕ, ◌+◌, ◌&&◌, Bool, true, false, not, List, [], ◌∷◌, ◌++◌, filter, fold, length, Option, None, Some, option_to_list, if◌then◌else◌, refl, sym, ◌∙◌, ap, subst}
use Rattle.std.specs.Borrow.{Bor}
use Rattle.std.specs.List.{AllByRecursion, list_all, list_any}
use Rattle.std.proofs.lemmas.List.Elements.{All-from_recursion}
use Rattle.mms_types.specs.Order.{key_of, scope_eq}
use Rattle.mms_types.specs.declared.area.EventRequest.{EventRequest}
use Rattle.mms_types.specs.declared.area.EventRequest.TheVariants as asks
use Rattle.mms_types.specs.declared.asked.Asked.{Asked}
use Rattle.mms_types.specs.declared.condition.Turned.{Turned}
use Rattle.mms_types.specs.declared.event.CellEvent.{CellEvent}
use Rattle.mms_types.specs.declared.event.CellEvent.TheVariants.{Heard, Lost, Tick, Ends, Drain}
use Rattle.mms_types.specs.declared.key.Key.{Key}
use Rattle.mms_types.specs.declared.key.Scope.TheVariants.{Association as OfClient}
use Rattle.mms_types.specs.declared.pdu.Answer.{Answer}
use Rattle.mms_types.specs.declared.pdu.Request.{Request}
use Rattle.mms_types.specs.declared.pdu.Request.TheVariants as request
use Rattle.mms_types.specs.declared.service_error.ServiceError.{ServiceError}
use Rattle.association.specs.declared.negotiation.Association.{Association}
use Rattle.association.specs.declared.negotiation.Association.TheVariants.{Idle, Open}
use Rattle.association.specs.declared.waiting.Waiting.{Waiting}
use Rattle.association.specs.Asked.{asked_of}
use Rattle.association.specs.Client.{ClientRow}
use Rattle.event_cond.specs.Conditions.{Rows as Conditions}
use Rattle.event_cond.specs.Deletion as condition
use Rattle.event_cond.specs.Skips.{Saying}
use Rattle.event_enrol.specs.Enrolments.{Rows as Enrolments, has_own_names, is_of, is_on}
use Rattle.event_enrol.specs.Enrolments as enrol
use Rattle.event_enrol.specs.declared.enrolment.Enrolment.{Enrolment}
use Rattle.event_enrol.proofs.Kept.{all_left, all_more, own_names}
use Rattle.event_ticks.specs.Ticks as events
use Rattle.mms_time.specs.Services.{take_told}
use Rattle.mms_time.specs.declared.taking.TakeDone.{TakeDone}
use Rattle.mms_time.specs.declared.taking.TakeDone.TheVariants as taken
use Rattle.mms_time.specs.Deadlines.{NamedDeadline}
use Rattle.token_sem.specs.declared.entry.Expired.{Expired}
use Rattle.sem_ticks.specs.Granted.{lost_granted, relinquish_granted}
use Rattle.sem_ticks.specs.Ticks as sem
use Rattle.sem_ticks.specs.declared.granted.Granted.{Granted}
use Rattle.parted_state.specs.Served.{delivered, row_at}
use Rattle.domain_load.specs.Loading.{asked_next}
use Rattle.cell_config.specs.declared.config.Config.{Config}
use Rattle.cell_config.specs.Said.{IsConfig}
use Rattle.cell_ticks.specs.Ticks.{Ticking, aborted, begun, enrolments_without, evaluated, with_semaphores, without_clients}
use Rattle.cell_ticks.specs.declared.happening.DatedHappening.{DatedHappening}
use Rattle.cell_client.specs.Association.{Came, Verdict, Tells, Takes, Replies, Exhausts, Concludes, Cancels, Aborts, cancel_told, loss_told, other_error, verdict}
use Rattle.cell_client.specs.Effects.{Effect, Drains, tell}
use Rattle.cell_client.specs.Requests.{answer_told, fits, is_done, refuses, request_told, size_of}
use Rattle.serve_domains.specs.Domains.{asks_next, replied_to, reply_of}
use Rattle.serve_domains.specs.Tables.{DomainTables}
use Rattle.serve_events.specs.Events.{delete_conditions, delete_turns, request_in}
use Rattle.serve_events.specs.Tables.{ArePlaced, is_placed, lost}
use Rattle.serve_events.specs.declared.tables.EventTables.{EventTables}
use Rattle.serve_events.proofs.Placed.{conditions_stay, lost_keeps, named_changed, request_keeps}
use Rattle.cell_services.specs.Requests.{told_in}
use Rattle.cell_services.specs.Services.{area_of, cause, effect, effect_of, grants_told, relinquish_outcome, reply_in, take_outcome}
use Rattle.cell_services.specs.Serving.{all_told, also_lost, also_told, is_served_in, meanwhile, own_told, resolved, saying, tables_cancelled, tables_heard, tables_lost, waiting_of}
use Rattle.cell_services.specs.Tables.{Tables, moment_after, moment_of, own_events}
use Rattle.step_parts.specs.Partition.{cell}
use Rattle.step_parts.specs.State.{IsSound, State, start}
use Rattle.step_parts.specs.Step.{replay, step}
use Rattle.step_sound.proofs.ConditionsKept.{all_ahead}
use Rattle.step_sound.proofs.EventsKept.{well_before}
use Rattle.step_parts.proofs.Rows.{delivered_both}
use Rattle.step_sound.proofs.Sound.{replay_sound, start_sound, step_sound}
use Rattle.cell_laws.specs.Enrolled.{AreToCome, HaveTheirClients, HaveTheirConditions}
use Rattle.cell_laws.proofs.Happened.{at_conditions, at_semaphores, conditions-told, from_rows, keeps-ticked, sem_told, then-told, told-more}
use Rattle.cell_laws.proofs.Hears.{admitted-open}
use Rattle.cell_laws.proofs.Linking.{Meant, numbered-client, resolved-meant, verdict-meant}
use Rattle.cell_laws.proofs.Notices.{alteration-notices, deletion-notices, trigger-notices}
use Rattle.cell_laws.proofs.Opened.{AreOpen, AreUnclosing, EndsOnly, IsOpenAt, all-open, ends-both, fewer-open, grants-unclosing, happened-open, lost-open, notices-unclosing, own-ends, still-open, still-unclosing, unclosing-both, unclosing-ends}

-- ---- what holds of conditions, enrollments and clients

-- of enrollments and conditions
pub record ArePaired (t : EventTables) : Type 0 where
  pub own : list_all has_own_names t.enrolments ≡ true
  pub placed : ArePlaced t

pub record Holds (t : EventTables) (rows : List ClientRow) : Type 0 where
  pub paired : ArePaired t
  pub connected : AreOpen rows t.enrolments

-- whatever clients are told by which nobody's association ends
told-holds : (t : EventTables) (told : List (ℕ × Effect)) (rows : List ClientRow) → AreUnclosing told → Holds t rows → Holds t (delivered cell told rows)
told-holds t told rows un are = record { paired = are.paired; connected = all-open told rows t.enrolments un are.connected }

-- a client is lost
lost-paired : (client : ℕ) (t : EventTables) → ArePaired t → ArePaired (lost client t)
lost-paired client t are = record {
  own = all_left has_own_names (λ (row : Key × Enrolment). not (scope_eq row.0.scope (OfClient client))) (filter (λ (row : Key × Enrolment). not (is_of client row)) t.enrolments)
      (all_left has_own_names (λ (row : Key × Enrolment). not (is_of client row)) t.enrolments are.own);
  placed = lost_keeps t client are.own are.placed;
}

lost-holds : (client : ℕ) (t : EventTables) (told : List (ℕ × Effect)) (rows : List ClientRow) → EndsOnly client told → Holds t rows
    → Holds (lost client t) (delivered cell told rows)
lost-holds client t told rows ends are = record {
  paired = lost-paired client t are.paired;
  connected = lost-open client told rows t.enrolments ends are.connected;
}

-- ---- a request

-- as the area looks at it
abbrev seen : {X : Type 0} → X → Bor X
seen x = record { ref_ptr = (0, 0); now = x }

pub request-unclosing : (client size invoke : ℕ) (why : Option ServiceError) (told : Option Answer) → AreUnclosing (tell client (request_told size invoke why told))
request-unclosing client size invoke (Some refusal) told = (tt, tt)
request-unclosing client size invoke None None = tt
request-unclosing client size invoke None (Some answer) = by_test (fits size invoke (Some answer))
  where
    by_test : (b : Bool) → AreUnclosing (tell client (if b then answer_told invoke (Some answer) else refuses invoke other_error ∷ []))
    by_test true = (tt, tt)
    by_test false = (tt, tt)

none-refused : (size invoke : ℕ) (why : Option ServiceError) (told : Option Answer) → is_done size invoke why told ≡ true → why ≡ None
none-refused size invoke None told done = refl
none-refused size invoke (Some refusal) told done = absurd (cc done)

pub reply-unclosing : (client number : ℕ) (came : Came) (o : Option (Asked × List ℕ)) (d : DomainTables) → AreUnclosing (replied_to client number came o d).also
reply-unclosing client number came None d = tt
reply-unclosing client number came (Some of) d = (tt, next (asked_next (reply_of came of) d.domains))
  where
    next : (o : Option Asked) → AreUnclosing (asks_next client o of.1)
    next None = tt
    next (Some kind) = (tt, tt)

module _ (t : Tables) (row : ClientRow) (invoke : ℕ) where
  pub also-unclosing : (asked : Request) → AreUnclosing (effect t row invoke asked).also
  also-unclosing (request.TakeControl x) = by_done (take_told row.client x t.semaphores)
    where
      by_done : (o : Option TakeDone) → AreUnclosing (take_outcome t row.client invoke x o).also
      by_done None = tt
      by_done (Some (taken.Answered told)) = tt
      by_done (Some (taken.Waits entry)) = (tt, tt)
  also-unclosing (request.RelinquishControl x) = by_grant (relinquish_granted row.client x t.semaphores)
    where
      by_grant : (o : Option (Option Granted)) → AreUnclosing (relinquish_outcome t row.client x o).also
      by_grant None = tt
      by_grant (Some grant) = grants-unclosing (option_to_list grant)
  also-unclosing (request.InitiateDownloadSequence x) = (tt, tt)
  also-unclosing (request.DeleteEventCondition x) = notices-unclosing (effect t row invoke (request.DeleteEventCondition x)).also (deletion-notices t row invoke x)
  also-unclosing (request.AlterEventConditionMonitoring x) =
      notices-unclosing (effect t row invoke (request.AlterEventConditionMonitoring x)).also (alteration-notices t row invoke x)
  also-unclosing (request.TriggerEvent x) = notices-unclosing (effect t row invoke (request.TriggerEvent x)).also (trigger-notices t row invoke x)
  also-unclosing asked = tt

  module _ (rows : List ClientRow) (there : IsOpenAt row.client rows) (are : Holds t.events rows) where
    paired-by : (x : EventRequest) → list_all has_own_names ((request_in x).effect (told_in own_events t row (request_in x)) t.events row invoke).tables.enrolments ≡ true
        → (request_in x).cause (told_in own_events t row (request_in x)) t.events row ≡ None
        → ArePaired ((request_in x).effect (told_in own_events t row (request_in x)) t.events row invoke).tables
    paired-by x own none = record {
      own = own;
      placed = request_keeps (told_in own_events t row (request_in x)) t.events row invoke are.paired.placed x none;
    }

    effect-holds : (asked : Request) → cause t row asked ≡ None → Holds (effect t row invoke asked).tables.events rows
    effect-holds (request.TakeControl x) none = by_done (take_told row.client x t.semaphores)
      where
        by_done : (o : Option TakeDone) → Holds (take_outcome t row.client invoke x o).tables.events rows
        by_done None = are
        by_done (Some (taken.Answered told)) = are
        by_done (Some (taken.Waits entry)) = are
    effect-holds (request.RelinquishControl x) none = by_grant (relinquish_granted row.client x t.semaphores)
      where
        by_grant : (o : Option (Option Granted)) → Holds (relinquish_outcome t row.client x o).tables.events rows
        by_grant None = are
        by_grant (Some grant) = are
    effect-holds (request.DefineEventCondition x) none = record {
      paired = paired-by (asks.DefineEventCondition (seen x)) are.paired.own none;
      connected = are.connected;
    }
    effect-holds (request.DeleteEventCondition x) none = record {
      paired = paired-by (asks.DeleteEventCondition (seen x)) (all_left has_own_names (λ (r : Key × Enrolment). not (list_any (λ (turn : Turned). is_on turn.condition r) turns)) t.events.enrolments are.paired.own) none;
      connected = fewer-open (λ (r : Key × Enrolment). not (list_any (λ (turn : Turned). is_on turn.condition r) turns)) rows t.events.enrolments are.connected;
    }
      where
        turns : List Turned
        turns = delete_turns row.client (told_in own_events t row (delete_conditions x)).now x t.events
    effect-holds (request.AlterEventConditionMonitoring x) none = record {
      paired = paired-by (asks.AlterEventConditionMonitoring (seen x)) are.paired.own none;
      connected = are.connected;
    }
    effect-holds (request.TriggerEvent x) none = record {
      paired = paired-by (asks.TriggerEvent (seen x)) are.paired.own none;
      connected = are.connected;
    }
    effect-holds (request.DefineEventEnrollment x) none = record {
      paired = paired-by (asks.DefineEventEnrollment (seen x)) (all_more has_own_names t.events.enrolments new are.paired.own (own_names row.client x.name x.condition new.0 new.1 refl refl refl)) none;
      connected = more t.events.enrolments are.connected;
    }
      where
        new : Key × Enrolment
        new = (key_of row.client x.name, record { client = row.client; condition = key_of row.client x.condition; transitions = x.transitions; rule = x.rule })

        more : (enrolments : Enrolments) → AreOpen rows enrolments → AreOpen rows (enrolments ++ new ∷ [])
        more [] all = (there, tt)
        more (first ∷ rest) all = (all.0, more rest all.1)
    effect-holds (request.DeleteEventEnrollment x) none = record {
      paired = paired-by (asks.DeleteEventEnrollment (seen x)) (all_left has_own_names (λ (r : Key × Enrolment). not (enrol.is_deleted row.client x r)) t.events.enrolments are.paired.own) none;
      connected = fewer-open (λ (r : Key × Enrolment). not (enrol.is_deleted row.client x r)) rows t.events.enrolments are.connected;
    }
    effect-holds asked none = are

-- ---- what is heard

module _ (count : ℕ) (s : State) (sound : IsSound count s) (are : Holds s.events s.clients) (client : ℕ) where
  abbrev its : ClientRow
  its = row_at cell client s.clients

  abbrev old : Tables
  old = cell.tables_of s

  abbrev After : EventTables → List (ℕ × Effect) → Type 0
  After t told = Holds t (delivered cell told s.clients)

  -- first its client is told, and then others
  in-order : (t : EventTables) (own also : List (ℕ × Effect)) → Holds t (delivered cell also (delivered cell own s.clients)) → After t (own ++ also)
  in-order t own also is = subst (λ (rows : List ClientRow). Holds t rows) (sym (delivered_both own also s.clients)) is

  plain : (own also : List (ℕ × Effect)) → AreUnclosing own → AreUnclosing also → After s.events (own ++ also)
  plain own also a b = told-holds s.events (own ++ also) s.clients (unclosing-both own also a b) are

  opened : (its.association ≡ Idle → ⊥) → IsOpenAt its.client s.clients
  opened is = subst (λ (c : ℕ). IsOpenAt c s.clients) (sym (numbered-client count s client sound is)) (by_association its.association refl)
    where
      by_association : (a : Association) → its.association ≡ a → IsOpenAt client s.clients
      by_association Idle e = absurd (is e)
      by_association (Open values) e = (values, e)

  takes : (invoke : ℕ) (asked : Request) → Meant its (Takes invoke asked)
      → After (tables_heard old its (Takes invoke asked)).events (tell client (own_told old its (Takes invoke asked)) ++ also_told old its (Takes invoke asked))
  takes invoke asked admitted = by_test (is_served_in old its invoke (area_of asked)) refl
    where
      own : List (ℕ × Effect)
      own = tell client (own_told old its (Takes invoke asked))

      are_unclosing : AreUnclosing own
      are_unclosing = request-unclosing client (size_of its.association) invoke (cause old its asked) (effect old its invoke asked).answer

      told : List ClientRow
      told = delivered cell own s.clients

      by_test : (b : Bool) → is_served_in old its invoke (area_of asked) ≡ b
          → After (if b then (effect old its invoke asked).tables else old).events (own ++ (if b then (effect old its invoke asked).also else []))
      by_test true done =
          in-order (effect old its invoke asked).tables.events own (effect old its invoke asked).also
          (told-holds (effect old its invoke asked).tables.events (effect old its invoke asked).also told (also-unclosing old its invoke asked)
          (effect-holds old its invoke told (still-open its.client own s.clients are_unclosing (opened (admitted-open invoke its admitted)))
          (told-holds s.events own s.clients are_unclosing are) asked
          (none-refused (size_of its.association) invoke (cause old its asked) (effect old its invoke asked).answer done)))
      by_test false done = plain own [] are_unclosing tt

  replies : (number : ℕ) (came : Came)
      → After (tables_heard old its (Replies number came)).events (tell client (own_told old its (Replies number came)) ++ also_told old its (Replies number came))
  replies number came = by_test (is_served_in old its number (reply_in number came))
    where
      own : List (ℕ × Effect)
      own = tell client (own_told old its (Replies number came))

      are_unclosing : AreUnclosing own
      are_unclosing = request-unclosing client (size_of its.association) number None (effect_of old its number (reply_in number came)).answer

      by_test : (b : Bool) → After (if b then (effect_of old its number (reply_in number came)).tables else old).events (own ++ (if b then (effect_of old its number (reply_in number came)).also else []))
      by_test true = plain own (effect_of old its number (reply_in number came)).also are_unclosing (reply-unclosing its.client number came (asked_of number its.asked) old.domains)
      by_test false = plain own [] are_unclosing tt

  gone : (its.association ≡ Idle → ⊥) → (effects : List Effect) → After (lost its.client s.events) (tell client effects ++ grants_told (lost_granted its.client (moment_of old) s.semaphores))
  gone is effects =
      lost-holds its.client s.events (tell client effects ++ grants) s.clients
      (ends-both its.client (tell client effects) grants
      (subst (λ (c : ℕ). EndsOnly c (tell client effects)) (sym (numbered-client count s client sound is)) (own-ends client effects))
      (unclosing-ends its.client grants (grants-unclosing (lost_granted its.client (moment_of old) s.semaphores)))) are
    where
      grants : List (ℕ × Effect)
      grants = grants_told (lost_granted its.client (moment_of old) s.semaphores)

  cancels : (invoke : ℕ) (o : Option Waiting) → After (tables_cancelled o old).events (tell client (cancel_told invoke) ++ [])
  cancels invoke None = plain (tell client (cancel_told invoke)) [] (tt, (tt, (tt, tt))) tt
  cancels invoke (Some request) = plain (tell client (cancel_told invoke)) [] (tt, (tt, (tt, tt))) tt

  heard : (v : Verdict) → Meant its v → After (tables_heard old its v).events (tell client (own_told old its v) ++ also_told old its v)
  heard (Tells effects) meant = plain (tell client effects) [] (still-unclosing client effects meant) tt
  heard (Takes invoke asked) meant = takes invoke asked meant
  heard (Replies number came) meant = replies number came
  heard (Exhausts invoke) meant = gone meant (own_told old its (Exhausts invoke))
  heard Concludes meant = gone meant (own_told old its Concludes)
  heard (Cancels invoke) meant = cancels invoke (waiting_of invoke its.waiting)
  heard Aborts meant = gone meant (own_told old its Aborts)

  loses : (a : Association) → its.association ≡ a → After (tables_lost a its.client old).events (tell client (loss_told a) ++ also_lost a its.client old)
  loses Idle is = are
  loses (Open values) is = gone (λ idle. cc (sym is ∙ idle)) (loss_told (Open values))

-- ---- time goes by

clients-paired : (clients : List ℕ) (conditions : Conditions) (enrolments : Enrolments) → ArePaired (record { conditions = conditions; enrolments = enrolments })
    → ArePaired (record { conditions = without_clients clients conditions; enrolments = enrolments_without clients enrolments })
clients-paired [] conditions enrolments are = are
clients-paired (client ∷ clients) conditions enrolments are =
    clients-paired clients (condition.without_client client conditions) (enrol.without_client client enrolments)
    (lost-paired client (record { conditions = conditions; enrolments = enrolments }) are)

record Meanwhile (clients : List ClientRow) (u : Ticking) : Type 0 where
  paired : ArePaired (record { conditions = u.conditions; enrolments = u.enrolments })
  connected : AreOpen (delivered cell (all_told u.happened) clients) u.enrolments

module _ (cells : Saying) (clients : List ClientRow) where
  one-met : (u : Ticking) (d : NamedDeadline) (x : Expired) → Meanwhile clients u → Meanwhile clients (with_semaphores u d.at (sem.met_as (from_rows u.semaphores) d x))
  one-met u d x are = record {
    paired = clients-paired (aborted after.happened) u.conditions u.enrolments are.paired;
    connected = subst (λ (rows : List ClientRow). AreOpen rows (enrolments_without (aborted after.happened) u.enrolments)) (sym so)
        (happened-open after.happened (delivered cell (all_told u.happened) clients) u.enrolments are.connected);
  }
    where
      after : sem.Ticking
      after = sem.met_as (from_rows u.semaphores) d x

      so : delivered cell (all_told (u.happened ++ at_semaphores d.at after.happened)) clients ≡ delivered cell (sem_told after.happened) (delivered cell (all_told u.happened) clients)
      so =
          ap (λ (l : List (ℕ × Effect)). delivered cell l clients) (then-told u.happened d.at after.happened)
          ∙ delivered_both (all_told u.happened) (sem_told after.happened) clients

  one-evaluated : (u : Ticking) (d : NamedDeadline) → Meanwhile clients u → Meanwhile clients (evaluated cells u d)
  one-evaluated u d are = record {
    paired = record {
      own = are.paired.own;
      placed = conditions_stay u.conditions after.conditions u.enrolments (named_changed d.key _ u.conditions) are.paired.placed;
    };
    connected = subst (λ (rows : List ClientRow). AreOpen rows u.enrolments) (sym so)
        (all-open (all_told turns) (delivered cell (all_told u.happened) clients) u.enrolments (notices-unclosing (all_told turns) (conditions-told d.at after.told)) are.connected);
  }
    where
      after : events.Ticking
      after = events.evaluated cells (events.begun u.conditions u.enrolments []) (d.at, d.key)

      turns : List DatedHappening
      turns = at_conditions d.at after.told

      so : delivered cell (all_told (u.happened ++ turns)) clients ≡ delivered cell (all_told turns) (delivered cell (all_told u.happened) clients)
      so = ap (λ (l : List (ℕ × Effect)). delivered cell l clients) (told-more u.happened turns) ∙ delivered_both (all_told u.happened) (all_told turns) clients

ticks : (s : State) (ms : ℕ) → Holds s.events s.clients → Holds (step s (Tick ms)).events (step s (Tick ms)).clients
ticks s ms are = record { paired = at-end.paired; connected = at-end.connected }
  where
    cells : Saying
    cells = saying s.variables

    at-end : Meanwhile s.clients (meanwhile ms (cell.tables_of s))
    at-end =
        keeps-ticked cells (moment_after ms (cell.tables_of s)) (Meanwhile s.clients) (λ u d x due is here. one-met cells s.clients u d x here) (one-evaluated cells s.clients)
        (begun s.semaphores s.events.conditions s.events.enrolments) (record { paired = are.paired; connected = are.connected })

-- ---- each event

abbrev HoldsIn : State → Type 0
HoldsIn s = Holds s.events s.clients

holds-after : (count : ℕ) (s : State) (event : CellEvent) → IsSound count s → HoldsIn s → HoldsIn (step s event)
holds-after count s (Heard client octets) sound are =
    let row = row_at cell client s.clients in
    heard count s sound are client (resolved (cell.tables_of s) row (verdict row octets)) (resolved-meant (cell.tables_of s) row (verdict row octets) (verdict-meant row octets))
holds-after count s (Lost client) sound are = loses count s sound are client (row_at cell client s.clients).association refl
holds-after count s (Tick ms) sound are = ticks s ms are
holds-after count s (Ends name) sound are = are
holds-after count s (Drain client) sound are = told-holds s.events (tell client (Drains ∷ [])) s.clients (tt, tt) are

holds-along : (count : ℕ) (s : State) (history : List CellEvent) → IsSound count s → HoldsIn s → HoldsIn (fold step s history)
holds-along count s [] sound are = are
holds-along count s (event ∷ rest) sound are = holds-along (count + 1) (step s event) rest (step_sound count s event sound) (holds-after count s event sound are)

replay-holds : (config : Config) (history : List CellEvent) → IsConfig config → HoldsIn (replay config history)
replay-holds config history is =
    holds-along 0 (start config) history (start_sound config is) (record { paired = record { own = refl; placed = refl }; connected = tt })

pub replay_conditions : (config : Config) (history : List CellEvent) → IsConfig config → HaveTheirConditions (replay config history)
replay_conditions config history is =
    All-from_recursion _ (replay config history).events.enrolments (by_list (replay config history).events.enrolments (replay-holds config history is).paired.placed)
  where
    by_list : (enrolments : Enrolments) → list_all (is_placed (replay config history).events.conditions) enrolments ≡ true
        → AllByRecursion (λ row. is_placed (replay config history).events.conditions row ≡ true) enrolments
    by_list [] all = tt
    by_list (row ∷ rest) all = by_first (is_placed (replay config history).events.conditions row) refl all (by_list rest)
      where
        by_first : (b : Bool) → is_placed (replay config history).events.conditions row ≡ b
            → (b && list_all (is_placed (replay config history).events.conditions) rest) ≡ true
            → (list_all (is_placed (replay config history).events.conditions) rest ≡ true
            → AllByRecursion (λ row. is_placed (replay config history).events.conditions row ≡ true) rest)
            → AllByRecursion (λ row. is_placed (replay config history).events.conditions row ≡ true) (row ∷ rest)
        by_first true e h later = (e, later h)
        by_first false e h later = absurd (cc h)

pub replay_clients : (config : Config) (history : List CellEvent) → IsConfig config → HaveTheirClients (replay config history)
replay_clients config history is =
    All-from_recursion (λ (row : Key × Enrolment). IsOpenAt row.1.client (replay config history).clients) (replay config history).events.enrolments (replay-holds config history is).connected

-- it is so of each state that is sound
pub replay_to_come : (config : Config) (history : List CellEvent) → IsConfig config → AreToCome (replay config history)
replay_to_come config history is =
    let s : State = replay config history in
    all_ahead (record { 0 = s.now }) s.events.conditions (well_before (length history) s (replay_sound config history is))

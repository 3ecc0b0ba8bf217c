-- After any history the requests that were taken since an association opened are answered, or wait.
use Rattle.std.proofs.Common.{◌≡◌, ℕ, ◌+◌, ◌⊎◌, inl, inr, Bool, true, false, cond, ◌==◌, ◌&&◌, ◌||◌, List, [], ◌∷◌, ◌++◌, fold, Option, None, Some, is_some, if◌then◌else◌, refl, sym, ◌∙◌, ap, subst, arith}
use Rattle.std.proofs.lemmas.List.Elements.{All-from_recursion}
use Rattle.mms_types.specs.declared.event.CellEvent.{CellEvent}
use Rattle.mms_types.specs.declared.event.CellEvent.TheVariants.{Heard, Lost, Tick, Ends, Drain}
use Rattle.mms_types.specs.declared.event.What.{What}
use Rattle.mms_types.specs.declared.event.What.TheVariants.{Octets, Abort}
use Rattle.mms_types.specs.declared.pdu.Pdu.{Pdu}
use Rattle.mms_types.specs.declared.pdu.Pdu.TheVariants as pdu
use Rattle.mms_pdu.specs.Answering.{is_answer, HasUnsigned32}
use Rattle.mms_pdu.specs.Pdus.{pdu_octets}
use Rattle.association.specs.declared.negotiation.Association.TheVariants.{Idle, Open}
use Rattle.association.specs.declared.negotiation.Negotiated.{Negotiated}
use Rattle.association.specs.declared.waiting.Waiting.{Waiting}
use Rattle.association.specs.Client.{ClientRow}
use Rattle.association.specs.Waiting.{is_waiting}
use Rattle.cell_config.specs.declared.config.Config.{Config}
use Rattle.cell_config.specs.Said.{IsConfig}
use Rattle.parted_state.specs.Served.{row_at, reached, delivered}
use Rattle.cell_client.specs.Association.{Verdict, Tells, Takes, Replies, Exhausts, Concludes, Cancels, Aborts, sends, verdict}
use Rattle.cell_client.specs.Effects.{Effect, Sends, Opens, Drains, tell}
use Rattle.cell_ticks.specs.Ticks.{begun}
use Rattle.cell_services.specs.Serving.{all_told, also_told, meanwhile, own_told, resolved, saying, waiting_of}
use Rattle.cell_services.specs.Tables.{Tables, moment_after}
use Rattle.step_parts.specs.Partition.{cell}
use Rattle.step_parts.specs.State.{State, IsSound, start}
use Rattle.step_parts.specs.Step.{step, replay}
use Rattle.step_sound.proofs.Sound.{start_sound, step_sound}
use Rattle.cell_laws.specs.Linked.{asker}
use Rattle.cell_laws.specs.Tally.{Account, HaveOneAnswerEach, AreSpelled, account, account_after, is_opening, opens, sent_to, taken_by, taken_from, told_in}
use Rattle.cell_laws.proofs.Answering.{cancels-fair, ends-fair, exhausts-fair, loses-fair, replies-fair, takes-fair}
use Rattle.cell_laws.proofs.Bound.{Bound, nat-same}
use Rattle.cell_laws.proofs.Counted.{answers-small, octets-counted, small-along}
use Rattle.cell_laws.proofs.Counting.{many, many-counts}
use Rattle.cell_laws.proofs.Events.{Told, resolved-told, verdict-told}
use Rattle.cell_laws.proofs.Fair.{IsIdle, IsQuiet, Outcome, Unopening, bit, idle-stays, many-append, none_taken, one_of, piece-abort, piece-drains, piece-quiet, spelled-append, waits}
use Rattle.cell_laws.proofs.Hears.{reached-still, row-other, waits_in}
use Rattle.cell_laws.proofs.Linking.{Linked, Meant, linked_step, numbered-client, resolved-meant, verdict-meant}
use Rattle.cell_laws.proofs.Passing.{fair-ticked, told-unopening}
use Rattle.cell_laws.proofs.Replayed.{linked-start, none-at-first, none-unopened}
use Rattle.cell_laws.proofs.Verdicts.{by-tables}

-- what was taken is answered, or waits, or there is no association
pub record Settled (c : ℕ) (clients : List ClientRow) (taken : List ℕ) (sent : List What) : Type 0 where
  pub pdus : List Pdu
  pub spelled : AreSpelled sent pdus
  pub balance : (i : ℕ) → many (λ j. i == j) taken ≡ many (is_answer i) pdus + waits clients c i

abbrev Kept : ℕ → List ClientRow → List ℕ → List What → Type 0
Kept c clients taken sent = Settled c clients taken sent ⊎ IsIdle c clients

abbrev After : ℕ → List (ℕ × Effect) → List ClientRow → List ℕ → List What → List ℕ → Type 0
After c told clients taken sent more =
    Kept c (delivered cell told clients) ((if opens c told then [] else taken) ++ more) ((if opens c told then [] else sent) ++ sent_to c clients told)

opens-none : (c : ℕ) (told : List (ℕ × Effect)) → Unopening told → opens c told ≡ false
opens-none c [] un = refl
opens-none c (t ∷ told) un = by_tests (c == t.0) (is_opening t.1) un.0 (opens-none c told un.1)
  where
    by_tests : (a b : Bool) → b ≡ false → opens c told ≡ false → (a && b) || opens c told ≡ false
    by_tests true true e h = absurd (cc e)
    by_tests true false e h = h
    by_tests false b e h = h

kept-more : (c : ℕ) (told : List (ℕ × Effect)) (clients : List ClientRow) (taken : List ℕ) (sent : List What) (more : List ℕ) (t : ℕ → ℕ) → ((i : ℕ) → t i ≡ many (λ j. i == j) more)
    → Outcome c told clients t × Unopening told → Kept c clients taken sent → After c told clients taken sent more
kept-more c told clients taken sent more t counted fair kept =
    subst (λ (b : Bool). Kept c (delivered cell told clients) ((if b then [] else taken) ++ more) ((if b then [] else sent) ++ sent_to c clients told)) (sym (opens-none c told fair.1)) (by_parts kept fair.0)
  where
    by_parts : Kept c clients taken sent → Outcome c told clients t → Kept c (delivered cell told clients) (taken ++ more) (sent ++ sent_to c clients told)
    by_parts (inr idle) outcome = inr (idle-stays told c clients fair.1 idle)
    by_parts (inl was) (inr idle) = inr idle
    by_parts (inl was) (inl new) = inl (record {
      pdus = was.pdus ++ new.pdus;
      spelled = spelled-append sent (sent_to c clients told) was.pdus new.pdus was.spelled new.spelled;
      balance = λ i.
          let a = was.balance i in
          let b = new.balance i in
          let e = counted i in
          let f = many-append (λ j. i == j) taken more in
          let g = many-append (is_answer i) was.pdus new.pdus in
          omega (arith, a, b, e, f, g);
    })

-- an association opens
kept-opened : (c client : ℕ) (values : Negotiated) (p : Pdu) (clients : List ClientRow) (taken : List ℕ) (sent : List What) (more : List ℕ) → more ≡ [] → IsQuiet p
    → ((i : ℕ) → waits_in clients client i ≡ None) → Kept c clients taken sent → After c ((client, Opens values) ∷ (client, sends p) ∷ []) clients taken sent more
kept-opened c client values p clients taken sent more none quiet new kept = by_test (c == client) refl
  where
    done : List ClientRow
    done = reached cell client (sends p) (reached cell client (Opens values) clients)

    still : (i : ℕ) → waits_in done c i ≡ waits_in clients c i
    still i = reached-still (sends p) tt client (reached cell client (Opens values) clients) c i ∙ reached-still (Opens values) tt client clients c i

    nothing : {A : Type 0} (xs : List A) → xs ≡ xs ++ []
    nothing [] = refl
    nothing (x ∷ xs) = ap (λ l. x ∷ l) (nothing xs)

    by_test : (b : Bool) → (c == client) ≡ b → After c ((client, Opens values) ∷ (client, sends p) ∷ []) clients taken sent more
    by_test true e =
        subst (λ (t : Bool). Kept c done ((if ((t && true) || ((t && false) || false)) then [] else taken) ++ more)
        ((if ((t && true) || ((t && false) || false)) then [] else sent) ++ ((if t then [] else []) ++ ((if t then Octets (pdu_octets p) ∷ [] else []) ++ [])))) (sym e)
        (inl (record {
          pdus = p ∷ [];
          spelled = (refl, refl);
          balance = λ i.
              let gone : many (λ j. i == j) more ≡ 0 = ap (many (λ j. i == j)) none in
              let one : bit (is_answer i p) ≡ 0 = ap bit (quiet i) in
              let later : waits done c i ≡ 0 = ap (λ (o : Option Waiting). bit (is_some o)) (still i ∙ ap (λ (d : ℕ). waits_in clients d i) (nat-same c client e) ∙ new i) in
              omega (arith, gone, one, later);
        }))
    by_test false e =
        subst (λ (t : Bool). Kept c done ((if ((t && true) || ((t && false) || false)) then [] else taken) ++ more)
        ((if ((t && true) || ((t && false) || false)) then [] else sent) ++ ((if t then [] else []) ++ ((if t then Octets (pdu_octets p) ∷ [] else []) ++ [])))) (sym e)
        (by_kept kept)
      where
        same : row_at cell c done ≡ row_at cell c clients
        same = row-other (sends p) client c (reached cell client (Opens values) clients) e ∙ row-other (Opens values) client c clients e

        by_kept : Kept c clients taken sent → Kept c done (taken ++ more) (sent ++ [])
        by_kept (inr idle) = inr (subst (λ (row : ClientRow). row.association ≡ Idle) (sym same) idle)
        by_kept (inl was) = inl (record {
          pdus = was.pdus;
          spelled = subst (λ (l : List What). AreSpelled l was.pdus) (nothing sent) was.spelled;
          balance = λ i.
              let gone : many (λ j. i == j) (taken ++ more) ≡ many (λ j. i == j) taken = ap (λ (l : List ℕ). many (λ j. i == j) (taken ++ l)) none ∙ ap (many (λ j. i == j)) (sym (nothing taken)) in
              let a = was.balance i in
              let later : waits done c i ≡ waits clients c i = ap (λ (o : Option Waiting). bit (is_some o)) (still i) in
              omega (arith, gone, a, later);
        })

-- ---- one event

append-nil : {A : Type 0} (xs : List A) → xs ++ [] ≡ xs
append-nil [] = refl
append-nil (x ∷ xs) = ap (λ l. x ∷ l) (append-nil xs)

none-counted : (b : Bool) → cond {A = List ℕ} b [] [] ≡ []
none-counted true = refl
none-counted false = refl

found-waits : (invoke : ℕ) (ws : List Waiting) → is_waiting invoke ws ≡ true → (w : Waiting) × (waiting_of invoke ws ≡ Some w)
found-waits invoke [] h = absurd (cc h)
found-waits invoke (x ∷ ws) h = by_test (x.invoke == invoke) (found-waits invoke ws) h
  where
    by_test : (b : Bool) → (is_waiting invoke ws ≡ true → (w : Waiting) × (waiting_of invoke ws ≡ Some w)) → b || is_waiting invoke ws ≡ true → (w : Waiting) × (cond b (Some x) (waiting_of invoke ws) ≡ Some w)
    by_test true ih g = (x, refl)
    by_test false ih g = ih g

-- what the tables show doesn't make a request one that isn't taken
taken-resolved : (t : Tables) (row : ClientRow) (v : Verdict) → taken_by (resolved t row v) ≡ taken_by v
taken-resolved t row v = by-tables (λ w. taken_by w ≡ taken_by v) t row (λ invoke asked is. is) (λ number came is. is) (λ is. is) v refl

module _ (count : ℕ) (s : State) (sound : IsSound count s) (bound : Bound (asker s.semaphores) (waits_in s.clients)) (c : ℕ) (taken : List ℕ) (sent : List What) (kept : Kept c s.clients taken sent) where
  -- of a verdict by which none is taken
  none-taken : (b : Bool) (i : ℕ) → none_taken i ≡ many (λ j. i == j) (cond {A = List ℕ} b [] [])
  none-taken true i = refl
  none-taken false i = refl

  -- and of one by which a request is
  counted : (invoke i : ℕ) (b : Bool) → bit (b && i == invoke) ≡ many (λ j. i == j) (if b then invoke ∷ [] else [])
  counted invoke i true = omega arith
  counted invoke i false = refl

  heard-kept : (client : ℕ) (v : Verdict) → Meant (row_at cell client s.clients) v → Told (row_at cell client s.clients) v
      → After c (tell client (own_told (cell.tables_of s) (row_at cell client s.clients) v) ++ also_told (cell.tables_of s) (row_at cell client s.clients) v) s.clients taken sent
      (if c == client then taken_by v else [])
  heard-kept client (Tells effects) meant (inl silent) =
      subst (λ (l : List (ℕ × Effect)). After c l s.clients taken sent (if c == client then [] else [])) (sym (append-nil (tell client effects)))
      (kept-more c (tell client effects) s.clients taken sent (if c == client then [] else []) none_taken (none-taken (c == client)) (silent c client s.clients) kept)
  heard-kept client (Tells effects) meant (inr opening) =
      subst (λ (es : List Effect). After c (tell client es ++ []) s.clients taken sent (if c == client then [] else [])) (sym opening.are)
      (kept-opened c client opening.values opening.answer s.clients taken sent (if c == client then [] else []) (none-counted (c == client)) opening.quiet
      (λ i. ap (waiting_of i) (none-unopened count s sound client opening.idle)) kept)
  heard-kept client (Takes invoke asked) meant told =
      kept-more c _ s.clients taken sent (if c == client then invoke ∷ [] else []) (one_of client invoke c) (λ i. counted invoke i (c == client))
      (takes-fair count s sound bound client c invoke asked meant) kept
  heard-kept client (Replies number came) meant told =
      kept-more c _ s.clients taken sent (if c == client then [] else []) none_taken (none-taken (c == client)) (replies-fair count s sound bound client c number came) kept
  heard-kept client (Exhausts invoke) meant told =
      kept-more c _ s.clients taken sent (if c == client then invoke ∷ [] else []) (one_of client invoke c) (λ i. counted invoke i (c == client))
      (exhausts-fair count s sound bound client c invoke (numbered-client count s client sound meant)) kept
  heard-kept client Concludes meant told =
      kept-more c _ s.clients taken sent (if c == client then [] else []) none_taken (none-taken (c == client))
      (ends-fair count s sound bound client c (sends pdu.ConcludeResponse) refl (λ rows. piece-quiet c client pdu.ConcludeResponse rows (λ i. refl))
      (λ d i. reached-still (sends pdu.ConcludeResponse) tt client s.clients d i) (numbered-client count s client sound meant)) kept
  heard-kept client (Cancels invoke) meant told =
      let found = found-waits invoke (row_at cell client s.clients).waiting told in
      kept-more c _ s.clients taken sent (if c == client then [] else []) none_taken (none-taken (c == client)) (cancels-fair count s sound bound client c invoke found.0 found.1) kept
  heard-kept client Aborts meant told =
      kept-more c _ s.clients taken sent (if c == client then [] else []) none_taken (none-taken (c == client))
      (ends-fair count s sound bound client c (Sends Abort) refl (λ rows. piece-abort c client rows)
      (λ d i. reached-still (Sends Abort) tt client s.clients d i) (numbered-client count s client sound meant)) kept

  event-kept : (event : CellEvent) → After c (told_in s event) s.clients taken sent (taken_from c s event)
  event-kept (Heard client octets) =
      let row = row_at cell client s.clients in
      let t = cell.tables_of s in
      let v = verdict row octets in
      subst (λ (l : List ℕ). After c (told_in s (Heard client octets)) s.clients taken sent (if c == client then l else [])) (taken-resolved t row v)
      (heard-kept client (resolved t row v) (resolved-meant t row v (verdict-meant row octets)) (resolved-told t row v (verdict-told row octets)))
  event-kept (Lost client) = kept-more c _ s.clients taken sent [] none_taken (λ i. refl) (loses-fair count s sound bound client c (row_at cell client s.clients).association refl) kept
  event-kept (Tick ms) =
      kept-more c (all_told (meanwhile ms (cell.tables_of s)).happened) s.clients taken sent [] none_taken (λ i. refl) (
        (fair-ticked c s.clients (saying s.variables) (moment_after ms (cell.tables_of s)) (begun s.semaphores s.events.conditions s.events.enrolments)
            (record { link = record { bound = bound; sound = sound.semaphores }; fair = inl (record { pdus = []; spelled = refl; balance = λ i. refl }) })).fair,
        told-unopening (meanwhile ms (cell.tables_of s)).happened,
      ) kept
  event-kept (Ends name) = kept-more c [] s.clients taken sent [] none_taken (λ i. refl) (inl (record { pdus = []; spelled = refl; balance = λ i. refl }), tt) kept
  event-kept (Drain client) = kept-more c ((client, Drains) ∷ []) s.clients taken sent [] none_taken (λ i. refl) (inl (piece-drains c client s.clients), (refl, tt)) kept

-- ---- all events

kept-along : (c count : ℕ) (a : Account) (history : List CellEvent) → IsSound count a.state → Linked a.state → Kept c a.state.clients a.taken a.sent
    → Kept c (fold (account_after c) a history).state.clients (fold (account_after c) a history).taken (fold (account_after c) a history).sent
kept-along c count a [] sound linked kept = kept
kept-along c count a (event ∷ rest) sound linked kept =
    kept-along c (count + 1) (account_after c a event) rest (step_sound count a.state event sound) (linked_step count a.state event sound linked)
    (event-kept count a.state sound linked.bound c a.taken a.sent kept event)

state-along : (c : ℕ) (a : Account) (history : List CellEvent) → (fold (account_after c) a history).state ≡ fold step a.state history
state-along c a [] = refl
state-along c a (event ∷ rest) = state-along c (account_after c a event) rest

pub waits-is : (i : ℕ) (ws : List Waiting) → is_some (waiting_of i ws) ≡ is_waiting i ws
waits-is i [] = refl
waits-is i (w ∷ ws) = by_test (w.invoke == i) (waits-is i ws)
  where
    by_test : (b : Bool) → is_some (waiting_of i ws) ≡ is_waiting i ws → is_some (cond b (Some w) (waiting_of i ws)) ≡ b || is_waiting i ws
    by_test true ih = refl
    by_test false ih = ih

pub replay_answered : (config : Config) (history : List CellEvent) (client : ℕ) (values : Negotiated) → IsConfig config
    → (row_at cell client (replay config history).clients).association ≡ Open values → HaveOneAnswerEach client (replay config history) (account config history client).taken (account config history client).sent
replay_answered config history client values is open_now =
    by_kept (subst (λ (s : State). Kept client s.clients (account config history client).taken (account config history client).sent)
    (state-along client (record { state = start config; taken = []; sent = [] }) history)
    (kept-along client 0 (record { state = start config; taken = []; sent = [] }) history (start_sound config is) (linked-start config) first))
  where
    first : Kept client (start config).clients [] []
    first = inl (record {
      pdus = [];
      spelled = refl;
      balance = λ i.
          let none : waits (start config).clients client i ≡ 0 = ap (λ (ws : List Waiting). bit (is_some (waiting_of i ws))) (none-at-first config client) in
          omega (arith, none);
    })

    by_kept : Kept client (replay config history).clients (account config history client).taken (account config history client).sent
        → HaveOneAnswerEach client (replay config history) (account config history client).taken (account config history client).sent
    by_kept (inr idle) = absurd (cc (sym open_now ∙ idle))
    by_kept (inl was) =
        let small = small-along client (record { state = start config; taken = []; sent = [] }) history tt in
        let unsigned = answers-small (account config history client).taken was.pdus small (λ i. let a = was.balance i in omega (arith, a)) in
        record {
          pdus = was.pdus;
          spelled = was.spelled;
          unsigned = All-from_recursion HasUnsigned32 was.pdus unsigned;
          answers = λ i. many (is_answer i) was.pdus;
          told = λ i. octets-counted i (account config history client).sent was.pdus was.spelled unsigned;
          balance = λ i.
              let a = was.balance i in
              let taken = many-counts (λ j. i == j) (account config history client).taken in
              let b : waits (replay config history).clients client i ≡ bit (is_waiting i (row_at cell client (replay config history).clients).waiting) =
              ap bit (waits-is i (row_at cell client (replay config history).clients).waiting) in
              omega (arith, a, b, taken);
        }

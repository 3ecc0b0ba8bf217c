-- Each event answers what was taken and what waited, but for what waits then.
use Rattle.std.proofs.Common.{◌≡◌, ℕ, ◌+◌, inl, inr, Bool, true, false, cond, ◌==◌, ◌&&◌, List, [], ◌∷◌, ◌++◌, Option, None, Some, is_some, option_map, option_to_list, if◌then◌else◌, refl, sym, ◌∙◌, ap, subst, arith}
use Rattle.std.specs.Map.{lookup}
use Rattle.mms_types.specs.Errors.{first_of}
use Rattle.mms_types.specs.Order.{key_eq, key_of}
use Rattle.mms_types.specs.declared.asked.Asked.{Asked}
use Rattle.mms_types.specs.declared.asked.Asked.TheVariants as asks
use Rattle.mms_types.specs.declared.event.What.TheVariants.{Octets, Abort}
use Rattle.mms_types.specs.declared.key.Key.{Key}
use Rattle.mms_types.specs.declared.pdu.Answer.{Answer}
use Rattle.mms_types.specs.declared.pdu.Answer.TheVariants as answer
use Rattle.mms_types.specs.declared.pdu.Pdu.{Pdu}
use Rattle.mms_types.specs.declared.pdu.Pdu.TheVariants as pdu
use Rattle.mms_types.specs.declared.pdu.Request.{Request}
use Rattle.mms_types.specs.declared.pdu.Request.TheVariants as request
use Rattle.mms_types.specs.declared.semaphore.RelinquishControl.{RelinquishControl}
use Rattle.mms_types.specs.declared.semaphore.TakeControl.{TakeControl}
use Rattle.mms_types.specs.declared.service_error.ServiceError.{ServiceError}
use Rattle.mms_pdu.specs.Answering.{is_answer}
use Rattle.mms_pdu.specs.Pdus.{pdu_octets}
use Rattle.association.specs.declared.negotiation.Association.{Association}
use Rattle.association.specs.declared.negotiation.Association.TheVariants.{Idle, Open}
use Rattle.association.specs.declared.waiting.Waiting.{Waiting}
use Rattle.association.specs.Asked.{asked_of}
use Rattle.association.specs.Client.{ClientRow}
use Rattle.domain_load.specs.Loading.{asked_next}
use Rattle.serve_domains.specs.Domains.{asks_next, replied_to, reply_of}
use Rattle.serve_domains.specs.Tables.{DomainTables}
use Rattle.token_sem.specs.declared.entry.Grant.{Grant}
use Rattle.token_sem.proofs.Least.{Stands}
use Rattle.mms_time.specs.Semaphores.{Rows}
use Rattle.mms_time.specs.Services.{relinquish_cause, relinquish_conditions, relinquish_grant_in, relinquish_grant_of, take_cause, take_conditions, take_told, take_told_of}
use Rattle.mms_time.specs.declared.row.SemaphoreRow.{SemaphoreRow}
use Rattle.mms_time.specs.declared.taking.TakeDone.{TakeDone}
use Rattle.mms_time.specs.declared.taking.TakeDone.TheVariants as taken
use Rattle.parted_state.specs.Served.{row_at, reached}
use Rattle.sem_ticks.specs.Granted.{lost_granted, relinquish_granted}
use Rattle.sem_ticks.specs.Sound.{AreSound}
use Rattle.sem_ticks.specs.declared.granted.Granted.{Granted}
use Rattle.sem_ticks.proofs.Kept.{row_found}
use Rattle.cell_client.specs.Areas.{AnswersOrWaitsIn, OutcomeIn}
use Rattle.cell_client.specs.Association.{Came, Takes, Replies, Exhausts, Cancels, sends, confirmed_error, cancel_error, loss_told, other_error}
use Rattle.cell_client.specs.Effects.{Effect, Sends, Closes, Waits, Answers, Asks, Settles, tell}
use Rattle.cell_services.specs.Services.{cause, effect, grants_told, relinquish_outcome, take_outcome}
use Rattle.cell_client.specs.Requests.{answer_told, fits, is_done, refuses, request_told, size_of}
use Rattle.cell_services.specs.Serving.{also_lost, also_told, own_told}
use Rattle.cell_services.specs.Tables.{Tables, moment_of}
use Rattle.step_sound.proofs.Answering.{settled}
use Rattle.step_parts.specs.Partition.{cell}
use Rattle.step_parts.specs.State.{State, IsSound}
use Rattle.cell_laws.specs.Linked.{asker}
use Rattle.cell_laws.specs.Tally.{AreSpelled, is_opening}
use Rattle.cell_laws.proofs.Bound.{Bound, nat-same}
use Rattle.cell_laws.proofs.Bounds.{given-back, told_of}
use Rattle.cell_laws.proofs.Counting.{many}
use Rattle.cell_laws.proofs.Events.{fair-grants, unopening-grants}
use Rattle.cell_laws.proofs.Fair.{Fair, IsAnswerTo, Outcome, bit, waits, Unopening, join, none_taken, one_of, piece-abort, piece-asks, piece-closes, piece-own, piece-settles, piece-waits}
use Rattle.cell_laws.proofs.Hears.{IsAdmitted, admitted-open, reached-answered, reached-closed, reached-still, waits_in}
use Rattle.cell_laws.proofs.Linking.{numbered-client}
use Rattle.cell_laws.proofs.Notices.{AreNotices, alteration-notices, deletion-notices, notices-fair, notices-unopening, trigger-notices}
use Rattle.cell_laws.proofs.Once.{AnswerApart, lost-apart, lost-waits}
use Rattle.cell_laws.proofs.Queues.{asker_in, rise}

pub retake : (c : ℕ) (told : List (ℕ × Effect)) (rows : List ClientRow) (t u : ℕ → ℕ) → ((i : ℕ) → t i ≡ u i) → Outcome c told rows t → Outcome c told rows u
retake c told rows t u same (inl fair) = inl (record { pdus = fair.pdus; spelled = fair.spelled; balance = λ i. let e = same i in let b = fair.balance i in omega (arith, e, b) })
retake c told rows t u same (inr idle) = inr idle

-- ---- a request that isn't refused has an answer, or waits

answer-there : (client invoke : ℕ) (o : OutcomeIn Tables) → AnswersOrWaitsIn client invoke o → o.also ≡ [] → is_some o.answer ≡ true
answer-there client invoke o (inl (told, is, none)) alone = ap (λ (a : Option Answer). is_some a) is
answer-there client invoke o (inr (request, same, is, also)) alone = absurd (cc (sym also ∙ alone))

pub take-there : (client : ℕ) (x : TakeControl) (o : Option SemaphoreRow) → first_of (take_conditions client x o) ≡ None → take_told_of x o ≡ None → ⊥
take-there client x None h g = cc h
take-there client x (Some row) h g = cc g

abbrev pub relinquish_given : Rows → ℕ → RelinquishControl → Option SemaphoreRow → Option (Option Granted)
relinquish_given rows client x o = option_map (told_of rows (key_of client x.name)) (relinquish_grant_of client x o)

pub relinquish-there : (rows : Rows) (client : ℕ) (x : RelinquishControl) (o : Option SemaphoreRow) → first_of (relinquish_conditions client x o) ≡ None → relinquish_given rows client x o ≡ None → ⊥
relinquish-there rows client x None h g = cc h
relinquish-there rows client x (Some row) h g = cc g

-- who is granted a token that is given back is queued
pub given-asks : (rows : Rows) → AreSound rows → (client : ℕ) (x : RelinquishControl) (o : Option Granted) → relinquish_granted client x rows ≡ Some o
    → (g : Granted) → Stands (option_to_list o) g → (entry : ℕ) × (asker rows (key_of client x.name) entry ≡ Some (g.client, g.invoke))
given-asks rows sound client x o is g s = by_row (lookup (key_eq key) rows) refl is
  where
    key : Key
    key = key_of client x.name

    by_grant : (row : SemaphoreRow) → lookup (key_eq key) rows ≡ Some row → (p : Option Grant) → relinquish_grant_in client x row.semaphore ≡ p
        → Stands (option_to_list (told_of rows key p)) g → (entry : ℕ) × (asker rows key entry ≡ Some (g.client, g.invoke))
    by_grant row e None f t = absurd t
    by_grant row e (Some gr) f (inl same) = (
      gr.entry,
      ap (asker_in gr.entry) e
          ∙ (given-back client x (record { 0 = 0 }) row.semaphore (row_found rows key row sound.each e)).each gr (subst (λ (q : Option Grant). Stands (option_to_list q) gr) (sym f) (inl refl))
          ∙ ap (λ (y : Granted). Some (y.client, y.invoke)) same,
    )
    by_grant row e (Some gr) f (inr t) = absurd t

    by_row : (p : Option SemaphoreRow) → lookup (key_eq key) rows ≡ p → relinquish_given rows client x p ≡ Some o → (entry : ℕ) × (asker rows key entry ≡ Some (g.client, g.invoke))
    by_row None e h = absurd (cc h)
    by_row (Some row) e h =
        let same : told_of rows key (relinquish_grant_in client x row.semaphore) ≡ o = cc h in
        by_grant row e (relinquish_grant_in client x row.semaphore) refl (subst (λ (p : Option Granted). Stands (option_to_list p) g) (sym same) s)

-- ---- what is heard

module _ (count : ℕ) (s : State) (sound : IsSound count s) (bound : Bound (asker s.semaphores) (waits_in s.clients)) (client c : ℕ) where
  abbrev its : ClientRow
  its = row_at cell client s.clients

  abbrev old : Tables
  old = cell.tables_of s

  abbrev pub Answered : List (ℕ × Effect) → (ℕ → ℕ) → Type 0
  Answered told t = Outcome c told s.clients t × Unopening told

  -- a request is answered at once, and nothing else is told
  answered : (invoke : ℕ) (p : Pdu) → IsAnswerTo invoke p → Answered (tell client (sends p ∷ []) ++ []) (one_of client invoke c)
  answered invoke p is = (inl (piece-own c client invoke p s.clients is), (refl, tt))

  plain : (invoke : ℕ) (o : Option Answer) (also : List (ℕ × Effect)) → is_some o ≡ true → also ≡ [] → Answered (tell client (answer_told invoke o) ++ also) (one_of client invoke c)
  plain invoke None also there none = absurd (cc there)
  plain invoke (Some a) also there none =
      subst (λ (l : List (ℕ × Effect)). Answered (tell client (answer_told invoke (Some a)) ++ l) (one_of client invoke c)) (sym none) (answered invoke (pdu.ConfirmedResponse invoke a) (λ i. refl))

  taking : (invoke : ℕ) (x : TakeControl) → IsAdmitted invoke its → its.client ≡ client → (o : Option TakeDone) → take_told its.client x s.semaphores ≡ o → take_cause its.client x s.semaphores ≡ None
      → Answered (tell client (answer_told invoke (take_outcome old its.client invoke x o).answer) ++ (take_outcome old its.client invoke x o).also) (one_of client invoke c)
  taking invoke x may is None told none = absurd (take-there its.client x (lookup (key_eq (key_of its.client x.name)) s.semaphores) none told)
  taking invoke x may is (Some (taken.Answered a)) told none = answered invoke (pdu.ConfirmedResponse invoke (answer.TakeControl a)) (λ i. refl)
  taking invoke x may is (Some (taken.Waits entry)) told none =
      let mine : IsAdmitted invoke (row_at cell its.client s.clients) = subst (λ (k : ℕ). IsAdmitted invoke (row_at cell k s.clients)) (sym is) may in
      let w : Waiting = record { invoke = invoke; key = key_of its.client x.name; entry = entry } in (
        retake c ((its.client, Waits w) ∷ []) s.clients (one_of its.client invoke c) (one_of client invoke c) (λ i. ap (λ (k : ℕ). one_of k invoke c i) is)
            (inl (piece-waits c its.client w s.clients mine)),
        (refl, tt),
      )

  giving : (invoke : ℕ) (x : RelinquishControl) (o : Option (Option Granted)) → relinquish_granted its.client x s.semaphores ≡ o → relinquish_cause its.client x s.semaphores ≡ None
      → Answered (tell client (answer_told invoke (relinquish_outcome old its.client x o).answer) ++ (relinquish_outcome old its.client x o).also) (one_of client invoke c)
  giving invoke x None told none = absurd (relinquish-there s.semaphores its.client x (lookup (key_eq (key_of its.client x.name)) s.semaphores) none told)
  giving invoke x (Some grant) told none = (
    retake c (tell client (sends own ∷ []) ++ grants_told (option_to_list grant)) s.clients (λ i. one_of client invoke c i + none_taken i) (one_of client invoke c) (λ i. omega arith)
        (join c (tell client (sends own ∷ [])) (grants_told (option_to_list grant)) s.clients (one_of client invoke c) none_taken (unopening-grants (option_to_list grant))
        (inl (piece-own c client invoke own s.clients (λ i. refl)))
        (fair-grants c (option_to_list grant) (reached cell client (sends own) s.clients) (apart grant)
        (λ g t.
        let asks = given-asks s.semaphores sound.semaphores its.client x grant told g t in
        (_, reached-still (sends own) tt client s.clients g.client g.invoke ∙ bound.waiting (key_of its.client x.name) asks.0 g.client g.invoke asks.1)))),
    (refl, unopening-grants (option_to_list grant)),
  )
    where
      own : Pdu
      own = pdu.ConfirmedResponse invoke answer.RelinquishControl

      apart : (o : Option Granted) → AnswerApart (option_to_list o)
      apart None = tt
      apart (Some g) = (refl, tt)

  -- a load is answered, and its first segment is asked for
  downloading : (invoke : ℕ) (domain : List ℕ)
      → Answered ((client, sends (pdu.ConfirmedResponse invoke answer.InitiateDownloadSequence)) ∷ (its.client, Asks asks.Segment domain) ∷ []) (one_of client invoke c)
  downloading invoke domain = (
    retake c ((client, sends own) ∷ (its.client, Asks asks.Segment domain) ∷ []) s.clients (λ i. one_of client invoke c i + none_taken i) (one_of client invoke c) (λ i. omega arith)
        (join c ((client, sends own) ∷ []) ((its.client, Asks asks.Segment domain) ∷ []) s.clients (one_of client invoke c) none_taken (refl, tt)
        (inl (piece-own c client invoke own s.clients (λ i. refl)))
        (inl (piece-asks c its.client asks.Segment domain (reached cell client (sends own) s.clients)))),
    (refl, (refl, tt)),
  )
    where
      own : Pdu
      own = pdu.ConfirmedResponse invoke answer.InitiateDownloadSequence

  -- a request is answered, and transitions of conditions are told
  turning : (invoke : ℕ) (o : Option Answer) (also : List (ℕ × Effect)) → is_some o ≡ true → AreNotices also → Answered (tell client (answer_told invoke o) ++ also) (one_of client invoke c)
  turning invoke None also there are = absurd (cc there)
  turning invoke (Some a) also there are = (
    retake c ((client, sends own) ∷ also) s.clients (λ i. one_of client invoke c i + none_taken i) (one_of client invoke c) (λ i. omega arith)
        (join c ((client, sends own) ∷ []) also s.clients (one_of client invoke c) none_taken (notices-unopening also are)
        (inl (piece-own c client invoke own s.clients (λ i. refl))) (notices-fair c also (reached cell client (sends own) s.clients) are)),
    (refl, notices-unopening also are),
  )
    where
      own : Pdu
      own = pdu.ConfirmedResponse invoke a

  doing : (invoke : ℕ) (asked : Request) → IsAdmitted invoke its → its.client ≡ client → cause old its asked ≡ None
      → Answered (tell client (answer_told invoke (effect old its invoke asked).answer) ++ (effect old its invoke asked).also) (one_of client invoke c)
  doing invoke (request.TakeControl x) may is none = taking invoke x may is (take_told its.client x s.semaphores) refl none
  doing invoke (request.RelinquishControl x) may is none = giving invoke x (relinquish_granted its.client x s.semaphores) refl none
  doing invoke (request.InitiateDownloadSequence x) may is none = downloading invoke x.domain
  doing invoke (request.DeleteEventCondition x) may is none =
      let does : OutcomeIn Tables = effect old its invoke (request.DeleteEventCondition x) in turning invoke does.answer does.also refl (deletion-notices old its invoke x)
  doing invoke (request.AlterEventConditionMonitoring x) may is none =
      let does : OutcomeIn Tables = effect old its invoke (request.AlterEventConditionMonitoring x) in turning invoke does.answer does.also refl (alteration-notices old its invoke x)
  doing invoke (request.TriggerEvent x) may is none =
      let does : OutcomeIn Tables = effect old its invoke (request.TriggerEvent x) in turning invoke does.answer does.also refl (trigger-notices old its invoke x)
  doing invoke asked may is none =
      plain invoke (effect old its invoke asked).answer (effect old its invoke asked).also
      (answer-there its.client invoke (effect old its invoke asked) (settled old its invoke sound.uploads asked none) refl) refl

  pub takes-fair : (invoke : ℕ) (asked : Request) → IsAdmitted invoke its → Answered (tell client (own_told old its (Takes invoke asked)) ++ also_told old its (Takes invoke asked)) (one_of client invoke c)
  takes-fair invoke asked may = by_cause (cause old its asked) refl
    where
      size : ℕ
      size = size_of its.association

      by_fit : (b : Bool) → cause old its asked ≡ None
          → Answered (tell client (if b then answer_told invoke (effect old its invoke asked).answer else refuses invoke other_error ∷ []) ++ (if b then (effect old its invoke asked).also else [])) (one_of client invoke c)
      by_fit true none = doing invoke asked may (numbered-client count s client sound (admitted-open invoke its may)) none
      by_fit false none = answered invoke (confirmed_error invoke other_error) (λ i. refl)

      by_cause : (o : Option ServiceError) → cause old its asked ≡ o
          → Answered (tell client (request_told size invoke o (effect old its invoke asked).answer) ++ (if is_done size invoke o (effect old its invoke asked).answer then (effect old its invoke asked).also else [])) (one_of client invoke c)
      by_cause None e = by_fit (fits size invoke (effect old its invoke asked).answer) e
      by_cause (Some refusal) e = answered invoke (confirmed_error invoke refusal) (λ i. refl)

  -- a client answers what the server asked: its request is unanswered no more, and what is next may be asked
  pub replies-fair : (number : ℕ) (came : Came) → Answered (tell client (own_told old its (Replies number came)) ++ also_told old its (Replies number came)) none_taken
  replies-fair number came = by_of (asked_of number its.asked)
    where
      size : ℕ
      size = size_of its.association

      done_by : Option (Asked × List ℕ) → OutcomeIn DomainTables
      done_by o = replied_to its.client number came o old.domains

      settled_row : List ClientRow
      settled_row = reached cell its.client (Settles number) s.clients

      by_next : (o : Option Asked) (domain : List ℕ) → Answered ((its.client, Settles number) ∷ asks_next its.client o domain) none_taken
      by_next None domain = (inl (piece-settles c its.client number s.clients), (refl, tt))
      by_next (Some kind) domain = (
        retake c ((its.client, Settles number) ∷ (its.client, Asks kind domain) ∷ []) s.clients (λ i. none_taken i + none_taken i) none_taken (λ i. omega arith)
            (join c ((its.client, Settles number) ∷ []) ((its.client, Asks kind domain) ∷ []) s.clients none_taken none_taken (refl, tt)
            (inl (piece-settles c its.client number s.clients)) (inl (piece-asks c its.client kind domain settled_row))),
        (refl, (refl, tt)),
      )

      by_of : (o : Option (Asked × List ℕ))
          → Answered (tell client (request_told size number None (done_by o).answer) ++ (if is_done size number None (done_by o).answer then (done_by o).also else [])) none_taken
      by_of None = (inl (record { pdus = []; spelled = refl; balance = λ i. refl }), tt)
      by_of (Some of) = by_next (asked_next (reply_of came of) old.domains.domains) of.1

  -- a request is cancelled: a cancel response, and then its error
  pub cancels-fair : (invoke : ℕ) (w : Waiting) → waits_in s.clients client invoke ≡ Some w → Answered (tell client (own_told old its (Cancels invoke)) ++ []) none_taken
  cancels-fair invoke w there = (by_test (c == client) refl, (refl, (refl, (refl, tt))))
    where
      response : Pdu
      response = pdu.CancelResponse invoke

      refusal : Pdu
      refusal = confirmed_error invoke cancel_error

      done : List ClientRow
      done = reached cell client (sends refusal) (reached cell client (sends response) (reached cell client (Answers invoke) s.clients))

      left : (i : ℕ) → waits_in done c i ≡ cond (c == client && i == invoke) None (waits_in s.clients c i)
      left i =
          reached-still (sends refusal) tt client (reached cell client (sends response) (reached cell client (Answers invoke) s.clients)) c i
          ∙ reached-still (sends response) tt client (reached cell client (Answers invoke) s.clients) c i
          ∙ reached-answered invoke client s.clients c i

      by_test : (b : Bool) → (c == client) ≡ b → Outcome c (tell client (own_told old its (Cancels invoke)) ++ []) s.clients none_taken
      by_test true e = inl (record {
        pdus = response ∷ refusal ∷ [];
        spelled = subst (λ (t : Bool). AreSpelled ((if t then [] else []) ++ ((if t then Octets (pdu_octets response) ∷ [] else []) ++ ((if t then Octets (pdu_octets refusal) ∷ [] else []) ++ []))) (response ∷ refusal ∷ [])) (sym e) (refl, (refl, refl));
        balance = λ i. by_invoke i (i == invoke) refl;
      })
        where
          by_invoke : (i : ℕ) (b : Bool) → (i == invoke) ≡ b → 0 + waits s.clients c i ≡ many (is_answer i) (response ∷ refusal ∷ []) + waits done c i
          by_invoke i true f =
              let one : bit (i == invoke) ≡ 1 = ap bit f in
              let before : waits s.clients c i ≡ 1 =
              ap (λ (o : Option Waiting). bit (is_some o)) (ap (λ (d : ℕ). waits_in s.clients d i) (nat-same c client e) ∙ ap (waits_in s.clients client) (nat-same i invoke f) ∙ there) in
              let later : waits done c i ≡ 0 =
              ap (λ (o : Option Waiting). bit (is_some o)) (left i ∙ ap (λ t. cond (t && i == invoke) None (waits_in s.clients c i)) e ∙ ap (λ t. cond t None (waits_in s.clients c i)) f) in
              omega (arith, one, before, later)
          by_invoke i false f =
              let one : bit (i == invoke) ≡ 0 = ap bit f in
              let later : waits done c i ≡ waits s.clients c i =
              ap (λ (o : Option Waiting). bit (is_some o)) (left i ∙ ap (λ t. cond (t && i == invoke) None (waits_in s.clients c i)) e ∙ ap (λ t. cond t None (waits_in s.clients c i)) f) in
              omega (arith, one, later)
      by_test false e = inl (record {
        pdus = [];
        spelled = subst (λ (t : Bool). AreSpelled ((if t then [] else []) ++ ((if t then Octets (pdu_octets response) ∷ [] else []) ++ ((if t then Octets (pdu_octets refusal) ∷ [] else []) ++ []))) []) (sym e) refl;
        balance = λ i.
            let later : waits done c i ≡ waits s.clients c i =
            ap (λ (o : Option Waiting). bit (is_some o)) (left i ∙ ap (λ t. cond (t && i == invoke) None (waits_in s.clients c i)) e) in
            omega (arith, later);
      })

  -- the association ends, and tokens are granted to others
  closes-fair : its.client ≡ client → (rows : List ClientRow) → ((d i : ℕ) → waits_in rows d i ≡ waits_in s.clients d i)
      → Outcome c (tell client (Closes ∷ []) ++ grants_told (lost_granted its.client (moment_of old) s.semaphores)) rows none_taken
  closes-fair is rows same =
      retake c (tell client (Closes ∷ []) ++ grants_told grants) rows (λ i. none_taken i + none_taken i) none_taken (λ i. omega arith)
      (join c (tell client (Closes ∷ [])) (grants_told grants) rows none_taken none_taken (unopening-grants grants) (piece-closes c client rows)
      (fair-grants c grants (reached cell client Closes rows)
      (lost-apart its.client (moment_of old) s.semaphores (rise s.semaphores sound.semaphores) (waits_in s.clients) bound sound.semaphores.names)
      (λ g t. still g (lost-waits its.client (moment_of old) s.semaphores (rise s.semaphores sound.semaphores) (waits_in s.clients) bound g t))))
    where
      grants : List Granted
      grants = lost_granted its.client (moment_of old) s.semaphores

      still : (g : Granted) → (w : Waiting) × (cond (g.client == its.client) None (waits_in s.clients g.client g.invoke) ≡ Some w)
          → (w : Waiting) × (waits_in (reached cell client Closes rows) g.client g.invoke ≡ Some w)
      still g w = (
        w.0,
        reached-closed client rows g.client g.invoke ∙ ap (cond (g.client == client) None) (same g.client g.invoke)
            ∙ ap (λ (k : ℕ). cond (g.client == k) None (waits_in s.clients g.client g.invoke)) (sym is) ∙ w.1,
      )

  pub ends-fair : (e : Effect) → is_opening e ≡ false → ((rows : List ClientRow) → Fair c ((client, e) ∷ []) rows none_taken)
      → ((d i : ℕ) → waits_in (reached cell client e s.clients) d i ≡ waits_in s.clients d i)
      → its.client ≡ client → Answered (tell client (e ∷ Closes ∷ []) ++ grants_told (lost_granted its.client (moment_of old) s.semaphores)) none_taken
  ends-fair e un fair still is = (
    retake c (tell client (e ∷ Closes ∷ []) ++ grants_told grants) s.clients (λ i. none_taken i + none_taken i) none_taken (λ i. omega arith)
        (join c ((client, e) ∷ []) (tell client (Closes ∷ []) ++ grants_told grants) s.clients none_taken none_taken (refl, unopening-grants grants) (inl (fair s.clients))
        (closes-fair is (reached cell client e s.clients) still)),
    (un, (refl, unopening-grants grants)),
  )
    where
      grants : List Granted
      grants = lost_granted its.client (moment_of old) s.semaphores

  -- a load is answered, and its client is aborted
  pub exhausts-fair : (invoke : ℕ) → its.client ≡ client → Answered (tell client (own_told old its (Exhausts invoke)) ++ also_told old its (Exhausts invoke)) (one_of client invoke c)
  exhausts-fair invoke is = (
    retake c ((client, sends own) ∷ aborting) s.clients (λ i. one_of client invoke c i + none_taken i) (one_of client invoke c) (λ i. omega arith)
        (join c ((client, sends own) ∷ []) aborting s.clients (one_of client invoke c) none_taken (refl, (refl, unopening-grants grants))
        (inl (piece-own c client invoke own s.clients (λ i. refl)))
        (retake c aborting answered_rows (λ i. none_taken i + none_taken i) none_taken (λ i. omega arith)
        (join c ((client, Sends Abort) ∷ []) (tell client (Closes ∷ []) ++ grants_told grants) answered_rows none_taken none_taken (refl, unopening-grants grants)
        (inl (piece-abort c client answered_rows)) (closes-fair is (reached cell client (Sends Abort) answered_rows) same)))),
    (refl, (refl, (refl, unopening-grants grants))),
  )
    where
      own : Pdu
      own = pdu.ConfirmedResponse invoke answer.InitiateDownloadSequence

      grants : List Granted
      grants = lost_granted its.client (moment_of old) s.semaphores

      aborting : List (ℕ × Effect)
      aborting = (client, Sends Abort) ∷ (client, Closes) ∷ grants_told grants

      answered_rows : List ClientRow
      answered_rows = reached cell client (sends own) s.clients

      same : (d i : ℕ) → waits_in (reached cell client (Sends Abort) answered_rows) d i ≡ waits_in s.clients d i
      same d i = reached-still (Sends Abort) tt client answered_rows d i ∙ reached-still (sends own) tt client s.clients d i

  pub loses-fair : (a : Association) → its.association ≡ a → Answered (tell client (loss_told a) ++ also_lost a its.client old) none_taken
  loses-fair Idle is = (inl (record { pdus = []; spelled = refl; balance = λ i. refl }), tt)
  loses-fair (Open values) is =
      (closes-fair (numbered-client count s client sound (λ idle. cc (sym is ∙ idle))) s.clients (λ d i. refl), (refl, unopening-grants (lost_granted its.client (moment_of old) s.semaphores)))

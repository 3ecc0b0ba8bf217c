-- A request that is taken is answered by one PDU, or waits, and who is granted a token by it is answered by one.
use Rattle.std.proofs.Common.{◌≡◌, ℕ, inl, Bool, true, false, nat_lt, List, [], ◌∷◌, ◌++◌, Option, None, Some, is_some, option_to_list, Result, Ok, Err, if◌then◌else◌, refl, sym, ◌∙◌, subst, arith}
use Rattle.std.specs.Map.{lookup}
use Rattle.mms_types.specs.Order.{key_eq, key_of}
use Rattle.mms_types.specs.declared.pdu.Answer.{Answer}
use Rattle.mms_types.specs.declared.pdu.Answer.TheVariants as answer
use Rattle.mms_types.specs.declared.pdu.Pdu.{Pdu}
use Rattle.mms_types.specs.declared.pdu.Pdu.TheVariants as pdu
use Rattle.mms_types.specs.declared.pdu.RejectReason.TheVariants.{InvalidInvokeId, MaxServOutstandingExceeded, MaxRecursionExceeded}
use Rattle.mms_types.specs.declared.pdu.Request.{Request}
use Rattle.mms_types.specs.declared.pdu.Request.TheVariants as request
use Rattle.mms_types.specs.declared.semaphore.RelinquishControl.{RelinquishControl}
use Rattle.mms_types.specs.declared.semaphore.TakeControl.{TakeControl}
use Rattle.mms_types.specs.declared.service_error.ServiceError.{ServiceError}
use Rattle.mms_pdu.specs.Hearing.{depth_of}
use Rattle.association.specs.declared.client_part.NotAdmitted.{NotAdmitted}
use Rattle.association.specs.declared.client_part.NotAdmitted.TheVariants as not_admitted
use Rattle.association.specs.declared.negotiation.Negotiated.{Negotiated}
use Rattle.association.specs.declared.waiting.Waiting.{Waiting}
use Rattle.association.specs.Admission.{admission}
use Rattle.association.specs.Client.{ClientRow}
use Rattle.token_sem.proofs.Least.{Stands}
use Rattle.mms_time.specs.Services.{relinquish_cause, take_cause, take_told}
use Rattle.mms_time.specs.declared.taking.TakeDone.{TakeDone}
use Rattle.mms_time.specs.declared.taking.TakeDone.TheVariants as taken
use Rattle.parted_state.specs.Served.{delivered, row_at}
use Rattle.sem_ticks.specs.Granted.{relinquish_granted}
use Rattle.sem_ticks.specs.declared.granted.Granted.{Granted}
use Rattle.cell_client.specs.Association.{Verdict, Takes, admitted, confirmed_error, other_error, requested, sends}
use Rattle.cell_client.specs.Effects.{Effect, Waits, tell}
use Rattle.cell_services.specs.Services.{cause, effect, grants_told, relinquish_outcome, take_outcome}
use Rattle.cell_client.specs.Requests.{answer_told, fits, is_done, refuses, request_told, size_of}
use Rattle.cell_services.specs.Serving.{also_told, own_told, resolved}
use Rattle.cell_services.specs.Tables.{Tables}
use Rattle.step_parts.specs.Partition.{cell}
use Rattle.step_parts.specs.State.{State, IsSound}
use Rattle.cell_laws.specs.Linked.{asker}
use Rattle.cell_laws.proofs.Answering.{given-asks, relinquish-there, take-there}
use Rattle.cell_laws.proofs.Bound.{Bound}
use Rattle.cell_laws.proofs.Hears.{IsAdmitted, RowsDistinct, admitted-open, distinct-told, reached-still, waits_in}
use Rattle.cell_laws.proofs.Linking.{numbered-client}
use Rattle.stress_laws.proofs.Balance.{Even, Steady, even-both, even-grant, even-none, even-sends, even-waits, of_client, steady-both}

-- the requests of the trial are of these services
abbrev pub IsOfTrial : Request → Type 0
IsOfTrial (request.Read x) = Unit {0}
IsOfTrial (request.Write x) = Unit {0}
IsOfTrial (request.DefineSemaphore x) = Unit {0}
IsOfTrial (request.TakeControl x) = Unit {0}
IsOfTrial (request.RelinquishControl x) = Unit {0}
IsOfTrial asked = ⊥

-- ---- what is heard

module _ (count : ℕ) (s : State) (sound : IsSound count s) (bound : Bound (asker s.semaphores) (waits_in s.clients)) (distinct : RowsDistinct s.clients) (client c : ℕ) where
  abbrev its : ClientRow
  its = row_at cell client s.clients

  abbrev old : Tables
  old = cell.tables_of s

  -- one PDU, or one request that waits
  abbrev pub One : List (ℕ × Effect) → Type 0
  One told = Even c told s.clients (of_client c client 1) × Steady told

  one-more : (xs ys : List (ℕ × Effect)) → One xs → Even c ys (delivered cell xs s.clients) 0 × Steady ys → One (xs ++ ys)
  one-more xs ys first second =
      let all = even-both c xs ys s.clients (of_client c client 1) 0 first.0 second.0 in
      (omega (arith, all), steady-both xs ys first.1 second.1)

  pub one-sent : (p : Pdu) → One (tell client (sends p ∷ []) ++ [])
  one-sent p = (even-sends c client p s.clients, (tt, tt))

  plain : (invoke : ℕ) (o : Option Answer) → is_some o ≡ true → One (tell client (answer_told invoke o) ++ [])
  plain invoke None there = absurd (cc there)
  plain invoke (Some a) there = one-sent (pdu.ConfirmedResponse invoke a)

  taking : (invoke : ℕ) (x : TakeControl) → IsAdmitted invoke its → its.client ≡ client → (o : Option TakeDone) → take_told its.client x s.semaphores ≡ o → take_cause its.client x s.semaphores ≡ None
      → One (tell client (answer_told invoke (take_outcome old its.client invoke x o).answer) ++ (take_outcome old its.client invoke x o).also)
  taking invoke x may is None told none = absurd (take-there its.client x (lookup (key_eq (key_of its.client x.name)) s.semaphores) none told)
  taking invoke x may is (Some (taken.Answered a)) told none = one-sent (pdu.ConfirmedResponse invoke (answer.TakeControl a))
  taking invoke x may is (Some (taken.Waits entry)) told none =
      let mine : IsAdmitted invoke (row_at cell its.client s.clients) = subst (λ (k : ℕ). IsAdmitted invoke (row_at cell k s.clients)) (sym is) may in
      let w : Waiting = record { invoke = invoke; key = key_of its.client x.name; entry = entry } in
      (subst (λ (k : ℕ). Even c ((its.client, Waits w) ∷ []) s.clients (of_client c k 1)) is (even-waits c its.client w s.clients mine), (tt, tt))

  giving : (invoke : ℕ) (x : RelinquishControl) (o : Option (Option Granted)) → relinquish_granted its.client x s.semaphores ≡ o → relinquish_cause its.client x s.semaphores ≡ None
      → One (tell client (answer_told invoke (relinquish_outcome old its.client x o).answer) ++ (relinquish_outcome old its.client x o).also)
  giving invoke x None told none = absurd (relinquish-there s.semaphores its.client x (lookup (key_eq (key_of its.client x.name)) s.semaphores) none told)
  giving invoke x (Some grant) told none =
      one-more (tell client (sends own ∷ [])) (grants_told (option_to_list grant)) (even-sends c client own s.clients, (tt, tt))
      (by_grant grant (λ g t. let asks = given-asks s.semaphores sound.semaphores its.client x grant told g t in
      (_, reached-still (sends own) tt client s.clients g.client g.invoke ∙ bound.waiting (key_of its.client x.name) asks.0 g.client g.invoke asks.1)))
    where
      own : Pdu
      own = pdu.ConfirmedResponse invoke answer.RelinquishControl

      between : List ClientRow
      between = delivered cell (tell client (sends own ∷ [])) s.clients

      by_grant : (o : Option Granted) → ((g : Granted) → Stands (option_to_list o) g → (w : Waiting) × (waits_in between g.client g.invoke ≡ Some w)) → Even c (grants_told (option_to_list o)) between 0 × Steady (grants_told (option_to_list o))
      by_grant None there = (even-none c between, tt)
      by_grant (Some g) there =
          let is = there g (inl refl) in
          (even-grant c g between is.0 is.1 (distinct-told (tell client (sends own ∷ [])) s.clients distinct), (tt, (tt, tt)))

  doing : (invoke : ℕ) (asked : Request) → IsOfTrial asked → IsAdmitted invoke its → its.client ≡ client → cause old its asked ≡ None
      → One (tell client (answer_told invoke (effect old its invoke asked).answer) ++ (effect old its invoke asked).also)
  doing invoke (request.TakeControl x) of may is none = taking invoke x may is (take_told its.client x s.semaphores) refl none
  doing invoke (request.RelinquishControl x) of may is none = giving invoke x (relinquish_granted its.client x s.semaphores) refl none
  doing invoke (request.Read x) of may is none = plain invoke (effect old its invoke (request.Read x)).answer refl
  doing invoke (request.Write x) of may is none = plain invoke (effect old its invoke (request.Write x)).answer refl
  doing invoke (request.DefineSemaphore x) of may is none = plain invoke (effect old its invoke (request.DefineSemaphore x)).answer refl
  doing invoke asked of may is none = absurd of

  pub takes_one : (invoke : ℕ) (asked : Request) → IsOfTrial asked → IsAdmitted invoke its → One (tell client (own_told old its (Takes invoke asked)) ++ also_told old its (Takes invoke asked))
  takes_one invoke asked of may = by_cause (cause old its asked) refl
    where
      size : ℕ
      size = size_of its.association

      by_fit : (b : Bool) → cause old its asked ≡ None
          → One (tell client (if b then answer_told invoke (effect old its invoke asked).answer else refuses invoke other_error ∷ []) ++ (if b then (effect old its invoke asked).also else []))
      by_fit true none = doing invoke asked of may (numbered-client count s client sound (admitted-open invoke its may)) none
      by_fit false none = one-sent (confirmed_error invoke other_error)

      by_cause : (o : Option ServiceError) → cause old its asked ≡ o
          → One (tell client (request_told size invoke o (effect old its invoke asked).answer) ++ (if is_done size invoke o (effect old its invoke asked).answer then (effect old its invoke asked).also else []))
      by_cause None e = by_fit (fits size invoke (effect old its invoke asked).answer) e
      by_cause (Some refusal) e = one-sent (confirmed_error invoke refusal)

  -- nothing more is asked of the client by these
  resolved-same : (invoke : ℕ) (asked : Request) → IsOfTrial asked → resolved old its (Takes invoke asked) ≡ Takes invoke asked
  resolved-same invoke (request.Read x) of = refl
  resolved-same invoke (request.Write x) of = refl
  resolved-same invoke (request.DefineSemaphore x) of = refl
  resolved-same invoke (request.TakeControl x) of = refl
  resolved-same invoke (request.RelinquishControl x) of = refl
  resolved-same invoke asked of = absurd of

  abbrev Comes : Verdict → Type 0
  Comes v = One (tell client (own_told old its (resolved old its v)) ++ also_told old its (resolved old its v))

  -- whether it is taken or rejected
  requested_one : (too_deep : Bool) (invoke : ℕ) (asked : Request) → IsOfTrial asked → Comes (requested too_deep its invoke asked)
  requested_one true invoke asked of = one-sent (pdu.Reject (record { invoke = Some invoke; reason = MaxRecursionExceeded }))
  requested_one false invoke asked of = by_admission (admission invoke its) refl
    where
      by_admission : (r : Result Unit NotAdmitted) → admission invoke its ≡ r → Comes (admitted r invoke asked)
      by_admission (Err not_admitted.Waiting) e = one-sent (pdu.Reject (record { invoke = Some invoke; reason = InvalidInvokeId }))
      by_admission (Err not_admitted.Outstanding) e = one-sent (pdu.Reject (record { invoke = Some invoke; reason = MaxServOutstandingExceeded }))
      by_admission (Ok u) e =
          subst (λ (v : Verdict). One (tell client (own_told old its v) ++ also_told old its v)) (sym (resolved-same invoke asked of)) (takes_one invoke asked of e)

  pub asked_one : (values : Negotiated) (invoke : ℕ) (asked : Request) → IsOfTrial asked
      → Comes (requested (nat_lt values.nesting (depth_of (pdu.ConfirmedRequest invoke asked))) its invoke asked)
  asked_one values invoke asked of = requested_one (nat_lt values.nesting (depth_of (pdu.ConfirmedRequest invoke asked))) invoke asked of

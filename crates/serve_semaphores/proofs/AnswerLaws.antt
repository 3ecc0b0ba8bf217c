-- Each request for semaphores that is not refused is answered at once, or it waits.
use Rattle.std.specs.Prelude.{◌≡◌, ℕ, ◌+◌, Bool, true, false, Option, None, Some, List, [], ◌∷◌, is_none, if◌then◌else◌, refl}
use Rattle.std.specs.Option.{option_map}
use Rattle.std.proofs.Common.{inl, inr}
use Rattle.mms_types.specs.Errors.{first_of, object_non_existent}
use Rattle.mms_types.specs.Order.{key_of}
use Rattle.mms_types.specs.declared.area.SemaphoreRequest.{SemaphoreRequest}
use Rattle.mms_types.specs.declared.area.SemaphoreRequest.TheVariants as request
use Rattle.mms_types.specs.declared.pdu.Answer.{Answer}
use Rattle.mms_types.specs.declared.pdu.Answer.TheVariants as answer
use Rattle.mms_types.specs.declared.semaphore.RelinquishControl.{RelinquishControl}
use Rattle.mms_types.specs.declared.semaphore.TakeControl.{TakeControl}
use Rattle.mms_types.specs.declared.semaphore.TakeControlAnswer.TheVariants.{NoResult}
use Rattle.association.specs.Client.{ClientRow}
use Rattle.token_sem.specs.Semaphore.{Sem, has_token}
use Rattle.token_sem.specs.declared.entry.Grant.{Grant}
use Rattle.pool_sem.specs.Pools as pool
use Rattle.mms_time.specs.Semaphores.{Rows, entries_of, names_in, semaphore}
use Rattle.mms_time.specs.Services.{place_asked, pool_answer, relinquish_conditions, relinquish_grant_of, take_conditions, take_told_in, take_told_of}
use Rattle.mms_time.specs.Statuses.{entry_statuses, pool_status_conditions, pool_status_conditions_in, pool_status_in, pool_status_of, status_in}
use Rattle.mms_time.specs.declared.row.Semaphore.{Semaphore}
use Rattle.mms_time.specs.declared.row.Semaphore.TheVariants.{Token, Pool}
use Rattle.mms_time.specs.declared.row.SemaphoreRow.{SemaphoreRow}
use Rattle.mms_time.specs.declared.taking.TakeDone.TheVariants as done
use Rattle.sem_ticks.specs.Granted.{granted}
use Rattle.cell_client.specs.Areas.{AnswersOrWaitsIn, answers}
use Rattle.cell_client.specs.Facts.{Facts}
use Rattle.serve_semaphores.specs.Semaphores.{given_back, request_in, taken}

module _ (facts : Facts) (rows : Rows) (row : ClientRow) (invoke : ℕ) where
  -- there is a semaphore to be told of
  found : {X : Type 0} (wrap : X → Answer) (f : SemaphoreRow → X) (o : Option SemaphoreRow) → first_of ((is_none o, object_non_existent) ∷ []) ≡ None
      → AnswersOrWaitsIn row.client invoke (answers rows (option_map wrap (option_map f o)))
  found wrap f None e = absurd (cc e)
  found wrap f (Some x) e = inl (_, refl, refl)

  told_pool : (after : Option (List ℕ)) (o : Option SemaphoreRow) → first_of (pool_status_conditions o) ≡ None
      → AnswersOrWaitsIn row.client invoke (answers rows (option_map answer.ReportPoolSemaphoreStatus (pool_status_of after o)))
  told_pool after None e = absurd (cc e)
  told_pool after (Some r) e = by_semaphore r.semaphore e
    where
      by_semaphore : (s : Semaphore) → first_of (pool_status_conditions_in s) ≡ None
          → AnswersOrWaitsIn row.client invoke (answers rows (option_map answer.ReportPoolSemaphoreStatus (pool_status_in after s)))
      by_semaphore (Token s) h = absurd (cc h)
      by_semaphore (Pool p) h = inl (_, refl, refl)

  took : (x : TakeControl) (o : Option SemaphoreRow) → first_of (take_conditions row.client x o) ≡ None
      → AnswersOrWaitsIn row.client invoke (taken facts.now row.client invoke x rows (take_told_of x o))
  took x None e = absurd (cc e)
  took x (Some r) e = by_semaphore r.semaphore
    where
      by_token : (s : Sem) (b : Bool)
          → AnswersOrWaitsIn row.client invoke (taken facts.now row.client invoke x rows (Some (if b then done.Answered NoResult else done.Waits (s.made + 1))))
      by_token s true = inl (_, refl, refl)
      by_token s false = inr (_, refl, refl, refl)

      by_pool : (p : pool.Pool) (b : Bool)
          → AnswersOrWaitsIn row.client invoke (taken facts.now row.client invoke x rows
          (Some (if b then done.Answered (pool_answer x.preempt (place_asked x.token p.tokens) p) else done.Waits (p.made + 1))))
      by_pool p true = inl (_, refl, refl)
      by_pool p false = inr (_, refl, refl, refl)

      by_semaphore : (s : Semaphore) → AnswersOrWaitsIn row.client invoke (taken facts.now row.client invoke x rows (Some (take_told_in x s)))
      by_semaphore (Token s) = by_token s (has_token x.preempt s)
      by_semaphore (Pool p) = by_pool p (pool.has_token x.preempt (place_asked x.token p.tokens) p)

  gave : (x : RelinquishControl) (o : Option SemaphoreRow) → first_of (relinquish_conditions row.client x o) ≡ None
      → AnswersOrWaitsIn row.client invoke
      (given_back facts.now row.client x rows (option_map (option_map (λ grant. granted rows (key_of row.client x.name, grant))) (relinquish_grant_of row.client x o)))
  gave x None e = absurd (cc e)
  gave x (Some r) e = by_grant _
    where
      by_grant : (o : Option Grant) → AnswersOrWaitsIn row.client invoke
          (given_back facts.now row.client x rows (Some (option_map (λ grant. granted rows (key_of row.client x.name, grant)) o)))
      by_grant None = inl (_, refl, refl)
      by_grant (Some g) = inl (_, refl, refl)

  pub answers_or_waits : (asked : SemaphoreRequest) → (request_in asked).cause facts rows row ≡ None
      → AnswersOrWaitsIn row.client invoke ((request_in asked).effect facts rows row invoke)
  answers_or_waits (request.TakeControl x) none = took x.now (semaphore row.client x.now.name rows) none
  answers_or_waits (request.RelinquishControl x) none = gave x.now (semaphore row.client x.now.name rows) none
  answers_or_waits (request.DefineSemaphore x) none = inl (_, refl, refl)
  answers_or_waits (request.DeleteSemaphore x) none = inl (_, refl, refl)
  answers_or_waits (request.ReportSemaphoreStatus x) none =
      found answer.ReportSemaphoreStatus (λ r. status_in r.configured r.semaphore) (semaphore row.client x.now rows) none
  answers_or_waits (request.ReportPoolSemaphoreStatus x) none = told_pool x.now.after (semaphore row.client x.now.name rows) none
  answers_or_waits (request.ReportSemaphoreEntryStatus x) none =
      found answer.ReportSemaphoreEntryStatus (λ r. entry_statuses (names_in r.semaphore) facts.now x.now.state x.now.after (entries_of r)) (semaphore row.client x.now.name rows) none

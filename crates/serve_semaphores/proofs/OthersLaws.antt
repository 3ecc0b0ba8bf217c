-- Whom a request tells something besides its client.
use Rattle.std.specs.Prelude.{◌≡◌, ◌≢◌, ◌==◌, ◌||◌, ℕ, Bool, true, false, Option, None, Some, List, [], is_none, is_some, Result, Ok, Err, IfOk, refl, if◌then◌else◌}
use Rattle.std.specs.List.{list_any}
use Rattle.std.specs.Borrow.{Bor}
use Rattle.std.specs.Map.{lookup}
use Rattle.std.specs.Option.{option_map}
use Rattle.std.proofs.Common.{ap, ap₂, sym, ◌∙◌, arith, subst}
use Rattle.std.proofs.lemmas.Bool.Decides.{nat_tests}
use Rattle.mms_types.specs.Errors.{first_of, object_non_existent}
use Rattle.mms_types.specs.Order.{key_eq, key_of}
use Rattle.mms_types.specs.declared.area.SemaphoreRequest.{SemaphoreRequest}
use Rattle.mms_types.specs.declared.area.SemaphoreRequest.TheVariants as request
use Rattle.mms_types.specs.declared.memory.Memory.{Memory}
use Rattle.mms_types.specs.declared.pdu.Answer.TheVariants as answer
use Rattle.mms_types.specs.declared.semaphore.RelinquishControl.{RelinquishControl}
use Rattle.mms_types.specs.declared.semaphore.TakeControl.{TakeControl}
use Rattle.mms_types.specs.declared.service_error.ServiceError.{ServiceError}
use Rattle.association.specs.Client.{ClientRow}
use Rattle.token_sem.specs.declared.entry.Grant.{Grant}
use Rattle.mms_time.specs.Semaphores.{Rows}
use Rattle.mms_time.specs.Services.{relinquish_cause, relinquish_conditions, relinquish_grant, relinquish_grant_in, relinquish_grant_of, take_told}
use Rattle.mms_time.specs.declared.row.SemaphoreRow.{SemaphoreRow}
use Rattle.mms_time.specs.declared.taking.TakeDone.{TakeDone}
use Rattle.mms_time.specs.declared.taking.TakeDone.TheVariants.{Answered, Waits as Waiting}
use Rattle.sem_ticks.specs.Granted.{granted}
use Rattle.sem_ticks.specs.declared.granted.Granted.{Granted}
use Rattle.cell_client.specs.Areas.{also_in, is_done_in}
use Rattle.cell_client.specs.Effects.{Effect}
use Rattle.cell_client.specs.Facts.{Facts}
use Rattle.cell_client.specs.Requests.{fits, is_done, size_of}
use Rattle.serve_semaphores.specs.Semaphores.{given_back, grant_told, relinquish_control, request_in, taken}
use Rattle.serve_semaphores.specs.Tokens.{GrantsTo, grants_nobody, grants_nobody_among, is_the_one, relinquish_cause_on, tells_alone}

-- a client is told something
abbrev tells_it : List (ℕ × Effect) → ℕ → Bool
tells_it told k = list_any (λ t. t.0 == k) told

abbrev nobody : List (ℕ × Effect)
nobody = []

chosen_none : (b : Bool) → (if b then nobody else nobody) ≡ nobody
chosen_none true = refl
chosen_none false = refl

twice : (b : Bool) → (b || (b || false)) ≡ b
twice true = refl
twice false = refl

-- ---- a token is given back

module _ (rows : Rows) (row : ClientRow) (invoke : ℕ) (x : RelinquishControl) (one : Option ℕ) where
  abbrev as_told : Option (Option Grant) → Option (Option Granted)
  as_told g = option_map (option_map (λ grant. granted rows (key_of row.client x.name, grant))) g

  -- by its cause, and who is granted the token
  abbrev also_of : Facts → Option ServiceError → Option (Option Grant) → List (ℕ × Effect)
  also_of facts why g =
      if is_done (size_of row.association) invoke why (given_back facts.now row.client x rows (as_told g)).answer
      then (given_back facts.now row.client x rows (as_told g)).also else []

  also_is : (facts : Facts) (why : Option ServiceError) (g : Option (Option Grant)) → relinquish_cause row.client x rows ≡ why → relinquish_grant row.client x rows ≡ g
      → also_in (relinquish_control x) facts row invoke rows ≡ also_of facts why g
  also_is facts why g cause grant = ap₂ (λ (w : Option ServiceError) (h : Option (Option Grant)). also_of facts w h) cause grant

  -- refused: nobody else is told anything
  pub none_if_refused : (e : ServiceError) → relinquish_cause row.client x rows ≡ Some e → one ≡ None
      → (facts : Facts) (k : ℕ) → tells_it (also_in (relinquish_control x) facts row invoke rows) k ≡ is_the_one one k
  none_if_refused e cause none facts k =
      ap (λ (l : List (ℕ × Effect)). tells_it l k) (also_is facts (Some e) (relinquish_grant row.client x rows) cause refl)
      ∙ ap (λ (o : Option ℕ). is_the_one o k) (sym none)

  -- the token is granted to nobody
  pub none_if_free : relinquish_cause row.client x rows ≡ None → relinquish_grant row.client x rows ≡ Some None → one ≡ None
      → (facts : Facts) (k : ℕ) → tells_it (also_in (relinquish_control x) facts row invoke rows) k ≡ is_the_one one k
  none_if_free cause grant none facts k =
      ap (λ (l : List (ℕ × Effect)). tells_it l k)
      (also_is facts None (Some None) cause grant ∙ chosen_none (fits (size_of row.association) invoke (Some answer.RelinquishControl)))
      ∙ ap (λ (o : Option ℕ). is_the_one o k) (sym none)

  -- it is granted, and the answer fits
  pub one_if_granted : (g : Grant) → relinquish_cause row.client x rows ≡ None → relinquish_grant row.client x rows ≡ Some (Some g)
      → fits (size_of row.association) invoke (Some answer.RelinquishControl) ≡ true → one ≡ Some g.client
      → (facts : Facts) (k : ℕ) → tells_it (also_in (relinquish_control x) facts row invoke rows) k ≡ is_the_one one k
  one_if_granted g cause grant fit is facts k =
      ap (λ (l : List (ℕ × Effect)). tells_it l k)
      (also_is facts None (Some (Some g)) cause grant
      ∙ ap (λ (b : Bool). if b then (given_back facts.now row.client x rows (as_told (Some (Some g)))).also else []) fit)
      ∙ twice (g.client == k)
      ∙ ap (λ (o : Option ℕ). is_the_one o k) (sym is)

  -- it would be granted, and the answer is too long
  pub none_if_too_long : (g : Grant) → relinquish_cause row.client x rows ≡ None → relinquish_grant row.client x rows ≡ Some (Some g)
      → fits (size_of row.association) invoke (Some answer.RelinquishControl) ≡ false → one ≡ None
      → (facts : Facts) (k : ℕ) → tells_it (also_in (relinquish_control x) facts row invoke rows) k ≡ is_the_one one k
  none_if_too_long g cause grant fit none facts k =
      ap (λ (l : List (ℕ × Effect)). tells_it l k)
      (also_is facts None (Some (Some g)) cause grant
      ∙ ap (λ (b : Bool). if b then (given_back facts.now row.client x rows (as_told (Some (Some g)))).also else []) fit)
      ∙ ap (λ (o : Option ℕ). is_the_one o k) (sym none)

-- somebody is granted the token
somebody_among : (client : ℕ) (x : RelinquishControl) (g : Grant) (o : Option SemaphoreRow) → first_of (relinquish_conditions client x o) ≡ None
    → relinquish_grant_of client x o ≡ Some (Some g) → grants_nobody_among client x o ≡ false
somebody_among client x g None cause grant = absurd (cc grant)
somebody_among client x g (Some s) cause grant =
    let same : relinquish_grant_in client x s.semaphore ≡ Some g = cc grant in
    ap₂ (λ (why : Option ServiceError) (h : Option Grant). is_some why || is_none h) cause same

pub somebody_granted : (client : ℕ) (x : RelinquishControl) (rows : Rows) (g : Grant) → relinquish_cause client x rows ≡ None
    → relinquish_grant client x rows ≡ Some (Some g) → grants_nobody client x rows ≡ false
somebody_granted client x rows g cause grant = somebody_among client x g (lookup (key_eq (key_of client x.name)) rows) cause grant

-- so it tells what the request tells
pub heir_tells : (result : Result (Option ℕ) Memory) (rows : Rows) (row : ClientRow) (invoke : ℕ) (asked : SemaphoreRequest) (x : Bor RelinquishControl) → asked ≡ request.RelinquishControl x
    → IfOk result (λ one. (facts : Facts) (k : ℕ) → tells_it (also_in (relinquish_control x.now) facts row invoke rows) k ≡ is_the_one one k)
    → IfOk result (λ one. (facts : Facts) (k : ℕ) → row.client ≢ k → tells_it (also_in (request_in asked) facts row invoke rows) k ≡ is_the_one one k)
heir_tells (Ok one) rows row invoke asked x is told =
    λ facts k other. subst (λ (q : SemaphoreRequest). tells_it (also_in (request_in q) facts row invoke rows) k ≡ is_the_one one k) (sym is) (told facts k)
heir_tells (Err memory) rows row invoke asked x is told = tt

-- ---- any other request tells its client alone

module _ (rows : Rows) (row : ClientRow) (invoke : ℕ) where
  take_none : (facts : Facts) (x : TakeControl) (b : Bool) (told : Option TakeDone) (k : ℕ) → row.client ≢ k
      → tells_it (if b then (taken facts.now row.client invoke x rows told).also else []) k ≡ false
  take_none facts x false told k other = refl
  take_none facts x true None k other = refl
  take_none facts x true (Some (Answered a)) k other = refl
  take_none facts x true (Some (Waiting entry)) k other = by_test (row.client == k) refl
    where
      by_test : (b : Bool) → (row.client == k) ≡ b → (b || false) ≡ false
      by_test false is = refl
      by_test true is = absurd (other (grind (arith, nat_tests)))

  -- it gives no token back
  abbrev pub GivesNone : SemaphoreRequest → Type 0
  GivesNone (request.RelinquishControl x) = ⊥
  GivesNone other = Unit {0}

  pub others_none : (asked : SemaphoreRequest) → GivesNone asked → (facts : Facts) (k : ℕ) → row.client ≢ k
      → tells_it (also_in (request_in asked) facts row invoke rows) k ≡ false
  others_none (request.RelinquishControl x) never facts k other = absurd never
  others_none (request.TakeControl x) never facts k other =
      take_none facts x.now (is_done_in (request_in (request.TakeControl x)) facts row invoke rows) (take_told row.client x.now rows) k other
  others_none asked never facts k other = ap (λ (l : List (ℕ × Effect)). tells_it l k) (chosen_none (is_done_in (request_in asked) facts row invoke rows))

  pub none_if_other : (asked : SemaphoreRequest) (one : Option ℕ) → GivesNone asked → one ≡ None → (facts : Facts) (k : ℕ) → row.client ≢ k
      → tells_it (also_in (request_in asked) facts row invoke rows) k ≡ is_the_one one k
  none_if_other asked one never none facts k other = others_none asked never facts k other ∙ ap (λ (o : Option ℕ). is_the_one o k) (sym none)

-- ---- so it is told whom a request tells

module _ (facts : Facts) (row : ClientRow) (invoke : ℕ) (rows : Rows) where
  back_alone : (x : RelinquishControl) → grants_nobody row.client x rows ≡ true → (k : ℕ) → tells_it (also_in (relinquish_control x) facts row invoke rows) k ≡ false
  back_alone x alone k = by_row (lookup (key_eq (key_of row.client x.name)) rows) refl alone
    where
      by_row : (o : Option SemaphoreRow) → lookup (key_eq (key_of row.client x.name)) rows ≡ o → grants_nobody_among row.client x o ≡ true
          → tells_it (also_in (relinquish_control x) facts row invoke rows) k ≡ false
      by_row None there none =
          none_if_refused rows row invoke x None object_non_existent (ap (λ (o : Option SemaphoreRow). first_of (relinquish_conditions row.client x o)) there) refl facts k
      by_row (Some s) there none = by_cause (relinquish_cause_on row.client x s) (relinquish_grant_in row.client x s.semaphore) refl refl none
        where
          by_cause : (why : Option ServiceError) (g : Option Grant) → relinquish_cause_on row.client x s ≡ why → relinquish_grant_in row.client x s.semaphore ≡ g → (is_some why || is_none g) ≡ true
              → tells_it (also_in (relinquish_control x) facts row invoke rows) k ≡ false
          by_cause (Some e) g cause grant is =
              none_if_refused rows row invoke x None e (ap (λ (o : Option SemaphoreRow). first_of (relinquish_conditions row.client x o)) there ∙ cause) refl facts k
          by_cause None None cause grant is =
              none_if_free rows row invoke x None (ap (λ (o : Option SemaphoreRow). first_of (relinquish_conditions row.client x o)) there ∙ cause)
              (ap (relinquish_grant_of row.client x) there ∙ ap (λ (g : Option Grant). Some g) grant) refl facts k
          by_cause None (Some g) cause grant is = absurd (cc is)

  pub told_alone : (asked : SemaphoreRequest) (k : ℕ) → tells_alone row.client asked rows ≡ true → row.client ≢ k → tells_it (also_in (request_in asked) facts row invoke rows) k ≡ false
  told_alone (request.RelinquishControl x) k alone other = back_alone x.now alone k
  told_alone (request.TakeControl x) k alone other = others_none rows row invoke (request.TakeControl x) tt facts k other
  told_alone (request.DefineSemaphore x) k alone other = others_none rows row invoke (request.DefineSemaphore x) tt facts k other
  told_alone (request.DeleteSemaphore x) k alone other = others_none rows row invoke (request.DeleteSemaphore x) tt facts k other
  told_alone (request.ReportSemaphoreStatus x) k alone other = others_none rows row invoke (request.ReportSemaphoreStatus x) tt facts k other
  told_alone (request.ReportPoolSemaphoreStatus x) k alone other = others_none rows row invoke (request.ReportPoolSemaphoreStatus x) tt facts k other
  told_alone (request.ReportSemaphoreEntryStatus x) k alone other = others_none rows row invoke (request.ReportSemaphoreEntryStatus x) tt facts k other

  abbrev IsToldTo : SemaphoreRequest → Granted → Type 0
  IsToldTo asked g = GrantsTo row.client asked rows g × (also_in (request_in asked) facts row invoke rows ≡ grant_told g)

  back_granted : (x : Bor RelinquishControl) → grants_nobody row.client x.now rows ≡ false → fits (size_of row.association) invoke (Some answer.RelinquishControl) ≡ true
      → (g : Granted) × IsToldTo (request.RelinquishControl x) g
  back_granted x grants fit = by_row (lookup (key_eq (key_of row.client x.now.name)) rows) refl grants
    where
      by_row : (o : Option SemaphoreRow) → lookup (key_eq (key_of row.client x.now.name)) rows ≡ o → grants_nobody_among row.client x.now o ≡ false
          → (g : Granted) × IsToldTo (request.RelinquishControl x) g
      by_row None there none = absurd (cc none)
      by_row (Some s) there none = by_cause (relinquish_cause_on row.client x.now s) (relinquish_grant_in row.client x.now s.semaphore) refl refl none
        where
          by_cause : (why : Option ServiceError) (g : Option Grant) → relinquish_cause_on row.client x.now s ≡ why → relinquish_grant_in row.client x.now s.semaphore ≡ g → (is_some why || is_none g) ≡ false
              → (g : Granted) × IsToldTo (request.RelinquishControl x) g
          by_cause (Some e) g cause grant is = absurd (cc is)
          by_cause None None cause grant is = absurd (cc is)
          by_cause None (Some g) cause grant is =
              let why : relinquish_cause row.client x.now rows ≡ None = ap (λ (o : Option SemaphoreRow). first_of (relinquish_conditions row.client x.now o)) there ∙ cause in
              let who : relinquish_grant row.client x.now rows ≡ Some (Some g) = ap (relinquish_grant_of row.client x.now) there ∙ ap (λ (h : Option Grant). Some h) grant in (
                granted rows (key_of row.client x.now.name, g),
                (
                  record {
                    back = x;
                    is = refl;
                    to = ap (option_map (option_map (λ (h : Grant). granted rows (key_of row.client x.now.name, h)))) who;
                  },
                  also_is rows row invoke x.now None facts None (Some (Some g)) why who
                      ∙ ap (λ (b : Bool). if b then (given_back facts.now row.client x.now rows (as_told rows row invoke x.now None (Some (Some g)))).also else []) fit,
                ),
              )

  pub told_to : (asked : SemaphoreRequest) → tells_alone row.client asked rows ≡ false → fits (size_of row.association) invoke (Some answer.RelinquishControl) ≡ true
      → (g : Granted) × GrantsTo row.client asked rows g × (also_in (request_in asked) facts row invoke rows ≡ grant_told g)
  told_to (request.RelinquishControl x) other fit = let told = back_granted x other fit in (told.0, told.1.0, told.1.1)
  told_to (request.TakeControl x) other fit = absurd (cc other)
  told_to (request.DefineSemaphore x) other fit = absurd (cc other)
  told_to (request.DeleteSemaphore x) other fit = absurd (cc other)
  told_to (request.ReportSemaphoreStatus x) other fit = absurd (cc other)
  told_to (request.ReportPoolSemaphoreStatus x) other fit = absurd (cc other)
  told_to (request.ReportSemaphoreEntryStatus x) other fit = absurd (cc other)

-- A request for a token is served on the one semaphore that it names.
use Rattle.std.proofs.Common.{◌≡◌, ◌∙◌, ap, sym, subst, refl, ℕ, Bool, true, false, Option, None, Some, if◌then◌else◌}
use Rattle.std.specs.Prelude.{Result, Ok, Err, OnErr, OnOk, IfNone, IfOk, IfSome, List, is_none, is_some, ◌||◌}
use Rattle.std.specs.Map.{lookup, set_value}
use Rattle.std.specs.Option.{option_map}
use Rattle.std.proofs.lemmas.Map.Steps.{set_value_same}
use Rattle.mms_types.specs.Errors.{first_of}
use Rattle.mms_types.specs.Order.{key_eq, key_of}
use Rattle.mms_types.specs.declared.key.Key.{Key}
use Rattle.mms_types.specs.declared.memory.Memory.{Memory}
use Rattle.mms_types.specs.declared.moment.Moment.{Moment}
use Rattle.mms_types.specs.declared.object_name.ObjectName.{ObjectName}
use Rattle.mms_types.specs.declared.pdu.Answer.TheVariants as answer
use Rattle.mms_types.specs.declared.semaphore.RelinquishControl.{RelinquishControl}
use Rattle.mms_types.specs.declared.semaphore.TakeControl.{TakeControl}
use Rattle.mms_types.specs.declared.service_error.ServiceError.{ServiceError}
use Rattle.association.specs.Client.{ClientRow, Client as RoomyRow}
use Rattle.token_sem.specs.declared.entry.Grant.{Grant}
use Rattle.mms_time.specs.Semaphores.{Rows, changed_row, changed_to}
use Rattle.mms_time.specs.Services.{relinquish_after, relinquish_conditions, relinquish_grant_in, relinquish_grant_of, take_after, take_conditions, take_told_in, take_told_of, with_take, with_token_back}
use Rattle.mms_time.specs.declared.row.Semaphore.{Semaphore}
use Rattle.mms_time.specs.declared.row.SemaphoreRow.{SemaphoreRow}
use Rattle.mms_time.specs.declared.taking.TakeDone.{TakeDone}
use Rattle.mms_time.specs.declared.taking.TakeDone.TheVariants.{Answered, Waits as Waiting}
use Rattle.sem_ticks.specs.Granted.{granted}
use Rattle.sem_ticks.specs.declared.granted.Granted.{Granted}
use Rattle.cell_client.specs.Areas.{IsServedIn, IsToldIn, OutcomeIn}
use Rattle.cell_client.specs.Association.{missing_error, other_error}
use Rattle.cell_client.specs.Effects.{felt, felt_all, settled}
use Rattle.cell_client.specs.Facts.{Facts}
use Rattle.cell_client.specs.Telling.{effects_told}
use Rattle.cell_client.specs.declared.told.ClientTold.{ClientTold}
use Rattle.cell_client.specs.Requests.{fits, is_done, refuses, request_told, size_of}
use Rattle.serve_semaphores.specs.Semaphores.{given_back, relinquish_control, take_control, taken}
use Rattle.serve_semaphores.specs.Tokens.{grants_nobody, grants_nobody_among, is_taken, relinquish_cause_on, relinquish_on, relinquished_on, take_cause_on, take_effects, take_on, taken_on}
use Rattle.cell_client.proofs.ServedLaws.{became, refused}
use Rattle.serve_semaphores.proofs.ServedLaws.{unfitting, waits}

-- ---- one semaphore among all

-- a row that is set in place of its own, or stays
set_or_not : (key : Key) (rows : Rows) (s changed : SemaphoreRow) (b : Bool) → lookup (key_eq key) rows ≡ Some s
    → set_value (key_eq key) rows (if b then changed else s) ≡ (if b then set_value (key_eq key) rows changed else rows)
set_or_not key rows s changed true there = refl
set_or_not key rows s changed false there = set_value_same (key_eq key) rows s there

changed_or_not : (key : Key) (rows become : Rows) (s written : SemaphoreRow) (change : Semaphore → Semaphore) (b : Bool) → lookup (key_eq key) rows ≡ Some s
    → become ≡ set_value (key_eq key) rows written → written ≡ (if b then changed_row change s else s)
    → become ≡ (if b then changed_to (lookup (key_eq key) rows) change key rows else rows)
changed_or_not key rows become s written change b there set is =
    set ∙ ap (set_value (key_eq key) rows) is ∙ set_or_not key rows s (changed_row change s) b there
    ∙ ap (λ (o : Option SemaphoreRow). if b then changed_to o change key rows else rows) (sym there)

-- ---- a token is taken

module _ (facts : Facts) (row : ClientRow) (invoke : ℕ) (x : TakeControl) (rows become : Rows) (new : RoomyRow) where
  abbrev size : ℕ
  size = size_of row.association

  abbrev taken_rows : Rows
  taken_rows = take_after row.client invoke facts.now x rows

  abbrev take_why : Option SemaphoreRow → Option ServiceError
  take_why o = first_of (take_conditions row.client x o)

  abbrev take_outcome : Option SemaphoreRow → OutcomeIn Rows
  take_outcome o = taken facts.now row.client invoke x rows (take_told_of x o)

  take_cases : (why : Option ServiceError) (told : TakeDone) → (take_control x).cause facts rows row ≡ why
      → (take_control x).effect facts rows row invoke ≡ taken facts.now row.client invoke x rows (Some told)
      → become ≡ (if is_taken size invoke why told then taken_rows else rows)
      → new ≡ settled (felt_all (take_effects size row.client invoke x why told) row) → IsServedIn (take_control x) facts invoke row rows become new
  take_cases (Some e) told cause effect table is = refused (take_control x) facts invoke row rows become new e cause table is
  take_cases None (Answered a) cause effect table is =
      became (take_control x) facts invoke row rows become new None taken_rows (Some (answer.TakeControl a)) cause effect table is
  take_cases None (Waiting entry) cause effect table is =
      waits (take_control x) facts invoke row rows become new taken_rows (record { invoke = invoke; key = key_of row.client x.name; entry = entry }) cause effect table is

  not_taken : lookup (key_eq (key_of row.client x.name)) rows ≡ None → become ≡ rows → new ≡ settled (felt (refuses invoke missing_error) row)
      → IsServedIn (take_control x) facts invoke row rows become new
  not_taken none kept is = refused (take_control x) facts invoke row rows become new missing_error (ap take_why none) kept is

  taken_so : (s written : SemaphoreRow) → lookup (key_eq (key_of row.client x.name)) rows ≡ Some s
      → become ≡ set_value (key_eq (key_of row.client x.name)) rows written → written ≡ taken_on row invoke facts.now x s
      → new ≡ settled (felt_all (take_on row invoke x s) row) → IsServedIn (take_control x) facts invoke row rows become new
  taken_so s written there set is told =
      take_cases (take_cause_on row.client x s) (take_told_in x s.semaphore) (ap take_why there) (ap take_outcome there)
      (changed_or_not (key_of row.client x.name) rows become s written (with_take row.client invoke x facts.now)
      (is_taken size invoke (take_cause_on row.client x s) (take_told_in x s.semaphore)) there set is)
      told

-- ---- a token is given back

module _ (facts : Facts) (row : ClientRow) (invoke : ℕ) (x : RelinquishControl) (rows become : Rows) (new : RoomyRow) where
  abbrev width : ℕ
  width = size_of row.association

  abbrev given_rows : Rows
  given_rows = relinquish_after row.client facts.now x rows

  abbrev as_told : Option Grant → Option Granted
  as_told g = option_map (λ grant. granted rows (key_of row.client x.name, grant)) g

  abbrev give_why : Option SemaphoreRow → Option ServiceError
  give_why o = first_of (relinquish_conditions row.client x o)

  abbrev give_outcome : Option SemaphoreRow → OutcomeIn Rows
  give_outcome o = given_back facts.now row.client x rows (option_map as_told (relinquish_grant_of row.client x o))

  give_cases : (why : Option ServiceError) (grant : Option Grant) → (why ≡ None → grant ≡ None) → (relinquish_control x).cause facts rows row ≡ why
      → (relinquish_control x).effect facts rows row invoke ≡ given_back facts.now row.client x rows (Some (as_told grant))
      → become ≡ (if is_done width invoke why (Some answer.RelinquishControl) then given_rows else rows)
      → new ≡ settled (felt_all (request_told width invoke why (Some answer.RelinquishControl)) row)
      → IsServedIn (relinquish_control x) facts invoke row rows become new
  give_cases (Some e) grant nobody cause effect table is = refused (relinquish_control x) facts invoke row rows become new e cause table is
  give_cases None (Some grant) nobody cause effect table is = absurd (cc (nobody refl))
  give_cases None None nobody cause effect table is =
      became (relinquish_control x) facts invoke row rows become new None given_rows (Some answer.RelinquishControl) cause effect table is

  not_given : lookup (key_eq (key_of row.client x.name)) rows ≡ None → become ≡ rows → new ≡ settled (felt (refuses invoke missing_error) row)
      → IsServedIn (relinquish_control x) facts invoke row rows become new
  not_given none kept is = refused (relinquish_control x) facts invoke row rows become new missing_error (ap give_why none) kept is

  given_so : (s written : SemaphoreRow) → lookup (key_eq (key_of row.client x.name)) rows ≡ Some s
      → become ≡ set_value (key_eq (key_of row.client x.name)) rows written
      → (relinquish_cause_on row.client x s ≡ None → relinquish_grant_in row.client x s.semaphore ≡ None)
      → written ≡ relinquished_on row invoke facts.now x s → new ≡ settled (felt_all (relinquish_on row invoke x s) row)
      → IsServedIn (relinquish_control x) facts invoke row rows become new
  given_so s written there set nobody is told =
      give_cases (relinquish_cause_on row.client x s) (relinquish_grant_in row.client x s.semaphore) nobody (ap give_why there) (ap give_outcome there)
      (changed_or_not (key_of row.client x.name) rows become s written (with_token_back row.client x.token facts.now)
      (is_done width invoke (relinquish_cause_on row.client x s) (Some answer.RelinquishControl)) there set is)
      told

-- ---- by a call

-- what is found under the name that the client gives
abbrev Asked : ClientRow → ℕ → Rows → Option SemaphoreRow → ObjectName → Type 0
Asked row client rows found name = (client ≡ row.client) × (found ≡ lookup (key_eq (key_of client name)) rows)

named : (row : ClientRow) (client : ℕ) (rows : Rows) (found : Option SemaphoreRow) (name : ObjectName) → Asked row client rows found name
    → lookup (key_eq (key_of row.client name)) rows ≡ found
named row client rows found name asked = sym (asked.1 ∙ ap (λ (n : ℕ). lookup (key_eq (key_of n name)) rows) asked.0)

stored : (row : ClientRow) (client : ℕ) (rows become : Rows) (written : SemaphoreRow) (name : ObjectName) → client ≡ row.client
    → become ≡ set_value (key_eq (key_of client name)) rows written → become ≡ set_value (key_eq (key_of row.client name)) rows written
stored row client rows become written name by set = set ∙ ap (λ (n : ℕ). set_value (key_eq (key_of n name)) rows written) by

pub take_refused : (result : Result (Unit {0}) Memory) (row : ClientRow) (client : ℕ) (rows become : Rows) (new : RoomyRow) (invoke : ℕ) (now : Moment) (x : TakeControl)
    → Asked row client rows None x.name → become ≡ rows → OnOk result (new ≡ settled (felt (refuses invoke missing_error) row))
    → OnOk result ((facts : Facts) → facts.now ≡ now → IsServedIn (take_control x) facts invoke row rows become new)
take_refused (Ok done) row client rows become new invoke now x asked kept is =
    λ facts same. not_taken facts row invoke x rows become new (named row client rows None x.name asked) kept is
take_refused (Err memory) row client rows become new invoke now x asked kept is = tt

pub take_served : (result : Result (Unit {0}) Memory) (row : ClientRow) (client : ℕ) (rows become : Rows) (s written : SemaphoreRow) (new : RoomyRow) (invoke : ℕ) (now : Moment) (x : TakeControl)
    → Asked row client rows (Some s) x.name → become ≡ set_value (key_eq (key_of client x.name)) rows written
    → OnOk result (written ≡ taken_on row invoke now x s) → OnOk result (new ≡ settled (felt_all (take_on row invoke x s) row))
    → OnOk result ((facts : Facts) → facts.now ≡ now → IsServedIn (take_control x) facts invoke row rows become new)
take_served (Ok done) row client rows become s written new invoke now x asked set is told =
    λ facts same. taken_so facts row invoke x rows become new s written (named row client rows (Some s) x.name asked)
    (stored row client rows become written x.name asked.0 set) (is ∙ ap (λ (m : Moment). taken_on row invoke m x s) (sym same)) told
take_served (Err memory) row client rows become s written new invoke now x asked set is told = tt

pub still : {A : Type 0} (result : Result A Memory) (key : Key) (rows become : Rows) (s written : SemaphoreRow) → Some s ≡ lookup (key_eq key) rows → become ≡ set_value (key_eq key) rows written
    → OnErr result (written ≡ s) → OnErr result (become ≡ rows)
still (Ok done) key rows become s written there set same = tt
still (Err memory) key rows become s written there set same = set ∙ ap (set_value (key_eq key) rows) same ∙ set_value_same (key_eq key) rows s (sym there)

pub give_refused : (row : ClientRow) (client : ℕ) (rows become : Rows) (new : RoomyRow) (invoke : ℕ) (facts : Facts) (x : RelinquishControl)
    → Asked row client rows None x.name → become ≡ rows → new ≡ settled (felt (refuses invoke missing_error) row)
    → IsServedIn (relinquish_control x) facts invoke row rows become new
give_refused row client rows become new invoke facts x asked kept is = not_given facts row invoke x rows become new (named row client rows None x.name asked) kept is

pub give_served : (result : Result Bool Memory) (row : ClientRow) (client : ℕ) (rows become : Rows) (s written : SemaphoreRow) (new : RoomyRow) (invoke : ℕ) (now : Moment) (x : RelinquishControl)
    → Asked row client rows (Some s) x.name → become ≡ set_value (key_eq (key_of client x.name)) rows written
    → IfOk result (λ done. done ≡ true → new ≡ settled (felt_all (relinquish_on row invoke x s) row)) → IfOk result (λ done. done ≡ true → written ≡ relinquished_on row invoke now x s)
    → IfOk result (λ done. done ≡ true → relinquish_cause_on row.client x s ≡ None → relinquish_grant_in row.client x s.semaphore ≡ None)
    → IfOk result (λ done. done ≡ true → (facts : Facts) → facts.now ≡ now → IsServedIn (relinquish_control x) facts invoke row rows become new)
give_served (Ok done) row client rows become s written new invoke now x asked set told is nobody =
    λ is_so facts same. given_so facts row invoke x rows become new s written (named row client rows (Some s) x.name asked)
    (stored row client rows become written x.name asked.0 set) (nobody is_so) (is is_so ∙ ap (λ (m : Moment). relinquished_on row invoke m x s) (sym same)) (told is_so)
give_served (Err memory) row client rows become s written new invoke now x asked set told is nobody = tt

pub give_not : (result : Result Bool Memory) (key : Key) (rows become : Rows) (s written : SemaphoreRow) (was new : RoomyRow) → Some s ≡ lookup (key_eq key) rows → become ≡ set_value (key_eq key) rows written
    → IfOk result (λ done. done ≡ false → (new ≡ was) × (written ≡ s)) → IfOk result (λ done. done ≡ false → (new ≡ was) × (become ≡ rows))
give_not (Ok done) key rows become s written was new there set same =
    λ no. ((same no).0, set ∙ ap (set_value (key_eq key) rows) (same no).1 ∙ set_value_same (key_eq key) rows s (sym there))
give_not (Err memory) key rows become s written was new there set same = tt

-- ---- who is granted a token is told

pub none_of : {X : Type 0} (o : Option X) → ((x : X) → o ≡ Some x → ⊥) → o ≡ None
none_of None not = refl
none_of (Some x) not = absurd (not x refl)

pub when_none : {X P : Type 0} (o : Option X) → o ≡ None → IfNone o P → P
when_none None e there = there
when_none (Some x) e there = absurd (cc e)

-- a token that somebody is granted is given back, but for the answer, which is too long
pub give_unanswered : (row : ClientRow) (new : RoomyRow) (invoke : ℕ) (facts : Facts) (x : RelinquishControl) (rows : Rows) → grants_nobody row.client x rows ≡ false
    → fits (size_of row.association) invoke (Some answer.RelinquishControl) ≡ false → new ≡ settled (felt (refuses invoke other_error) row)
    → IsServedIn (relinquish_control x) facts invoke row rows rows new
give_unanswered row new invoke facts x rows grants fit is = by_row (lookup (key_eq key) rows) refl grants
  where
    key : Key
    key = key_of row.client x.name

    by_cause : (s : SemaphoreRow) → lookup (key_eq key) rows ≡ Some s → (why : Option ServiceError) → relinquish_cause_on row.client x s ≡ why
        → (is_some why || is_none (relinquish_grant_in row.client x s.semaphore)) ≡ false → IsServedIn (relinquish_control x) facts invoke row rows rows new
    by_cause s there (Some e) cause none = absurd (cc none)
    by_cause s there None cause none =
        unfitting (relinquish_control x) facts invoke row rows rows new answer.RelinquishControl
        (ap (λ (o : Option SemaphoreRow). first_of (relinquish_conditions row.client x o)) there ∙ cause)
        (ap (λ (o : Option SemaphoreRow). (given_back facts.now row.client x rows
        (option_map (λ (g : Option Grant). option_map (λ grant. granted rows (key, grant)) g) (relinquish_grant_of row.client x o))).answer) there)
        fit refl is

    by_row : (o : Option SemaphoreRow) → lookup (key_eq key) rows ≡ o → grants_nobody_among row.client x o ≡ false → IsServedIn (relinquish_control x) facts invoke row rows rows new
    by_row None there none = absurd (cc none)
    by_row (Some s) there none = by_cause s there (relinquish_cause_on row.client x s) refl none

pub told_same : {X : Type 0} (result : Result (Option X) Memory) (items : X → List (ℕ × ClientTold)) (invoke : ℕ) (now : Moment) (x : RelinquishControl) (own was : RoomyRow) (rows before : Rows)
    → (own ≡ was) × (rows ≡ before)
    → IfOk result (λ left. IfSome left (λ told. (facts : Facts)
    → IsToldIn (relinquish_control x) facts invoke own.row rows (relinquish_after own.row.client facts.now x rows) (effects_told (items told))))
    → IfOk result (λ left. IfSome left (λ told. (facts : Facts) → facts.now ≡ now
    → IsToldIn (relinquish_control x) facts invoke was.row before (relinquish_after was.row.client now x before) (effects_told (items told))))
told_same (Ok (Some told)) items invoke now x own was rows before same left = λ facts at.
    subst (λ (m : Moment). IsToldIn (relinquish_control x) facts invoke was.row before (relinquish_after was.row.client m x before) (effects_told (items told))) at
    (subst (λ (r : Rows). IsToldIn (relinquish_control x) facts invoke was.row r (relinquish_after was.row.client facts.now x r) (effects_told (items told))) same.1
    (subst (λ (p : RoomyRow). IsToldIn (relinquish_control x) facts invoke p.row rows (relinquish_after p.row.client facts.now x rows) (effects_told (items told))) same.0 (left facts)))
told_same (Ok None) items invoke now x own was rows before same left = tt
told_same (Err memory) items invoke now x own was rows before same left = tt

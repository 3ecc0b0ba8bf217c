-- The condition of each enrollment stays there, whatever is done to conditions and to enrollments.
use Rattle.std.proofs.Common.{◌≡◌, ◌∙◌, ap, sym, refl, ℕ, ◌==◌, ◌&&◌, ◌||◌, Bool, true, false, cond, not, List, [], ◌∷◌, ◌++◌, Option, None, Some, filter, is_some, length, nat_le}
use Rattle.std.proofs.lemmas.Bool.{eqb-true}
use Rattle.std.specs.List.{list_all, list_any}
use Rattle.std.specs.Map.{keys_of, set_value}
use Rattle.std.specs.Option.{option_map_or}
use Rattle.mms_types.proofs.Conditions.{none_holds}
use Rattle.mms_types.specs.Errors.{capability_unavailable, object_exists, object_non_existent, object_undefined}
use Rattle.mms_types.specs.Order.{key_eq, key_of, scope_eq}
use Rattle.mms_types.specs.declared.area.EventRequest.{EventRequest}
use Rattle.mms_types.specs.declared.area.EventRequest.TheVariants as request
use Rattle.mms_types.specs.declared.condition.DefineEventEnrollment.{DefineEventEnrollment}
use Rattle.mms_types.specs.declared.condition.Turned.{Turned}
use Rattle.mms_types.specs.declared.key.Key.{Key}
use Rattle.mms_types.specs.declared.key.Scope.{Scope}
use Rattle.mms_types.specs.declared.key.Scope.TheVariants as scope
use Rattle.mms_types.specs.declared.moment.Moment.{Moment}
use Rattle.mms_types.specs.declared.object_name.ObjectName.{ObjectName}
use Rattle.mms_types.specs.declared.service_error.ServiceError.{ServiceError}
use Rattle.mms_types.proofs.Precedence.{key_eq_tells}
use Rattle.object_names.specs.NewName.{is_of_domain}
use Rattle.event_cond.specs.Conditions.{Rows as Conditions, changed, condition, named}
use Rattle.event_cond.specs.Deletion as deletion
use Rattle.event_cond.specs.Services as services
use Rattle.event_cond.specs.declared.condition.Condition.{Condition}
use Rattle.event_enrol.specs.Enrolments.{Rows as Enrolments, define_cause, defined, has_own_names, is_defined, is_of, is_own, most_enrolments}
use Rattle.event_enrol.specs.Enrolments as enrol
use Rattle.event_enrol.specs.declared.enrolment.Enrolment.{Enrolment}
use Rattle.event_enrol.proofs.Kept.{all_left, all_more}
use Rattle.association.specs.Client.{ClientRow}
use Rattle.cell_client.specs.Facts.{Facts}
use Rattle.serve_events.specs.Events.{request_in, without_named, without_turned}
use Rattle.serve_events.specs.Tables.{ArePlaced, is_placed, lost, no_events}
use Rattle.serve_events.specs.declared.tables.EventTables.{EventTables}
use Rattle.serve_events.proofs.Turned.{told_deleted}

-- ---- other conditions

-- all of a list passes what follows from what it passes
pub all_follow : {X : Type 0} (p q : X → Bool) (xs : List X) → ((x : X) → p x ≡ true → q x ≡ true) → list_all p xs ≡ true → list_all q xs ≡ true
all_follow p q [] follows all = refl
all_follow p q (x ∷ xs) follows all = by_first (p x) refl all (all_follow p q xs follows)
  where
    by_first : (b : Bool) → p x ≡ b → (b && list_all p xs) ≡ true → (list_all p xs ≡ true → list_all q xs ≡ true) → (q x && list_all q xs) ≡ true
    by_first true e all later = ap (λ (b : Bool). b && list_all q xs) (follows x e) ∙ later all
    by_first false e all later = absurd (let h : false ≡ true = all in cc h)

-- where those that are there stay there, each enrollment's condition does
pub conditions_stay : (old new : Conditions) (rows : Enrolments) → ((k : Key) → is_some (named k old) ≡ true → is_some (named k new) ≡ true)
    → list_all (is_placed old) rows ≡ true → list_all (is_placed new) rows ≡ true
conditions_stay old new rows stay all = all_follow (is_placed old) (is_placed new) rows (λ row there. stay row.1.condition there) all

-- one condition more
pub named_more : (k : Key) (rows : Conditions) (row : Key × Condition) → is_some (named k rows) ≡ true → is_some (named k (rows ++ row ∷ [])) ≡ true
named_more k [] row there = absurd (cc there)
named_more k (r ∷ rs) row there = by_first (key_eq k r.0) there (named_more k rs row)
  where
    by_first : (b : Bool) → is_some (cond b (Some r.1) (named k rs)) ≡ true → (is_some (named k rs) ≡ true → is_some (named k (rs ++ row ∷ [])) ≡ true)
        → is_some (cond b (Some r.1) (named k (rs ++ row ∷ []))) ≡ true
    by_first true there later = refl
    by_first false there later = later there

-- one that is changed
named_keys : (k : Key) (rows : Conditions) → is_some (named k rows) ≡ list_any (key_eq k) (keys_of rows)
named_keys k [] = refl
named_keys k (row ∷ rows) = by_first (key_eq k row.0) (named_keys k rows)
  where
    by_first : (b : Bool) → is_some (named k rows) ≡ list_any (key_eq k) (keys_of rows)
        → is_some (cond b (Some row.1) (named k rows)) ≡ (b || list_any (key_eq k) (keys_of rows))
    by_first true later = refl
    by_first false later = later

set_keys : (key : Key) (rows : Conditions) (c : Condition) → keys_of (set_value (key_eq key) rows c) ≡ keys_of rows
set_keys key [] c = refl
set_keys key (row ∷ rows) c = by_first (key_eq key row.0) (set_keys key rows c)
  where
    by_first : (b : Bool) → keys_of (set_value (key_eq key) rows c) ≡ keys_of rows
        → keys_of (cond b ((row.0, c) ∷ rows) (row ∷ set_value (key_eq key) rows c)) ≡ row.0 ∷ keys_of rows
    by_first true later = refl
    by_first false later = ap (λ (l : List Key). row.0 ∷ l) later

pub named_changed : (key : Key) (f : Condition → Condition) (rows : Conditions) (k : Key) → is_some (named k rows) ≡ true → is_some (named k (changed key f rows)) ≡ true
named_changed key f rows k there = by_named (named key rows)
  where
    by_named : (o : Option Condition) → is_some (named k (option_map_or (λ c. set_value (key_eq key) rows (f c)) o rows)) ≡ true
    by_named None = there
    by_named (Some c) =
        named_keys k (set_value (key_eq key) rows (f c)) ∙ ap (λ (l : List Key). list_any (key_eq k) l) (set_keys key rows (f c)) ∙ sym (named_keys k rows) ∙ there

-- some that go
named_left : (p : Key → Bool) (k : Key) (rows : Conditions) → p k ≡ true → is_some (named k rows) ≡ true → is_some (named k (filter (λ row. p row.0) rows)) ≡ true
named_left p k [] stays there = there
named_left p k (row ∷ rows) stays there = by_first (key_eq k row.0) (p row.0) refl refl there (named_left p k rows stays)
  where
    left : Conditions
    left = filter (λ r. p r.0) rows

    by_first : (a b : Bool) → key_eq k row.0 ≡ a → p row.0 ≡ b → is_some (cond a (Some row.1) (named k rows)) ≡ true → (is_some (named k rows) ≡ true → is_some (named k left) ≡ true)
        → is_some (named k (cond b (row ∷ left) left)) ≡ true
    by_first true true e f there later = ap (λ (b : Bool). is_some (cond b (Some row.1) (named k left))) e
    by_first true false e f there later =
        absurd (let same : p k ≡ false = ap p ((key_eq_tells k row.0).0 e) ∙ f in let h : false ≡ true = sym same ∙ stays in cc h)
    by_first false true e f there later = ap (λ (b : Bool). is_some (cond b (Some row.1) (named k left))) e ∙ later there
    by_first false false e f there later = later there

-- ---- conditions are deleted, and the enrollments on them

not_not : (b : Bool) → not b ≡ true → b ≡ false
not_not false e = refl
not_not true e = absurd (cc e)

left_placed : (turns : List Turned) (conditions : Conditions) (rows : Enrolments) → list_all (is_placed conditions) rows ≡ true
    → list_all (is_placed (without_named turns conditions)) (without_turned turns rows) ≡ true
left_placed turns conditions [] all = refl
left_placed turns conditions (row ∷ rows) all = by_first (is_placed conditions row) (list_any (λ turn. key_eq turn.condition row.1.condition) turns) refl refl all (left_placed turns conditions rows)
  where
    left : Conditions
    left = without_named turns conditions

    by_first : (a b : Bool) → is_placed conditions row ≡ a → list_any (λ turn. key_eq turn.condition row.1.condition) turns ≡ b → (a && list_all (is_placed conditions) rows) ≡ true
        → (list_all (is_placed conditions) rows ≡ true → list_all (is_placed left) (without_turned turns rows) ≡ true)
        → list_all (is_placed left) (cond (not b) (row ∷ without_turned turns rows) (without_turned turns rows)) ≡ true
    by_first true true e f all later = later all
    by_first true false e f all later =
        ap (λ (b : Bool). b && list_all (is_placed left) (without_turned turns rows))
        (named_left (λ (k : Key). not (list_any (λ (turn : Turned). key_eq turn.condition k) turns)) row.1.condition conditions (ap not f) e)
        ∙ later all
    by_first false b e f all later = absurd (cc all)

pub deleted_placed : (client : ℕ) (now : Moment) (names : List ObjectName) (conditions : Conditions) (rows : Enrolments) → list_all (is_placed conditions) rows ≡ true
    → list_all (is_placed (deletion.after_delete client names conditions)) (without_turned (deletion.deletions client now names conditions) rows) ≡ true
deleted_placed client now names conditions rows all =
    ap (λ (l : Conditions). list_all (is_placed l) (without_turned (deletion.deletions client now names conditions) rows)) (sym (told_deleted client now names conditions))
    ∙ left_placed (deletion.deletions client now names conditions) conditions rows all

-- ---- an enrollment is defined

condition_found : (live there : Bool) (client : ℕ) (request : DefineEventEnrollment) (rows : Enrolments) → define_cause live there client request rows ≡ None → there ≡ true
condition_found live there client request rows e =
    let full = nat_full rows in
    let one : List (Bool × ServiceError) = (full, capability_unavailable) ∷ [] in
    let two : List (Bool × ServiceError) = (not there, object_non_existent) ∷ one in
    let three : List (Bool × ServiceError) = (is_defined client request.name rows, object_exists) ∷ two in
    let a = none_holds (is_of_domain request.name && not live) object_undefined three e in
    let b = none_holds (is_defined client request.name rows) object_exists two a.1 in
    let c = none_holds (not there) object_non_existent one b.1 in
    not_false there c.0
  where
    nat_full : Enrolments → Bool
    nat_full rows = nat_le most_enrolments (length rows)

    not_false : (b : Bool) → not b ≡ false → b ≡ true
    not_false true e = refl
    not_false false e = absurd (cc e)

pub defined_placed : (live : Bool) (client : ℕ) (request : DefineEventEnrollment) (conditions : Conditions) (rows : Enrolments)
    → define_cause live (is_some (condition client request.condition conditions)) client request rows ≡ None
    → list_all (is_placed conditions) rows ≡ true → list_all (is_placed conditions) (defined client request rows) ≡ true
defined_placed live client request conditions rows none all =
    all_more (is_placed conditions) rows
    (key_of client request.name, record { client = client; condition = key_of client request.condition; transitions = request.transitions; rule = request.rule })
    all (condition_found live (is_some (condition client request.condition conditions)) client request rows none)

-- ---- a client is lost

both_true : (a b : Bool) → (a && b) ≡ true → (a ≡ true) × (b ≡ true)
both_true true true e = (refl, refl)
both_true true false e = absurd (cc e)
both_true false b e = absurd (cc e)

other_scope : (client own : ℕ) (s : Scope) (item : List ℕ) → is_own own (record { scope = s; item = item }) ≡ true → (own == client) ≡ false → scope_eq s (scope.Association client) ≡ false
other_scope client own scope.Vmd item mine other = refl
other_scope client own (scope.Domain domain) item mine other = refl
other_scope client own (scope.Association owner) item mine other = ap (λ (n : ℕ). n == client) (eqb-true owner own mine) ∙ other

lost_rows : (client : ℕ) (conditions : Conditions) (rows : Enrolments) → list_all has_own_names rows ≡ true → list_all (is_placed conditions) rows ≡ true
    → list_all (is_placed (deletion.without_client client conditions)) (filter (λ row. not (is_of client row)) rows) ≡ true
lost_rows client conditions [] own all = refl
lost_rows client conditions (row ∷ rows) own all =
    let mine = both_true (has_own_names row) (list_all has_own_names rows) own in
    let there = both_true (is_placed conditions row) (list_all (is_placed conditions) rows) all in
    by_client (row.1.client == client) refl (both_true (is_own row.1.client row.0) (is_own row.1.client row.1.condition) mine.0).1 there.0 (lost_rows client conditions rows mine.1 there.1)
  where
    left : Enrolments
    left = filter (λ r. not (is_of client r)) rows

    now : Conditions
    now = deletion.without_client client conditions

    by_client : (b : Bool) → (row.1.client == client) ≡ b → is_own row.1.client row.1.condition ≡ true → is_placed conditions row ≡ true → list_all (is_placed now) left ≡ true
        → list_all (is_placed now) (cond (not b) (row ∷ left) left) ≡ true
    by_client true e mine there later = later
    by_client false e mine there later =
        ap (λ (b : Bool). b && list_all (is_placed now) left)
        (named_left (λ (k : Key). not (scope_eq k.scope (scope.Association client))) row.1.condition conditions
        (ap not (other_scope client row.1.client row.1.condition.scope row.1.condition.item mine e)) there)
        ∙ later

pub lost_placed : (client : ℕ) (conditions : Conditions) (rows : Enrolments) → list_all has_own_names rows ≡ true → list_all (is_placed conditions) rows ≡ true
    → list_all (is_placed (deletion.without_client client conditions)) (enrol.without_client client rows) ≡ true
lost_placed client conditions rows own all =
    all_left (is_placed (deletion.without_client client conditions)) (λ (row : Key × Enrolment). not (scope_eq row.0.scope (scope.Association client))) (filter (λ (row : Key × Enrolment). not (is_of client row)) rows)
    (lost_rows client conditions rows own all)

-- ---- all

pub none_placed : ArePlaced no_events
none_placed = refl

pub request_keeps : (facts : Facts) (t : EventTables) (row : ClientRow) (invoke : ℕ) → ArePlaced t → (asked : EventRequest) → (request_in asked).cause facts t row ≡ None
    → ArePlaced ((request_in asked).effect facts t row invoke).tables
request_keeps facts t row invoke placed (request.DefineEventCondition x) none =
    conditions_stay t.conditions (services.after_define row.client facts.now x.now (facts.cell row.client) t.conditions) t.enrolments
    (λ k there. named_more k t.conditions (key_of row.client x.now.name, services.defined facts.now x.now (facts.cell row.client)) there) placed
request_keeps facts t row invoke placed (request.DeleteEventCondition x) none = deleted_placed row.client facts.now x.now t.conditions t.enrolments placed
request_keeps facts t row invoke placed (request.ReportEventConditionStatus x) none = placed
request_keeps facts t row invoke placed (request.AlterEventConditionMonitoring x) none =
    conditions_stay t.conditions (services.after_alter row.client facts.now facts.truth x.now t.conditions) t.enrolments
    (named_changed (key_of row.client x.now.name) (services.altered facts.now facts.truth x.now) t.conditions) placed
request_keeps facts t row invoke placed (request.TriggerEvent x) none =
    conditions_stay t.conditions (services.after_trigger row.client facts.now x.now.name t.conditions) t.enrolments
    (named_changed (key_of row.client x.now.name) (services.triggered facts.now) t.conditions) placed
request_keeps facts t row invoke placed (request.DefineEventEnrollment x) none = defined_placed facts.live row.client x.now t.conditions t.enrolments none placed
request_keeps facts t row invoke placed (request.DeleteEventEnrollment x) none =
    all_left (is_placed t.conditions) (λ (r : Key × Enrolment). not (enrol.is_deleted row.client x.now r)) t.enrolments placed

pub lost_keeps : (t : EventTables) (client : ℕ) → list_all has_own_names t.enrolments ≡ true → ArePlaced t → ArePlaced (lost client t)
lost_keeps t client own placed = lost_placed client t.conditions t.enrolments own placed

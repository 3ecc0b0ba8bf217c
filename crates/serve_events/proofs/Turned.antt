-- The conditions of transitions are taken out one after the other, and the enrollments on them.
use Rattle.std.proofs.Common.{◌≡◌, ◌∙◌, ap, ap₂, arith, sym, refl, ℕ, ◌&&◌, ◌||◌, Bool, true, false, cond, not, List, [], ◌∷◌, Option, None, Some, filter, is_some, length}
use Rattle.std.specs.List.{cons_option, list_all, list_any}
use Rattle.std.specs.Option.{option_map}
use Rattle.mms_types.specs.Order.{key_eq}
use Rattle.mms_types.specs.declared.condition.Turned.{Turned}
use Rattle.mms_types.specs.declared.key.Key.{Key}
use Rattle.mms_types.specs.declared.moment.Moment.{Moment}
use Rattle.mms_types.specs.declared.object_name.ObjectName.{ObjectName}
use Rattle.mms_types.proofs.Precedence.{key_eq_tells}
use Rattle.object_names.specs.Deletion.{is_listed_by, mentioned}
use Rattle.event_cond.specs.Conditions.{Rows, named}
use Rattle.event_cond.specs.Deletion.{after_delete, deletion_turn, deletions, deletions_of, without}
use Rattle.event_cond.specs.declared.condition.Condition.{Condition}
use Rattle.object_names.proofs.Mentioned.{among, listed_mentioned}
use Rattle.event_enrol.specs.Enrolments.{is_on, without_condition}
use Rattle.event_enrol.specs.Enrolments as enrol
use Rattle.event_enrol.specs.declared.enrolment.Enrolment.{Enrolment}
use Rattle.std.specs.Borrow.{Bor}
use Rattle.mms_types.specs.declared.area.EventRequest.{EventRequest}
use Rattle.mms_types.specs.declared.area.EventRequest.TheVariants as request
use Rattle.serve_events.specs.Events.{without_named, without_turned}
use Rattle.serve_events.specs.Turns.{turned_after, turns_of}
use Rattle.serve_events.specs.declared.tables.EventTables.{EventTables}

-- what one takes out, and then what the others do
filter_either : {X : Type 0} (q p : X → Bool) (rows : List X) → filter (λ r. not (q r || p r)) rows ≡ filter (λ r. not (p r)) (filter (λ r. not (q r)) rows)
filter_either q p [] = refl
filter_either {X} q p (r ∷ rs) = by_both (q r) (p r) refl (filter_either q p rs)
  where
    left : List X
    left = filter (λ x. not (q x)) rs

    by_both : (a b : Bool) → p r ≡ b → filter (λ x. not (q x || p x)) rs ≡ filter (λ x. not (p x)) left
        → cond (not (a || b)) (r ∷ filter (λ x. not (q x || p x)) rs) (filter (λ x. not (q x || p x)) rs) ≡ filter (λ x. not (p x)) (cond (not a) (r ∷ left) left)
    by_both true b e later = later
    by_both false true e later = later ∙ sym (ap (λ (c : Bool). cond (not c) (r ∷ filter (λ x. not (p x)) left) (filter (λ x. not (p x)) left)) e)
    by_both false false e later =
        ap (λ (l : List X). r ∷ l) later ∙ sym (ap (λ (c : Bool). cond (not c) (r ∷ filter (λ x. not (p x)) left) (filter (λ x. not (p x)) left)) e)

pub first_named : (turned : Turned) (turns : List Turned) (rows : Rows) → without_named (turned ∷ turns) rows ≡ without_named turns (without turned.condition rows)
first_named turned turns rows = filter_either (λ (row : Key × Condition). key_eq turned.condition row.0) (λ (row : Key × Condition). list_any (λ (turn : Turned). key_eq turn.condition row.0) turns) rows

pub first_turned : (turned : Turned) (turns : List Turned) (rows : enrol.Rows) → without_turned (turned ∷ turns) rows ≡ without_turned turns (without_condition turned.condition rows)
first_turned turned turns rows = filter_either (is_on turned.condition) (λ (row : Key × Enrolment). list_any (λ (turn : Turned). is_on turn.condition row) turns) rows

pub none_named : (rows : Rows) → without_named [] rows ≡ rows
none_named [] = refl
none_named (row ∷ rows) = ap (λ (l : Rows). row ∷ l) (none_named rows)

pub none_turned : (rows : enrol.Rows) → without_turned [] rows ≡ rows
none_turned [] = refl
none_turned (row ∷ rows) = ap (λ (l : enrol.Rows). row ∷ l) (none_turned rows)

-- ---- the conditions that a deletion tells of are those that it deletes

same_name : (a b : Key) → key_eq a b ≡ true → a ≡ b
same_name a b e = (key_eq_tells a b).0 e

-- the transitions of conditions that are there are of all keys that are there
pub any_turned : (now : Moment) (keys : List Key) (rows : Rows) (k : Key) → is_some (named k rows) ≡ true
    → list_any (λ turn. key_eq turn.condition k) (deletions_of now keys rows) ≡ among keys k
any_turned now [] rows k there = refl
any_turned now (key ∷ keys) rows k there = by_named (named key rows) refl (any_turned now keys rows k there)
  where
    turns : List Turned
    turns = deletions_of now keys rows

    not_there : None ≡ named k rows → ⊥
    not_there none = absurd (let h : false ≡ true = ap (λ (o : Option Condition). is_some o) none ∙ there in cc h)

    apart : (b : Bool) → key_eq key k ≡ b → named key rows ≡ None → b ≡ false
    apart false e none = refl
    apart true e none = absurd (not_there (sym none ∙ ap (λ (x : Key). named x rows) (same_name key k e)))

    by_named : (o : Option Condition) → named key rows ≡ o → list_any (λ turn. key_eq turn.condition k) turns ≡ among keys k
        → list_any (λ turn. key_eq turn.condition k) (cons_option (option_map (deletion_turn now key) o) turns) ≡ (key_eq key k || among keys k)
    by_named (Some c) e later = ap (λ (b : Bool). key_eq key k || b) later
    by_named None e later = later ∙ sym (ap (λ (b : Bool). b || among keys k) (apart (key_eq key k) refl e))

-- each condition is there
and_true : (a b : Bool) → a ≡ true → b ≡ true → (a && b) ≡ true
and_true a b x y = ap (λ (c : Bool). c && b) x ∙ y

pub still_named : (key : Key) (row : Key × Condition) (rows : Rows) → is_some (named key rows) ≡ true → is_some (named key (row ∷ rows)) ≡ true
still_named key row rows there = by_first (key_eq key row.0)
  where
    by_first : (b : Bool) → is_some (cond b (Some row.1) (named key rows)) ≡ true
    by_first true = refl
    by_first false = there

self_named : (row : Key × Condition) (rows : Rows) → is_some (named row.0 (row ∷ rows)) ≡ true
self_named row rows = ap (λ (b : Bool). is_some (cond b (Some row.1) (named row.0 rows))) ((key_eq_tells row.0 row.0).1 refl)

all_still : (row : Key × Condition) (rows xs : Rows) → list_all (λ r. is_some (named r.0 rows)) xs ≡ true → list_all (λ r. is_some (named r.0 (row ∷ rows))) xs ≡ true
all_still row rows [] all = refl
all_still row rows (x ∷ xs) all = by_first (is_some (named x.0 rows)) refl all (all_still row rows xs)
  where
    by_first : (b : Bool) → is_some (named x.0 rows) ≡ b → (b && list_all (λ r. is_some (named r.0 rows)) xs) ≡ true
        → (list_all (λ r. is_some (named r.0 rows)) xs ≡ true → list_all (λ r. is_some (named r.0 (row ∷ rows))) xs ≡ true)
        → (is_some (named x.0 (row ∷ rows)) && list_all (λ r. is_some (named r.0 (row ∷ rows))) xs) ≡ true
    by_first true e all later = and_true (is_some (named x.0 (row ∷ rows))) (list_all (λ r. is_some (named r.0 (row ∷ rows))) xs) (still_named x.0 row rows e) (later all)
    by_first false e all later = absurd (let h : false ≡ true = all in cc h)

pub all_named : (rows : Rows) → list_all (λ r. is_some (named r.0 rows)) rows ≡ true
all_named [] = refl
all_named (row ∷ rows) = and_true (is_some (named row.0 (row ∷ rows))) (list_all (λ r. is_some (named r.0 (row ∷ rows))) rows) (self_named row rows) (all_still row rows rows (all_named rows))

same_left : (f g : Key → Bool) (all xs : Rows) → ((k : Key) → is_some (named k all) ≡ true → f k ≡ g k) → list_all (λ r. is_some (named r.0 all)) xs ≡ true
    → filter (λ r. not (f r.0)) xs ≡ filter (λ r. not (g r.0)) xs
same_left f g all [] same there = refl
same_left f g all (x ∷ xs) same there = by_first (is_some (named x.0 all)) refl there (same_left f g all xs same)
  where
    f_left : Rows
    f_left = filter (λ r. not (f r.0)) xs

    g_left : Rows
    g_left = filter (λ r. not (g r.0)) xs

    by_first : (b : Bool) → is_some (named x.0 all) ≡ b → (b && list_all (λ r. is_some (named r.0 all)) xs) ≡ true
        → (list_all (λ r. is_some (named r.0 all)) xs ≡ true → f_left ≡ g_left)
        → cond (not (f x.0)) (x ∷ f_left) f_left ≡ cond (not (g x.0)) (x ∷ g_left) g_left
    by_first true e there later =
        ap (λ (b : Bool). cond (not b) (x ∷ f_left) f_left) (same x.0 e) ∙ ap (λ (l : Rows). cond (not (g x.0)) (x ∷ l) l) (later there)
    by_first false e there later = absurd (let h : false ≡ true = there in cc h)

pub told_deleted : (client : ℕ) (now : Moment) (names : List ObjectName) (rows : Rows) → without_named (deletions client now names rows) rows ≡ after_delete client names rows
told_deleted client now names rows =
    same_left (λ (k : Key). list_any (λ (turn : Turned). key_eq turn.condition k) (deletions client now names rows)) (is_listed_by client names) rows rows
    (λ k there. any_turned now (mentioned client names) rows k there ∙ listed_mentioned client names k) (all_named rows)

-- ---- those that are left when all are taken out

pub named_end : (turns : List Turned) (rows all : Rows) → length turns ≡ 0 → without_named turns rows ≡ all → rows ≡ all
named_end [] rows all none is = sym (none_named rows) ∙ is
named_end (turn ∷ turns) rows all none is = absurd (omega (arith, none))

pub turned_end : (turns : List Turned) (rows all : enrol.Rows) → length turns ≡ 0 → without_turned turns rows ≡ all → rows ≡ all
turned_end [] rows all none is = sym (none_turned rows) ∙ is
turned_end (turn ∷ turns) rows all none is = absurd (omega (arith, none))

pub over_deleted : (client : ℕ) (now : Moment) (says : Bool) (asked : EventRequest) (names : Bor (List ObjectName)) (t : EventTables) (turns : List Turned) (conditions : Rows)
    (enrolments : enrol.Rows) → asked ≡ request.DeleteEventCondition names → turns ≡ turns_of client now says asked t → conditions ≡ without_named turns t.conditions
    → enrolments ≡ without_turned turns t.enrolments → record { conditions = conditions; enrolments = enrolments } ≡ turned_after client now says asked t
over_deleted client now says asked names t turns conditions enrolments is all c e =
    let same : turns ≡ deletions client now names.now t.conditions = all ∙ ap (λ (q : EventRequest). turns_of client now says q t) is in
    ap₂ (λ (l : Rows) (m : enrol.Rows). record { conditions = l; enrolments = m })
    (c ∙ ap (λ (ts : List Turned). without_named ts t.conditions) same ∙ told_deleted client now names.now t.conditions)
    (e ∙ ap (λ (ts : List Turned). without_turned ts t.enrolments) same)
    ∙ sym (ap (λ (q : EventRequest). turned_after client now says q t) is)

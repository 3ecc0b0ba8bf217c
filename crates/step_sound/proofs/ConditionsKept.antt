-- What holds of the event conditions of a device at any time stays so at each event: they are evaluated at multiples of
-- their intervals, and each evaluation lies ahead.
use Rattle.std.specs.Prelude.{◌≡◌, ℕ, ◌<◌, ◌≤◌, Bool, true, false, not, nat_le, List, [], ◌∷◌, ◌++◌, filter, Option, None, Some, IfSome, is_some, if◌then◌else◌, refl}
use Rattle.std.specs.List.{All, AllByRecursion, IsDistinct, cons_option}
use Rattle.std.specs.Map.{keys_of, set_value}
use Rattle.std.specs.Option.{option_map, option_map_or, unwrap_or}
use Rattle.std.proofs.Common.{ap, sym, ◌∙◌, subst, cond, arith}
use Rattle.std.proofs.lemmas.Bool.Decides.{nat_tests}
use Rattle.std.proofs.lemmas.List.{map-append}
use Rattle.std.proofs.lemmas.List.Elements.{All-from_recursion, recursion_from_All}
use Rattle.std.proofs.lemmas.Map.Keys.{IsDistinct-push}
use Rattle.std.proofs.lemmas.Map.Made.{IsDistinct-keys_filter, is_some-lookup, keys_of-map_values}
use Rattle.mms_types.specs.KeyLaws.{keys_equal}
use Rattle.mms_types.specs.Order.{key_eq, key_of, scope_eq}
use Rattle.mms_types.specs.declared.condition.AlterEventConditionMonitoring.{AlterEventConditionMonitoring}
use Rattle.mms_types.specs.declared.condition.CellFact.{CellFact}
use Rattle.mms_types.specs.declared.condition.DefineEventCondition.{DefineEventCondition}
use Rattle.mms_types.specs.declared.condition.Monitored.{Monitored as Watched}
use Rattle.mms_types.specs.declared.key.Key.{Key}
use Rattle.mms_types.specs.declared.key.Scope.TheVariants.{Association as OfClient}
use Rattle.mms_types.specs.declared.moment.Moment.{Moment}
use Rattle.mms_types.specs.declared.object_name.ObjectName.{ObjectName}
use Rattle.object_names.specs.Deletion.{is_listed_by}
use Rattle.event_cond.specs.Conditions.{Rows, changed, moved, named}
use Rattle.event_cond.specs.Deletion as deletion
use Rattle.event_cond.specs.Evaluations.{evaluations, next_of_class}
use Rattle.event_cond.specs.Multiples.{IsMultiple}
use Rattle.event_cond.specs.Services.{after_alter, after_define, after_trigger, altered, class_altered, class_defined, define_cause, defined, enabled_altered, evaluation_at, interval_altered, interval_of, is_network_triggered, is_refused, triggered}
use Rattle.event_cond.specs.Skips.{Saying, after_skip, class_passed, first_due, says, skipped, skipped_from, up_to}
use Rattle.event_cond.specs.declared.condition.Condition.{Condition}
use Rattle.event_cond.specs.declared.condition.ConditionClass.{ConditionClass}
use Rattle.event_cond.specs.declared.condition.ConditionClass.TheVariants.{NetworkTriggered, Monitored}
use Rattle.event_cond.specs.declared.condition.Evaluation.{Evaluation}
use Rattle.event_cond.specs.declared.condition.Watch.{Watch}
use Rattle.event_cond.proofs.Multiples.{is_multiple, lies_after}
use Rattle.event_cond.proofs.Unopposed.{nothing_against}
use Rattle.event_enrol.specs.Enrolments as enrol
use Rattle.event_ticks.specs.Skipping.{conditions_left}
use Rattle.event_ticks.specs.Sound.{AreSound, IsTimed, IsTimedClass}
use Rattle.event_ticks.specs.Ticks as events
use Rattle.event_ticks.specs.declared.ticks.Loss.{Loss}
use Rattle.event_ticks.proofs.Changes.{kept, mapped}
use Rattle.event_ticks.proofs.Steps.{ClassOf}
use Rattle.event_ticks.proofs.Ticked.{skips}
use Rattle.step_parts.specs.State.{AreAwaited, IsAwaited, IsAwaitedClass}

-- ---- one condition

-- of one that is monitored
pub record IsWell (now : Moment) (w : Watch) : Type 0 where
  pub timed : IsTimed w
  pub awaited : IsAwaited now.0 w

abbrev pub IsWellClass : Moment → ConditionClass → Type 0
IsWellClass now NetworkTriggered = Unit {0}
IsWellClass now (Monitored w) = IsWell now w

abbrev pub IsWellRow : Moment → Key × Condition → Type 0
IsWellRow now row = IsWellClass now row.1.class

-- what comes next is a multiple of the interval, and lies ahead
record IsNext (now : Moment) (w : Watch) (e : Evaluation) : Type 0 where
  multiple : IsMultiple w.defined w.interval e.next
  ahead : now.0 < e.next.0

next_at : (now : Moment) (w : Watch) (b : Bool) → 10 ≤ w.interval → w.defined.0 ≤ now.0 → IsNext now w (evaluation_at now w b)
next_at now w b some begun = record { multiple = is_multiple w.defined now w.interval; ahead = lies_after w.defined now w.interval (omega (arith, some)) begun }

-- with that evaluation, and with none
abbrev evaluated : Watch → Option Evaluation → Watch
evaluated w o = record w { evaluation = o }

well_at : (now : Moment) (w : Watch) (e : Evaluation) → 10 ≤ w.interval → w.defined.0 ≤ now.0 → IsNext now w e → IsWell now (evaluated w (Some e))
well_at now w e some begun next = record {
  timed = record { interval = some; next = next.multiple };
  awaited = record { defined = begun; next = next.ahead };
}

well_never : (now : Moment) (w : Watch) → 10 ≤ w.interval → w.defined.0 ≤ now.0 → IsWell now (evaluated w None)
well_never now w some begun = record { timed = record { interval = some; next = tt }; awaited = record { defined = begun; next = tt } }

-- it is altered
well_interval : (now : Moment) (asked : Option ℕ) (w : Watch) → IsWell now w → IsWell now (interval_altered now asked w)
well_interval now None w well = well
well_interval now (Some ms) w well = by_evaluation w.evaluation
  where
    new : Watch
    new = record w { interval = interval_of ms }

    begun : w.defined.0 ≤ now.0
    begun = well.awaited.defined

    long : 10 ≤ interval_of ms
    long = omega arith

    by_evaluation : (o : Option Evaluation) → IsWell now (evaluated new (option_map (λ e. evaluation_at now new e.is_active) o))
    by_evaluation None = well_never now new long begun
    by_evaluation (Some e) = well_at now new (evaluation_at now new e.is_active) long begun (next_at now new e.is_active long begun)

well_enabled : (now : Moment) (says : Bool) (asked : Option Bool) (w : Watch) → IsWell now w → IsWell now (enabled_altered now says asked w)
well_enabled now says None w well = well
well_enabled now says (Some false) w well = well_never now w well.timed.interval well.awaited.defined
well_enabled now says (Some true) w well = by_evaluation w.evaluation refl
  where
    by_evaluation : (o : Option Evaluation) → w.evaluation ≡ o → IsWell now (evaluated w (Some (unwrap_or o (evaluation_at now w says))))
    by_evaluation None is =
        well_at now w (evaluation_at now w says) well.timed.interval well.awaited.defined (next_at now w says well.timed.interval well.awaited.defined)
    by_evaluation (Some e) is =
        well_at now w e well.timed.interval well.awaited.defined
        (record {
          multiple = subst (λ (o : Option Evaluation). IfSome o (λ x. IsMultiple w.defined w.interval x.next)) is well.timed.next;
          ahead = subst (λ (o : Option Evaluation). IfSome o (λ x. now.0 < x.next.0)) is well.awaited.next;
        })

well_class : (now : Moment) (says : Bool) (asked : AlterEventConditionMonitoring) (k : ConditionClass) → IsWellClass now k → IsWellClass now (class_altered now says asked k)
well_class now says asked NetworkTriggered well = tt
well_class now says asked (Monitored w) well = well_enabled now says asked.enabled (interval_altered now asked.interval w) (well_interval now asked.interval w well)

well_altered : (now : Moment) (says : Bool) (asked : AlterEventConditionMonitoring) (c : Condition) → IsWellClass now c.class → IsWellClass now (altered now says asked c).class
well_altered now says asked c well = by_test (is_refused asked c.class)
  where
    by_test : (b : Bool)
        → IsWellClass now (if b then c else record (moved now (class_altered now says asked c.class) c) { priority = unwrap_or asked.priority c.priority }).class
    by_test true = well
    by_test false = well_class now says asked c.class well

-- it is triggered
well_triggered : (now : Moment) (c : Condition) → IsWellClass now c.class → IsWellClass now (triggered now c).class
well_triggered now c well = by_test (is_network_triggered c.class)
  where
    by_test : (b : Bool) → IsWellClass now (if b then record c { to_active = Some now; to_idle = Some now } else c).class
    by_test true = well
    by_test false = well

-- it is defined
well_defined : (now : Moment) (cell : CellFact) (o : Option Watched) → IsWellClass now (class_defined now cell o)
well_defined now cell None = tt
well_defined now cell (Some watched) = record {
  timed = record { interval = omega arith; next = tt };
  awaited = record { defined = omega arith; next = tt };
}

-- time goes by
module _ (now until : Moment) (le : now.0 ≤ until.0) (cells : Saying) where
  well_passed : (says : Bool) (k : ConditionClass) → IsWellClass now k → IsWellClass until (class_passed until says k)
  well_passed says NetworkTriggered well = tt
  well_passed says (Monitored w) well =
      let some = well.timed.interval in
      let was = well.awaited.defined in
      let begun : w.defined.0 ≤ until.0 = omega (arith, was, le) in
      record {
        timed = record { interval = some; next = is_multiple w.defined until w.interval };
        awaited = record { defined = begun; next = lies_after w.defined until w.interval (omega (arith, some)) begun };
      }

  -- it isn't due
  well_waits : (k : ConditionClass) → up_to until (next_of_class k) ≡ None → IsWellClass now k → IsWellClass until k
  well_waits NetworkTriggered none well = tt
  well_waits (Monitored w) none well = by_evaluation w.evaluation refl none
    where
      begun : w.defined.0 ≤ until.0
      begun = let was = well.awaited.defined in omega (arith, was, le)

      ahead : (o : Option Evaluation) → up_to until (option_map (λ (e : Evaluation). e.next) o) ≡ None → IfSome o (λ e. until.0 < e.next.0)
      ahead None none = tt
      ahead (Some e) none = by_test (nat_le e.next.0 until.0) refl none
        where
          by_test : (b : Bool) → nat_le e.next.0 until.0 ≡ b → (if b then Some e.next else None) ≡ None → until.0 < e.next.0
          by_test true t h = absurd (cc h)
          by_test false t h = grind (arith, nat_tests)

      by_evaluation : (o : Option Evaluation) → w.evaluation ≡ o → up_to until (option_map (λ (e : Evaluation). e.next) w.evaluation) ≡ None → IsWell until w
      by_evaluation o is h = record { timed = well.timed; awaited = record { defined = begun; next = ahead w.evaluation h } }

  well_skipped : (c : Condition) → IsWellClass now c.class → IsWellClass until (skipped until cells c).class
  well_skipped c well = by_due (first_due until c) refl
    where
      by_due : (o : Option Moment) → first_due until c ≡ o → IsWellClass until (skipped_from until cells c o).class
      by_due None e = well_waits c.class e well
      by_due (Some first) e = well_passed (says cells c) c.class well

  all_skipped : (rows : Rows) → AllByRecursion (IsWellRow now) rows → AllByRecursion (IsWellRow until) (after_skip until cells rows)
  all_skipped [] all = tt
  all_skipped (row ∷ rows) all = (well_skipped row.1 all.0, all_skipped rows all.1)

-- ---- all conditions

pub record AreWell (now : Moment) (rows : Rows) : Type 0 where
  pub names : IsDistinct key_eq (keys_of rows)
  pub each : AllByRecursion (IsWellRow now) rows

-- one of them is changed
well_changed : (now : Moment) (key : Key) (f : Condition → Condition) (rows : Rows) → ((c : Condition) → IsWellClass now c.class → IsWellClass now (f c).class) → AreWell now rows
    → AreWell now (changed key f rows)
well_changed now key f rows keeps well = by_named (named key rows) refl
  where
    by_named : (o : Option Condition) → named key rows ≡ o → AreWell now (changed key f rows)
    by_named None is = subst (AreWell now) (sym (ap (λ (o : Option Condition). option_map_or (λ c. set_value (key_eq key) rows (f c)) o rows) is)) well
    by_named (Some c) is = record {
      names = subst (IsDistinct key_eq) (sym (mapped (λ row. row.0) key f c (λ k. refl) rows is)) well.names;
      each = kept (IsWellRow now) key f c (λ k sound. keeps c sound) rows is well.each;
    }

-- some of them go
all_left : (now : Moment) (p : Key × Condition → Bool) (rows : Rows) → AllByRecursion (IsWellRow now) rows → AllByRecursion (IsWellRow now) (filter p rows)
all_left now p [] all = tt
all_left now p (row ∷ rows) all = by_test (p row) (all_left now p rows all.1)
  where
    by_test : (b : Bool) → AllByRecursion (IsWellRow now) (filter p rows) → AllByRecursion (IsWellRow now) (cond b (row ∷ filter p rows) (filter p rows))
    by_test true rest = (all.0, rest)
    by_test false rest = rest

pub well_left : (now : Moment) (p : Key × Condition → Bool) (rows : Rows) → AreWell now rows → AreWell now (filter p rows)
well_left now p rows well = record { names = IsDistinct-keys_filter key_eq p rows well.names; each = all_left now p rows well.each }

pub well_lost : (now : Moment) (client : ℕ) (rows : Rows) → AreWell now rows → AreWell now (deletion.without_client client rows)
well_lost now client rows = well_left now (λ row. not (scope_eq row.0.scope (OfClient client))) rows

pub well_deleted : (now : Moment) (client : ℕ) (names : List ObjectName) (rows : Rows) → AreWell now rows → AreWell now (deletion.after_delete client names rows)
well_deleted now client names rows = well_left now (λ row. not (is_listed_by client names row.0)) rows

-- one more
all_more : (now : Moment) (rows : Rows) (row : Key × Condition) → AllByRecursion (IsWellRow now) rows → IsWellRow now row → AllByRecursion (IsWellRow now) (rows ++ row ∷ [])
all_more now [] row all well = (well, tt)
all_more now (r ∷ rows) row all well = (all.0, all_more now rows row all.1 well)

pub well_more : (now : Moment) (live : Bool) (client : ℕ) (asked : DefineEventCondition) (cell : CellFact) (rows : Rows) → define_cause live client asked cell rows ≡ None → AreWell now rows
    → AreWell now (after_define client now asked cell rows)
well_more now live client asked cell rows none well = record {
  names = subst (IsDistinct key_eq) (sym (map-append (λ e. e.0) rows ((key_of client asked.name, defined now asked cell) ∷ [])))
      (IsDistinct-push keys_equal (keys_of rows) (key_of client asked.name) well.names
      (sym (is_some-lookup (key_eq (key_of client asked.name)) rows) ∙ ap is_some (nothing_against live client asked cell rows none).0));
  each = all_more now rows (key_of client asked.name, defined now asked cell) well.each (well_defined now cell asked.monitored);
}

pub well_after_alter : (now : Moment) (client : ℕ) (says : Bool) (asked : AlterEventConditionMonitoring) (rows : Rows) → AreWell now rows → AreWell now (after_alter client now says asked rows)
well_after_alter now client says asked rows = well_changed now (key_of client asked.name) (altered now says asked) rows (well_altered now says asked)

pub well_after_trigger : (now : Moment) (client : ℕ) (name : ObjectName) (rows : Rows) → AreWell now rows → AreWell now (after_trigger client now name rows)
well_after_trigger now client name rows = well_changed now (key_of client name) (triggered now) rows (well_triggered now)

-- there are none
pub none_well : (now : Moment) → AreWell now []
unfolding IsDistinct
none_well now = record { names = tt; each = tt }

-- ---- time goes by

left_well : (until : Moment) (losses : List Loss) (rows : Rows) → AreWell until rows → AreWell until (conditions_left until losses rows)
left_well until [] rows well = well
left_well until (loss ∷ losses) rows well = by_test (nat_le loss.at.0 until.0) (left_well until losses (deletion.without_client loss.client rows) (well_lost until loss.client rows well))
  where
    by_test : (b : Bool) → AreWell until (conditions_left until losses (deletion.without_client loss.client rows))
        → AreWell until (if b then conditions_left until losses (deletion.without_client loss.client rows) else rows)
    by_test true left = left
    by_test false left = well

timed_class : (now : Moment) (k : ConditionClass) → IsWellClass now k → IsTimedClass k
timed_class now NetworkTriggered well = tt
timed_class now (Monitored w) well = well.timed

all_timed : (now : Moment) (rows : Rows) → AllByRecursion (IsWellRow now) rows → AllByRecursion ClassOf rows
all_timed now [] all = tt
all_timed now (row ∷ rows) all = (timed_class now row.1.class all.0, all_timed now rows all.1)

pub well_ticked : (cells : Saying) (now until : Moment) (rows : Rows) (enrolments : enrol.Rows) (losses : List Loss) → now.0 ≤ until.0 → AreWell now rows
    → AreWell until (events.ticked cells until (events.begun rows enrolments losses)).conditions
well_ticked cells now until rows enrolments losses le well =
    subst (λ (t : events.Ticking). AreWell until t.conditions) (sym (skips cells until (events.begun rows enrolments losses) (well.names, all_timed now rows well.each)))
    (left_well until losses (after_skip until cells rows)
    (record {
      names = subst (IsDistinct key_eq) (sym (keys_of-map_values (skipped until cells) rows)) well.names;
      each = all_skipped now until le cells rows well.each;
    }))

-- ---- as a state has it

awaited_class : (now : Moment) (k : ConditionClass) → IsWellClass now k → IsAwaitedClass now.0 k
awaited_class now NetworkTriggered well = tt
awaited_class now (Monitored w) well = well.awaited

all_awaited : (now : Moment) (rows : Rows) → AllByRecursion (IsWellRow now) rows → AllByRecursion (λ row. IsAwaitedClass now.0 row.1.class) rows
all_awaited now [] all = tt
all_awaited now (row ∷ rows) all = (awaited_class now row.1.class all.0, all_awaited now rows all.1)

both_class : (now : Moment) (k : ConditionClass) → IsTimedClass k → IsAwaitedClass now.0 k → IsWellClass now k
both_class now NetworkTriggered timed awaited = tt
both_class now (Monitored w) timed awaited = record { timed = timed; awaited = awaited }

all_both : (now : Moment) (rows : Rows) → AllByRecursion ClassOf rows → AllByRecursion (λ row. IsAwaitedClass now.0 row.1.class) rows → AllByRecursion (IsWellRow now) rows
all_both now [] timed awaited = tt
all_both now (row ∷ rows) timed awaited = (both_class now row.1.class timed.0 awaited.0, all_both now rows timed.1 awaited.1)

pub well_of : (now : Moment) (rows : Rows) → AreSound rows → AreAwaited now.0 rows → AreWell now rows
well_of now rows sound awaited = record {
  names = sound.names;
  each = all_both now rows (recursion_from_All ClassOf rows sound.each) (recursion_from_All (λ row. IsAwaitedClass now.0 row.1.class) rows awaited);
}

pub sound_of : (now : Moment) (rows : Rows) → AreWell now rows → AreSound rows
sound_of now rows well = record { names = well.names; each = All-from_recursion ClassOf rows (all_timed now rows well.each) }

pub awaited_of : (now : Moment) (rows : Rows) → AreWell now rows → AreAwaited now.0 rows
awaited_of now rows well = All-from_recursion (λ row. IsAwaitedClass now.0 row.1.class) rows (all_awaited now rows well.each)

-- each evaluation lies ahead
evaluated_ahead : (now : Moment) (rows : Rows) → AllByRecursion (IsWellRow now) rows → AllByRecursion (λ e. now.0 < e.0.0) (evaluations rows)
evaluated_ahead now [] all = tt
evaluated_ahead now (row ∷ rows) all = by_class row.1.class all.0 (evaluated_ahead now rows all.1)
  where
    by_class : (k : ConditionClass) → IsWellClass now k → AllByRecursion (λ e. now.0 < e.0.0) (evaluations rows)
        → AllByRecursion (λ e. now.0 < e.0.0) (cons_option (option_map (λ at. (at, row.0)) (next_of_class k)) (evaluations rows))
    by_class NetworkTriggered well rest = rest
    by_class (Monitored w) well rest = by_evaluation w.evaluation well.awaited.next
      where
        by_evaluation : (o : Option Evaluation) → IfSome o (λ e. now.0 < e.next.0)
            → AllByRecursion (λ e. now.0 < e.0.0) (cons_option (option_map (λ at. (at, row.0)) (option_map (λ (e : Evaluation). e.next) o)) (evaluations rows))
        by_evaluation None is = rest
        by_evaluation (Some e) is = (is, rest)

pub all_ahead : (now : Moment) (rows : Rows) → AreWell now rows → All (λ e. now.0 < e.0.0) (evaluations rows)
all_ahead now rows well = All-from_recursion (λ e. now.0 < e.0.0) (evaluations rows) (evaluated_ahead now rows well.each)

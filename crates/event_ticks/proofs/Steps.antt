-- What each step of a tick keeps, what it lowers, and that it comes to the same where each condition is met at its first evaluation alone.
use Rattle.std.proofs.Common.{◌≡◌, ◌∙◌, ap, sym, subst, refl, ℕ, suc, ◌+◌, ◌*◌, ◌<◌, ◌≤◌, Bool, true, false, not, ◌&&◌, nat_le, List, [], ◌∷◌, ◌++◌, append_assoc, filter_map, Option, None, Some, IfSome, option_map, option_and_then, if◌then◌else◌, arith}
use Rattle.std.specs.List.{AllByRecursion, IsDistinct, cons_option, sum_by}
use Rattle.std.specs.Map.{keys_of, set_value, values_of}
use Rattle.std.specs.Option.{option_map_or}
use Rattle.std.proofs.Math.Nat.{suc-mul}
use Rattle.std.proofs.lemmas.Bool.Decides.{nat_tests}
use Rattle.std.proofs.lemmas.Map.Entries.{sum_by-set_value}
use Rattle.mms_types.specs.Order.{key_eq, scope_eq}
use Rattle.mms_types.specs.declared.condition.Turned.{Turned}
use Rattle.mms_types.specs.declared.key.Key.{Key}
use Rattle.mms_types.specs.declared.key.Scope.TheVariants.{Association}
use Rattle.mms_types.specs.declared.moment.Moment.{Moment}
use Rattle.event_cond.specs.Conditions as cond_rows
use Rattle.event_cond.specs.Conditions.{after_evaluate, changed, class_evaluated, evaluate_told, move_told, moved, named}
use Rattle.event_cond.specs.Evaluations.{evaluations, next_evaluation, next_of, next_of_class, sooner}
use Rattle.event_ticks.specs.Sound.{IsTimedClass}
use Rattle.event_cond.specs.Multiples.{IsMultiple}
use Rattle.event_cond.specs.Skips.{Saying, after_skip, first_turn, first_turns, row_skipped, says}
use Rattle.event_cond.specs.declared.condition.Condition.{Condition}
use Rattle.event_cond.specs.declared.condition.ConditionClass.{ConditionClass}
use Rattle.event_cond.specs.declared.condition.ConditionClass.TheVariants.{NetworkTriggered, Monitored}
use Rattle.event_cond.specs.declared.condition.Evaluation.{Evaluation}
use Rattle.event_enrol.specs.Enrolments as enrol
use Rattle.event_ticks.specs.Skipping.{conditions_left, enrolments_left, is_left, losses_left, skipping, skipping_told, told_left}
use Rattle.event_ticks.specs.Ticks.{Ticking, evaluated, most_from, most_left, most_of, told_if, told_of}
use Rattle.event_ticks.specs.declared.ticks.Loss.{Loss}
use Rattle.event_ticks.specs.declared.ticks.TurnTold.{TurnTold}
use Rattle.event_ticks.proofs.Again.{again, no_turn, turn_is}
use Rattle.event_ticks.proofs.Changes.{found_here, found_later, kept, mapped}
use Rattle.event_cond.proofs.Soonest.{least_first}
use Rattle.event_ticks.proofs.Nexts.{LossesAfter}
use Rattle.event_ticks.proofs.Turns.{each_turn, evaluated_turns, told_at}

-- ---- the conditions, of which one is evaluated

-- the next multiple
multiple_more : (since m : Moment) (interval : ℕ) → IsMultiple since interval m → IsMultiple since interval (record { 0 = m.0 + interval })
multiple_more since m interval (n, same) = let more : suc n * interval ≡ n * interval + interval = suc-mul n interval in (suc n, omega (arith, same, more))

-- its interval is some, and its next evaluation a multiple
pub class_kept : (m : Moment) (b : Bool) (k : ConditionClass) → IsTimedClass k → next_of_class k ≡ Some m → IsTimedClass (class_evaluated m b k)
class_kept m b NetworkTriggered sound is = tt
class_kept m b (Monitored w) sound is = by_evaluation w.evaluation refl
  where
    by_evaluation : (o : Option Evaluation) → w.evaluation ≡ o → IsTimedClass (class_evaluated m b (Monitored w))
    by_evaluation None e = absurd (cc (sym is ∙ ap (option_map (λ (x : Evaluation). x.next)) e))
    by_evaluation (Some x) e =
        let at : x.next ≡ m = cc (sym (ap (option_map (λ (y : Evaluation). y.next)) e) ∙ is) in
        let multiple : IsMultiple w.defined w.interval m = subst (IsMultiple w.defined w.interval) at (subst (λ (o : Option Evaluation). IfSome o (λ y. IsMultiple w.defined w.interval y.next)) e sound.next) in
        record { interval = sound.interval; next = multiple_more w.defined m w.interval multiple }

pub later_next : (m until : Moment) (b : Bool) (k : ConditionClass) → IsTimedClass k → next_of_class k ≡ Some m → m.0 ≤ until.0
    → most_from until (next_of_class (class_evaluated m b k)) < most_from until (Some m)
later_next m until b NetworkTriggered sound is low = absurd (cc is)
later_next m until b (Monitored w) sound is low = let some = sound.interval in omega (arith, some, low)

-- what each condition keeps
abbrev pub ClassOf : Key × Condition → Type 0
ClassOf row = IsTimedClass row.1.class

pub class_of_named : (key : Key) (c : Condition) (rows : cond_rows.Rows) → AllByRecursion ClassOf rows → named key rows ≡ Some c → IsTimedClass c.class
class_of_named key c [] all is = absurd (cc is)
class_of_named key c (row ∷ rows) all is = by_test (key_eq key row.0) refl (class_of_named key c rows all.1)
  where
    by_test : (b : Bool) → key_eq key row.0 ≡ b → (named key rows ≡ Some c → IsTimedClass c.class) → IsTimedClass c.class
    by_test true t rest = let here : row.1 ≡ c = cc (sym (found_here key row rows t) ∙ is) in subst (λ (d : Condition). IsTimedClass d.class) here all.0
    by_test false t rest = rest (sym (found_later key row rows t) ∙ is)

module _ (cells : Saying) (until : Moment) (s : Ticking) (key : Key) (m : Moment) (c : Condition)
    (found : named key s.conditions ≡ Some c) (next : next_of c ≡ Some m) (low : m.0 ≤ until.0) (sound : IsTimedClass c.class) where
  -- as the condition says
  abbrev one : Condition → Condition
  one d = moved m (class_evaluated m (says cells c) d.class) d

  abbrev after : Ticking
  after = record s { conditions = changed key one s.conditions; told = s.told ++ told_if s.enrolments (first_turn until cells (key, c)) }

  pub evaluated_is : evaluated cells s (m, key) ≡ after
  evaluated_is =
      ap (λ (b : Bool). record s {
        conditions = changed key (λ d. moved m (class_evaluated m b d.class) d) s.conditions;
        told = s.told ++ told_if s.enrolments (option_and_then (λ d. move_told key m (class_evaluated m b d.class) d) (named key s.conditions));
      }) (ap (λ (o : Option Condition). option_map_or (says cells) o false) found)
      ∙ ap (λ (o : Option Turned). record s { conditions = changed key one s.conditions; told = s.told ++ told_if s.enrolments o })
      (ap (option_and_then (λ d. move_told key m (class_evaluated m (says cells c) d.class) d)) found ∙ turn_is until cells key c m next low)

  pub after_sound : IsDistinct key_eq (keys_of s.conditions) → AllByRecursion ClassOf s.conditions → (IsDistinct key_eq (keys_of after.conditions)) × AllByRecursion ClassOf after.conditions
  after_sound names all = (
    subst (IsDistinct key_eq) (sym (mapped (λ row. row.0) key one c (λ k. refl) s.conditions found)) names,
    kept ClassOf key one c (λ k h. class_kept m (says cells c) c.class h next) s.conditions found all,
  )

  pub after_fewer : most_left until after < most_left until s
  after_fewer =
      let is : changed key one s.conditions ≡ set_value (key_eq key) s.conditions (one c) = ap (λ (o : Option Condition). option_map_or (λ d. set_value (key_eq key) s.conditions (one d)) o s.conditions) found in
      let same : sum_by (most_of until) (values_of after.conditions) ≡ sum_by (most_of until) (values_of (set_value (key_eq key) s.conditions (one c))) = ap (λ (l : cond_rows.Rows). sum_by (most_of until) (values_of l)) is in
      let sums = sum_by-set_value (most_of until) (key_eq key) s.conditions c (one c) found in
      let old : most_of until c ≡ most_from until (Some m) = ap (most_from until) next in
      let less = later_next m until (says cells c) c.class sound next low in
      omega (arith, same, sums, old, less)

  module _ (losses : LossesAfter m s.losses) (first : next_evaluation s.conditions ≡ Some (m, key)) where
    told_here : (t : Turned) → t.at ≡ m → (ls : List Loss) → LossesAfter m ls → told_left ls s.enrolments t ≡ Some (told_of s.enrolments t)
    told_here t at [] late = refl
    told_here t at (loss ∷ later) late =
        let same : t.at.0 ≡ m.0 = ap (λ (x : Moment). x.0) at in
        let not_yet : nat_le loss.at.0 t.at.0 ≡ false = grind (arith, nat_tests) in
        ap (λ (b : Bool). if (if b then not (scope_eq t.condition.scope (Association loss.client)) && is_left t.at later t.condition else true)
        then Some (told_of (if b then enrolments_left t.at later (enrol.without_client loss.client s.enrolments) else s.enrolments) t)
        else None) not_yet

    rows_same : conditions_left until s.losses (after_skip until cells after.conditions) ≡ conditions_left until s.losses (after_skip until cells s.conditions)
    rows_same =
        ap (conditions_left until s.losses)
        (mapped (row_skipped until cells) key one c (λ k. ap (λ (d : Condition). (k, d)) (again until cells c m sound next low)) s.conditions found)

    told_same : after.told ++ skipping_told cells until after ≡ s.told ++ skipping_told cells until s
    told_same =
        append_assoc s.told (told_if s.enrolments (first_turn until cells (key, c))) (skipping_told cells until after)
        ∙ ap (λ l. s.told ++ l) (by_turn (first_turn until cells (key, c)) refl)
      where
        others : first_turns until cells s.conditions ≡ cons_option (first_turn until cells (key, c)) (first_turns until cells after.conditions)
        others =
            evaluated_turns until cells key one c m next (no_turn until cells key c m next low) s.conditions found
            (each_turn until cells (λ e. sooner e (m, key) ≡ false) s.conditions (λ e there. least_first (evaluations s.conditions) (m, key) e first there))

        turn_at : (t : Turned) → first_turn until cells (key, c) ≡ Some t → t.at ≡ m
        turn_at t e = ap (λ (x : Moment × Key). x.0) (told_at until cells key one c m next (no_turn until cells key c m next low) t e)

        by_turn : (o : Option Turned) → first_turn until cells (key, c) ≡ o → told_if s.enrolments o ++ skipping_told cells until after ≡ skipping_told cells until s
        by_turn None e = sym (ap (filter_map (told_left s.losses s.enrolments)) (others ∙ ap (λ (o : Option Turned). cons_option o (first_turns until cells after.conditions)) e))
        by_turn (Some t) e =
            sym
            (ap (filter_map (told_left s.losses s.enrolments)) (others ∙ ap (λ (o : Option Turned). cons_option o (first_turns until cells after.conditions)) e)
            ∙ ap (λ (o : Option TurnTold). cons_option o (skipping_told cells until after)) (told_here t (turn_at t e) s.losses losses))

    pub evaluated_same : skipping cells until after ≡ skipping cells until s
    evaluated_same = ap (λ (l : cond_rows.Rows). record {
      conditions = l;
      enrolments = enrolments_left until s.losses s.enrolments;
      losses = losses_left until s.losses;
      told = after.told ++ skipping_told cells until after;
    }) rows_same ∙ ap (λ (l : List TurnTold). record {
      conditions = conditions_left until s.losses (after_skip until cells s.conditions);
      enrolments = enrolments_left until s.losses s.enrolments;
      losses = losses_left until s.losses;
      told = l;
    }) told_same
